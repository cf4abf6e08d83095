-- What the choice of a match changes: whole images are those of before, byte for byte, and leading ones differ from them in one rule a byte class. Assumes nothing.
use mathlib.Core.Path.{◌≡◌, refl, sym, ap, ◌∙◌, fun_ext}
use mathlib.Core.Bool.{Bool, true, false, ◌&&◌, cond, and-false}
use mathlib.Core.List.{List, ◌++◌, append_assoc}
use Prim.Native.Nat.{ℕ, zero, suc, ◌+◌, ◌<◌}
use native.Mathlib.Omega.{arith}
use lib.Dec.{ltb, eqb}
use lib.ListN.{length, take, length-append}
use lib.Seq.{take_at}
use borrow.Author.Tests.{ltb-true, ne_eqb}
use Rattle.image.specs.Format
use Rattle.image.specs.Image.{Rule, rule_at}
use Rattle.image.specs.Encoding.{header, rules_bytes, encode}
use Rattle.image.proofs.Encoded.{header_length}
use Rattle.builder.specs.declared.Matching.{Matching}
use Rattle.builder.specs.declared.Matching.TheVariants.{Whole, Leading}
use Rattle.builder.specs.Classes.{class_count}
use Rattle.builder.specs.Table.{state_ok, state_count, finals, rule, no_rule, on_byte, row_zero, made}
use Rattle.builder.specs.Image.{RuleTable, symbols_of, built_rules, rules_made, map_made, parts, built}
use Rattle.builder.specs.WholeBefore.{row_zero_before, made_before, built_before}
use Rattle.builder.proofs.PartsMade.{map_length, rules_length}
use Rattle.builder.proofs.BuiltImage.{built_rule_at}

-- WHOLE IMAGES ARE THOSE OF BEFORE
either : (t : Bool) (r : Rule) → cond t r r ≡ r
either true r = refl
either false r = refl

whole_row : (n p k : ℕ) → row_zero Whole n p k ≡ row_zero_before n p k
unfolding row_zero row_zero_before on_byte
whole_row n p k = rw (either (eqb p state_ok && ltb k n) no_rule) refl

whole_made : (gs : List ℕ) (p x a : ℕ) → made Whole gs p x a ≡ made_before gs p x a
unfolding made made_before
whole_made gs p x zero = whole_row (class_count gs) p x
whole_made gs p x (suc a) = refl

pub whole_as_before : (gs : List ℕ) → built Whole gs ≡ built_before gs
unfolding built built_before
whole_as_before gs = ap (λ (t : RuleTable). encode (parts t gs)) (fun_ext (λ p. fun_ext (λ x. fun_ext (λ a. whole_made gs p x a))))

-- LEADING DIFFERS IN ONE ROW
beside : (n k : ℕ) (pop : Rule) (t : Bool) → ltb k n ≡ t →
    cond (eqb k (n + 1)) pop (cond t (on_byte Leading) no_rule) ≡ cond t (on_byte Leading) (cond (eqb k (n + 1)) pop (cond t (on_byte Whole) no_rule))
beside n k pop true e = rw (ne_eqb k (n + 1) (λ z. omega (arith, ltb-true k n e))) refl
beside n k pop false e = refl

leading_row : (n p k : ℕ) → row_zero Leading n p k ≡ cond (eqb p state_ok && ltb k n) (on_byte Leading) (row_zero Whole n p k)
unfolding row_zero
leading_row n zero k = refl
leading_row n (suc zero) k = refl
leading_row n (suc (suc zero)) k = beside n k _ (ltb k n) refl
leading_row n (suc (suc (suc p))) k = rw (ne_eqb (suc (suc (suc p))) state_ok (λ e. omega arith)) refl

none_there : (s t : Bool) (a : ℕ) → (s && (t && eqb (suc a) 0)) ≡ false
none_there s t a = rw (ne_eqb (suc a) 0 (λ e. omega arith), and-false t, and-false s) refl

all_there : (s t : Bool) → (s && (t && true)) ≡ (s && t)
all_there s true = refl
all_there s false = refl

one_row :
    (gs : List ℕ) (p x a : ℕ) →
    made Leading gs p x a ≡ cond (eqb p state_ok && (ltb x (class_count gs) && eqb a 0)) (on_byte Leading) (made Whole gs p x a)
unfolding made
one_row gs p x zero = rw (all_there (eqb p state_ok) (ltb x (class_count gs))) (leading_row (class_count gs) p x)
one_row gs p x (suc a) = rw (none_there (eqb p state_ok) (ltb x (class_count gs)) a) refl

-- IN THE IMAGES: all that stands before the rules is the same, and each rule but those of the row
front_is :
    (how : Matching) (gs : List ℕ) →
    take Format.rules_offset (built how gs)
    ≡ header state_count (class_count gs) (symbols_of gs) finals (built_rules gs) ++ map_made Format.map_length 0 gs
unfolding built parts encode
front_is how gs =
    let n : ℕ = length (rules_made (made how gs) (built_rules gs) 0 gs) in
    let front : List ℕ = header state_count (class_count gs) (symbols_of gs) finals n in
    let map : List ℕ = map_made Format.map_length 0 gs in
    let rest : List ℕ = rules_bytes (rules_made (made how gs) (built_rules gs) 0 gs) in
    let long : length (front ++ map) ≡ Format.rules_offset =
    length-append front map ∙ omega (arith, header_length state_count (class_count gs) (symbols_of gs) finals n, map_length Format.map_length 0 gs)
    in
    ap (take Format.rules_offset) (sym (append_assoc front map rest)) ∙ take_at (front ++ map) rest Format.rules_offset long
    ∙ ap (λ (m : ℕ). header state_count (class_count gs) (symbols_of gs) finals m ++ map) (rules_length (made how gs) (built_rules gs) 0 gs)

pub images_beside :
    (gs : List ℕ) →
    (take Format.rules_offset (built Leading gs) ≡ take Format.rules_offset (built Whole gs))
    × ((p k a : ℕ) → p < state_count → k < class_count gs + 2 → a < symbols_of gs →
    rule_at (built Leading gs) p k a
    ≡ cond (eqb p state_ok && (ltb k (class_count gs) && eqb a 0)) (rule Format.kind_change state_ok 0 Format.direction_right) (rule_at (built Whole gs) p k a))
unfolding on_byte
images_beside gs = (
  front_is Leading gs ∙ sym (front_is Whole gs),
  λ p k a hp hk ha.
      built_rule_at Leading gs hp hk ha ∙ one_row gs p k a
      ∙ ap (λ (r : Rule). cond (eqb p state_ok && (ltb k (class_count gs) && eqb a 0)) (on_byte Leading) r) (sym (built_rule_at Whole gs hp hk ha)),
)
