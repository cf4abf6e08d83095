-- The loop that writes the rules: the rules from index i on are still to be written. Assumes nothing.
use mathlib.Core.Path.{◌≡◌, refl, sym, ap, subst, ◌∙◌}
use mathlib.Core.List.{List, [], ◌∷◌, ◌++◌, append_assoc, append-nil}
use Prim.Native.Nat.{ℕ, suc, ◌+◌, ◌*◌, ◌-◌, ◌/◌, ◌%◌, ◌<◌, ◌≤◌}
use native.Mathlib.Nat.{sub-zero}
use native.Mathlib.Numerals.{add-one}
use native.Mathlib.Omega.{arith}
use lib.ListN.{length, take, get_or}
use lib.Seq.{take_all, take-take, take-append-le, length-take-le, get_or-take}
use Rattle.codec.specs.Bytes.{written}
use Rattle.codec.proofs.Writes.{written_front}
use Rattle.image.specs.Format
use Rattle.image.specs.Encoding.{header, rule_bytes, rules_bytes, encode}
use Rattle.image.proofs.Encoded.{header_length}
use Rattle.image.specs.Code.Counting.{selector, Selects}
use Rattle.image.proofs.CountingOn.{state_of, class_of, symbol_of}
use Rattle.builder.specs.declared.Matching.{Matching}
use Rattle.builder.specs.declared.ImageRule.{ImageRule}
use Rattle.builder.specs.declared.RulePair.{RulePair}
use Rattle.grammar.specs.Grammar.{rules}
use Rattle.builder.specs.Classes.{class_count}
use Rattle.builder.specs.Table.{state_count, made}
use Rattle.builder.specs.Image.{symbols_of, built_rules, built_length, rules_made, map_made, parts, built}
use Rattle.builder.specs.Code.Writing.{rule_of, RowsReady, MadePair, with_rule, with_rules}
use Rattle.builder.proofs.PartsMade.{made_at, rules_length}
use Rattle.builder.proofs.CodePairs.{place, place_below, place_selects, first_there, second_there}
use Rattle.builder.proofs.CodeWriting.{map_read}

-- the bytes of the rules from index i on
abbrev pub made_bytes : Matching → (left i : ℕ) → List ℕ → List ℕ
made_bytes how n i gs = rules_bytes (rules_made (made how gs) n i gs)

rules_step :
    (how : Matching) (n i : ℕ) (gs : List ℕ) → made_bytes how (suc n) i gs ≡ rule_bytes (made_at (made how gs) gs i) ++ made_bytes how n (suc i) gs
unfolding rules_made rules_bytes
rules_step how n i gs = refl

rules_none : (how : Matching) (i : ℕ) (gs : List ℕ) → made_bytes how 0 i gs ≡ []
unfolding rules_made rules_bytes
rules_none how i gs = refl

bytes_are : (r : ImageRule) → rule_bytes (rule_of r) ≡ r.kind ∷ r.state ∷ r.symbol ∷ r.direction ∷ []
unfolding rule_bytes
bytes_are r = refl

pub length_is : (gs : List ℕ) → built_length gs ≡ Format.rules_offset + Format.rule_length * built_rules gs
unfolding built_length
length_is gs = refl

pub record RulesWritten (how : Matching) (gs before now : List ℕ) (i : ℕ) : Type 0 where
  pub within : i ≤ built_rules gs
  pub long : length now ≡ Format.rules_offset + Format.rule_length * built_rules gs
  pub kept : take Format.rules_offset now ≡ take Format.rules_offset before
  pub written :
      take (Format.rules_offset + Format.rule_length * i) now ++ made_bytes how (built_rules gs - i) i gs ≡ take Format.rules_offset before ++ made_bytes how (built_rules gs) 0 gs

pub rules_start : (how : Matching) (gs a : List ℕ) → length a ≡ built_length gs → RulesWritten how gs a a 0
rules_start how gs a e =
    record {
      within = omega arith;
      long = e ∙ length_is gs;
      kept = refl;
      written = ap (λ (n : ℕ). take Format.rules_offset a ++ made_bytes how n 0 gs) (sub-zero (built_rules gs));
    }

pub rules_end :
    (how : Matching) (gs a b : List ℕ) (i : ℕ) → RulesWritten how gs a b i → built_rules gs ≤ i → b ≡ take Format.rules_offset a ++ made_bytes how (built_rules gs) 0 gs
rules_end how gs a b i w h =
    let nothing : built_rules gs - i ≡ 0 = omega arith in
    let whole : length b ≤ Format.rules_offset + Format.rule_length * i = omega (arith, w.long) in
    sym
    (ap (λ (r : List ℕ). take (Format.rules_offset + Format.rule_length * i) b ++ r) (ap (λ (n : ℕ). made_bytes how n i gs) nothing ∙ rules_none how i gs)
    ∙ append-nil (take (Format.rules_offset + Format.rule_length * i) b)
    ∙ take_all (Format.rules_offset + Format.rule_length * i) b whole)
    ∙ w.written

-- a part before what is written stays
front_kept :
    (a b bytes : List ℕ) (o : ℕ) → Format.rules_offset ≤ o → o ≤ length a → take (o + 4) b ≡ take o a ++ bytes → take Format.rules_offset b ≡ take Format.rules_offset a
front_kept a b bytes o h l e =
    let inside : Format.rules_offset ≤ length (take o a) = rw (length-take-le o a l) h in
    let further : Format.rules_offset ≤ o + 4 = omega arith in
    sym (take-take Format.rules_offset (o + 4) b further) ∙ ap (take Format.rules_offset) e ∙ take-append-le Format.rules_offset (take o a) bytes inside
    ∙ take-take Format.rules_offset o a h

pub rules_next :
    (how : Matching) (gs a b c : List ℕ) (i n g : ℕ) (r : ImageRule) → RulesWritten how gs a b i → i < built_rules gs → n ≡ class_count gs → g ≡ symbols_of gs →
    length c ≡ length b →
    c ≡ written b (Format.rules_offset + Format.rule_length * i) (r.kind ∷ r.state ∷ r.symbol ∷ r.direction ∷ []) →
    rule_of r ≡ made how gs (i / g / (n + 2)) (i / g % (n + 2)) (i % g) → RulesWritten how gs a c (i + 1)
rules_next how gs a b c i n g r w more en eg same put q =
    let o : ℕ = Format.rules_offset + Format.rule_length * i in
    let place : Format.rules_offset + Format.rule_length * (i + 1) ≡ o + 4 = omega arith in
    let one_more : built_rules gs - i ≡ suc (built_rules gs - (i + 1)) = omega arith in
    let least : Format.rules_offset ≤ o = omega arith in
    let room : o ≤ length b = omega (arith, w.long) in
    let rest : List ℕ = made_bytes how (built_rules gs - (i + 1)) (suc i) gs in
    let four : List ℕ = r.kind ∷ r.state ∷ r.symbol ∷ r.direction ∷ [] in
    let e : take (o + 4) c ≡ take o b ++ four = ap (take (o + 4)) put ∙ written_front b o four (omega (arith, w.long)) in
    let here : four ++ rest ≡ made_bytes how (built_rules gs - i) i gs =
    ap (λ (l : List ℕ). l ++ rest)
    (sym (bytes_are r)
    ∙ ap rule_bytes
    (q ∙ ap (λ (m : ℕ). made how gs (i / m / (n + 2)) (i / m % (n + 2)) (i % m)) eg
    ∙ ap (λ (m : ℕ). made how gs (i / symbols_of gs / (m + 2)) (i / symbols_of gs % (m + 2)) (i % symbols_of gs)) en))
    ∙ sym (rules_step how (built_rules gs - (i + 1)) i gs)
    ∙ ap (λ (m : ℕ). made_bytes how m i gs) (sym one_more)
    in
    record {
      within = omega arith;
      long = same ∙ w.long;
      kept = front_kept b c four o least room e ∙ w.kept;
      written =
          ap (λ (m : ℕ). take m c ++ made_bytes how (built_rules gs - (i + 1)) (i + 1) gs) place
          ∙ ap (λ (m : ℕ). take (o + 4) c ++ made_bytes how (built_rules gs - (i + 1)) m gs) (add-one i)
          ∙ ap (λ (l : List ℕ). l ++ rest) e
          ∙ append_assoc (take o b) four rest
          ∙ ap (λ (l : List ℕ). take o b ++ l) here
          ∙ w.written;
    }

-- THE LOOPS over states, classes and rules: the next rule is that of a state, a class and a symbol
pub record Next (how : Matching) (gs before now : List ℕ) (i p x a : ℕ) : Type 0 where
  pub written : RulesWritten how gs before now i
  pub at : i ≡ place gs p x a

module _
    {how : Matching} {gs before now : List ℕ} {i p x a : ℕ}
    (w : Next how gs before now i p x a) (state : p < state_count) (class : x < class_count gs + 2) (symbol-there : a < symbols_of gs)
  where
    pub index_below : i < built_rules gs
    index_below = omega (arith, w.at, place_below gs p x a state class symbol-there)

    pub rule_room : Format.rules_offset + Format.rule_length * i + Format.rule_length ≤ length now
    rule_room = omega (arith, index_below, w.written.long)

    pub rule_next :
        {after : List ℕ} (r : ImageRule) → length after ≡ length now → after ≡ with_rule now i r → rule_of r ≡ made how gs p x a → Next how gs before after (i + 1) p x (a + 1)
    rule_next {after} r same put q =
        let s : Selects (selector p x a) (class_count gs + 2) (symbols_of gs) i =
        subst (λ (n : ℕ). Selects (selector p x a) (class_count gs + 2) (symbols_of gs) n) (sym w.at) (place_selects gs p x a state class symbol-there)
        in
        record {
          written = rules_next how gs before now after i (class_count gs) (symbols_of gs) r w.written index_below refl refl same put
              (rw (state_of (selector p x a) _ _ i s, class_of (selector p x a) _ _ i s, symbol_of (selector p x a) _ _ i s) q);
          at = omega (arith, w.at);
        }

-- the two rules of a pair
pub second_room :
    {how : Matching} {gs before now : List ℕ} {i p x k : ℕ} (one : List ℕ) (w : Next how gs before now i p x (1 + 2 * k)) →
    p < state_count → x < class_count gs + 2 → k < rules gs → length one ≡ length now →
    Format.rules_offset + Format.rule_length * (i + 1) + Format.rule_length ≤ length one
second_room {gs = gs} {p = p} {x = x} {k = k} one w state class there same =
    omega (arith, w.at, w.written.long, place_below gs p x (1 + 2 * k + 1) state class (second_there gs k there))

pub pair_next :
    {how : Matching} {gs before now one two : List ℕ} {i p x k : ℕ} (w : Next how gs before now i p x (1 + 2 * k)) →
    p < state_count → x < class_count gs + 2 → k < rules gs → (r : RulePair) → MadePair gs p x k r →
    length one ≡ length now → one ≡ with_rule now i r.first → length two ≡ length one → two ≡ with_rule one (i + 1) r.second →
    Next how gs before two (i + 2) p x (1 + 2 * (k + 1))
pair_next {how} {gs} {before} {two = two} {i = i} {p = p} {x = x} {k = k} w state class there r made-pair same-one put-one same-two put-two =
    let first : 1 + 2 * k ≡ suc (2 * k) = omega arith in
    let second : 1 + 2 * k + 1 ≡ suc (suc (2 * k)) = omega arith in
    let after-one =
    rule_next w state class (first_there gs k there) r.first same-one put-one (made-pair.first how ∙ ap (made how gs p x) (sym first))
    in
    let after-two =
    rule_next after-one state class (second_there gs k there) r.second same-two put-two (made-pair.second how ∙ ap (made how gs p x) (sym second))
    in
    let index : i + 1 + 1 ≡ i + 2 = omega arith in
    let symbol-next : 1 + 2 * k + 1 + 1 ≡ 1 + 2 * (k + 1) = omega arith in
    subst (λ (n : ℕ). Next how gs before two n p x (1 + 2 * (k + 1))) index (subst (Next how gs before two (i + 1 + 1) p x) symbol-next after-two)

-- the class map stays while the rules are written
pub ready_kept : (how : Matching) (gs a b : List ℕ) (n i : ℕ) → RowsReady gs a n → RulesWritten how gs a b i → RowsReady gs b n
ready_kept how gs a b n i w r =
    record {
      long = omega (arith, r.long);
      classes_are = w.classes_are;
      map =
          λ v h.
          sym (get_or-take Format.rules_offset b (Format.map_offset + v) 0 (omega arith)) ∙ ap (λ (l : List ℕ). get_or l (Format.map_offset + v) 0) r.kept
          ∙ get_or-take Format.rules_offset a (Format.map_offset + v) 0 (omega arith)
          ∙ w.map v h;
    }

-- THE WHOLE IMAGE: the header, the class map, the rules
pub ready_after :
    (gs a b : List ℕ) (n : ℕ) → n ≡ class_count gs → Format.rules_offset ≤ length a → length b ≡ length a →
    take Format.rules_offset b ≡ take Format.map_offset a ++ map_made Format.map_length 0 gs → RowsReady gs b n
ready_after gs a b n e h same q =
    record { long = omega arith; classes_are = e; map = map_read gs a b (omega arith) q }

pub image_whole :
    (how : Matching) (gs a b c d : List ℕ) (n k g : ℕ) → n ≡ built_rules gs → k ≡ class_count gs → g ≡ symbols_of gs → Format.map_offset ≤ length a →
    b ≡ written a 0 (header 5 k g 16 n) → take Format.rules_offset c ≡ take Format.map_offset b ++ map_made Format.map_length 0 gs →
    d ≡ with_rules how gs c → d ≡ built how gs
unfolding built parts encode
image_whole how gs a b c d n k g en ek eg room h m r =
    let front : List ℕ = header 5 k g 16 n in
    let map : List ℕ = map_made Format.map_length 0 gs in
    let rest : List ℕ = made_bytes how (built_rules gs) 0 gs in
    let long : length front ≡ Format.map_offset = header_length 5 k g 16 n in
    let place : Format.map_offset ≡ 0 + length front = omega arith in
    let head : take Format.map_offset b ≡ front =
    ap (take Format.map_offset) h ∙ ap (λ (x : ℕ). take x (written a 0 front)) place ∙ written_front a 0 front (omega arith)
    in
    let same : front ≡ header 5 (class_count gs) (symbols_of gs) 16 (length (rules_made (made how gs) (built_rules gs) 0 gs)) =
    rw (en, ek, eg, rules_length (made how gs) (built_rules gs) 0 gs)
    in
    r ∙ ap (λ (l : List ℕ). l ++ rest) (m ∙ ap (λ (l : List ℕ). l ++ map) (head ∙ same))
    ∙ append_assoc (header 5 (class_count gs) (symbols_of gs) 16 (length (rules_made (made how gs) (built_rules gs) 0 gs))) map rest
