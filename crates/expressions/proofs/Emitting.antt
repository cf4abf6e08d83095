-- Rules put one after another: one rule's stores, and what is put in two parts is put in one. Assumes nothing.
use mathlib.Core.Path.{◌≡◌, refl, sym, ap, ◌∙◌}
use mathlib.Core.List.{List, [], ◌∷◌, ◌++◌}
use Prim.Native.Nat.{ℕ, zero, suc, ◌≤◌, ◌+◌, ◌-◌, ◌*◌}
use native.Mathlib.Nat.{sub-zero}
use native.Mathlib.Omega.{arith}
use Rattle.std.specs.Prelude.{Result, Err, IsErrAnd}
use Rattle.std.proofs.lemmas.Result.{err_from_is_err_and}
use lib.ListN.{length, set, length-append}
use borrow.Rule.Slice.PartMut.{put_mid}
use Rattle.grammar.specs.declared.Expression.{Expression}
use Rattle.grammar.specs.declared.Expression.TheVariants.{Sequence, Choice, Not, Empty, Range}
use Rattle.syntax.specs.Compile.{rule_bytes, repetition_rules}
use Rattle.expressions.specs.declared.Rules.{Rules}
use Rattle.expressions.specs.Code.Building.{rule_put, put_rules, advanced, placed_at}

-- the same rules by the same parts
pub rules_by :
    (bs bs' : List ℕ) (n n' l l' : ℕ) → bs ≡ bs' → n ≡ n' → l ≡ l' →
    ◌≡◌ {A = Rules} (record { bytes = bs; next = n; left = l }) (record { bytes = bs'; next = n'; left = l' })
rules_by bs bs' n n' l l' p q r = cc

-- four bytes copied are four stored
four_stored :
    (bs : List ℕ) (i k b c d : ℕ) → i + 4 ≤ length bs →
    put_mid i 4 bs (k ∷ b ∷ c ∷ d ∷ []) ≡ set (set (set (set bs i k) (i + 1) b) (i + 2) c) (i + 3) d
four_stored [] i k b c d h = absurd (omega (arith, h))
four_stored (w ∷ []) zero k b c d h = absurd (omega (arith, h))
four_stored (w ∷ x ∷ []) zero k b c d h = absurd (omega (arith, h))
four_stored (w ∷ x ∷ y ∷ []) zero k b c d h = absurd (omega (arith, h))
four_stored (w ∷ x ∷ y ∷ z ∷ bs) zero k b c d h = refl
four_stored (x ∷ bs) (suc i) k b c d h =
    let one : suc i + 1 ≡ suc (i + 1) = omega arith in
    let two : suc i + 2 ≡ suc (i + 2) = omega arith in
    let three : suc i + 3 ≡ suc (i + 3) = omega arith in
    rw (one, two, three) (ap (λ (ys : List ℕ). x ∷ ys) (four_stored bs i k b c d (omega arith)))

-- so one rule's bytes are put
one_put :
    (bs : List ℕ) (n k : ℕ) (x : Expression) (four : List ℕ) → four ≡ rule_bytes x → k ≡ 4 → 4 * n + 4 ≤ length bs →
    put_mid (4 * n) k bs four ≡ rule_put bs n x
unfolding rule_put rule_bytes
one_put bs n k (Sequence b c) four e f h = rw (e, f) (four_stored bs (4 * n) 1 b c 0 h)
one_put bs n k (Choice b c) four e f h = rw (e, f) (four_stored bs (4 * n) 2 b c 0 h)
one_put bs n k (Not b) four e f h = rw (e, f) (four_stored bs (4 * n) 3 b 0 0 h)
one_put bs n k Empty four e f h = rw (e, f) (four_stored bs (4 * n) 4 0 0 0 h)
one_put bs n k (Range b c) four e f h = rw (e, f) (four_stored bs (4 * n) 5 b c 0 h)

pub rule_placed :
    (r : Rules) (n k : ℕ) (x : Expression) (four made : List ℕ) → made ≡ four → four ≡ rule_bytes x → k ≡ 4 → 4 * n + 4 ≤ length r.bytes →
    ◌≡◌ {A = Rules} (record { bytes = put_mid (4 * n) k r.bytes made; next = r.next; left = r.left }) (placed_at r n x)
rule_placed r n k x four made e f g h = rules_by _ _ _ _ _ _ (one_put r.bytes n k x made (e ∙ f) g h) refl refl

-- and the next number after it
pub one_added :
    (r s : Rules) (x : Expression) → s ≡ placed_at r r.next x →
    ◌≡◌ {A = Rules} (record { bytes = s.bytes; next = s.next + 1; left = s.left }) (advanced r (x ∷ []) 0)
unfolding advanced put_rules
one_added r s x e = rw e (rules_by _ _ _ _ _ _ refl refl (sym (sub-zero r.left)))

pub put_append :
    (bs : List ℕ) (n : ℕ) (xs ys : List Expression) → put_rules (put_rules bs n xs) (n + length xs) ys ≡ put_rules bs n (xs ++ ys)
unfolding put_rules
put_append bs n [] ys = ap (λ (m : ℕ). put_rules bs m ys) (omega arith)
put_append bs n (x ∷ xs) ys =
    let same : n + suc (length xs) ≡ suc n + length xs = omega arith in
    ap (λ (m : ℕ). put_rules (put_rules (rule_put bs n x) (suc n) xs) m ys) same
    ∙ put_append (rule_put bs n x) (suc n) xs ys

-- in two parts, in one
pub advanced_on :
    (r : Rules) (xs ys : List Expression) (k l : ℕ) → advanced (advanced r xs k) ys l ≡ advanced r (xs ++ ys) (k + l)
unfolding advanced
advanced_on r xs ys k l =
    rules_by _ _ _ _ _ _ (put_append r.bytes r.next xs ys) (omega (arith, length-append xs ys)) (omega arith)

pub advanced_none : (r : Rules) → advanced r [] 0 ≡ r
unfolding advanced put_rules
advanced_none r = rules_by _ _ _ _ _ _ refl (omega arith) (sub-zero r.left)

pub advanced_next : (r s : Rules) (xs : List Expression) (k : ℕ) → s ≡ advanced r xs k → s.next ≡ r.next + length xs
unfolding advanced
advanced_next r s xs k e = ap (λ (x : Rules). x.next) e

pub advanced_left : (r s : Rules) (xs : List Expression) (k : ℕ) → s ≡ advanced r xs k → s.left ≡ r.left - k
unfolding advanced
advanced_left r s xs k e = ap (λ (x : Rules). x.left) e

pub one_further : (r s : Rules) (x : Expression) → s ≡ advanced r (x ∷ []) 0 → s.next ≡ r.next + 1
one_further r s x e = advanced_next r s (x ∷ []) 0 e

-- the three rules of e*
pub three_added :
    (r s t u : Rules) (i : ℕ) → s ≡ advanced r (Choice (r.next + 1) (r.next + 2) ∷ []) 0 → t ≡ advanced s (Sequence i r.next ∷ []) 0 →
    u ≡ advanced t (Empty ∷ []) 0 → u ≡ advanced r (repetition_rules i r.next) 0
three_added r s t u i p q w =
    let one : r.next + 1 ≡ suc r.next = omega arith in
    let two : r.next + 2 ≡ suc (suc r.next) = omega arith in
    w ∙ ap (λ (x : Rules). advanced x (Empty ∷ []) 0) (q ∙ ap (λ (x : Rules). advanced x (Sequence i r.next ∷ []) 0) p
    ∙ advanced_on r _ _ 0 0)
    ∙ advanced_on r _ _ 0 0
    ∙ rw (one, two)

-- fewer rules left, and none more
pub fewer_left : (r : Rules) (k : ℕ) → ◌≡◌ {A = Rules} (record { bytes = r.bytes; next = r.next; left = r.left - k }) (advanced r [] k)
unfolding advanced put_rules
fewer_left r k = rules_by _ _ _ _ _ _ refl (omega arith) refl

-- what a `?` hands on
pub handed_on : {T E : Type 0} (r : Result T E) (e : E) → IsErrAnd r (λ y. y ≡ e) → r ≡ Err e
handed_on r e h =
    let p = err_from_is_err_and r h in
    p.1 ∙ ap Err p.2
