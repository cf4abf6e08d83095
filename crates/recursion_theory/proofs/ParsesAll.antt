-- A grammar without left recursion parses everywhere: every rule has a result at every place of every capture. Assumes nothing.
use mathlib.Core.Path.{◌≡◌, refl}
use mathlib.Core.Bool.{Bool, true, false, ◌&&◌}
use mathlib.Core.List.{List}
use mathlib.Core.Logic.{◌↔◌}
use mathlib.Core.Option.{Option, none, some}
use Prim.Native.Nat.{ℕ, zero, suc, ◌-◌, ◌<◌, ◌≤◌}
use native.Mathlib.Decide.{ℕ_discrete}
use native.Mathlib.Omega.{arith}
use lib.Dec.{ltb}
use lib.ListN.{length}
use borrow.Author.Tests.{ltb-true}
use Rattle.codec.specs.Bytes.{byte}
use Rattle.grammar.specs.declared.Expression.{Expression}
use Rattle.grammar.specs.declared.Expression.TheVariants.{Sequence, Choice, Not, Empty, Range}
use Rattle.grammar.specs.Grammar.{PartsBelow}
use Rattle.grammar.specs.Parsing.{Rules, in_range, Parses, sequence, sequence_fails, choice, choice_other, not_there, not_fails, empty, range, range_fails}
use Rattle.grammar.proofs.Bools.{both_true}
use Rattle.recursion.specs.LeftRecursion.{Leads, LeadsOn, first_part, second_part, one, other, its_own}
use Rattle.recursion_theory.proofs.Consumed.{consumed}
use Rattle.recursion_theory.proofs.Rank.{rank, rank_falls}

-- rule k has a result at place i
abbrev HasResult : Rules → List ℕ → (k i : ℕ) → Type 0
HasResult E cs k i = (o : Option ℕ) × Parses E cs k i o

-- by what its parts have, at its place and where a part has ended
module _ {E : Rules} {cs : List ℕ} {k i : ℕ} where
  sequence_has :
      {b c : ℕ} → E k ≡ Sequence b c → ((j : ℕ) → Parses E cs b i (some j) → HasResult E cs c j) → HasResult E cs b i → HasResult E cs k i
  sequence_has e second (none, x) = (none, sequence_fails e x)
  sequence_has e second (some j, x) = let (o, y) = second j x in (o, sequence e x y)

  choice_has : {b c : ℕ} → E k ≡ Choice b c → HasResult E cs c i → HasResult E cs b i → HasResult E cs k i
  choice_has e (o, y) (none, x) = (o, choice_other e x y)
  choice_has e y (some j, x) = (some j, choice e x)

  not_has : {b : ℕ} → E k ≡ Not b → HasResult E cs b i → HasResult E cs k i
  not_has e (none, x) = (some i, not_there e x)
  not_has e (some j, x) = (none, not_fails e x)

  range_has : {b c : ℕ} → E k ≡ Range b c → (t : Bool) → (ltb i (length cs) && in_range b c (byte cs i)) ≡ t → HasResult E cs k i
  range_has {b} {c} e true f =
      let (l, inside) = both_true (ltb i (length cs)) (in_range b c (byte cs i)) f in
      (some (suc i), range e (ltb-true i (length cs) l) inside)
  range_has e false f = (none, range_fails e f)

-- ONE RULE has one if what it leads to has one at its place, and every rule has one at later places
module _ {E : Rules} {cs : List ℕ} {m k i : ℕ}
    (here : (l : ℕ) → l < m → Leads E k l → HasResult E cs l i)
    (later : (j l : ℕ) → l < m → i < j → j ≤ length cs → HasResult E cs l j)
  where
    -- the second part of a sequence is led to if the first consumed nothing; if not, the place is a later one
    second_has : {b c : ℕ} → E k ≡ Sequence b c → c < m → (j : ℕ) → Parses E cs b i (some j) → HasResult E cs c j
    second_has {b} {c} e below j x = go (ℕ_discrete j i)
      where
        go : Dec (j ≡ i) → HasResult E cs c j
        go (yes same) = rw same (here c below (second_part e ((consumed x).nothing same)))
        go (no moved) =
            let w = consumed x in
            let past : i < j = omega (arith, w.onward) in
            later j c below past (w.inside past)

    rule_has : (x : Expression) → E k ≡ x → PartsBelow m x → HasResult E cs k i
    unfolding PartsBelow
    rule_has (Sequence b c) e (p, q) = sequence_has e (second_has e q) (here b p (first_part e))
    rule_has (Choice b c) e (p, q) = choice_has e (here c q (other e)) (here b p (one e))
    rule_has (Not b) e p = not_has e (here b p (its_own e))
    rule_has Empty e p = (some i, empty e)
    rule_has (Range b c) e p = range_has e (ltb i (length cs) && in_range b c (byte cs i)) refl

-- EVERY RULE: by what is left of the capture, and at one place by the rank
module _ (E : Rules) (m : ℕ)
    (closed : (k : ℕ) → k < m → PartsBelow m (E k))
    (R : ℕ → ℕ → Bool)
    (exact : (k l : ℕ) → k < m → l < m → (R k l ≡ true) ↔ LeadsOn E k l)
    (none_back : (k : ℕ) → k < m → LeadsOn E k k → ⊥)
  where
    by_rank :
        (r : ℕ) (cs : List ℕ) (i : ℕ) → ((j l : ℕ) → l < m → i < j → j ≤ length cs → HasResult E cs l j) →
        (k : ℕ) → k < m → rank R m k < r → HasResult E cs k i
    by_rank zero cs i later k below low = absurd (omega arith)
    by_rank (suc r) cs i later k below low =
        rule_has (λ l h x. by_rank r cs i later l h (omega (arith, rank_falls E m R exact none_back k l below h x))) later
        (E k) refl (closed k below)

    by_left : (n : ℕ) (cs : List ℕ) (k i : ℕ) → k < m → length cs - i ≤ n → HasResult E cs k i
    by_left zero cs k i below left = by_rank (suc (rank R m k)) cs i (λ j l h past inside. absurd (omega arith)) k below (omega arith)
    by_left (suc n) cs k i below left =
        by_rank (suc (rank R m k)) cs i (λ j l h past inside. by_left n cs l j h (omega arith)) k below (omega arith)

    pub results : (cs : List ℕ) (k i : ℕ) → k < m → (o : Option ℕ) × Parses E cs k i o
    results cs k i below = by_left (length cs - i) cs k i below (omega arith)
