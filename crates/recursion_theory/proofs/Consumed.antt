-- What a rule consumes: it ends at its place or after it, not past the capture's end if it moved, and a rule that consumed nothing may match nothing. Assumes nothing.
use mathlib.Core.Path.{◌≡◌, refl}
use mathlib.Core.List.{List}
use mathlib.Core.Option.{some}
use Prim.Native.Nat.{ℕ, ◌<◌, ◌≤◌}
use native.Mathlib.Decide.{dec_lt}
use native.Mathlib.Omega.{arith}
use lib.ListN.{length}
use Rattle.grammar.specs.Parsing.{Rules, Parses, sequence, choice, choice_other, not_there, empty, range}
use Rattle.recursion.specs.LeftRecursion.{MayMatchNothing}

-- from its place i to j
pub record Consumed (E : Rules) (cs : List ℕ) (k i j : ℕ) : Type 0 where
  pub onward : i ≤ j
  pub inside : i < j → j ≤ length cs
  pub nothing : j ≡ i → MayMatchNothing E k

consumed_nothing : {E : Rules} {cs : List ℕ} {k i : ℕ} → MayMatchNothing E k → Consumed E cs k i i
consumed_nothing n = record { onward = omega arith; inside = λ l. absurd (omega arith); nothing = λ e. n }

-- what its part consumed, a choice consumed
of_choice :
    {E : Rules} {cs : List ℕ} {k b i j : ℕ} → (MayMatchNothing E b → MayMatchNothing E k) → Consumed E cs b i j → Consumed E cs k i j
of_choice f x = record { onward = x.onward; inside = x.inside; nothing = λ e. f (x.nothing e) }

both_inside :
    {E : Rules} {cs : List ℕ} {b c i j h : ℕ} → Consumed E cs b i j → Consumed E cs c j h → i < h → h ≤ length cs
both_inside {cs = cs} {j = j} {h = h} x y l = go (dec_lt j h)
  where
    go : Dec (j < h) → h ≤ length cs
    go (yes m) = y.inside m
    go (no m) = omega (arith, x.inside (omega (arith, y.onward)), y.onward)

pub consumed : {E : Rules} {cs : List ℕ} {k i j : ℕ} → Parses E cs k i (some j) → Consumed E cs k i j
consumed (sequence e p q) =
    let x = consumed p in
    let y = consumed q in
    let l = x.onward in
    let m = y.onward in
    record {
      onward = omega arith;
      inside = λ h. both_inside x y h;
      nothing = λ same. MayMatchNothing.sequence e (x.nothing (omega arith)) (y.nothing (omega arith));
    }
consumed (choice e p) = of_choice (MayMatchNothing.choice e) (consumed p)
consumed (choice_other e p q) = of_choice (MayMatchNothing.choice_other e) (consumed q)
consumed (not_there e p) = consumed_nothing (MayMatchNothing.a_not e)
consumed (empty e) = consumed_nothing (MayMatchNothing.empty e)
consumed (range e l t) = record { onward = omega arith; inside = λ m. l; nothing = λ same. absurd (omega arith) }

pub nothing_matched : (E : Rules) (cs : List ℕ) (k i : ℕ) → Parses E cs k i (some i) → MayMatchNothing E k
nothing_matched E cs k i p = (consumed p).nothing refl
