-- Refusals one after another: what it means that none is given, and what the check's answer says of the definition. Assumes nothing.
use mathlib.Core.Path.{◌≡◌, refl}
use mathlib.Core.Bool.{Bool, true, false, cond}
use Prim.Native.Nat.{ℕ, suc}
use native.Mathlib.Omega.{arith}
use lib.Dec.{eqb}
use borrow.Author.Tests.{eqb-true, eqb-false}
use Rattle.refusal.specs.declared.Refusal.{Refusal}
use Rattle.refusal.specs.First.{refusal, or_else, refuse_if}

-- no refusal, as a record: what is said of a chain of tests is then read off the chain
pub record GivenNone (f : Refusal) : Type 0 where
  pub none_such : f.number ≡ 0

-- two refusals one after the other, and one by a test
pub neither : (f g : Refusal) → GivenNone (or_else f g) → GivenNone f × GivenNone g
unfolding or_else
neither f g e = go (eqb f.number 0) refl e
  where
    go : (t : Bool) → eqb f.number 0 ≡ t → GivenNone (cond t g f) → GivenNone f × GivenNone g
    go true q h = (record { none_such = eqb-true _ _ q }, h)
    go false q h = absurd (eqb-false _ _ q h.none_such)

pub not_refused : (t : Bool) (n p : ℕ) → GivenNone (refuse_if t (refusal (suc n) p)) → t ≡ false
unfolding refuse_if
not_refused true n p e = absurd (omega (arith, e.none_such))
not_refused false n p e = refl
