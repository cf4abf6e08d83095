-- What the call's contract comes to where it answers and where it refuses; and that its answer follows from the input, whatever the cells held before. Assumes nothing.
use Rattle.std.specs.Prelude.{Err}
use mathlib.Core.Path.{◌≡◌, refl, sym, ◌∙◌, ap, subst}
use mathlib.Core.List.{List}
use Prim.Native.Nat.{ℕ, zero, suc}
use native.Mathlib.Omega.{arith}
use lib.ListN.{length, replicate}
use Rattle.refusal.specs.declared.Refusal.{Refusal}
use Rattle.machine.specs.Run.{start}
use Rattle.image.specs.Image.{machine}
use Rattle.interpreter.specs.Answers.{Ran}
use Rattle.interpreter.specs.declared.RunEnd.{RunEnd}
use Rattle.interpreter.specs.PlainRun.{run_on, TrueEnd}
use Rattle.interpreter.specs.Calls.{run_refusal, answer, RunAs, RunSays}
use Rattle.interpreter.proofs.RefusalLaws.{some_cell}
use Rattle.interpreter.proofs.TrueEnd.{plain_run_true}

determined_as :
    (n : ℕ) (f : Refusal) (e : RunEnd) (r s : Ran) (a x y : List ℕ) → RunAs n f e r a x → RunAs n f e s a y → (r ≡ s) × (x ≡ y)
unfolding RunAs
determined_as zero f e r s a x y h g = (h.0 ∙ sym g.0, h.1 ∙ sym g.1)
determined_as (suc n) f e r s a x y h g = (h.0 ∙ sym g.0, h.1 ∙ sym g.1)

pub run_determined :
    (bs cs a : List ℕ) (n : ℕ) (r s : Ran) (x y : List ℕ) → RunSays bs cs n r a x → RunSays bs cs n s a y → (r ≡ s) × (x ≡ y)
unfolding RunSays
run_determined bs cs a n r s x y h g = determined_as _ _ _ r s a x y h g

-- refused, the refusal is given and no cell changes
refused_as :
    (k : ℕ) (f : Refusal) (e : RunEnd) (r : Ran) (a x : List ℕ) → (k ≡ 0 → ⊥) → RunAs k f e r a x → (r ≡ Err f) × (x ≡ a)
unfolding RunAs
refused_as zero f e r a x h s = absurd (h refl)
refused_as (suc k) f e r a x h s = s

pub run_refused :
    (bs cs : List ℕ) (n : ℕ) (r : Ran) (a x : List ℕ) → ((run_refusal bs cs (length a)).number ≡ 0 → ⊥) → RunSays bs cs n r a x →
    (r ≡ Err (run_refusal bs cs (length a))) × (x ≡ a)
unfolding RunSays
run_refused bs cs n r a x h s = refused_as _ _ _ r a x h s

-- not refused, the answer is the definition's, and all cells are 0
answered_as :
    (k : ℕ) (f : Refusal) (e : RunEnd) (r : Ran) (a x : List ℕ) → k ≡ 0 → RunAs k f e r a x → (r ≡ answer e) × (x ≡ replicate (length a) 0)
unfolding RunAs
answered_as zero f e r a x h s = s
answered_as (suc k) f e r a x h s = absurd (omega arith)

pub run_answered :
    (bs cs : List ℕ) (n : ℕ) (r : Ran) (a x : List ℕ) → (run_refusal bs cs (length a)).number ≡ 0 → RunSays bs cs n r a x →
    (r ≡ answer (run_on n (machine bs cs) 0 (length a) start)) × (x ≡ replicate (length a) 0)
unfolding RunSays
run_answered bs cs n r a x h s = answered_as _ _ _ r a x h s

-- no refusal: some cell, so what is true of the plain run is true of the call's answer
pub run_holds :
    (bs cs : List ℕ) (n k : ℕ) → (run_refusal bs cs k).number ≡ 0 → TrueEnd (machine bs cs) n k (run_on n (machine bs cs) 0 k start)
run_holds bs cs n k h = plain_run_true (machine bs cs) n k (some_cell bs cs k h)

-- EARLIER CONTENTS DON'T MATTER
independent_as :
    (k : ℕ) (f : Refusal) (e : RunEnd) (r s : Ran) (a a' x y : List ℕ) → length a ≡ length a' → RunAs k f e r a x → RunAs k f e s a' y →
    (r ≡ s) × (k ≡ 0 → x ≡ y)
unfolding RunAs
independent_as zero f e r s a a' x y l h g = (h.0 ∙ sym g.0, λ z. h.1 ∙ ap (λ (m : ℕ). replicate m 0) l ∙ sym g.1)
independent_as (suc k) f e r s a a' x y l h g = (h.0 ∙ sym g.0, λ z. absurd (omega arith))

pub run_independent :
    (bs cs : List ℕ) (n : ℕ) (r s : Ran) (a a' x y : List ℕ) → length a ≡ length a' → RunSays bs cs n r a x → RunSays bs cs n s a' y →
    (r ≡ s) × ((run_refusal bs cs (length a)).number ≡ 0 → x ≡ y)
unfolding RunSays
run_independent bs cs n r s a a' x y l h g =
    independent_as (run_refusal bs cs (length a)).number (run_refusal bs cs (length a)) (run_on n (machine bs cs) 0 (length a) start) r s a a' x y l h
    (subst
    (λ (m : ℕ). RunAs (run_refusal bs cs m).number (run_refusal bs cs m) (run_on n (machine bs cs) 0 m start) s a' y)
    (sym l) g)
