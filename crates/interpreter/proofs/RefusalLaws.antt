-- The plain run's refusals, and its contract by them. Assumes nothing.
use Rattle.std.specs.Prelude.{Ok, Err}
use Rattle.std.specs.Result.{IsErrAnd}
use Rattle.std.proofs.lemmas.Result.{err_from_is_err_and}
use mathlib.Core.Path.{◌≡◌, refl, sym, ap, ◌∙◌}
use mathlib.Core.Bool.{false}
use mathlib.Core.List.{List}
use Prim.Native.Nat.{ℕ, zero, suc, ◌<◌}
use native.Mathlib.Omega.{arith}
use lib.Dec.{eqb}
use lib.ListN.{length, replicate}
use borrow.Author.Tests.{eq-eqb, ne_eqb, eqb-false}
use Rattle.refusal.specs.declared.Refusal.{Refusal}
use Rattle.machine.specs.Run.{start}
use Rattle.codec.specs.Bytes.{byte}
use Rattle.image.specs.Image.{machine}
use Rattle.refusal.specs.First.{no_refusal, or_else, refuse_if}
use Rattle.refusal.specs.Checking.{checked}
use Rattle.refusal.proofs.Checked.{checked-passes, checked-refuses, checked-refused}
use Rattle.image.specs.Refusals.{capture_refusal}
use Rattle.refusal.proofs.Refused.{neither, not_refused}
use Rattle.image.proofs.CaptureRefused.{unrefused_by}
use Rattle.interpreter.specs.Answers.{Ran}
use Rattle.interpreter.specs.declared.RunEnd.{RunEnd}
use Rattle.interpreter.specs.PlainRun.{run_on}
use Rattle.interpreter.specs.Calls.{run_refusal, answer, RunAs, RunSays}
use Rattle.interpreter.specs.Code.Stepping.{RunReady}

-- where capture and cells are right, nothing is refused
module _ (bs cs : List ℕ) (k : ℕ) (f : Refusal) (e : f ≡ capture_refusal bs (length cs)) (none : f.number ≡ 0) where
  pub refused_not : (k ≡ 0 → ⊥) → no_refusal ≡ run_refusal bs cs k
  unfolding run_refusal or_else refuse_if
  refused_not z = simp (← e, eq-eqb _ _ none, ne_eqb k 0 z)

-- with no refusal the run can go
pub some_cell : (bs cs : List ℕ) (k : ℕ) → (run_refusal bs cs k).number ≡ 0 → 0 < k
unfolding run_refusal
some_cell bs cs k e =
    let cells = (neither (capture_refusal bs (length cs)) _ (record { none_such = e })).1 in
    omega (arith, eqb-false k 0 (not_refused _ 9 0 cells))

pub run_ready :
    (bs cs ks : List ℕ) → checked (run_refusal bs cs (length ks)) ≡ Ok tt → ((i : ℕ) → byte cs i < 256) → RunReady bs cs ks
unfolding run_refusal
run_ready bs cs ks e h =
    let none = checked-passes _ e in
    let capture = (neither (capture_refusal bs (length cs)) _ (record { none_such = none })).0 in
    record { unrefused = unrefused_by bs cs h capture.none_such; some_cell = some_cell bs cs (length ks) none }

-- THE CONTRACT
says_as_refused : (n : ℕ) (f : Refusal) (e : RunEnd) (r : Ran) (a : List ℕ) → eqb n 0 ≡ false → r ≡ Err f → RunAs n f e r a a
unfolding RunAs
says_as_refused zero f e r a h g = cc
says_as_refused (suc n) f e r a h g = (g, refl)

pub says_refused :
    (bs cs : List ℕ) (n : ℕ) (f : Refusal) (r : Ran) (a : List ℕ) → Err f ≡ checked (run_refusal bs cs (length a)) →
    IsErrAnd r (λ e. e ≡ f) → RunSays bs cs n r a a
unfolding RunSays
says_refused bs cs n f r a e h =
    let (g, is, same) = err_from_is_err_and r h in
    let told : f ≡ run_refusal bs cs (length a) = checked-refuses _ f (sym e) in
    says_as_refused _ _ _ r a (checked-refused _ f (sym e)) (is ∙ ap Err (same ∙ told))

says_as_answer :
    (n : ℕ) (f : Refusal) (e : RunEnd) (r : Ran) (a b : List ℕ) → n ≡ 0 → r ≡ answer e → b ≡ replicate (length a) 0 → RunAs n f e r a b
unfolding RunAs
says_as_answer zero f e r a b z h g = (h, g)
says_as_answer (suc n) f e r a b z h g = absurd (omega arith)

pub says_answer :
    (bs cs : List ℕ) (n : ℕ) (r : Ran) (a b : List ℕ) → (run_refusal bs cs (length a)).number ≡ 0 →
    r ≡ answer (run_on n (machine bs cs) 0 (length a) start) → b ≡ replicate (length a) 0 → RunSays bs cs n r a b
unfolding RunSays
says_answer bs cs n r a b z h g = says_as_answer _ _ _ r a b z h g
