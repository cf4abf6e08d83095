-- The plain run, one step at a time. Assumes nothing.
use mathlib.Core.Path.{◌≡◌, refl}
use Prim.Native.Nat.{ℕ, suc, ◌≤◌, ◌<◌}
use lib.ListN.{length}
use borrow.Author.Tests.{lt-ltb, le-ltb}
use Rattle.machine.specs.declared.Reason.{Reason}
use Rattle.machine.specs.declared.Termination.TheVariants.{Over, Stopped}
use Rattle.machine.specs.Run.{Machine, Description, stopped, over, next, step, config_of}
use Rattle.interpreter.specs.declared.Exit.{Exit}
use Rattle.interpreter.specs.declared.Exit.TheVariants.{Terminated, Deep}
use Rattle.interpreter.specs.PlainRun.{run_end, spent_or, run_step, run_on}

module _ (M : Machine) (n k : ℕ) (x : Description) where
  pub run_spent : {e : Exit} → spent_or (step M x) ≡ e → run_on 0 M n k x ≡ run_end e n (config_of x)
  unfolding run_on
  run_spent e = rw e refl

  pub run_stopped : (f : ℕ) (r : Reason) → step M x ≡ stopped r → run_on (suc f) M n k x ≡ run_end (Terminated (Stopped r)) n (config_of x)
  unfolding run_on run_step
  run_stopped f r e = rw e refl

  pub run_over :
      (f p i : ℕ) → step M x ≡ over p i → run_on (suc f) M n k x ≡ run_end (Terminated (Over (M.accepting p i))) (suc n) (config_of x)
  unfolding run_on run_step
  run_over f p i e = rw e refl

  pub run_deep : (f : ℕ) (y : Description) → step M x ≡ next y → k < length y.stack → run_on (suc f) M n k x ≡ run_end Deep n (config_of x)
  unfolding run_on run_step
  run_deep f y e h = rw (e, lt-ltb _ _ h) refl

  pub run_next : (f : ℕ) (y : Description) → step M x ≡ next y → length y.stack ≤ k → run_on (suc f) M n k x ≡ run_on f M (suc n) k y
  unfolding run_on run_step
  run_next f y e h = rw (e, le-ltb _ _ h) refl
