-- `plain_run` meets its contract: a refusal, or the run's answer and cleared cells. Assumes nothing.
use mathlib.Core.Path.{sym, ◌∙◌, ap}
use Prim.Native.Nat.{ℕ}
use lib.ListN.{replicate}
use Rattle.std.specs.Prelude.{Ok}
use Rattle.refusal.proofs.Checked.{checked-passes}
use Rattle.interpreter.proofs.RefusalLaws.{run_ready, says_refused, says_answer}
use Rattle.interpreter.proofs.plain_run.Goals as goal

pub returns-in_err-check_run : goal.returns-in_err-check_run
returns-in_err-check_run c = says_refused _ _ _ _ _ _ c.in_err-check_run.ensures c.from_residual.ensures.1

pub run-end-requires : goal.run-end-requires
run-end-requires c = run_ready _ _ _ (sym c.in_ok-check_run.ensures) (λ i. (c.type_inv.capture i).fits)

pub returns : goal.returns
returns c =
    says_answer _ _ _ _ _ _ (checked-passes _ (sym c.in_ok-check_run.ensures)) (ap Ok c.run-end.ensures)
    (c.clear.ensures ∙ ap (λ (n : ℕ). replicate n 0) c.run-end.auto.stack)
