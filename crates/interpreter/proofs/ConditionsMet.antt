-- The plain run is refused exactly by the rows of the paper's table. Assumes nothing.
use mathlib.Core.Path.{◌≡◌}
use mathlib.Core.List.{List}
use mathlib.Core.Logic.{◌↔◌}
use Prim.Native.Nat.{ℕ}
use native.Mathlib.Decide.{ℕ_discrete}
use native.Mathlib.Omega.{arith}
use lib.ListN.{length}
use borrow.Author.Tests.{eq-eqb, ne_eqb}
use Rattle.refusal.specs.First.{refusal, refuse_if}
use Rattle.image.specs.Conditions.{CaptureRight}
use Rattle.refusal.proofs.Rows.{SomeRow, exactly, stops, goes_on, then_row}
use Rattle.image.proofs.CaptureMet.{capture_check}
use Rattle.interpreter.specs.Calls.{run_refusal}
use Rattle.interpreter.specs.Conditions.{RunningRow, unrefused_run, refused_capture, no_cell}

module _ (bs cs : List ℕ) (k : ℕ) where
  -- EACH CALL HAS A ROW
  some_row : SomeRow (RunningRow bs cs k)
  some_row = then_row (capture_check bs (length cs)) (λ n o r some. refused_capture r some) (λ c. by_cells c (ℕ_discrete k 0))
    where
      by_cells : CaptureRight bs (length cs) → Dec (k ≡ 0) → SomeRow (RunningRow bs cs k)
      by_cells c (yes e) = (10, 0, no_cell c e)
      by_cells c (no some) = (0, 0, unrefused_run (record { capture = c; some_cell = omega arith }))

  -- AND ITS ROW IS THE CALL'S ANSWER
  row_answers : (n o : ℕ) → RunningRow bs cs k n o → run_refusal bs cs k ≡ refusal n o
  unfolding run_refusal refuse_if
  row_answers n o (unrefused_run r) =
      goes_on (capture_check bs (length cs)) _ r.capture (simp (ne_eqb k 0 (λ e. omega (arith, r.some_cell))))
  row_answers n o (refused_capture r some) = stops (capture_check bs (length cs)) _ r some
  row_answers n o (no_cell c e) = goes_on (capture_check bs (length cs)) _ c (simp (eq-eqb k 0 e))

  pub running_answer : (n o : ℕ) → (run_refusal bs cs k ≡ refusal n o) ↔ RunningRow bs cs k n o
  running_answer = exactly (record { row = some_row; answers = row_answers })
