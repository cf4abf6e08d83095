-- Judging is refused exactly by the rows of the paper's table. Assumes nothing.
use mathlib.Core.Path.{◌≡◌, refl}
use mathlib.Core.List.{List}
use mathlib.Core.Logic.{◌↔◌}
use Prim.Native.Nat.{ℕ, ◌<◌}
use native.Mathlib.Decide.{dec_lt}
use native.Mathlib.Omega.{arith}
use lib.ListN.{length}
use borrow.Author.Tests.{lt-ltb, le-ltb}
use Rattle.machine.specs.Run.{how_many}
use Rattle.image.specs.Image.{machine}
use Rattle.refusal.specs.First.{refusal, or_else, refuse_if}
use Rattle.image.specs.Conditions.{CaptureRight}
use Rattle.refusal.proofs.Rows.{SomeRow, exactly, Check, checks, stops, goes_on, then_row}
use Rattle.image.proofs.CaptureMet.{capture_check}
use Rattle.simulator.specs.Calls.{judge_refusal}
use Rattle.simulator.specs.Conditions.{JudgingRight, JudgingRow, unrefused_judging, refused_capture, few_notes, few_work}

module _ (bs cs : List ℕ) (a b : ℕ) where
  -- EACH CALL HAS A ROW
  some_row : SomeRow (JudgingRow bs cs a b)
  some_row =
      then_row (capture_check bs (length cs)) (λ n o r some. refused_capture r some)
      (λ c. by_cells c (dec_lt a (how_many (machine bs cs))) (dec_lt b (how_many (machine bs cs))))
    where
      by_cells :
          CaptureRight bs (length cs) → Dec (a < how_many (machine bs cs)) → Dec (b < how_many (machine bs cs)) →
          SomeRow (JudgingRow bs cs a b)
      by_cells c (yes h) w = (8, how_many (machine bs cs), few_notes c h)
      by_cells c (no n) (yes h) = (9, how_many (machine bs cs), few_work c (omega arith) h)
      by_cells c (no n) (no w) =
          (0, 0, unrefused_judging (record { capture = c; notes_room = omega arith; work_room = omega arith }))

  -- AND ITS ROW IS THE CALL'S ANSWER
  row_answers : (n o : ℕ) → JudgingRow bs cs a b n o → judge_refusal bs cs a b ≡ refusal n o
  unfolding judge_refusal or_else refuse_if
  row_answers n o (refused_capture r some) = stops (capture_check bs (length cs)) _ r some
  row_answers n o (unrefused_judging r) =
      goes_on (capture_check bs (length cs)) _ r.capture (simp (le-ltb _ _ r.notes_room, le-ltb _ _ r.work_room))
  row_answers n o (few_notes c h) = goes_on (capture_check bs (length cs)) _ c (simp (lt-ltb _ _ h))
  row_answers n o (few_work c m h) = goes_on (capture_check bs (length cs)) _ c (simp (le-ltb _ _ m, lt-ltb _ _ h))

  pub judging_check : Check (judge_refusal bs cs a b) (JudgingRight bs cs a b) (JudgingRow bs cs a b)
  judging_check = checks (record { row = some_row; answers = row_answers }) right unrefused_judging
    where
      right : (o : ℕ) → JudgingRow bs cs a b 0 o → JudgingRight bs cs a b
      right o (unrefused_judging r) = r
      right o (refused_capture r some) = absurd (some refl)

  pub judging_answer : (n o : ℕ) → (judge_refusal bs cs a b ≡ refusal n o) ↔ JudgingRow bs cs a b n o
  judging_answer = exactly judging_check.table
