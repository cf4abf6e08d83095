-- The call is refused exactly by the rows of the paper's table, in the program's order. Assumes nothing.
use mathlib.Core.Path.{◌≡◌}
use mathlib.Core.List.{List}
use mathlib.Core.Logic.{◌↔◌}
use Prim.Native.Nat.{ℕ}
use lib.ListN.{length}
use Rattle.refusal.specs.First.{refusal}
use Rattle.refusal.proofs.Rows.{SomeRow, exactly, Check, stops, goes_on, then_row}
use Rattle.simulator.specs.Calls.{judge_refusal}
use Rattle.simulator.specs.Conditions.{JudgingRight, JudgingRow}
use Rattle.simulator.proofs.ConditionsMet.{judging_check}
use Rattle.builder.specs.declared.Matching.TheVariants.{Whole}
use Rattle.builder.specs.Image.{built}
use Rattle.builder.specs.Calls.{build_refusal}
use Rattle.builder.specs.Conditions.{BuildingRight, BuildingRow}
use Rattle.builder.proofs.BuildingMet.{building_check}
use Rattle.grammar_judge.specs.Calls.{Lent, parts_refusal}
use Rattle.answer.specs.Input.{input_refusal, input_grammar, input_capture}
use Rattle.answer.specs.Calls.{answer_refusal}
use Rattle.answer.specs.Conditions.{InputRight, InputRow, AnsweringRow, unrefused_answering, refused_input, refused_building, refused_judging}
use Rattle.answer.proofs.ConditionsMet.{input_table, input_right, input_accepted}

module _ (xs : List ℕ) (x : Lent) where
  -- THE THREE CHECKS, one after another
  input : Check (input_refusal xs) (InputRight xs) (InputRow xs)
  input = record { table = input_table xs; right = input_right xs; accepted = input_accepted xs }

  abbrev gs : List ℕ
  gs = input_grammar xs

  building : Check (build_refusal gs (length x.image)) (BuildingRight Whole gs (length x.image)) (BuildingRow Whole gs (length x.image))
  building = building_check Whole gs (length x.image)

  judging :
      Check (judge_refusal (built Whole gs) (input_capture xs) (length x.notes) (length x.work))
      (JudgingRight (built Whole gs) (input_capture xs) (length x.notes) (length x.work))
      (JudgingRow (built Whole gs) (input_capture xs) (length x.notes) (length x.work))
  judging = judging_check (built Whole gs) (input_capture xs) (length x.notes) (length x.work)

  some_row : SomeRow (AnsweringRow xs x)
  some_row =
      then_row input (λ n o r some. refused_input r some)
      (λ i. then_row building (λ n o r some. refused_building i r some)
      (λ b. then_row judging (λ n o r some. refused_judging i b r some)
      (λ j. (0, 0, unrefused_answering (record { input = i; building = b; judging = j })))))

  row_answers : (n o : ℕ) → AnsweringRow xs x n o → answer_refusal xs x ≡ refusal n o
  unfolding answer_refusal parts_refusal
  row_answers n o (unrefused_answering r) = goes_on input _ r.input (goes_on building _ r.building (judging.accepted r.judging))
  row_answers n o (refused_input r some) = stops input _ r some
  row_answers n o (refused_building i r some) = goes_on input _ i (stops building _ r some)
  row_answers n o (refused_judging i b r some) = goes_on input _ i (goes_on building _ b (judging.table.answers n o r))

  pub answering_answer : (n o : ℕ) → (answer_refusal xs x ≡ refusal n o) ↔ AnsweringRow xs x n o
  answering_answer = exactly (record { row = some_row; answers = row_answers })
