-- The numbers of what the call `judge_bundle` answers: how many captures, and the totals in cells. Assumes nothing: these are definitions.
use Rattle.std.specs.Prelude.{List, [], ◌∷◌, ℕ, Ok, Err}
use Rattle.machine.specs.declared.Reply.{Reply}
use Rattle.machine.specs.Replies.{refusal_reply, count_reply}
use Rattle.bundle.specs.declared.Totals.{Totals}
use Rattle.bundle.specs.Answers.{Report}

-- the captures are a count
unfoldable pub of_report : Report → Reply
of_report (Err f) = refusal_reply f
of_report (Ok r) = count_reply r.count

-- THE TOTALS IN CELLS: eight for the verdicts, each at its number, where 0, 5 and 6 are none that judging gives; then refusals and readings
unfoldable pub totals_cells : Totals → List ℕ
totals_cells t = 0 ∷ t.accepted ∷ t.ended ∷ t.stuck ∷ t.looping ∷ 0 ∷ 0 ∷ t.halted ∷ t.refused ∷ t.readings ∷ []

-- a refused call writes no totals
unfoldable pub totals_left : Report → (cells : List ℕ) → List ℕ
totals_left (Err f) l = l
totals_left (Ok r) l = totals_cells r.totals
