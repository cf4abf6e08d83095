-- `grammar_judge::judge_lent` meets its contract: an answer in the lent part is one in the whole. Assumes nothing.
use mathlib.Core.Path.{refl, sym}
use lib.Seq.{length-take-le}
use Rattle.simulator.proofs.JudgeRefusals.{checked, answer_says}
use Rattle.grammar_judge.proofs.judge_lent.Goals as goal

pub slice_bounds-judge_checked-end : goal.slice_bounds-judge_checked-end
slice_bounds-judge_checked-end c = c.requires.notes_enough

pub slice_bounds-judge_checked-end-2 : goal.slice_bounds-judge_checked-end-2
slice_bounds-judge_checked-end-2 c =
    sym (length-take-le _ _ c.requires.notes_enough)

pub slice_bounds-judge_checked-end-3 : goal.slice_bounds-judge_checked-end-3
slice_bounds-judge_checked-end-3 c =
    c.requires.work_enough

pub slice_bounds-judge_checked-end-4 : goal.slice_bounds-judge_checked-end-4
slice_bounds-judge_checked-end-4 c =
    sym (length-take-le _ _ c.requires.work_enough)

pub judge_checked-requires : goal.judge_checked-requires
judge_checked-requires c =
    checked _ _ _ _ c.requires.sized (λ i. (c.type_inv.capture i).fits) c.requires.notes_enough c.requires.work_enough

pub returns : goal.returns
returns c =
    answer_says _ _ _ _ c.requires.sized c.requires.notes_enough c.requires.work_enough refl c.judge_checked.ensures
