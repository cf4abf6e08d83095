-- `simulator::judge::judge_sized` meets its contract. Assumes nothing.
use mathlib.Core.Path.{refl, sym}
use lib.Seq.{length-take-le}
use Rattle.std.proofs.lemmas.Result.{err_from_is_err_and}
use Rattle.simulator.proofs.JudgeRefusals.{short_says, enough_cells, answer_says, checked}
use Rattle.simulator.proofs.judge.judge_sized.Goals as goal

pub returns-in_err-check_cells : goal.returns-in_err-check_cells
returns-in_err-check_cells c =
    let p = err_from_is_err_and c.from_residual.result c.from_residual.ensures.1 in
    rw (p.1, p.2) (short_says _ _ _ _ c.requires _ c.in_err-check_cells.ensures)

pub slice_bounds-judge_checked-end : goal.slice_bounds-judge_checked-end
slice_bounds-judge_checked-end c = (enough_cells _ _ _ c.in_ok-check_cells.ensures).0

pub slice_bounds-judge_checked-end-2 : goal.slice_bounds-judge_checked-end-2
slice_bounds-judge_checked-end-2 c = sym (length-take-le _ _ (enough_cells _ _ _ c.in_ok-check_cells.ensures).0)

pub slice_bounds-judge_checked-end-3 : goal.slice_bounds-judge_checked-end-3
slice_bounds-judge_checked-end-3 c = (enough_cells _ _ _ c.in_ok-check_cells.ensures).1

pub slice_bounds-judge_checked-end-4 : goal.slice_bounds-judge_checked-end-4
slice_bounds-judge_checked-end-4 c = sym (length-take-le _ _ (enough_cells _ _ _ c.in_ok-check_cells.ensures).1)

pub judge_checked-requires : goal.judge_checked-requires
judge_checked-requires c =
    let enough = enough_cells _ _ _ c.in_ok-check_cells.ensures in
    checked _ _ _ _ c.requires (λ i. (c.type_inv.capture i).fits) enough.0 enough.1

pub returns : goal.returns
returns c =
    let enough = enough_cells _ _ _ c.in_ok-check_cells.ensures in
    answer_says _ _ _ _ c.requires enough.0 enough.1 refl c.judge_checked.ensures
