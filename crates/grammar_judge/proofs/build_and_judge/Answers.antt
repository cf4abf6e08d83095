-- `grammar_judge::build_and_judge` meets its contract: the image stands, and the capture is judged by it. Assumes nothing.
use mathlib.Core.Path.{sym, ◌∙◌}
use lib.Seq.{length-take-le}
use Rattle.grammar_judge.proofs.Standing.{stands, image_fits, capture_short, judge_ready, builds}
use Rattle.grammar_judge.proofs.build_and_judge.Goals as goal

pub slice_bounds-build_checked-end : goal.slice_bounds-build_checked-end
slice_bounds-build_checked-end c = image_fits _ _ _ c.requires _ c.args.plan.long_is

pub slice_bounds-build_checked-end-2 : goal.slice_bounds-build_checked-end-2
slice_bounds-build_checked-end-2 c = sym (length-take-le _ _ (image_fits _ _ _ c.requires _ c.args.plan.long_is))

pub build_checked-requires : goal.build_checked-requires
build_checked-requires c = length-take-le _ _ (image_fits _ _ _ c.requires _ c.args.plan.long_is) ∙ c.args.plan.long_is

pub cells_of-cells-requires : goal.cells_of-cells-requires
cells_of-cells-requires c = capture_short _ _ _ c.requires

pub slice_bounds-judge_lent-end : goal.slice_bounds-judge_lent-end
slice_bounds-judge_lent-end c = (stands _ _ _ _ c.args.plan.long_is c.build_checked.ensures).fits

pub slice_bounds-judge_lent-end-2 : goal.slice_bounds-judge_lent-end-2
slice_bounds-judge_lent-end-2 c =
    sym (length-take-le _ _ (stands _ _ _ _ c.args.plan.long_is c.build_checked.ensures).fits)

pub judge_lent-requires : goal.judge_lent-requires
judge_lent-requires c =
    judge_ready _ _ _ c.requires _ _ (stands _ _ _ _ c.args.plan.long_is c.build_checked.ensures).part
    c.cells_of-cells.ensures

pub returns : goal.returns
returns c =
    builds (stands _ _ _ _ c.args.plan.long_is c.build_checked.ensures) c.judge_lent.ensures
