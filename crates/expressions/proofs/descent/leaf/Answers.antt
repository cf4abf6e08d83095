-- `expressions::descent::leaf` meets its contract: no rule is left, or one is taken. Assumes nothing.
use Rattle.expressions.proofs.Emitting.{handed_on}
use Rattle.expressions.proofs.Leaves.{leaf_over, leaf_fits}
use Rattle.expressions.proofs.descent.leaf.Goals as goal

pub returns-in_err-take : goal.returns-in_err-take
returns-in_err-take c =
    let over = c.in_err-take.ensures in
    leaf_over _ _ _ _ _ _ (handed_on _ _ c.from_residual.ensures.1) over.place over.err.0 over.err.1

pub returns : goal.returns
returns c =
    let took = c.in_ok-take.ensures.ok in
    leaf_fits _ _ _ _ _ c.operator.ensures took.0 took.1
