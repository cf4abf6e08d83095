-- `expressions::descent::after` meets its contract. Assumes nothing.
use Rattle.expressions.proofs.Lookings.{passes}
use Rattle.expressions.proofs.descent.after.Goals as goal

pub returns : goal.returns
returns c = passes _ _ _ c.peek.ensures
