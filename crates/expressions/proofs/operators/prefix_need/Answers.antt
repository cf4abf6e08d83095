-- `expressions::operators::prefix_need` meets its contract. Assumes nothing.
use Rattle.syntax.specs.Needs.{prefix_need}
use Rattle.expressions.proofs.operators.prefix_need.Goals as goal

pub returns-in-NotPredicate : goal.returns-in-NotPredicate
unfolding prefix_need
returns-in-NotPredicate c = simp c.in-NotPredicate.is

pub returns-in-AndPredicate : goal.returns-in-AndPredicate
unfolding prefix_need
returns-in-AndPredicate c = simp c.in-AndPredicate.is
