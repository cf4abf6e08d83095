-- `expressions::operators::suffix_need` meets its contract. Assumes nothing.
use Rattle.syntax.specs.Needs.{suffix_need}
use Rattle.expressions.proofs.operators.suffix_need.Goals as goal

pub returns-in-ZeroOrMore : goal.returns-in-ZeroOrMore
unfolding suffix_need
returns-in-ZeroOrMore c = simp c.in-ZeroOrMore.is

pub returns-in-OneOrMore : goal.returns-in-OneOrMore
unfolding suffix_need
returns-in-OneOrMore c = simp c.in-OneOrMore.is

pub returns-in-Optional : goal.returns-in-Optional
unfolding suffix_need
returns-in-Optional c = simp c.in-Optional.is
