-- `expressions::operators::suffix_over` meets its contract: a case for each suffix. Assumes nothing.
use Rattle.expressions.proofs.Operating.{part_with}
use Rattle.expressions.specs.Code.Operators.{read_of, suffix_done}
use Rattle.expressions.specs.declared.Part as Code
use Rattle.syntax.specs.Needs.{suffix_need}
use native.Mathlib.Omega.{arith}
use mathlib.Core.Path.{ap}
use Rattle.expressions.proofs.operators.suffix_over.Goals as goal

pub repeat-requires : goal.repeat-requires
unfolding suffix_need
repeat-requires c = omega (arith, simp c.in-OneOrMore.is at c.requires)

pub add-requires : goal.add-requires
unfolding suffix_need
add-requires c = omega (arith, simp c.in-Optional.is at c.requires)

pub returns-in-ZeroOrMore : goal.returns-in-ZeroOrMore
unfolding suffix_done
returns-in-ZeroOrMore c = simp c.in-ZeroOrMore.is

pub returns-in-OneOrMore : goal.returns-in-OneOrMore
unfolding suffix_done
returns-in-OneOrMore c =
    simp c.in-OneOrMore.is (part_with _ _ _ _ _ (ap (λ (p : Code.Part). read_of p c.repeat.new.self) c.operator.ensures) c.repeat.ensures)

pub returns-in-Optional : goal.returns-in-Optional
unfolding suffix_done
returns-in-Optional c =
    simp c.in-Optional.is (part_with _ _ _ _ _ (ap (λ (p : Code.Part). read_of p c.add.new.self) c.operator-in-Optional.ensures) c.add.ensures)
