-- `expressions::operators::with_prefix` meets its contract: the operand gets its number, and & is two nots. Assumes nothing.
use Rattle.expressions.proofs.Operating.{prefix_operand, prefix_and, prefix_not_is, prefix_and_is}
use Rattle.expressions.specs.Code.Operators.{read_of}
use native.Mathlib.Omega.{arith}
use mathlib.Core.Path.{ap}
use Rattle.expressions.specs.declared.Part as Code
use Rattle.expressions.proofs.operators.with_prefix.Goals as goal

pub number-number-requires : goal.number-number-requires
number-number-requires c = prefix_operand _ (read_of c.args.x c.args.rules.now) c.requires

pub overflow_cast-not : goal.overflow_cast-not
overflow_cast-not c =
    record { fits = omega (arith, prefix_and _ (read_of c.args.x c.args.rules.now) _ c.requires c.in-AndPredicate.is c.number-number.ensures.made) }

pub add-requires : goal.add-requires
add-requires c =
    prefix_and _ (read_of c.args.x c.args.rules.now) _ c.requires c.in-AndPredicate.is
    c.number-number.ensures.made

pub returns-in-NotPredicate : goal.returns-in-NotPredicate
returns-in-NotPredicate c =
    prefix_not_is _ (read_of c.args.x c.args.rules.now) _ _ _ c.in-NotPredicate.is
    c.number-number.ensures.own c.number-number.ensures.made (ap (λ (p : Code.Part). read_of p c.number-number.new.self) c.operator.ensures)

pub returns-in-AndPredicate : goal.returns-in-AndPredicate
returns-in-AndPredicate c =
    prefix_and_is _ (read_of c.args.x c.args.rules.now) _ _ _ _ c.in-AndPredicate.is
    c.number-number.ensures.own c.number-number.ensures.made c.add.ensures (ap (λ (p : Code.Part). read_of p c.add.new.self) c.operator-in-AndPredicate.ensures)
