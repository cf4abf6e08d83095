-- `expressions::operators::begun` meets its contract: no rule is left, or one is taken and the part gets its number. Assumes nothing.
use Rattle.expressions.proofs.Emitting.{handed_on}
use Rattle.expressions.proofs.Operating.{room_taken, begun_none, begun_some}
use Rattle.expressions.specs.Code.Operators.{read_of}
use native.Mathlib.Omega.{arith}
use Rattle.expressions.proofs.operators.begun.Goals as goal

pub returns-in_err-take : goal.returns-in_err-take
returns-in_err-take c =
    let over = c.in_err-take.ensures in
    begun_none _ _ _ _ (handed_on _ _ c.from_residual.ensures.1) over.err.0 over.err.1

pub number-requires : goal.number-requires
number-requires c =
    let took = c.in_ok-take.ensures.ok in
    room_taken (read_of c.args.x c.args.rules.now) 1 _ c.requires (omega arith) took.0 took.1

pub returns : goal.returns
returns c =
    let took = c.in_ok-take.ensures.ok in
    begun_some (read_of c.args.x c.args.rules.now) _ _ _ took.0 took.1 c.number.ensures.own c.number.ensures.made
