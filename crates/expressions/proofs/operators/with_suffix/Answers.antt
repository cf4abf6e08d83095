-- `expressions::operators::with_suffix` meets its contract: too few rules are left, or they are taken and the operand gets its number. Assumes nothing.
use Rattle.expressions.proofs.Emitting.{handed_on}
use Rattle.expressions.proofs.Operating.{room_taken, room_after, suffix_some, suffix_over_is, suffix_done_is}
use Rattle.expressions.specs.Code.Operators.{read_of}
use native.Mathlib.Omega.{arith}
use mathlib.Core.Path.{◌∙◌}
use Rattle.expressions.proofs.operators.with_suffix.Goals as goal

pub returns-in_err-take : goal.returns-in_err-take
returns-in_err-take c =
    let over = c.in_err-take.ensures in
    suffix_over_is _ (read_of c.args.x c.args.rules.now) _ _ _ _ _ c.suffix_need.ensures (handed_on _ _ c.from_residual.ensures.1) over.place
    over.err.0 over.err.1

pub number-number-requires : goal.number-number-requires
number-number-requires c =
    let took = c.in_ok-take.ensures.ok in
    room_taken (read_of c.args.x c.args.rules.now) _ _ c.requires (omega (arith, suffix_some c.args.s, c.suffix_need.ensures)) took.0 took.1

pub suffix_over-requires : goal.suffix_over-requires
suffix_over-requires c =
    let took = c.in_ok-take.ensures.ok in
    omega (
      arith,
      room_after (read_of c.args.x c.args.rules.now) _ _ _ c.requires took.0 took.1 c.number-number.ensures.made,
      c.suffix_need.ensures,
    )

pub returns : goal.returns
returns c =
    let took = c.in_ok-take.ensures.ok in
    c.suffix_over.ensures ∙ suffix_done_is _ (read_of c.args.x c.args.rules.now) _ _ _ _ _
    c.suffix_need.ensures took.0 took.1 c.number-number.ensures.own c.number-number.ensures.made
