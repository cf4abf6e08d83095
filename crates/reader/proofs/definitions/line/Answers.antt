-- `reader::definitions::line` meets its contract. Assumes nothing.
use mathlib.Core.Path.{refl}
use Rattle.expressions.specs.Code.Operators.{read_of}
use Rattle.expressions.proofs.Emitting.{handed_on}
use Rattle.reader.proofs.Lining.{line_over, line_read}
use Rattle.reader.proofs.definitions.line.Goals as goal

pub returns-in_err-x : goal.returns-in_err-x
returns-in_err-x c =
    rw (handed_on _ _ c.from_residual.ensures.1)
    (line_over _ _ _ _ _ c.requires c.body_at-body.ensures _ c.refill.ensures _ c.in_err-x.ensures refl _ refl)

pub returns : goal.returns
returns c =
    line_read _ _ _ _ _ c.requires c.body_at-body.ensures _ c.refill.ensures (read_of c.in_ok-x.x c.expression.new.rules) c.in_ok-x.ensures refl _
    c.after-end.ensures _ c.topped.ensures
