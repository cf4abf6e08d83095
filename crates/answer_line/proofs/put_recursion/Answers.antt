-- `answer_line::put_recursion` meets its contract: a refusal's word and numbers, and one number more. Assumes nothing.
use Rattle.std.proofs.Common.{rules, arith, refl}
use Rattle.answer_line.specs.Line.{recursion_line}
use Rattle.answer_line.proofs.LineLength.{recursion_short}
use Rattle.answer_line.proofs.Writing.{write_both, line_held}
use Rattle.answer_line.proofs.put_recursion.Goals as goal

pub returns : goal.returns
unfolding recursion_line
returns c =
    let parts = write_both (write_both (rw (c.number.ensures, c.place.ensures, c.new-refusal.ensures) at c.refusal.ensures) c.field.ensures) c.finish.ensures.feed in
    rw c.finish.ensures.count (line_held parts (recursion_short c.args.rule c.args.name (omega arith) (omega arith)) refl (search rules))
