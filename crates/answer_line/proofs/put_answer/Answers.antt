-- `answer_line::put_answer` meets its contract. Assumes nothing.
use Rattle.std.proofs.Common.{rules, arith, refl}
use Rattle.answer_line.specs.Line.{answer_line}
use Rattle.answer_line.proofs.LineLength.{answer_short}
use Rattle.answer_line.proofs.Writing.{write_both, line_held}
use Rattle.answer_line.proofs.put_answer.Goals as goal

pub returns : goal.returns
unfolding answer_line
returns c =
    let parts = write_both (write_both (write_both c.word.ensures c.field.ensures) c.config.ensures.writes) c.finish.ensures.feed in
    rw c.finish.ensures.count (line_held (rw (c.word_of.ensures, c.from.ensures) at parts) (answer_short _ _ _ (omega (arith, c.ranges)) c.config.ensures.short) refl (search rules))
