-- `answer_line::Line::refusal` meets its contract. Assumes nothing.
use Rattle.answer_line.specs.Line.{refused_word}
use Rattle.answer_line.proofs.Writing.{write_both}
use Rattle.answer_line.proofs.Line.refusal.Goals as goal

pub returns : goal.returns
unfolding refused_word
returns c = rw c.from.ensures at (write_both (write_both c.word.ensures c.field.ensures) c.field-2.ensures)
