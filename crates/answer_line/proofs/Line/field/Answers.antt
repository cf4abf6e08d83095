-- `answer_line::Line::field` meets its contract. Assumes nothing.
use Rattle.answer_line.specs.Line.{field}
use Rattle.answer_line.proofs.Writing.{write_both}
use Rattle.answer_line.proofs.Line.field.Goals as goal

pub returns : goal.returns
unfolding field
returns c = write_both c.put.ensures c.number.ensures
