-- `answer_line::Line::number` meets its contract: it calls itself on the number's tenth. Assumes nothing.
use Rattle.answer_line.proofs.Decimal.{one_digit, more_digits}
use Rattle.answer_line.proofs.Line.+number.Goals.{then-number-ge10, else-number-ge10}
use Rattle.answer_line.proofs.Line.+number.Goals as goal

pub returns : goal.returns
returns t c = elim c.if-number-ge10.branch [
  | then-number-ge10 w ↦ more_digits c.args.number w.if-number-ge10.true w.number.ensures (rw w.self-is at c.put.ensures)
  | else-number-ge10 w ↦ one_digit c.args.number w.if-number-ge10.false (rw w.self-is at c.put.ensures)
]
