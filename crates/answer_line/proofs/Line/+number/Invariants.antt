-- A number's tenth is smaller.
use Rattle.answer_line.proofs.Line.+number.Given as goal

abbrev pub decreases-number : goal.decreases-number
decreases-number l = l.number
