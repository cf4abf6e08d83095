-- `answer_line::Line::word` meets its contract. Assumes nothing.
use Rattle.answer_line.proofs.Writing.{write_nothing, word_more}
use Rattle.answer_line.proofs.Line.word.Goals as goal

pub loop-byte-init : goal.loop-byte-init
loop-byte-init c = write_nothing _

pub loop-byte-preserved : goal.loop-byte-preserved
loop-byte-preserved c = word_more _ _ c.loop-byte-test.true c.loop-byte.invariant c.put.ensures
