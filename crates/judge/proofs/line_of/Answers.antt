-- The buffer has room for every line.
use Rattle.judge.proofs.Printing.{prints}
use Rattle.judge.proofs.line_of.Goals as goal

pub returns : goal.returns
returns c = prints _ _ _ _ _ _ c.requires.line_long c.answer.auto.out c.answer.ensures
