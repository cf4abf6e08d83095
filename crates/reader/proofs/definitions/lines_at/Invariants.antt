-- The invariant of `reader::definitions::lines_at`.
use Rattle.reader.proofs.AllLines.{ReadingLines}
use Rattle.reader.proofs.definitions.lines_at.Given as goal

abbrev pub invariant-loop-k : goal.invariant-loop-k
invariant-loop-k l = ReadingLines l.text l.at l.lines l.place l.k l.rules l.ends
