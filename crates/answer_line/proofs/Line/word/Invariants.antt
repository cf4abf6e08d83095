-- The bytes so far are written.
use Rattle.std.proofs.Common.{take}
use Rattle.answer_line.specs.Code.Writing.{Writes}
use Rattle.answer_line.proofs.Line.word.Given as goal

abbrev pub invariant-loop-byte : goal.invariant-loop-byte
invariant-loop-byte l = Writes (take l.byte-index l.word) l.initial.self l.self
