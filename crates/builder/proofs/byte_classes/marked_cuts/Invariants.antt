-- The invariant of `builder::byte_classes::marked_cuts`.
use Rattle.builder.proofs.CodeMarks.{Marking}
use Rattle.builder.proofs.byte_classes.marked_cuts.Given as goal

abbrev pub invariant-loop-k : goal.invariant-loop-k
invariant-loop-k l = Marking l.grammar l.marks l.k
