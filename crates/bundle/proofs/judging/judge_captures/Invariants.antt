-- The invariant of `bundle::judging::judge_captures`.
use Rattle.bundle.proofs.SoFar.{SoFar}
use Rattle.bundle.proofs.judging.judge_captures.Given as goal

abbrev pub invariant-loop-i : goal.invariant-loop-i
invariant-loop-i l = SoFar l.image l.bundle l.i l.totals l.initial.lines l.lines l.initial.notes l.notes l.initial.work l.work
