-- The invariants and measures of `simulator::judge::run`.
use Rattle.simulator.proofs.JudgeLoop.{AfterSteps, left}
use Rattle.simulator.proofs.judge.run.Given as goal

abbrev pub invariant-loop-r : goal.invariant-loop-r
invariant-loop-r l = AfterSteps l.image l.capture l.first.environment l.r l.notes l.work

abbrev pub decreases-loop-r : goal.decreases-loop-r
decreases-loop-r l = left l.image l.capture l.first.environment l.r l.notes l.work
