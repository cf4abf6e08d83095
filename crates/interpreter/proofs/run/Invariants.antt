-- The invariants and measures of `interpreter::run`.
use Prim.Native.Nat.{◌-◌}
use Rattle.interpreter.proofs.WalkLaws.{Walked}
use Rattle.interpreter.proofs.run.Given as goal

abbrev pub invariant-loop-next : goal.invariant-loop-next
invariant-loop-next l = Walked l.image l.capture l.run.sizes l.run.finals l.budget l.initial.stack l.here l.stack

abbrev pub decreases-loop-next : goal.decreases-loop-next
decreases-loop-next l = l.budget - l.here.steps
