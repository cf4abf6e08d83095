-- The invariant of `recursion::nothing::sweep_up`.
use Prim.Native.Nat.{◌<◌}
use Rattle.recursion.proofs.Sweeps.{Sweeping}
use Rattle.recursion.proofs.nothing.sweep_up.Given as goal

abbrev pub invariant-loop-k : goal.invariant-loop-k
invariant-loop-k l = Sweeping l.grammar.bytes.now l.fn.known l.found (λ j. j < l.k)
