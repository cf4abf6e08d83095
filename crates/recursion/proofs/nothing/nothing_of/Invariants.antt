-- The invariant and the measure of `recursion::nothing::nothing_of`.
use Prim.Native.Nat.{◌-◌}
use Rattle.recursion.specs.Code.Sets.{Sweepable}
use Rattle.recursion.proofs.nothing.nothing_of.Given as goal

abbrev pub invariant-loop-found : goal.invariant-loop-found
invariant-loop-found l = Sweepable l.grammar.bytes.now l.known

abbrev pub decreases-loop-found : goal.decreases-loop-found
decreases-loop-found l = 4294967296 - l.known
