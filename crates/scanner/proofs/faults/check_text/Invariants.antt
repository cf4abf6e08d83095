-- The invariants and measures of `scanner::faults::check_text`.
use Prim.Native.Nat.{◌-◌}
use lib.ListN.{length}
use Rattle.scanner.specs.Code.Stepping.{spot_of}
use Rattle.scanner.proofs.Faulting.{Checking}
use Rattle.scanner.proofs.faults.check_text.Given as goal

abbrev pub invariant-loop-at : goal.invariant-loop-at
invariant-loop-at l = Checking l.text l.at (spot_of l.spot) l.lines

abbrev pub decreases-loop-at : goal.decreases-loop-at
decreases-loop-at l = length l.text - l.at
