-- The invariants and measures of `scanner::lines::next_line`.
use Prim.Native.Nat.{◌-◌}
use lib.ListN.{length}
use Rattle.scanner.proofs.LineStarts.{InsideLine}
use Rattle.scanner.proofs.lines.next_line.Given as goal

abbrev pub invariant-loop-l : goal.invariant-loop-l
invariant-loop-l l = InsideLine l.text l.at l.i

abbrev pub decreases-loop-l : goal.decreases-loop-l
decreases-loop-l l = length l.text - l.i
