-- The measure: bytes that are still to be moved, and tries that are left.
use Rattle.std.proofs.Common.{◌≡◌, ◌+◌, ◌-◌}
use Rattle.transfer.proofs.Outcomes.{Going}
use Rattle.transfer.proofs.moves.move_on.Given as goal

abbrev pub invariant-loop-stop : goal.invariant-loop-stop
invariant-loop-stop g l = record {
  same_long : g.M.Moves.long l.moves ≡ l.long;
  going : Going l.stop.last l.stop.count l.long;
  moved : g.M.Moves.moved l.initial.moves l.moves l.stop.count;
}

abbrev pub decreases-loop-stop : goal.decreases-loop-stop
decreases-loop-stop g l = l.long - l.stop.count + l.tries
