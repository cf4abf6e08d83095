-- The invariant of `validator::check::check_class_map`.
use Rattle.validator.proofs.CheckLoops.{MapLeft}
use Rattle.validator.proofs.check.check_class_map.Given as goal

abbrev pub invariant-loop-at : goal.invariant-loop-at
invariant-loop-at l = MapLeft l.image l.at
