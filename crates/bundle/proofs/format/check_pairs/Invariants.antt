-- The invariant of `bundle::format::check_pairs`.
use Rattle.bundle.proofs.PairsChecked.{PairsLeft}
use Rattle.bundle.proofs.format.check_pairs.Given as goal

abbrev pub invariant-loop-i : goal.invariant-loop-i
invariant-loop-i l = PairsLeft l.bundle l.count l.floor l.i
