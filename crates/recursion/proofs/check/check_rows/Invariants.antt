-- The invariant of `recursion::check::check_rows`.
use mathlib.Core.Path.{◌≡◌}
use Prim.Native.Nat.{◌-◌}
use Rattle.recursion.specs.Code.Sets.{lowest_from}
use Rattle.recursion.proofs.check.check_rows.Given as goal

abbrev pub invariant-loop-k : goal.invariant-loop-k
invariant-loop-k l = lowest_from l.count 0 l.rows ≡ lowest_from (l.count - l.k) l.k l.rows
