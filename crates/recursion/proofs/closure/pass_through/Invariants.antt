-- The invariant of `recursion::closure::pass_through`.
use Rattle.recursion.proofs.Rows.{Passing}
use Rattle.recursion.proofs.closure.pass_through.Given as goal

abbrev pub invariant-loop-row : goal.invariant-loop-row
invariant-loop-row l = Passing l.initial.rows l.n l.onward l.row-index l.rows
