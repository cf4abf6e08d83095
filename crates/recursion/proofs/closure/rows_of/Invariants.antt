-- The invariant of `recursion::closure::rows_of`.
use Rattle.recursion.proofs.Rows.{RowsSoFar}
use Rattle.recursion.specs.Code.Sets.{member}
use Rattle.recursion.specs.Computed.{leads_by}
use Rattle.grammar.specs.Grammar.{expression}
use Rattle.recursion.proofs.closure.rows_of.Given as goal

abbrev pub invariant-loop-k : goal.invariant-loop-k
invariant-loop-k l = RowsSoFar (λ j. leads_by (member l.nothing) (expression l.grammar.bytes.now j)) l.k l.rows
