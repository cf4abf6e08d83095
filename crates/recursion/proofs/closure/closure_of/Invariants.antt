-- The invariant of `recursion::closure::closure_of`.
use Rattle.grammar.specs.Grammar.{rules}
use Rattle.recursion.proofs.Rows.{Closing}
use Rattle.recursion.proofs.closure.closure_of.Given as goal

abbrev pub invariant-loop-n : goal.invariant-loop-n
invariant-loop-n l = Closing l.grammar.bytes.now (rules l.grammar.bytes.now) l.n l.rows
