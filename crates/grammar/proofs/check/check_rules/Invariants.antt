-- The invariant of `grammar::check::check_rules`.
use Rattle.grammar.proofs.CodeGrammar.{RulesLeft}
use Rattle.grammar.proofs.check.check_rules.Given as goal

abbrev pub invariant-loop-k : goal.invariant-loop-k
invariant-loop-k l = RulesLeft l.grammar l.k
