-- `recursion::nothing::looked_at` meets its contract: the rule is added, or not, by what its expression is. Assumes nothing.
use native.Mathlib.Omega.{arith}
use Rattle.recursion.proofs.Sweeps.{looked_right}
use Rattle.recursion.proofs.Parts.{parts_few}
use Rattle.grammar.proofs.GrammarGood.{good_grammar}
use Rattle.recursion.proofs.nothing.looked_at.Goals as goal

pub matches_nothing-matches-requires : goal.matches_nothing-matches-requires
matches_nothing-matches-requires c = parts_few _ _ c.args.grammar.right c.requires _ c.expression.ensures

pub overflow_cast-k : goal.overflow_cast-k
overflow_cast-k c = omega (arith, c.requires, (good_grammar _ c.args.grammar.right).rules_most)

pub added-requires : goal.added-requires
added-requires c = omega (arith, c.requires, (good_grammar _ c.args.grammar.right).rules_most)

pub returns : goal.returns
returns c = looked_right _ _ _ _ _ _ c.expression.ensures c.matches_nothing-matches.ensures c.added.ensures
