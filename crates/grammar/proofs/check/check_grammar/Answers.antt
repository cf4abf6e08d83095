-- `grammar::check::check_grammar` meets its contract: the length first, then the rules. Assumes nothing.
use mathlib.Core.Path.{refl}
use Rattle.refusal.specs.Checking.{checked}
use Rattle.grammar.specs.Grammar.{grammar_refusal}
use Rattle.grammar.proofs.check.check_grammar.Goals as goal

pub returns-then-length_wrong : goal.returns-then-length_wrong
unfolding checked grammar_refusal
returns-then-length_wrong c = rw (c.new.ensures, ← c.length_wrong.ensures, c.if-length_wrong.true) refl

pub returns : goal.returns
unfolding grammar_refusal
returns c = rw (← c.length_wrong.ensures, c.if-length_wrong.false) c.check_rules.ensures
