-- `builder::build::made_pair` meets its contract: a state without rules, or what the rule is, whether the class is in its range, and the two rules that the state picks. Assumes nothing.
use mathlib.Core.Path.{refl, sym, ◌∙◌}
use native.Mathlib.Omega.{arith}
use Rattle.grammar.proofs.GrammarGood.{good_grammar}
use Rattle.builder.proofs.CodeRows.{few, rule_is}
use Rattle.builder.proofs.CodePairs.{pair_is, pair_none}
use Rattle.builder.proofs.build.made_pair.Goals as goal

pub returns-then-unruled : goal.returns-then-unruled
returns-then-unruled c = pair_none _ _ _ _ _ (sym c.unruled.ensures ∙ c.if-unruled.true) refl refl

pub overflow_cast-k-2 : goal.overflow_cast-k-2
overflow_cast-k-2 c =
    omega (arith, c.requires.rule_there, (good_grammar _ c.args.grammar.right).rules_most)

pub pair_by-requires : goal.pair_by-requires
pair_by-requires c =
    few _ _ _ c.args.grammar.right c.requires.rule_there c.expression-e.ensures

pub returns : goal.returns
returns c =
    let ends = c.class_inside-inside.ensures.bytes in
    let inside = c.class_inside-inside.ensures.inside in
    pair_is _ _ _ _ _
    (record {
      first = rule_is _ _ _ _ _ _ _ _ _ _ _ c.requires.rows ends c.expression-e.ensures c.range_of.ensures inside c.pair_by.ensures.first;
      second = rule_is _ _ _ _ _ _ _ _ _ _ _ c.requires.rows ends c.expression-e.ensures c.range_of.ensures inside c.pair_by.ensures.second;
    })
