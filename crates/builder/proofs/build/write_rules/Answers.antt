-- `builder::build::write_rules` meets its contract: a turn over the classes writes the rule of symbol 0, and one over the rules those of a pair. Assumes nothing.
use mathlib.Core.Path.{refl, ◌∙◌}
use native.Mathlib.Omega.{arith}
use Rattle.grammar.proofs.GrammarGood.{good_grammar}
use Rattle.builder.proofs.CodeClasses.{classes_most, symbols_some, count_most}
use Rattle.builder.proofs.CodeRows.{zero_is}
use Rattle.builder.proofs.CodePairs.{class_done, all_done, first_there}
use Rattle.builder.proofs.CodeRules.{rules_start, rules_end, rule_room, rule_next, second_room, pair_next, ready_kept}
use Rattle.builder.proofs.build.write_rules.Goals as goal

pub overflow_cast-count : goal.overflow_cast-count
overflow_cast-count c = omega (arith, c.count-count.ensures, (good_grammar _ c.args.plan.grammar.right).rules_most)

pub loop-state-init : goal.loop-state-init
loop-state-init c = record { written = rules_start _ _ _ c.requires.room; at = omega arith }

pub overflow_add-class-end : goal.overflow_add-class-end
overflow_add-class-end c = omega (arith, c.args.plan.classes_are, classes_most _ c.args.plan.grammar.right)

pub row_zero-requires : goal.row_zero-requires
row_zero-requires c = omega (arith, c.args.plan.classes_are, classes_most _ c.args.plan.grammar.right)

pub write_rule-requires : goal.write_rule-requires
write_rule-requires c =
    rule_room c.loop-class.invariant (omega (arith, c.loop-state-test.true, c.from-state-end.ensures))
    (omega (arith, c.loop-class-test.true, c.args.plan.classes_are)) (symbols_some _)

pub overflow_add-i : goal.overflow_add-i
overflow_add-i c = omega (arith, c.loop-class.invariant.written.within, count_most _ c.args.plan.grammar.right)

pub loop-k-init : goal.loop-k-init
loop-k-init c =
    rule_next c.loop-class.invariant (omega (arith, c.loop-state-test.true, c.from-state-end.ensures))
    (omega (arith, c.loop-class-test.true, c.args.plan.classes_are)) (symbols_some _) _ c.write_rule.auto.image c.write_rule.ensures
    (zero_is _ _ _ _ _ _ _ c.args.plan.classes_are refl c.row_zero.ensures)

pub made_pair-pair-requires : goal.made_pair-pair-requires
made_pair-pair-requires c =
    record {
      rows = ready_kept _ _ _ _ _ _ c.requires.ready c.loop-k.invariant.written;
      rule_there = omega (arith, c.loop-k-test.true, c.count-count.ensures);
    }

pub write_rule-requires-in-loop-k : goal.write_rule-requires-in-loop-k
write_rule-requires-in-loop-k c =
    rule_room c.loop-k.invariant (omega (arith, c.loop-state-test.true, c.from-state-end.ensures))
    (omega (arith, c.loop-class-test.true, c.args.plan.classes_are)) (first_there _ _ (omega (arith, c.loop-k-test.true, c.count-count.ensures)))

pub overflow_add-i-in-loop-k : goal.overflow_add-i-in-loop-k
overflow_add-i-in-loop-k c = omega (arith, c.loop-k.invariant.written.within, count_most _ c.args.plan.grammar.right)

pub write_rule-requires-in-loop-k-2 : goal.write_rule-requires-in-loop-k-2
write_rule-requires-in-loop-k-2 c =
    second_room _ c.loop-k.invariant (omega (arith, c.loop-state-test.true, c.from-state-end.ensures))
    (omega (arith, c.loop-class-test.true, c.args.plan.classes_are)) (omega (arith, c.loop-k-test.true, c.count-count.ensures)) c.write_rule-in-loop-k.auto.image

pub overflow_add-i-in-loop-k-2 : goal.overflow_add-i-in-loop-k-2
overflow_add-i-in-loop-k-2 c = omega (arith, c.loop-k.invariant.written.within, count_most _ c.args.plan.grammar.right)

pub loop-k-preserved : goal.loop-k-preserved
loop-k-preserved c =
    pair_next c.loop-k.invariant (omega (arith, c.loop-state-test.true, c.from-state-end.ensures))
    (omega (arith, c.loop-class-test.true, c.args.plan.classes_are)) (omega (arith, c.loop-k-test.true, c.count-count.ensures)) _ c.made_pair-pair.ensures
    c.write_rule-in-loop-k.auto.image c.write_rule-in-loop-k.ensures c.write_rule-in-loop-k-2.auto.image c.write_rule-in-loop-k-2.ensures

pub loop-class-preserved : goal.loop-class-preserved
loop-class-preserved c =
    record {
      written = c.loop-k.invariant.written;
      at = c.loop-k.invariant.at ∙ class_done _ _ _ _ (omega (arith, c.loop-k-test.false, c.count-count.ensures)) (omega (arith, c.loop-k.auto.k-end, c.count-count.ensures));
    }

pub returns : goal.returns
returns c =
    let last = all_done c.args.plan.grammar.bytes.now c.loop-state.state (omega (arith, c.loop-state-test.false, c.loop-state.auto.state-end, c.from-state-end.ensures)) in
    rules_end _ _ _ _ _ c.loop-state.invariant.written (omega (arith, c.loop-state.invariant.at, last))
