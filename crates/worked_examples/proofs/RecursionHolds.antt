-- The examples of left recursion, computed. Assumes nothing.
use mathlib.Core.Path.{refl}
use Rattle.refusal.specs.First.{or_else}
use Rattle.grammar.specs.Grammar.{rules, kind_of, b_of, c_of, expression_by, expression, rule_right, grammar_rules_from, grammar_refusal}
use Rattle.recursion.specs.Computed.{nothing_by, nothing_after, leads_by, leads_through, leads_on, recursion_from, recursion_refusal}
use Rattle.worked_examples.specs.Examples.{Each, nil, cons}
use Rattle.worked_examples.specs.RecursionExamples.{RecursionSo, recursion_table}

pub recursion_examples : Each RecursionSo recursion_table
unfolding RecursionSo recursion_table or_else rules kind_of b_of c_of expression_by expression rule_right grammar_rules_from grammar_refusal
    nothing_by nothing_after leads_by leads_through leads_on recursion_from recursion_refusal
recursion_examples =
    cons refl (cons refl (cons refl (cons refl (cons refl (cons refl (cons refl (cons refl (cons refl (cons refl (cons refl (cons refl (cons refl nil))))))))))))
