-- What a grammar that is not refused has: its length, and rules that name only rules that are there. Assumes nothing.
use mathlib.Core.Path.{◌≡◌}
use mathlib.Core.List.{List}
use Prim.Native.Nat.{ℕ, ◌*◌, ◌<◌, ◌≤◌}
use native.Mathlib.Omega.{arith}
use lib.ListN.{length}
use Rattle.grammar.specs.Grammar.{max_rules, rules, expression_by, expression, PartsBelow, grammar_refusal}
use Rattle.grammar.specs.Conditions.{GrammarRuleRight, sequence_right, choice_right, not_right, empty_right, range_right}
pub use Rattle.grammar.proofs.ConditionsMet.{right_at}
use Rattle.grammar.proofs.ConditionsMet.{grammar_right}

pub record GoodGrammar (gs : List ℕ) : Type 0 where
  pub rules_least : 1 ≤ rules gs
  pub rules_most : rules gs ≤ max_rules
  pub length_is : length gs ≡ 4 * rules gs
  pub parts : (k : ℕ) → k < rules gs → PartsBelow (rules gs) (expression gs k)

parts_below : (gs : List ℕ) (k : ℕ) → GrammarRuleRight gs k → PartsBelow (rules gs) (expression gs k)
unfolding expression expression_by PartsBelow
parts_below gs k (sequence_right e b c z) = rw e (b, c)
parts_below gs k (choice_right e b c z) = rw e (b, c)
parts_below gs k (not_right e b c z) = rw e b
parts_below gs k (empty_right e b c z) = rw e tt
parts_below gs k (range_right e z) = rw e tt

pub good_grammar : (gs : List ℕ) → (grammar_refusal gs).number ≡ 0 → GoodGrammar gs
good_grammar gs e =
    let r = grammar_right gs e in
    record {
      rules_least = omega (arith, r.long.some, r.long.whole);
      rules_most = omega (arith, r.long.most, r.long.whole);
      length_is = r.long.whole;
      parts = λ k h. parts_below gs k (r.rules_right k h);
    }
