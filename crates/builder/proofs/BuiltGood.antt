-- The image of a grammar that is not refused is not refused. Assumes nothing.
use mathlib.Core.Path.{◌≡◌, ap}
use mathlib.Core.Bool.{true}
use mathlib.Core.List.{List}
use Prim.Native.Nat.{ℕ, zero, suc, ◌+◌, ◌*◌, ◌/◌, ◌%◌, ◌^◌, ◌<◌, ◌≤◌}
use native.Mathlib.Nat.{mul-le-mul}
use native.Mathlib.Omega.{arith}
use lib.Dec.{ltb, eqb}
use Rattle.codec.specs.Numbers.{u32_width, u32_at}
use Rattle.refusal.specs.declared.Refusal.{Refusal}
use Rattle.image.specs.Format
use Rattle.image.specs.Image.{states, classes}
use Rattle.image.specs.Refusals.{image_refusal}
use Rattle.image.specs.Conditions.{CountsRight, MapRight, RulesRight, ImageRight}
use Rattle.refusal.proofs.Reflects.{by_test, by_passing}
use Rattle.image.proofs.Bits.{bits_test}
use Rattle.image.proofs.RuleRight.{rule_test}
use Rattle.image.proofs.ConditionsMet.{image_check}
use Rattle.grammar.specs.declared.Expression.{Expression}
use Rattle.grammar.specs.Grammar.{rules, expression, range_of, grammar_refusal}
use Rattle.builder.specs.declared.Matching.{Matching}
use Rattle.builder.specs.Classes.{class_count}
use Rattle.builder.specs.Table.{class_inside, rows_at, made}
use Rattle.builder.specs.Image.{symbols_of, built_rules, built, built_length}
use Rattle.grammar.proofs.GrammarGood.{GoodGrammar, good_grammar}
use Rattle.builder.proofs.Classes.{byte_class_below, inside_below}
use Rattle.builder.proofs.ClassesFew.{class_count_most}
use Rattle.builder.proofs.BuiltImage.{built_length_is, built_states, built_classes, built_symbols, built_finals, built_map, built_reads, built_directory, built_rule_at}
use Rattle.builder.proofs.BuiltRules.{RulePasses, select_right, row_zero_right}

module _ (how : Matching) (gs : List ℕ) (good : GoodGrammar gs) where
  pub built_classes_most : class_count gs ≤ 63
  built_classes_most = class_count_most gs good.rules_most

  pub built_symbols_most : symbols_of gs ≤ 63
  unfolding symbols_of
  built_symbols_most = omega (arith, good.rules_most)

  symbols_least : 0 < symbols_of gs
  unfolding symbols_of
  symbols_least = omega arith

  classes_least : 1 ≤ class_count gs
  classes_least = omega (arith, byte_class_below gs 0 (omega arith))

  -- 5 states, at most 65 classes with the markers, at most 63 symbols
  pub built_rules_fit : Format.rule_length * built_rules gs < 256 ^ u32_width
  unfolding built_rules
  built_rules_fit =
      let a : 5 * (class_count gs + 2) ≤ 325 = omega (arith, built_classes_most) in
      let b : 5 * (class_count gs + 2) * symbols_of gs ≤ 325 * 63 = mul-le-mul a built_symbols_most in
      omega arith

  -- THE COUNTS AND THE CLASS MAP
  finals_below : ltb (u32_at (built how gs) Format.finals_offset) (2 ^ states (built how gs)) ≡ true
  finals_below = rw (built_finals how gs, built_states how gs)

  counts_right : CountsRight (built how gs)
  counts_right =
      record {
        states_right = record { least = omega (arith, built_states how gs); most = omega (arith, built_states how gs) };
        classes_right = record { least = omega (arith, built_classes how gs, classes_least); most = omega (arith, built_classes how gs, built_classes_most) };
        symbols_right = record { least = omega (arith, built_symbols how gs, symbols_least); most = omega (arith, built_symbols how gs, built_symbols_most) };
        zero_right = (built_reads how gs).zero_is;
        finals_right = by_test (bits_test _ _) finals_below;
      }

  map_right : MapRight (built how gs)
  map_right v h = rw (built_map how gs v h, built_classes how gs) (byte_class_below gs v h)

  -- EVERY RULE
  made_right : (p k a : ℕ) → a < symbols_of gs → RulePasses (built how gs) k (made how gs p k a)
  unfolding made rows_at symbols_of
  made_right p k zero h =
      row_zero_right (built how gs) k (rules gs) (built_states how gs) (built_symbols how gs) how (class_count gs) p (built_classes how gs) good.rules_least
  made_right p k (suc a) h =
      select_right (built how gs) k (rules gs) (built_states how gs) (built_symbols how gs) x (eqb (a % 2) 1) p (a / 2) (class_inside gs (range_of x) k)
      below
      (good.parts (a / 2) below)
      on_bytes
    where
      x : Expression
      x = expression gs (a / 2)

      below : a / 2 < rules gs
      below = omega arith

      on_bytes : class_inside gs (range_of x) k ≡ true → k ≡ classes (built how gs) + 1 → ⊥
      on_bytes t e = omega (arith, inside_below gs (range_of x) k t, built_classes how gs)

  rules_right : RulesRight (built how gs)
  rules_right p k a hp hk ha =
      let state : p < 5 = omega (arith, built_states how gs) in
      let class : k < class_count gs + 2 = omega (arith, built_classes how gs) in
      let symbol : a < symbols_of gs = omega (arith, built_symbols how gs) in
      rw (built_rule_at how gs state class symbol) (by_passing (rule_test (built how gs) k (made how gs p k a)) (made_right p k a symbol).not_bad)

  image_right : ImageRight (built how gs)
  unfolding built_length
  image_right =
      record {
        header = omega (arith, built_length_is how gs);
        directory = built_directory how gs built_rules_fit;
        counts = counts_right;
        long = (built_reads how gs).length_right;
        map = map_right;
        rules = rules_right;
      }

pub built_good : (how : Matching) (gs : List ℕ) → (grammar_refusal gs).number ≡ 0 → (image_refusal (built how gs)).number ≡ 0
built_good how gs e = ap (λ (f : Refusal). f.number) ((image_check (built how gs)).accepted (image_right how gs (good_grammar gs e)))
