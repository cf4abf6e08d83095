-- Two grammars that 19 refuses, though their machines terminate on every capture. Assumes nothing.
use mathlib.Core.Path.{◌≡◌, refl, ap, ◌∙◌}
use mathlib.Core.List.{List}
use mathlib.Core.Option.{none, some}
use Prim.Native.Nat.{ℕ, ◌<◌}
use native.Mathlib.Omega.{arith}
use Rattle.codec.specs.Bytes.{Bytes}
use Rattle.machine.specs.Verdicts.{GoesOn}
use Rattle.image.specs.Image.{machine}
use Rattle.grammar.specs.declared.Expression.TheVariants.{Sequence, Not, Empty}
use Rattle.grammar.specs.Grammar.{rules, kind_of, b_of, c_of, expression_by, expression, rule_right, grammar_rules_from, grammar_refusal}
use Rattle.grammar.specs.Parsing.{Rules, Parses, sequence_fails, not_fails, empty}
use Rattle.grammar.proofs.ConditionsMet.{grammar_right}
use Rattle.builder.specs.declared.Matching.{Matching}
use Rattle.builder.specs.Image.{built}
use Rattle.parsing_theory.proofs.BuiltParses.{built_parses}
use Rattle.recursion.specs.LeftRecursion.{a_not, Leads, first_part, second_part, one, other, its_own, LeadsOn, last, more, LeftRecursive, recursive}
use Rattle.recursion_theory.specs.Harmless.{fails_first, never_reached, Harmless}

-- THE FIRST: what its rules are, computed
first_rules :
    ((grammar_refusal fails_first).number ≡ 0) × (rules fails_first ≡ 3) × (expression fails_first 0 ≡ Sequence 1 0) ×
    (expression fails_first 1 ≡ Not 2) × (expression fails_first 2 ≡ Empty)
unfolding fails_first rules kind_of b_of c_of expression_by expression rule_right grammar_rules_from grammar_refusal
first_rules = (refl, refl, refl, refl, refl)

-- rule 0 leads back to itself through its second part, since its first, a not, may match nothing
pub fails_first_recursive : LeftRecursive fails_first 0
fails_first_recursive = last (second_part first_rules.2 (a_not first_rules.3))

-- but fails everywhere
pub fails_first_fails : (cs : List ℕ) (i : ℕ) → Parses (expression fails_first) cs 0 i none
fails_first_fails cs i = sequence_fails first_rules.2 (not_fails first_rules.3 (empty first_rules.4))

pub fails_first_terminates : (how : Matching) (cs : List ℕ) → Bytes cs → GoesOn (machine (built how fails_first) cs) → ⊥
fails_first_terminates how cs bytes = (built_parses how fails_first cs first_rules.0 bytes).parses_terminates none (fails_first_fails cs 0)

-- THE SECOND
second_rules :
    ((grammar_refusal never_reached).number ≡ 0) × (rules never_reached ≡ 2) × (expression never_reached 0 ≡ Empty) ×
    (expression never_reached 1 ≡ Sequence 1 1)
unfolding never_reached rules kind_of b_of c_of expression_by expression rule_right grammar_rules_from grammar_refusal
second_rules = (refl, refl, refl, refl)

pub never_reached_recursive : LeftRecursive never_reached 1
never_reached_recursive = last (first_part second_rules.3)

-- rule 0 matches nothing, everywhere
pub never_reached_matches : (cs : List ℕ) (i : ℕ) → Parses (expression never_reached) cs 0 i (some i)
never_reached_matches cs i = empty second_rules.2

pub never_reached_terminates : (how : Matching) (cs : List ℕ) → Bytes cs → GoesOn (machine (built how never_reached) cs) → ⊥
never_reached_terminates how cs bytes = (built_parses how never_reached cs second_rules.0 bytes).parses_terminates (some 0) (never_reached_matches cs 0)

-- BOTH are refused. An empty rule leads nowhere, so rule 1 of the second is the lowest that leads back to itself
clash : ◌≡◌ {A = ℕ} 0 1 → ⊥
clash z = omega arith

empty_leads : {E : Rules} {k l : ℕ} → E k ≡ Empty → Leads E k l → ⊥
empty_leads e (first_part f) = clash cc
empty_leads e (second_part f n) = clash cc
empty_leads e (one f) = clash cc
empty_leads e (other f) = clash cc
empty_leads e (its_own f) = clash cc

empty_leads_on : {E : Rules} {k l : ℕ} → E k ≡ Empty → LeadsOn E k l → ⊥
empty_leads_on e (last x) = empty_leads e x
empty_leads_on e (more x y) = empty_leads e x

pub fails_first_harmless : Harmless fails_first 0
fails_first_harmless =
    record {
      refused =
          recursive {k = 0} (grammar_right fails_first first_rules.0)
          (record { below = omega (arith, first_rules.1); leads_back = fails_first_recursive; before = λ j h x. absurd (omega arith) });
      terminates = fails_first_terminates;
    }

pub never_reached_harmless : Harmless never_reached 1
never_reached_harmless =
    record {
      refused =
          recursive {k = 1} (grammar_right never_reached second_rules.0)
          (record { below = omega (arith, second_rules.1); leads_back = never_reached_recursive; before = before });
      terminates = never_reached_terminates;
    }
  where
    before : (j : ℕ) → j < 1 → LeftRecursive never_reached j → ⊥
    before j h x =
        let lowest : j ≡ 0 = omega arith in
        empty_leads_on (ap (expression never_reached) lowest ∙ second_rules.2) x
