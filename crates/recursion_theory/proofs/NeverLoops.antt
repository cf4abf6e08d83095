-- The machine of a grammar without left recursion never loops: rule 0 has a result, and so the run terminates, on every capture. Assumes nothing.
use mathlib.Core.Path.{◌≡◌}
use mathlib.Core.Bool.{Bool, true}
use mathlib.Core.List.{List}
use mathlib.Core.Logic.{◌↔◌}
use mathlib.Core.Option.{Option}
use Prim.Native.Nat.{ℕ, ◌<◌}
use Rattle.codec.specs.Bytes.{Bytes}
use Rattle.machine.specs.Verdicts.{GoesOn}
use Rattle.machine.proofs.Terminates.{says_looping}
use Rattle.image.specs.Image.{machine}
use Rattle.grammar.specs.Grammar.{rules, expression, grammar_refusal}
use Rattle.grammar.specs.Parsing.{Parses}
use Rattle.grammar.proofs.GrammarGood.{good_grammar}
use Rattle.builder.specs.declared.Matching.{Matching}
use Rattle.builder.specs.Image.{built}
use Rattle.parsing_theory.proofs.BuiltParses.{built_parses}
use Rattle.recursion.specs.LeftRecursion.{LeadsOn, LeftRecursive}
use Rattle.recursion_theory.specs.NeverLoops.{NeverLoops}
use Rattle.recursion_theory.proofs.ParsesAll.{results}

-- R is any test that tells which rules lead on to which
pub never_loops :
    (gs cs : List ℕ) → (grammar_refusal gs).number ≡ 0 → Bytes cs →
    (R : ℕ → ℕ → Bool) → ((k l : ℕ) → k < rules gs → l < rules gs → (R k l ≡ true) ↔ LeadsOn (expression gs) k l) →
    ((k : ℕ) → k < rules gs → LeftRecursive gs k → ⊥) → NeverLoops gs cs
never_loops gs cs good bytes R exact none_back = record { results = all; terminates = terminates; not_looping = λ how d s. terminates how (says_looping s).0 }
  where
    all : (k i : ℕ) → k < rules gs → (o : Option ℕ) × Parses (expression gs) cs k i o
    all = results (expression gs) (rules gs) (good_grammar gs good).parts R exact none_back cs

    terminates : (how : Matching) → GoesOn (machine (built how gs) cs) → ⊥
    terminates how = let (o, p) = all 0 0 (good_grammar gs good).rules_least in (built_parses how gs cs good bytes).parses_terminates o p
