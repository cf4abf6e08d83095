-- A converse: a rule that tries itself first, or one that tries such a rule first, has a result nowhere, and a grammar whose rule 0 does so loops on every capture. Assumes nothing.
use mathlib.Core.Path.{◌≡◌, subst}
use mathlib.Core.List.{List}
use mathlib.Core.Option.{Option, none, some}
use Prim.Native.Nat.{ℕ}
use Rattle.codec.specs.Bytes.{Bytes}
use Rattle.machine.specs.Verdicts.{GoesOn}
use Rattle.image.specs.Image.{machine}
use Rattle.grammar.specs.declared.Expression.{Expression}
use Rattle.grammar.specs.declared.Expression.TheVariants.{Sequence, Choice, Not, Empty, Range}
use Rattle.grammar.specs.Grammar.{expression, grammar_refusal}
use Rattle.grammar.specs.Parsing.{Rules, Parses, sequence, sequence_fails, choice, choice_other, not_there, not_fails, empty, range, range_fails}
use Rattle.builder.specs.declared.Matching.{Matching}
use Rattle.builder.specs.Image.{built}
use Rattle.parsing_theory.proofs.BuiltParses.{built_parses}
use Rattle.recursion_theory.specs.FirstParts.{TriesFirst, TriesOn, first_part, one, its_own, last, more}

-- what an expression tries first goes on into rule t; one without parts tries nothing
abbrev FirstTries : (E : Rules) → (t : ℕ) → Expression → Type 0
FirstTries E t (Sequence b c) = TriesOn E b t
FirstTries E t (Choice b c) = TriesOn E b t
FirstTries E t (Not b) = TriesOn E b t
FirstTries E t Empty = ⊥
FirstTries E t (Range b c) = ⊥

by_first : {E : Rules} {k l t : ℕ} → TriesFirst E k l → TriesOn E l t → FirstTries E t (E k)
by_first (first_part e) y = rw e y
by_first (one e) y = rw e y
by_first (its_own e) y = rw e y

-- a way into a rule that comes back to itself has no last step
goes_round : {E : Rules} {k t : ℕ} → TriesOn E t t → TriesOn E k t → FirstTries E t (E k)
goes_round back (last x) = by_first x back
goes_round back (more x y) = by_first x y

module _ {E : Rules} {t : ℕ} (back : TriesOn E t t) where
  next : {k : ℕ} {x : Expression} → E k ≡ x → TriesOn E k t → FirstTries E t x
  next e w = subst (FirstTries E t) e (goes_round back w)

  -- a derivation has in it one for what the rule tries first, at its place, and so on without end
  pub no_result_into : (cs : List ℕ) {k : ℕ} → TriesOn E k t → (i : ℕ) (o : Option ℕ) → Parses E cs k i o → ⊥
  no_result_into cs w i o (sequence {j = j} e p q) = no_result_into cs (next e w) i (some j) p
  no_result_into cs w i o (sequence_fails e p) = no_result_into cs (next e w) i none p
  no_result_into cs w i o (choice {j = j} e p) = no_result_into cs (next e w) i (some j) p
  no_result_into cs w i o (choice_other e p q) = no_result_into cs (next e w) i none p
  no_result_into cs w i o (not_there e p) = no_result_into cs (next e w) i none p
  no_result_into cs w i o (not_fails {j = j} e p) = no_result_into cs (next e w) i (some j) p
  no_result_into cs w i o (empty e) = next e w
  no_result_into cs w i o (range e l r) = next e w
  no_result_into cs w i o (range_fails e r) = next e w

pub no_result : {E : Rules} {k : ℕ} → TriesOn E k k → (cs : List ℕ) (i : ℕ) (o : Option ℕ) → Parses E cs k i o → ⊥
no_result back cs = no_result_into back cs back

-- THE MACHINE loops on every capture if rule 0 tries first, in one step or more, a rule that comes back to itself; rule 0 may be that rule
pub met_loops :
    (how : Matching) (gs cs : List ℕ) (k : ℕ) → (grammar_refusal gs).number ≡ 0 → Bytes cs →
    TriesOn (expression gs) 0 k → TriesOn (expression gs) k k → GoesOn (machine (built how gs) cs)
met_loops how gs cs k good bytes met back = (built_parses how gs cs good bytes).no_parse_goes_on (no_result_into back cs met 0)
