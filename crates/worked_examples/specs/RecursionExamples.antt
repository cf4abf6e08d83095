-- Grammars with what the check for left recursion says of them, as a table: what the definitions compute is promised of them. Assumes nothing: these are definitions.
use Rattle.std.specs.Prelude.{◌≡◌, List, [], ◌∷◌, ℕ}
use Rattle.refusal.specs.declared.Refusal.{Refusal}
use Rattle.refusal.specs.First.{refusal, no_refusal}
use Rattle.recursion.specs.Computed.{recursion_refusal}
use Rattle.worked_examples.specs.Examples.{empty_grammar, byte_grammar, endless_grammar, sequence_grammar, not_grammar, choice_grammar}

-- A ROW: a grammar and its refusal
pub record RecursionExample : Type 0 where
  pub grammar : List ℕ
  pub refused : Refusal

abbrev example : (grammar : List ℕ) → Refusal → RecursionExample
example gs f = record { grammar = gs; refused = f }

unfoldable pub RecursionSo : RecursionExample → Type 0
RecursionSo e = recursion_refusal e.grammar ≡ e.refused

-- a = (.?)*; as it is read: the repeated part may match nothing
abbrev repeated_option : List ℕ
repeated_option = 2 ∷ 4 ∷ 5 ∷ 0 ∷ 5 ∷ 0 ∷ 255 ∷ 0 ∷ 4 ∷ 0 ∷ 0 ∷ 0 ∷ 2 ∷ 1 ∷ 2 ∷ 0 ∷ 1 ∷ 3 ∷ 0 ∷ 0 ∷ 4 ∷ 0 ∷ 0 ∷ 0 ∷ []

-- the byte a, then the rule again
abbrev after_a_byte : List ℕ
after_a_byte = 1 ∷ 1 ∷ 0 ∷ 0 ∷ 5 ∷ 97 ∷ 97 ∷ 0 ∷ []

-- not the byte a, then the rule again
abbrev after_a_not : List ℕ
after_a_not = 1 ∷ 1 ∷ 0 ∷ 0 ∷ 3 ∷ 2 ∷ 0 ∷ 0 ∷ 5 ∷ 97 ∷ 97 ∷ 0 ∷ []

-- the byte a, or the rule again
abbrev as_other_part : List ℕ
as_other_part = 2 ∷ 1 ∷ 0 ∷ 0 ∷ 5 ∷ 97 ∷ 97 ∷ 0 ∷ []

-- rule 0 leads to rule 1 and not back; rules 1 and 2 lead to one another
abbrev into_a_cycle : List ℕ
into_a_cycle = 1 ∷ 1 ∷ 1 ∷ 0 ∷ 1 ∷ 2 ∷ 2 ∷ 0 ∷ 1 ∷ 1 ∷ 1 ∷ 0 ∷ []

-- rule 0 leads back to itself, and rule 1 is not right
abbrev wrong_besides : List ℕ
wrong_besides = 1 ∷ 0 ∷ 0 ∷ 0 ∷ 9 ∷ 0 ∷ 0 ∷ 0 ∷ []

-- C5's grammar leads back at rule 0, and those of the other captures pass
unfoldable pub recursion_table : List RecursionExample
recursion_table =
    example endless_grammar (refusal 19 0)
    ∷ example empty_grammar no_refusal
    ∷ example byte_grammar no_refusal
    ∷ example sequence_grammar no_refusal
    ∷ example not_grammar no_refusal
    ∷ example choice_grammar no_refusal
    ∷ example repeated_option (refusal 19 0)
    ∷ example after_a_byte no_refusal
    ∷ example after_a_not (refusal 19 0)
    ∷ example as_other_part (refusal 19 0)
    ∷ example into_a_cycle (refusal 19 1)
    ∷ example wrong_besides (refusal 12 4)
    ∷ example [] (refusal 11 0)
    ∷ []
