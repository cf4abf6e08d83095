-- What the call `read` answers: a grammar's bytes by value, or a refusal. Assumes nothing: these are definitions.
use Rattle.std.specs.Prelude.{◌≡◌, List, ◌++◌, ℕ, ◌*◌, ◌-◌, length, replicate, Result, Ok, Err}
use Rattle.refusal.specs.declared.Refusal.{Refusal}
use Rattle.grammar.specs.Grammar.{max_rules}
use Rattle.syntax.specs.Reading.{Reading, Refused, Grammar, ReadSays}
use Rattle.reader.specs.declared.GrammarBytes.{GrammarBytes}

-- a grammar's bytes, and 0 after them
abbrev pub padded : List ℕ → List ℕ
padded gs = gs ++ replicate (4 * max_rules - length gs) 0

-- a reading, as the code answers it
unfoldable pub grammar_answer : Reading → Result GrammarBytes Refusal
grammar_answer (Refused f) = Err f
grammar_answer (Grammar gs) = Ok (record { bytes = padded gs; length = length gs })

-- THE CALL
pub record ReadTells (text : List ℕ) (r : Result GrammarBytes Refusal) : Type 0 where
  pub reading : Reading
  pub says : ReadSays text reading
  pub told : r ≡ grammar_answer reading
