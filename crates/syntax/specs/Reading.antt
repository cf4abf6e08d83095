-- What reading a text answers: a grammar's bytes, or a refusal. Assumes nothing: these are definitions.
use Rattle.std.specs.Prelude.{◌≡◌, List, ℕ}
use Rattle.refusal.specs.declared.Refusal.{Refusal}
use Rattle.syntax.specs.Trees.{Definition, LegalText}
use Rattle.syntax.specs.Faults.{fault}
use Rattle.syntax.specs.Needs.{later_refusal}
use Rattle.syntax.specs.Compile.{grammar_of}

pub data Reading : Type 0 where
  Refused : Refusal → Reading
  Grammar : (bytes : List ℕ) → Reading

-- THE CALL: the earliest fault; else the lines' own refusal; else their grammar
pub data ReadSays (text : List ℕ) : Reading → Type 0 where
  at_fault : ((fault text).number ≡ 0 → ⊥) → ReadSays text (Refused (fault text))
  refused : {ds : List Definition} → LegalText text ds → ((later_refusal text ds).number ≡ 0 → ⊥) → ReadSays text (Refused (later_refusal text ds))
  read : {ds : List Definition} → LegalText text ds → (later_refusal text ds).number ≡ 0 → ReadSays text (Grammar (grammar_of ds))
