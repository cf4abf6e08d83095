-- The earliest fault of a text, as the request's prose has it: by which tokens a legal text can begin. Assumes nothing: these are definitions.
use Rattle.std.specs.Prelude.{◌≡◌, List, [], ◌∷◌, ◌++◌, ℕ, length}
use Rattle.refusal.specs.declared.Refusal.{Refusal}
use Rattle.refusal.specs.First.{refusal}
use Rattle.syntax.specs.Tokens.{Token, Lexeme, lexemes, tokens}
use Rattle.syntax.specs.Trees.{Definition, Legal, max_depth}

-- tokens with which some legal text begins
abbrev pub Viable : (deep : ℕ) → List Token → Type 0
Viable d ts = (us : List Token) × (ds : List Definition) × Legal d (ts ++ us) ds

-- THE EARLIEST FAULT: a token with which no legal text goes on, however deep brackets may nest; a bracket with which one would only if they nested deeper; or the text's end
pub data WrongAt (text : List ℕ) : Refusal → Type 0 where
  misplaced :
      (before later : List Lexeme) (l : Lexeme) → lexemes text ≡ before ++ (l ∷ later) → Viable max_depth (tokens before) →
      ((d : ℕ) → Viable d (tokens before ++ (l.token ∷ [])) → ⊥) → WrongAt text (refusal 15 l.offset)
  too_deep :
      (before later : List Lexeme) (l : Lexeme) (d : ℕ) → lexemes text ≡ before ++ (l ∷ later) → Viable max_depth (tokens before) →
      (Viable max_depth (tokens before ++ (l.token ∷ [])) → ⊥) → Viable d (tokens before ++ (l.token ∷ [])) →
      WrongAt text (refusal 17 l.offset)
  ends_early :
      Viable max_depth (tokens (lexemes text)) → ((ds : List Definition) → Legal max_depth (tokens (lexemes text)) ds → ⊥) →
      WrongAt text (refusal 15 (length text))
