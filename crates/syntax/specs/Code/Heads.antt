-- The names that lines begin with, told from the tokens alone: a name that is the first token, or the first after a semicolon. Of a legal text these are the names of its lines. Assumes nothing: these are definitions.
use Rattle.std.specs.Prelude.{Bool, true, false, List, [], ◌∷◌, ℕ}
use Rattle.syntax.specs.Tokens.{Token, name, sign, range, unknown, ends_line, lexemes, tokens}

-- the name that a line begins with, where the token is one and begins a line
unfoldable pub head_of : (begins : Bool) → Token → List (List ℕ) → List (List ℕ)
head_of true (name n) hs = n ∷ hs
head_of true (sign s) hs = hs
head_of true (range l h) hs = hs
head_of true unknown hs = hs
head_of false t hs = hs

unfoldable pub heads_from : (begins : Bool) → List Token → List (List ℕ)
heads_from b [] = []
heads_from b (t ∷ ts) = head_of b t (heads_from (ends_line t) ts)

abbrev pub heads : (text : List ℕ) → List (List ℕ)
heads text = heads_from true (tokens (lexemes text))
