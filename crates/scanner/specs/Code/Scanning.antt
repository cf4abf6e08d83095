-- What the scanner finds from a place of a text on. Assumes nothing: these are definitions.
use Rattle.std.specs.Prelude.{Option, Some, None, ◌≡◌, Bool, false, ◌||◌, List, [], ◌∷◌, ◌⊎◌, ℕ, ◌+◌, ◌<◌, ◌≤◌, length, drop}
use Rattle.codec.specs.Bytes.{byte, section}
use Rattle.syntax.specs.declared.Token as Code
use Rattle.syntax.specs.declared.Token.TheVariants.{Name, Sign, Range, Unknown}
use Rattle.syntax.specs.Tokens.{Token, Lexeme, name, sign, range, unknown, is_semicolon, tokens, lexemes_from, skipped, same, empty_word, fail_word, word, token_at, width_at}
use Rattle.syntax.specs.Faults.{is_equals}
use Rattle.scanner.specs.declared.Lexeme as Scanner

-- the lexemes from a place on, where a token may begin
unfoldable pub lexemes_at : (text : List ℕ) → (at : ℕ) → List Lexeme
lexemes_at text i = lexemes_from 0 i (drop i text)

-- the tokens from a place on
abbrev pub tokens_at : (text : List ℕ) → (at : ℕ) → List Token
tokens_at text i = tokens (lexemes_at text i)

-- the token that the scanner's token at an offset stands for
unfoldable pub token_of : (text : List ℕ) → (offset : ℕ) → Code.Token → Token
token_of text o (Name k) = name (section text o k)
token_of text o (Sign s) = sign s
token_of text o (Range r) = range r.low r.high
token_of text o Unknown = unknown

-- whether a line begins after the scanner's token
abbrev pub ends : Code.Token → Bool
ends (Name k) = false
ends (Sign s) = is_semicolon s
ends (Range r) = false
ends Unknown = false

-- whether the scanner's token is =
abbrev pub equals : Code.Token → Bool
equals (Name k) = false
equals (Sign s) = is_equals s
equals (Range r) = false
equals Unknown = false

-- whether letters are a reserved word
unfoldable pub reserved : (letters : List ℕ) → Bool
reserved ls = same ls empty_word || same ls fail_word

-- a lexeme is the first from the place on, and the others follow after it
pub record ScansTo (text : List ℕ) (at : ℕ) (l : Scanner.Lexeme) : Type 0 where
  pub first :
      lexemes_at text at ≡ record { offset = l.offset; token = token_of text l.offset l.token } ∷ lexemes_at text l.next
  pub from : at ≤ l.offset
  pub some : l.offset < l.next
  pub within : l.next ≤ length text
  pub named : (k : ℕ) → l.token ≡ Name k → l.offset + k ≡ l.next

abbrev pub Scans : (text : List ℕ) → (at : ℕ) → Option Scanner.Lexeme → Type 0
Scans text at (Some l) = ScansTo text at l
Scans text at None = lexemes_at text at ≡ []

-- from the first place to the second there is nothing but what is skipped, and at the second a token begins, if it is in the text
pub record Skips (text : List ℕ) (at to : ℕ) : Type 0 where
  pub rest : lexemes_at text at ≡ lexemes_at text to
  pub from : at ≤ to
  pub stops : to < length text → skipped (byte text to) ≡ false

-- a token is what a run of letters is, in whatever text they stand
pub record ScansWord (letters : List ℕ) (t : Code.Token) : Type 0 where
  pub stands : (text : List ℕ) (at : ℕ) → section text at (length letters) ≡ letters → token_of text at t ≡ word letters
  pub named : (k : ℕ) → t ≡ Name k → k ≡ length letters

-- a lexeme is the token at the place
pub record ScansToken (text : List ℕ) (at : ℕ) (l : Scanner.Lexeme) : Type 0 where
  pub there : l.offset ≡ at
  pub stands : token_of text at l.token ≡ token_at (drop at text)
  pub wide : l.next ≡ at + width_at (drop at text)
  pub named : (k : ℕ) → l.token ≡ Name k → at + k ≡ l.next

-- a lexeme; where there is none, a token that is none
abbrev pub Peeks : (text : List ℕ) → (at : ℕ) → Scanner.Lexeme → Type 0
Peeks text at l = ScansTo text at l ⊎ ((lexemes_at text at ≡ []) × (l.token ≡ Unknown))
