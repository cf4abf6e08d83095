-- The line that a rule of a typed grammar is of, and where that line's name stands in the text. Assumes nothing: these are definitions.
use Rattle.std.specs.Prelude.{◌≡◌, Bool, true, false, List, [], ◌∷◌, ℕ, suc, ◌+◌, ◌-◌, ◌<◌, ◌≤◌, length, get_or, take}
use Rattle.codec.specs.Bytes.{section}
use Rattle.syntax.specs.Tokens.{ends_line, Lexeme, lexemes}
use Rattle.syntax.specs.Trees.{Tree, Definition, Defines}
use Rattle.syntax.specs.Needs.{needs}

-- the offsets of the tokens that lines begin with: the first token, and each after a semicolon
unfoldable pub line_offsets : (begins : Bool) → List Lexeme → List ℕ
line_offsets b [] = []
line_offsets true (l ∷ ls) = l.offset ∷ line_offsets (ends_line l.token) ls
line_offsets false (l ∷ ls) = line_offsets (ends_line l.token) ls

-- the number of the first helper rule of line j: after the lines' own rules and the helper rules of the lines before
unfoldable pub first_helper : List Definition → (j : ℕ) → ℕ
first_helper ds j = length ds + (needs (take j ds) - j)

-- THE LINE THAT A RULE IS OF: a line's own rule has the line's number, and helper rules follow line by line
pub data LineOfRule (ds : List Definition) (k : ℕ) : (line : ℕ) → Type 0 where
  own : k < length ds → LineOfRule ds k k
  helper : {line : ℕ} → line < length ds → first_helper ds line ≤ k → k < first_helper ds (suc line) → LineOfRule ds k line

-- a line's name stands at an offset, where the line begins
pub record NameAt (text : List ℕ) (ds : List Definition) (line offset : ℕ) : Type 0 where
  pub name : List ℕ
  pub body : Tree
  pub defined : Defines ds line name body
  pub there : section text offset (length name) ≡ name
  pub begins : offset ≡ get_or (line_offsets true (lexemes text)) line 0
