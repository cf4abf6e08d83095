-- The search for the line that a name names, and for names: what the letters where a line begins are to it, and what is passed. Assumes nothing: these are definitions.
use Rattle.std.specs.Prelude.{◌≡◌, Bool, ◌||◌, cond, List, ℕ, ◌≤◌, eqb, length}
use Rattle.syntax.specs.Tokens.{Token, name, sign, range, unknown, same, word}
use Rattle.syntax.specs.Faults.{first_undefined}
use Rattle.syntax.specs.Code.Heads.{heads_from}
use Rattle.scanner.specs.declared.Head.{Head}
use Rattle.scanner.specs.declared.Head.TheVariants.{Sought, Other, Nothing}
use Rattle.scanner.specs.Code.Scanning.{lexemes_at}
use Rattle.scanner.specs.Code.Scanning.{tokens_at}

-- a line's name that is the one sought, another line's name, or no name
unfoldable pub head_by : (sought : List ℕ) → Token → Head
head_by n (name m) = cond (same n m) Sought Other
head_by n (sign s) = Nothing
head_by n (range l h) = Nothing
head_by n unknown = Nothing

-- the same of all the letters where a line begins; where there are none, no name is there
unfoldable pub head_in : (sought letters : List ℕ) → Head
head_in n ls = cond (eqb (length ls) 0) Nothing (head_by n (word ls))

-- a byte inside a line that is not passed alone whatever follows it: a semicolon, or a quote, which may begin a range
unfoldable pub stops : ℕ → Bool
stops b = eqb b 59 || eqb b 39

-- the heads from a place on, where a line begins or not, are those from a later place on, where a line begins or not
pub record PassesHeads (text : List ℕ) (begins : Bool) (at : ℕ) (starts : Bool) (to : ℕ) : Type 0 where
  pub left : heads_from begins (tokens_at text at) ≡ heads_from starts (tokens_at text to)
  pub from : at ≤ to

-- from the first place to the second there is no name: the first one that is not defined, whatever is, is the same from both on
pub record PassesNames (text : List ℕ) (at to : ℕ) : Type 0 where
  pub left : (defined : List (List ℕ)) → first_undefined defined (lexemes_at text at) ≡ first_undefined defined (lexemes_at text to)
  pub from : at ≤ to
