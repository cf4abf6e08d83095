-- Grammars as text with what reading answers to each, as two tables: a grammar's bytes, or a refusal. Assumes nothing: these are definitions.
use Rattle.std.specs.Prelude.{◌≡◌, List, [], ◌∷◌, ◌++◌, ℕ, zero, suc, ◌-◌, Result}
use Prim.Native.Char.{code}
use Prim.Native.String as Characters
use Rattle.refusal.specs.declared.Refusal.{Refusal}
use Rattle.refusal.specs.First.{refusal}
use Rattle.grammar.specs.Grammar.{kind_sequence, kind_empty, range_bytes}
use Rattle.syntax.specs.Reading.{Reading, Refused, Grammar}
use Rattle.reader.specs.declared.GrammarBytes.{GrammarBytes}
use Rattle.reader.specs.Calls.{grammar_answer, ReadTells}

-- a byte for each character, all of them ASCII
unfoldable pub bytes_of : Characters.String → List ℕ
bytes_of Characters.[] = []
bytes_of (Characters.◌∷◌ c s) = code c ∷ bytes_of s

-- A ROW: a text and what reading it gives
pub record TextExample : Type 0 where
  pub text : Characters.String
  pub reading : Reading

abbrev reads : (text : Characters.String) → (bytes : List ℕ) → TextExample
reads s gs = record { text = s; reading = Grammar gs }

abbrev refused : (text : Characters.String) → (number place : ℕ) → TextExample
refused s n p = record { text = s; reading = Refused (refusal n p) }

-- the call `read` answers so, and not otherwise
unfoldable pub ReadSo : TextExample → Type 0
ReadSo e = (r : Result GrammarBytes Refusal) → ReadTells (bytes_of e.text) r → r ≡ grammar_answer e.reading

-- a rule that is a sequence of two, the empty one, and so many rules for any byte
abbrev sequence_bytes : (b c : ℕ) → List ℕ
sequence_bytes b c = kind_sequence ∷ b ∷ c ∷ 0 ∷ []

abbrev empty_bytes : List ℕ
empty_bytes = kind_empty ∷ 0 ∷ 0 ∷ 0 ∷ []

unfoldable pub any_bytes : (count : ℕ) → List ℕ
any_bytes zero = []
any_bytes (suc n) = range_bytes 0 255 ++ any_bytes n

-- so many sequences, each of the dot before and the sequence before
unfoldable pub chained : (count dot other : ℕ) → List ℕ
chained zero b c = []
chained (suc n) b c = sequence_bytes b c ++ chained n (b - 1) (suc c)

-- RANGES from minus to minus, from quote to quote, and one that matches nothing; a NAME that begins with a reserved word, and a line that is a name alone; 16 BRACKETS; 31 RULES: the line's own, one for each dot, and sequences from the last two dots on
unfoldable pub read_table : List TextExample
read_table =
    reads "a='---';" (range_bytes 45 45)
    ∷ reads "a=''-'';" (range_bytes 39 39)
    ∷ reads "a='z-a';" (range_bytes 122 97)
    ∷ reads "emptyx=.;" (range_bytes 0 255)
    ∷ reads "a=b;b=fail;" (sequence_bytes 1 2 ++ range_bytes 1 0 ++ empty_bytes)
    ∷ reads "a=((((((((((((((((.))))))))))))))));" (range_bytes 0 255)
    ∷ reads "a=................;" (sequence_bytes 1 30 ++ any_bytes 16 ++ chained 14 15 16)
    ∷ []

-- NO LINE; a quote too many, a range cut short, a capital; a reserved word for a name, a name twice; a line without its end, a slash before it; an undefined name, and one beside a fault that comes later; a seventeenth bracket; 32 rules
unfoldable pub refused_table : List TextExample
refused_table =
    refused "" 15 0
    ∷ refused "a='''-''';" 15 2
    ∷ refused "a='a-z" 15 2
    ∷ refused "A=.;" 15 0
    ∷ refused "empty=.;" 15 0
    ∷ refused "a=.;a=.;" 15 4
    ∷ refused "a=." 15 3
    ∷ refused "a=./;" 15 4
    ∷ refused "a=b;" 15 2
    ∷ refused "a=b;c" 15 5
    ∷ refused "a=(((((((((((((((((.)))))))))))))))));" 17 18
    ∷ refused "a=!................;" 16 20
    ∷ []
