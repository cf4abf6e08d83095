-- The answer's line, byte by byte, and a line that stands in a buffer. Assumes nothing: these are definitions.
use Rattle.std.specs.Prelude.{◌≡◌, cond, List, [], ◌∷◌, ◌++◌, ℕ, zero, suc, ◌+◌, ◌/◌, ◌%◌, ◌≤◌, min, ltb, length}
use Rattle.machine.specs.declared.Config.{Config}
use Rattle.refusal.specs.declared.Refusal.{Refusal}
use Rattle.machine.specs.declared.Verdict.{Verdict}
use Rattle.machine.specs.declared.Verdict.TheVariants.{Accepted, Ended, Stuck, Looping, Halted}

-- ASCII: the digit of a number below 10, the space, the line feed
abbrev pub digit : ℕ → ℕ
digit n = 48 + n

abbrev pub space : ℕ
space = 32

abbrev pub line_feed : ℕ
line_feed = 10

-- a number's decimal digits, the highest first, and no zero before them; a number has fewer digits than the most that are asked for here
unfoldable pub digits : (most value : ℕ) → List ℕ
digits zero v = []
digits (suc k) v = cond (ltb v 10) [] (digits k (v / 10)) ++ (digit (v % 10) ∷ [])

unfoldable pub decimal : ℕ → List ℕ
decimal n = digits (suc n) n

-- accepted, ended, stuck, looping, halted
unfoldable pub verdict_word : Verdict → List ℕ
verdict_word Accepted = 97 ∷ 99 ∷ 99 ∷ 101 ∷ 112 ∷ 116 ∷ 101 ∷ 100 ∷ []
verdict_word Ended = 101 ∷ 110 ∷ 100 ∷ 101 ∷ 100 ∷ []
verdict_word Stuck = 115 ∷ 116 ∷ 117 ∷ 99 ∷ 107 ∷ []
verdict_word Looping = 108 ∷ 111 ∷ 111 ∷ 112 ∷ 105 ∷ 110 ∷ 103 ∷ []
verdict_word Halted = 104 ∷ 97 ∷ 108 ∷ 116 ∷ 101 ∷ 100 ∷ []

-- refused
unfoldable pub refused_word : List ℕ
refused_word = 114 ∷ 101 ∷ 102 ∷ 117 ∷ 115 ∷ 101 ∷ 100 ∷ []

-- a number after a space
unfoldable pub field : ℕ → List ℕ
field n = (space ∷ []) ++ decimal n

-- a configuration: state, head, symbol
abbrev pub config_fields : Config → List ℕ
config_fields d = field d.state ++ field d.head ++ field d.symbol

-- THE LINE: fields with one space between them, and a line feed
unfoldable pub refusal_line : Refusal → List ℕ
refusal_line f = refused_word ++ field f.number ++ field f.place ++ (line_feed ∷ [])

-- of a typed grammar with a rule that leads back to itself: 19, the rule's number, and the offset of its line's name
unfoldable pub recursion_line : (rule name : ℕ) → List ℕ
recursion_line k o = refused_word ++ field 19 ++ field k ++ field o ++ (line_feed ∷ [])

-- of one with none: passes
unfoldable pub passes_line : List ℕ
passes_line = 112 ∷ 97 ∷ 115 ∷ 115 ∷ 101 ∷ 115 ∷ line_feed ∷ []

unfoldable pub answer_line : Verdict → (readings : ℕ) → (end : Config) → List ℕ
answer_line v n d = verdict_word v ++ field n ++ config_fields d ++ (line_feed ∷ [])

-- WRITING: the buffer with a text from its first byte on, as far as there is room
unfoldable pub written : (text buffer : List ℕ) → List ℕ
written [] bs = bs
written (a ∷ text) [] = []
written (a ∷ text) (b ∷ bs) = a ∷ written text bs

-- a buffer as it was and is now, and how many bytes of the text stand in it
pub record BufferHolds (text buffer buffer_now : List ℕ) (count : ℕ) : Type 0 where
  pub bytes : buffer_now ≡ written text buffer
  pub counted : count ≡ min (length text) (length buffer)

-- the longest line, in bytes
abbrev pub max_line : ℕ
max_line = 64

-- a line that is held, and fits a buffer of that length
pub record Lined (line buffer buffer_now : List ℕ) (count : ℕ) : Type 0 where
  pub holds : BufferHolds line buffer buffer_now count
  pub short : length line ≤ max_line
