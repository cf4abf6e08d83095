-- The program's input: two pairs of offset and length, a grammar, a capture; and refusal 14. Assumes nothing: these are definitions.
use Rattle.std.specs.Prelude.{Bool, ◌&&◌, ◌||◌, cond, List, ℕ, ◌+◌, ltb, leb, eqb, length, drop}
use Rattle.refusal.specs.declared.Refusal.{Refusal}
use Rattle.codec.specs.Bytes.{section}
use Rattle.codec.specs.Numbers.{pair_at}
use Rattle.refusal.specs.First.{refusal, no_refusal}

-- the pairs' own length, where the grammar begins
abbrev pub pairs_length : ℕ
pairs_length = 16

-- where the pairs stand
abbrev pub grammar_pair : ℕ
grammar_pair = 0

abbrev pub capture_pair : ℕ
capture_pair = 8

-- the longest input, in bytes
abbrev pub max_input : ℕ
max_input = 65536

-- where the grammar ends and the capture begins, by the first pair's length
unfoldable pub capture_offset : List ℕ → ℕ
capture_offset xs = pairs_length + (pair_at xs grammar_pair).long

unfoldable pub first_pair_right : List ℕ → Bool
first_pair_right xs = eqb (pair_at xs grammar_pair).offset pairs_length && leb (capture_offset xs) (length xs)

unfoldable pub second_pair_right : List ℕ → Bool
second_pair_right xs =
    let p = pair_at xs capture_pair in
    eqb p.offset (capture_offset xs) && eqb (capture_offset xs + p.long) (length xs)

-- 14: the length, the first pair, the second one
unfoldable pub input_refusal : List ℕ → Refusal
input_refusal xs =
    cond (ltb (length xs) pairs_length || ltb max_input (length xs)) (refusal 14 0)
    (cond (first_pair_right xs) (cond (second_pair_right xs) no_refusal (refusal 14 capture_pair)) (refusal 14 grammar_pair))

unfoldable pub input_grammar : List ℕ → List ℕ
input_grammar xs = section xs pairs_length (pair_at xs grammar_pair).long

unfoldable pub input_capture : List ℕ → List ℕ
input_capture xs = drop (capture_offset xs) xs
