-- The program on C5: its 20 bytes of input, its buffers, and the whole output. Assumes nothing: these are definitions.
use Rattle.std.specs.Prelude.{◌≡◌, List, [], ◌∷◌, ◌++◌, ℕ, ◌+◌, ◌≤◌, length}
use Rattle.codec.specs.Numbers.{pair, pair_bytes}
use Rattle.answer.specs.Input.{pairs_length}
use Rattle.answer_line.specs.Line.{max_line}
use Rattle.grammar_judge.specs.Calls.{Lent}
use Rattle.worked_examples.specs.Examples.{endless_grammar}

-- 10000000 04000000 14000000 00000000, and C5's grammar of four bytes, 01000000
unfoldable pub endless_input : List ℕ
endless_input = pair_bytes (pair pairs_length 4) ++ pair_bytes (pair (pairs_length + 4) 0) ++ endless_grammar

-- looping 2 1 1 1 and a line feed, in ASCII
unfoldable pub endless_line : List ℕ
endless_line = 108 ∷ 111 ∷ 111 ∷ 112 ∷ 105 ∷ 110 ∷ 103 ∷ 32 ∷ 50 ∷ 32 ∷ 49 ∷ 32 ∷ 49 ∷ 32 ∷ 49 ∷ 10 ∷ []

-- a 65,536-byte image buffer, 16,384 notes, as many work cells, and room for every line
pub record ProgramRoom (x : Lent) (out : List ℕ) : Type 0 where
  pub image : length x.image ≡ 65536
  pub notes : length x.notes ≡ 16384
  pub work : length x.work ≡ 16384
  pub line : max_line ≤ length out
