-- The program's buffers, and what it prints. Assumes nothing: these are definitions.
use Rattle.std.specs.Prelude.{◌≡◌, List, ℕ, ◌+◌, ◌≤◌, length, take}
use Rattle.answer_line.specs.Line.{max_line}
use Rattle.answer.specs.Input.{max_input}
use Rattle.grammar_judge.specs.Calls.{Lent}
use Rattle.answer.specs.Calls.{InputSays}

-- a 65,536-byte image buffer, 16,384 notes, as many work cells, room for every line; and room for one byte more than the longest input, with what was read in it
pub record Buffers (input : List ℕ) (count : ℕ) (image notes work line : List ℕ) : Type 0 where
  pub input_long : length input ≡ max_input + 1
  pub input_read : count ≤ length input
  pub image_long : length image ≡ 65536
  pub notes_long : length notes ≡ 16384
  pub work_long : length work ≡ 16384
  pub line_long : length line ≡ max_line

-- the first so many bytes of the line's buffer are the line for the input, whole
pub record Prints (xs : List ℕ) (before after : Lent) (buffer_now : List ℕ) (count : ℕ) : Type 0 where
  pub right : InputSays xs before after (take count buffer_now)
  pub within : count ≤ length buffer_now
