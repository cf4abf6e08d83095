-- What writing a part of the line at a place of the buffer leaves. Assumes nothing: these are definitions.
use Rattle.std.specs.Prelude.{◌≡◌, List, ◌++◌, ℕ, ◌+◌, ◌-◌, ◌≤◌, min, length, take, drop}
use Rattle.machine.specs.declared.Config.{Config}
use Rattle.answer_line.specs.declared.Line.{Line}
use Rattle.answer_line.specs.Line.{written, config_fields}

-- a call writes a text from a place on, as far as there is room, and answers the place after it; what stands before the place and after the text stays
pub record Adds (text before : List ℕ) (at : ℕ) (after : List ℕ) (at_now : ℕ) : Type 0 where
  pub bytes : after ≡ take at before ++ written text (drop at before)
  pub counted : at_now ≡ at + min (length text) (length before - at)

-- the same of a line, whose buffer is still the one that it was given
pub record Writes (text : List ℕ) (line line_now : Line) : Type 0 where
  pub adds : Adds text line.out.now line.at line_now.out.now line_now.at
  pub same_buffer : line_now.out.ghost_name ≡ line.out.ghost_name

-- a configuration's numbers have 32 bits, so each field has at most ten digits after its space
pub record WritesConfig (c : Config) (line line_now : Line) : Type 0 where
  pub writes : Writes (config_fields c) line line_now
  pub short : length (config_fields c) ≤ 33
