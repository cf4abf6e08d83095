-- What notes and work cells hold while the judge goes on. When the verdict stands an open note is 1 and every work cell 0. Assumes nothing: these are definitions.
-- Work cells are a stack: from the first on the numbers of the open configurations, the newest last; the cells above are 0.
use Rattle.std.specs.Prelude.{Bool, cond, ℕ, ◌+◌, ◌*◌, ◌/◌, ◌%◌, leb}
use Rattle.machine.specs.declared.Config.{Config}
use Rattle.machine.specs.declared.Note.{Note}
use Rattle.machine.specs.declared.Note.TheVariants.{Open}
use Rattle.machine.specs.Verdicts.{note_of}

-- THE NOTE OF AN OPEN CONFIGURATION: a bit that no closed note has, then its head, its symbol, and whether a push entered it
abbrev pub open_bit : ℕ
open_bit = 2147483648

abbrev pub open_note : Config → (pushed : Bool) → ℕ
open_note c b = open_bit + c.head * 256 + c.symbol * 2 + cond b 1 0

-- its head and its symbol again
abbrev pub head_told : (cell : ℕ) → ℕ
head_told v = v / 256 % 131072

abbrev pub symbol_told : (cell : ℕ) → ℕ
symbol_told v = v / 2 % 128

-- what a note says while the judge goes on
unfoldable pub cell_note : (cell : ℕ) → Note
cell_note v = cond (leb open_bit v) Open (note_of v)
