-- The cells that the grammar's machine needs. Assumes nothing: these are definitions.
use Rattle.std.specs.Prelude.{◌≡◌, List, ℕ, length}
use Rattle.machine.specs.Run.{how_many}
use Rattle.image.specs.Image.{machine}
use Rattle.builder.specs.declared.Matching.{Matching}
use Rattle.builder.specs.Image.{built}

-- N of the built image's machine, by either choice, with any capture of n bytes
abbrev pub CellsAre : List ℕ → (n cells : ℕ) → Type 0
CellsAre gs n k = (how : Matching) (cs : List ℕ) → length cs ≡ n → k ≡ how_many (machine (built how gs) cs)
