-- What judging of checked input asks, and what its parts ask. Assumes nothing: these are definitions.
use Rattle.std.specs.Prelude.{◌≡◌, List, ℕ, ◌<◌, ◌≤◌, length, replicate}
use Rattle.machine.specs.Run.{how_many}
use Rattle.image.specs.declared.Sizes.{Sizes}
use Rattle.image.specs.Format
use Rattle.image.specs.Image.{machine}
use Rattle.image.specs.Refusals.{Unrefused, capture_refusal}
use Rattle.simulator.specs.Calls.{cells_needed}

-- image and capture are not refused, and there are exactly N notes and N work cells
pub record Checked (bs cs notes work : List ℕ) : Type 0 where
  pub unrefused : Unrefused bs cs
  pub notes_long : length notes ≡ how_many (machine bs cs)
  pub work_long : length work ≡ how_many (machine bs cs)

-- WHAT ONLY THE CODE NEEDS. The same with every cell 0
pub record Cleared (bs cs notes work : List ℕ) : Type 0 where
  pub unrefused : Unrefused bs cs
  pub notes_zero : notes ≡ replicate (how_many (machine bs cs)) 0
  pub work_zero : work ≡ replicate (how_many (machine bs cs)) 0

-- counts that some have, and few enough for their product to fit 32 bits
pub record FewEnough (s : Sizes) : Type 0 where
  pub symbols_some : 0 < s.symbols
  pub symbols_most : s.symbols ≤ Format.max_symbols
  pub places_some : 0 < s.places
  pub places_most : s.places ≤ Format.max_places

-- so many cells are needed for image and capture, which are not refused
pub record Sized (bs cs : List ℕ) (cells : ℕ) : Type 0 where
  pub no_refusal : (capture_refusal bs (length cs)).number ≡ 0
  pub counted : cells ≡ cells_needed bs (length cs)
