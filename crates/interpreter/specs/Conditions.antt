-- When the plain run is not refused, condition by condition as the paper's prose has them; and the rows that the paper's table of refusals has for it. Assumes nothing: these are definitions.
use Rattle.std.specs.Prelude.{◌≡◌, List, ℕ, ◌<◌, length}
use Rattle.image.specs.Conditions.{CaptureRight, CaptureRow}

-- an image and a capture that are right, and some stack cell
pub record RunningRight (bs cs : List ℕ) (cells : ℕ) : Type 0 where
  pub capture : CaptureRight bs (length cs)
  pub some_cell : 0 < cells

-- THE TABLE'S ROWS, a constructor each: number and place; 0 at 0 says that the run is not refused. The lowest number decides
pub data RunningRow (bs cs : List ℕ) (cells : ℕ) : (number place : ℕ) → Type 0 where
  unrefused_run : RunningRight bs cs cells → RunningRow bs cs cells 0 0
  refused_capture :
      {number place : ℕ} → CaptureRow bs (length cs) number place → (number ≡ 0 → ⊥) → RunningRow bs cs cells number place
  no_cell : CaptureRight bs (length cs) → cells ≡ 0 → RunningRow bs cs cells 10 0
