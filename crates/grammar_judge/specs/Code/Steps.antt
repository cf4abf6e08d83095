-- What the steps of an answer may assume, and what they leave: only the code needs these. Assumes nothing: these are definitions.
use Rattle.std.specs.Prelude.{List, ℕ, ◌≤◌, length}
use Rattle.simulator.specs.Code.Checked.{Sized}

-- a good image, a capture that is not too long, and cells enough
pub record JudgeReady (bs cs : List ℕ) (cells : ℕ) (notes work : List ℕ) : Type 0 where
  pub sized : Sized bs cs cells
  pub notes_enough : cells ≤ length notes
  pub work_enough : cells ≤ length work
