-- When judging is not refused, condition by condition as the paper's prose has them; and the rows that the paper's table of refusals has for it. Assumes nothing: these are definitions.
use Rattle.std.specs.Prelude.{◌≡◌, List, ℕ, ◌<◌, ◌≤◌, length}
use Rattle.machine.specs.Run.{how_many}
use Rattle.image.specs.Image.{machine}
use Rattle.image.specs.Conditions.{CaptureRight, CaptureRow}

-- an image and a capture that are right, and N notes and work cells
pub record JudgingRight (bs cs : List ℕ) (notes work : ℕ) : Type 0 where
  pub capture : CaptureRight bs (length cs)
  pub notes_room : how_many (machine bs cs) ≤ notes
  pub work_room : how_many (machine bs cs) ≤ work

-- THE TABLE'S ROWS, a constructor each: number and place; 0 at 0 says that judging is not refused. The lowest number decides
pub data JudgingRow (bs cs : List ℕ) (notes work : ℕ) : (number place : ℕ) → Type 0 where
  unrefused_judging : JudgingRight bs cs notes work → JudgingRow bs cs notes work 0 0
  refused_capture :
      {number place : ℕ} → CaptureRow bs (length cs) number place → (number ≡ 0 → ⊥) → JudgingRow bs cs notes work number place
  few_notes : CaptureRight bs (length cs) → notes < how_many (machine bs cs) → JudgingRow bs cs notes work 8 (how_many (machine bs cs))
  few_work :
      CaptureRight bs (length cs) → how_many (machine bs cs) ≤ notes → work < how_many (machine bs cs) →
      JudgingRow bs cs notes work 9 (how_many (machine bs cs))
