-- Notes as document 03 states them: three implications, from what the run does to what a note holds. Assumes nothing: these are definitions.
use Rattle.std.specs.Prelude.{◌≡◌, List, ℕ, ◌+◌, get_or}
use Rattle.machine.specs.declared.Config.{Config}
use Rattle.machine.specs.Run.{Machine, ValidConfig, number}
use Rattle.machine.specs.Verdicts.{Entered, EndsAt, NoEnd}

-- 0 for what is never entered, 1 for what is entered and has no terminator, else 2 and the terminator's number
pub record NotedByImplication (M : Machine) (notes : List ℕ) : Type 0 where
  pub never : (c : Config) → (Entered M c → ⊥) → ValidConfig M c → get_or notes (number M c) 0 ≡ 0
  pub open_end : (c : Config) → Entered M c → NoEnd M c → get_or notes (number M c) 0 ≡ 1
  pub ended : (c d : Config) → Entered M c → EndsAt M c d → get_or notes (number M c) 0 ≡ 2 + number M d
