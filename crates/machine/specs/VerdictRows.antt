-- Verdicts as document 03 states them: a row for each, and the first configuration to come again by where the run is after so many steps. Assumes nothing: these are definitions.
use Rattle.std.specs.Prelude.{◌≡◌, true, false, ℕ, ◌<◌, ◌≤◌, length}
use Rattle.std.proofs.Math.Option.{Option, none, some}
use Rattle.machine.specs.declared.Config.{Config}
use Rattle.machine.specs.declared.Reason.TheVariants.{Missing, Halting}
use Rattle.machine.specs.declared.Verdict.{Verdict}
use Rattle.machine.specs.declared.Verdict.TheVariants.{Accepted, Ended, Stuck, Looping, Halted}
use Rattle.machine.specs.Run.{config, Machine, Description, Outcome, stopped, over, step, start, after, config_of}
use Rattle.machine.specs.Verdicts.{GoesOn}

-- the run comes to d, and what its step from there comes out as
pub record ComesTo (M : Machine) (d : Config) (o : Outcome) : Type 0 where
  pub steps : ℕ
  pub place : Description
  pub reached : after steps M start ≡ some place
  pub is : config_of place ≡ d
  pub last : step M place ≡ o

-- the stack's height and the configuration at a place, and 0 where there is none
unfoldable pub depth_at : Option Description → ℕ
depth_at none = 0
depth_at (some x) = length x.stack

unfoldable pub config_at : Option Description → Config
config_at none = config 0 0 0
config_at (some x) = config_of x

-- for looping, the first configuration to come again while the stack has not gone below its earlier entry
pub record ComesAgain (M : Machine) (k : ℕ) : Type 0 where
  pub earlier : ℕ
  pub before : earlier < k
  pub same : config_at (after earlier M start) ≡ config_at (after k M start)
  pub above : (m : ℕ) → earlier ≤ m → m ≤ k → depth_at (after earlier M start) ≤ depth_at (after m M start)

pub record FirstToComeAgain (M : Machine) (d : Config) : Type 0 where
  pub at_step : ℕ
  pub again : ComesAgain M at_step
  pub first : (j : ℕ) → j < at_step → ComesAgain M j → ⊥
  pub is : config_at (after at_step M start) ≡ d

-- THE ROWS; that of halted is document 04's
unfoldable pub SaysByRow : Machine → Verdict → Config → Type 0
SaysByRow M Accepted d = (p : ℕ) × (i : ℕ) × ComesTo M d (over p i) × (M.accepting p i ≡ true)
SaysByRow M Ended d = (p : ℕ) × (i : ℕ) × ComesTo M d (over p i) × (M.accepting p i ≡ false)
SaysByRow M Stuck d = ComesTo M d (stopped Missing)
SaysByRow M Looping d = GoesOn M × FirstToComeAgain M d
SaysByRow M Halted d = ComesTo M d (stopped Halting)
