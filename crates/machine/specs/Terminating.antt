-- The verdict of a run that terminates, and when a run that is over accepts. Assumes nothing: these are definitions.
use Rattle.std.specs.Prelude.{Bool, ◌&&◌, cond, ℕ, ◌+◌, ◌/◌, ◌%◌, ◌^◌, eqb}
use Rattle.machine.specs.declared.Reason.{Reason}
use Rattle.machine.specs.declared.Reason.TheVariants.{Missing, Halting}
use Rattle.machine.specs.declared.Termination.{Termination}
use Rattle.machine.specs.declared.Termination.TheVariants.{Over, Stopped}
use Rattle.machine.specs.declared.Verdict.{Verdict}
use Rattle.machine.specs.declared.Verdict.TheVariants.{Accepted, Ended, Stuck, Halted}

-- the verdict of a run that a rule stops
unfoldable pub stop_verdict : Reason → Verdict
stop_verdict Missing = Stuck
stop_verdict Halting = Halted

-- the verdict of a run by how it terminates
unfoldable pub termination_verdict : Termination → Verdict
termination_verdict (Over accepting) = cond accepting Accepted Ended
termination_verdict (Stopped r) = stop_verdict r

-- ACCEPTING: the state's bit in the finals is 1, and the head is on the last place, the right marker
unfoldable pub accepts_by : (finals places state head : ℕ) → Bool
accepts_by f m p i = eqb (f / 2 ^ p % 2) 1 && eqb (i + 1) m
