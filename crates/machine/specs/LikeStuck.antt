-- A halting rule beside a missing one: a machine, and the same one with missing rules for its halting ones. Assumes nothing: these are definitions.
use Rattle.std.specs.Prelude.{◌≡◌, List, ◌↔◌, ℕ}
use Rattle.machine.specs.declared.Config.{Config}
use Rattle.machine.specs.declared.Reason.TheVariants.{Missing, Halting}
use Rattle.machine.specs.declared.Action.{Action}
use Rattle.machine.specs.declared.Action.TheVariants.{Stop, Change, Push, Pop}
use Rattle.machine.specs.declared.Verdict.{Verdict}
use Rattle.machine.specs.declared.Verdict.TheVariants.{Accepted, Ended, Stuck, Looping, Halted}
use Rattle.machine.specs.Run.{Machine, Description, after}
use Rattle.machine.specs.Verdicts.{Says, Noted, AllEntered}

unfoldable pub missing_for_halting : Action → Action
missing_for_halting (Stop r) = Stop Missing
missing_for_halting (Change c) = Change c
missing_for_halting (Push c) = Push c
missing_for_halting (Pop p r) = Pop p r

unfoldable pub without_halting : Machine → Machine
without_halting M =
    record {
      states = M.states;
      places = M.places;
      symbols = M.symbols;
      action = λ c. missing_for_halting (M.action c);
      accepting = M.accepting;
    }

-- LIKE STUCK: M runs through the same descriptions as N, with the same notes and as many readings; where M halts N is stuck, at the same end configuration; and in no other verdict do they differ
pub record LikeStuck (M N : Machine) : Type 0 where
  pub runs : (n : ℕ) (x : Description) → after n M x ≡ after n N x
  pub notes : (ns : List ℕ) → Noted M ns ↔ Noted N ns
  pub readings : (count : ℕ) → AllEntered M count ↔ AllEntered N count
  pub halted : (d : Config) → Says M Halted d ↔ (Says N Stuck d × (M.action d ≡ Stop Halting))
  pub stuck : (d : Config) → Says M Stuck d ↔ (Says N Stuck d × (M.action d ≡ Stop Halting → ⊥))
  pub others :
      (v : Verdict) (d : Config) → (v ≡ Stuck → ⊥) → (v ≡ Halted → ⊥) → Says M v d ↔ Says N v d

-- the verdict that it then has
unfoldable pub stuck_for_halted : Verdict → Verdict
stuck_for_halted Accepted = Accepted
stuck_for_halted Ended = Ended
stuck_for_halted Stuck = Stuck
stuck_for_halted Looping = Looping
stuck_for_halted Halted = Stuck
