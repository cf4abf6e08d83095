-- What a capture of a bundle asks of it; and what adding a line to totals asks of them, and gives. Assumes nothing: these are definitions.
use Rattle.std.specs.Prelude.{List, ℕ, ◌*◌, ◌+◌, ◌<◌, ◌≤◌}
use Rattle.machine.specs.declared.Verdict.TheVariants.{Accepted, Ended, Stuck, Looping, Halted}
use Rattle.simulator.specs.Answers.{Judged}
use Rattle.bundle.specs.declared.Totals.{Totals}
use Rattle.bundle.specs.Format.{count}
use Rattle.bundle.specs.Conditions.{BundleRight}
use Rattle.bundle.specs.Report.{gives, is_refused, line_readings}

-- capture i is one of a bundle that is not refused
pub record Listed (xs : List ℕ) (i : ℕ) : Type 0 where
  pub good : BundleRight xs
  pub there : i < count xs

-- the most that 32 bits hold: more readings no line has
abbrev pub max_u32 : ℕ
max_u32 = 4294967295

-- totals of so many lines at most, so that they can take one more
pub record RoomAfter (lines : ℕ) (t : Totals) : Type 0 where
  pub accepted : t.accepted ≤ lines
  pub ended : t.ended ≤ lines
  pub stuck : t.stuck ≤ lines
  pub looping : t.looping ≤ lines
  pub halted : t.halted ≤ lines
  pub refused : t.refused ≤ lines
  pub readings : t.readings ≤ lines * max_u32

-- totals with one line more
abbrev pub with_line : Totals → Judged → Totals
with_line t r =
    record {
      accepted = t.accepted + gives Accepted r;
      ended = t.ended + gives Ended r;
      stuck = t.stuck + gives Stuck r;
      looping = t.looping + gives Looping r;
      halted = t.halted + gives Halted r;
      refused = t.refused + is_refused r;
      readings = t.readings + line_readings r;
    }
