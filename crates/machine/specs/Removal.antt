-- When and from where the run removes an entry, and what a note tells of that, each time that its configuration is entered. Assumes nothing: these are definitions.
use Rattle.std.specs.Prelude.{◌≡◌, Bool, List, ℕ, suc, ◌+◌, ◌≤◌, length}
use Rattle.std.proofs.Math.Option.{some}
use Rattle.machine.specs.declared.Config.{Config}
use Rattle.machine.specs.declared.Action.TheVariants.{Pop}
use Rattle.machine.specs.declared.Note.{Note}
use Rattle.machine.specs.declared.Note.TheVariants.{Open, Closed}
use Rattle.machine.specs.Run.{Machine, ValidConfig, Entry, Description, start, after, number}
use Rattle.machine.specs.Verdicts.{over_base}

-- the entry with pointer i that lies on base after n steps is removed later, by the step from d, and the stack is never lower in between
pub record Removed (M : Machine) (n i : ℕ) (base : List Entry) (d : Config) : Type 0 where
  pub wait : ℕ
  pub reached : after (n + wait) M start ≡ some (over_base d i base)
  pub pops : (p : ℕ) × (r : Bool) × (M.action d ≡ Pop p r)
  pub never_lower :
      (m : ℕ) (x : Description) → n ≤ m → m ≤ n + wait → after m M start ≡ some x → suc (length base) ≤ length x.stack

-- what a note tells of the run, each time that it enters the note's configuration: open, the entry then on top is never removed; closed, from where it is
pub data NoteTells (M : Machine) (n i : ℕ) (base : List Entry) : Note → Type 0 where
  kept : ((d : Config) → Removed M n i base d → ⊥) → NoteTells M n i base Open
  removed : {d : Config} → ValidConfig M d → Removed M n i base d → NoteTells M n i base (Closed (number M d))
