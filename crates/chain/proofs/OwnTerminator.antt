-- A configuration that pops is its own terminator: its head is its entry's pointer, so that a return changes nothing. Assumes nothing.
use mathlib.Core.Path.{◌≡◌}
use mathlib.Core.Bool.{Bool, true, false}
use mathlib.Core.List.{List}
use Prim.Native.Nat.{ℕ, ◌+◌}
use Rattle.machine.specs.declared.Action.{Action}
use Rattle.machine.specs.declared.Action.TheVariants.{Pop}
use Rattle.chain.specs.declared.Mode.TheVariants.{Unwind}
use Rattle.chain.specs.declared.Environment.{Environment}
use Rattle.chain.specs.declared.Registers.{Registers}
use Rattle.chain.specs.Step.{number_in, after_pop, resumed, with_reading, closed, first_look}
use Rattle.chain.specs.Code.StepParts.{registers_with, Pops, FirstLooks}

module _ (E : Environment) (r : Registers) (p : ℕ) (ws : List ℕ) where
  pub pops_pushed :
      r.pushed ≡ true → (b : Bool) →
      after_pop E r.at p r.at.head r.depth (r.readings + 1) ws ≡ closed E (with_reading E r) r.at (Pop p b) ws
  unfolding closed resumed
  pops_pushed e true = simp e
  pops_pushed e false = simp e

  pub pops_changed :
      r.pushed ≡ false → r.number ≡ number_in E r.at → (b : Bool) →
      registers_with Unwind r.at r.number r.pushed r.depth (r.readings + 1) ≡ closed E (with_reading E r) r.at (Pop p b) ws
  unfolding closed
  pops_changed e f b = simp (e, f)

-- so a first look at it, whether its pop returns or not
pub first_pops :
    {E : Environment} {r x : Registers} {p : ℕ} {ns ns' ws : List ℕ} {b : Bool} {a : Action} → Pops E r x p ns ns' ws → a ≡ Pop p b →
    FirstLooks E r a x ns ns' ws ws
unfolding first_look
first_pops {b = b} s e = record { is = rw (e, s.closes b, s.notes_are) }
