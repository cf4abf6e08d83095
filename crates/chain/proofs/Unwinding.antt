-- What unwinding asks and comes to: the newest open configuration gets its terminator, and is popped where a push entered it. Assumes nothing.
use mathlib.Core.Path.{◌≡◌, refl}
use mathlib.Core.Bool.{false}
use mathlib.Core.List.{List}
use Prim.Native.Nat.{ℕ, ◌+◌, ◌-◌, ◌%◌}
use native.Mathlib.Omega.{arith}
use borrow.Author.Tests.{eq-eqb, ne_eqb}
use lib.ListN.{get_or, set}
use Rattle.machine.specs.declared.Action.{Action}
use Rattle.image.specs.Image.{action, machine}
use Rattle.chain.specs.declared.Mode.TheVariants.{Unwind}
use Rattle.chain.specs.declared.Environment.{Environment}
use Rattle.chain.specs.declared.Registers.{Registers}
use Rattle.chain.specs.Cells.{head_told}
use Rattle.chain.specs.Step.{resumed, unwound, unwind, step_by_mode}
use Rattle.chain.specs.Code.Ready.{OpenAt}
use Rattle.chain.specs.Code.StepParts.{registers_with, Resumable, StepsBy, Unwindable}
use Rattle.chain.proofs.OpenNotes.{pointer_is, pointer_low, note_set, work_set}
use Rattle.chain.proofs.StepSafe.{at_numbered, pop_low}

module _ {bs cs : List ℕ} {E : Environment} {r : Registers} {ns ws : List ℕ} (y : Unwindable bs cs E r ns ws) where
  pub newest_now : OpenAt E ns ws (r.depth - 1)
  newest_now = y.ready.newest y.one_open

  -- no push entered it: its predecessor is the next
  pub unwinds_on :
      {x : Registers} → get_or ns (get_or ws (r.depth - 1) 0) 0 % 2 ≡ 0 → x ≡ registers_with Unwind r.at r.number false (r.depth - 1) r.readings →
      StepsBy Unwind bs cs E r x ns (set ns (get_or ws (r.depth - 1) 0) (r.number + 2)) ws (set ws (r.depth - 1) 0)
  unfolding step_by_mode unwind unwound
  unwinds_on e f = record { is = rw (eq-eqb _ _ e, f, y.ready.number_is) refl }

  -- a push entered it: its entry is popped by the terminator, and its note tells the pointer
  module _ {a : Action} (acts : a ≡ action bs cs r.at) {i : ℕ} (told : i ≡ head_told (get_or ns (get_or ws (r.depth - 1) 0) 0)) where
    pub unwind_resumes :
        Resumable E r.at r.number a i (r.depth - 1) (set ns (get_or ws (r.depth - 1) 0) (r.number + 2)) (set ws (r.depth - 1) 0)
    unwind_resumes =
        record {
          terminator = at_numbered y.ready;
          state_low = pop_low y.ready.unrefused y.ready.environment_is y.ready.there acts;
          pointer_below = pointer_low newest_now (at_numbered y.ready).constants told;
          newest =
              λ some. work_set (r.depth - 1) 0 (λ e. omega arith)
              (note_set (get_or ws (r.depth - 1) 0) (r.number + 2) (y.ready.two some) (y.ready.next some));
        }

    pub unwinds_pop :
        {x : Registers} → (get_or ns (get_or ws (r.depth - 1) 0) 0 % 2 ≡ 0 → ⊥) → x ≡ resumed E r r.at a i (r.depth - 1) (set ws (r.depth - 1) 0) →
        StepsBy Unwind bs cs E r x ns (set ns (get_or ws (r.depth - 1) 0) (r.number + 2)) ws (set ws (r.depth - 1) 0)
    unfolding step_by_mode unwind unwound machine
    unwinds_pop e f =
        record { is = rw (ne_eqb _ _ e, f, ← acts, ← pointer_is newest_now (at_numbered y.ready).constants told, y.ready.number_is) refl }
