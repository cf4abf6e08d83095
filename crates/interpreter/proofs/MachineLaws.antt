-- The machine of an image and a capture that are not refused can be run on the cells. Assumes nothing.
use mathlib.Core.Path.{◌≡◌, sym, ◌∙◌}
use mathlib.Core.Bool.{Bool}
use mathlib.Core.List.{List}
use Prim.Native.Nat.{ℕ, ◌≤◌, ◌<◌}
use native.Mathlib.Omega.{arith}
use lib.ListN.{length}
use Rattle.machine.specs.declared.Config.{Config}
use Rattle.image.specs.declared.Sizes.{Sizes}
use Rattle.machine.specs.declared.Action.{Action}
use Rattle.machine.specs.declared.Action.TheVariants.{Pop}
use Rattle.image.specs.Format
use Rattle.machine.specs.Run.{ValidConfig}
use Rattle.image.specs.Image.{machine, action}
use Rattle.image.specs.Refusals.{Unrefused}
use Rattle.interpreter.specs.declared.step.RunState.{RunState}
use Rattle.interpreter.specs.Code.Stepping.{max_steps, TakeReady, PlainStepReady}
use Rattle.image.proofs.Rules.{good}
use Rattle.image.proofs.Inside.{inside}
use Rattle.interpreter.proofs.ReadyLaws.{Runnable, entry_ready}

pub image_long : (bs cs : List ℕ) → Unrefused bs cs → Format.map_offset ≤ length bs
image_long bs cs h = omega (arith, (good h).long)

pub runnable : (bs cs : List ℕ) → Unrefused bs cs → Runnable (machine bs cs)
unfolding machine
runnable bs cs h =
    record {
      states_few = (good h).states_most;
      places_few = omega (arith, h.short);
      symbols_few = (good h).symbols_most;
      inside = inside bs cs h;
    }

-- a pop leads to a state of the machine's
pop_state :
    (bs cs : List ℕ) (c : Config) (p : ℕ) (t : Bool) → Unrefused bs cs → ValidConfig (machine bs cs) c → action bs cs c ≡ Pop p t → p < Format.max_states
unfolding machine
pop_state bs cs c p t u h e =
    let fit = runnable bs cs u in
    let l : p < (machine bs cs).states = fit.inside.pops c p t h e in
    omega (arith, fit.states_few)

-- with some budget left, what a step needs is enough to take it
pub take_ready :
    {bs cs : List ℕ} {z : Sizes} {f b : ℕ} {s : RunState} {ks : List ℕ} {a : Action} → a ≡ action bs cs s.at →
    PlainStepReady bs cs z f b s ks → s.steps < max_steps → TakeReady a s ks
take_ready {bs} {cs} {s = s} {ks} is r more =
    record {
      ready = entry_ready (machine bs cs) (runnable bs cs r.unrefused) s ks r.ready more;
      pops = λ p t e. pop_state bs cs s.at p t r.unrefused r.ready.there (sym is ∙ e);
    }
