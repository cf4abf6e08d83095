-- The loop of the code walks along the plain run. Assumes nothing.
use mathlib.Core.Path.{◌≡◌, refl, sym, ◌∙◌}
use mathlib.Core.List.{List}
use Prim.Native.Nat.{ℕ, ◌-◌, ◌<◌}
use native.Mathlib.Omega.{arith}
use lib.ListN.{length}
use Rattle.std.specs.declared.ops.ControlFlow.TheVariants.{Continue, Break}
use Rattle.image.specs.declared.Sizes.{Sizes}
use Rattle.image.specs.Format
use Rattle.machine.specs.Run.{Machine, config, start}
use Rattle.codec.specs.Numbers.{u32_at}
use Rattle.image.specs.Image.{sizes_of, machine}
use Rattle.image.specs.Refusals.{Unrefused}
use Rattle.interpreter.specs.declared.Exit.{Exit}
use Rattle.interpreter.specs.declared.step.RunState.{RunState}
use Rattle.interpreter.specs.PlainRun.{run_end, run_on}
use Rattle.interpreter.specs.Code.Stepping.{stack_of, run_state, StepResult, StackReady, PlainStepReady, PlainStepSays, RunReady, RunAnswers}
use Rattle.interpreter.proofs.StepLaws.{run_from, Goes, Told, told}
use Rattle.interpreter.proofs.MachineLaws.{runnable}

-- where the loop is: the plain run of the call is the one that goes on from here
pub record Walked (bs cs : List ℕ) (z : Sizes) (f b : ℕ) (ks₀ : List ℕ) (s : RunState) (ks : List ℕ) : Type 0 where
  pub needs : PlainStepReady bs cs z f b s ks
  pub long : length ks ≡ length ks₀
  pub same : run_on b (machine bs cs) 0 (length ks₀) start ≡ run_from (machine bs cs) b s ks

none_below : (n i : ℕ) → n ≡ 0 → i < n → ⊥
none_below n i e h = omega arith

start_ready : (bs cs ks : List ℕ) → Unrefused bs cs → 0 < length ks → StackReady (machine bs cs) (run_state (config 0 0 0) 0 0 0) ks
start_ready bs cs ks u l =
    let starts = (runnable bs cs u).inside.starts in
    record {
      there = starts;
      pointer_below = starts.head_below;
      room = l;
      symbols_below = λ i h. absurd (none_below 0 i refl h);
      pointers_below = λ i h. absurd (none_below 0 i refl h);
    }

pub walk_starts :
    (bs cs : List ℕ) (z : Sizes) (f b : ℕ) (ks : List ℕ) → RunReady bs cs ks → z ≡ sizes_of bs cs → f ≡ u32_at bs Format.finals_offset →
    Walked bs cs z f b ks (run_state (config 0 0 0) 0 0 0) ks
unfolding start stack_of
walk_starts bs cs z f b ks r counts finals =
    let all : b - 0 ≡ b = omega arith in
    record {
      needs =
          record {
            unrefused = r.unrefused;
            counts = counts;
            finals_are = finals;
            within = omega arith;
            ready = start_ready bs cs ks r.unrefused r.some_cell;
          };
      long = refl;
      same = rw all refl;
    }

module _ {bs cs : List ℕ} {z : Sizes} {f b : ℕ} {ks₀ : List ℕ} {s : RunState} {ks : List ℕ} (here : Walked bs cs z f b ks₀ s ks) where
  -- what a step told, of the answer and the cells that the code gave
  told_of : (r : StepResult) (ks' : List ℕ) → PlainStepSays bs cs b s ks r ks' → Told (machine bs cs) b s ks ks' r
  unfolding machine
  told_of r ks' h =
      let n = here.needs in
      rw (h.result, h.cells) (told (machine bs cs) (runnable bs cs n.unrefused) b s ks n.ready n.within)

  pub goes_on :
      {t : RunState} {r : StepResult} {ks' : List ℕ} → r ≡ Continue t → PlainStepSays bs cs b s ks r ks' → Goes (machine bs cs) b s ks t ks'
  goes_on {t} {r} {ks'} e h = told_of (Continue t) ks' (rw e at h)

  pub answers :
      {x : Exit} {n : ℕ} {r : StepResult} {ks' : List ℕ} → r ≡ Break (x, n) → PlainStepSays bs cs b s ks r ks' →
      RunAnswers bs cs b (length ks₀) (run_end x n s.at)
  answers {x} {n} {r} {ks'} e h =
      let t : run_from (machine bs cs) b s ks ≡ run_end x n s.at = told_of (Break (x, n)) ks' (rw e at h) in
      sym (here.same ∙ t)

  pub walks_on : {t : RunState} {ks' : List ℕ} → Goes (machine bs cs) b s ks t ks' → Walked bs cs z f b ks₀ t ks'
  walks_on g =
      let n = here.needs in
      record {
        needs =
            record {
              unrefused = n.unrefused;
              counts = n.counts;
              finals_are = n.finals_are;
              within = omega (arith, g.more, g.counted);
              ready = g.ready;
            };
        long = g.long ∙ here.long;
        same = here.same ∙ g.same;
      }

pub walks_less : {M : Machine} {b : ℕ} {s t : RunState} {ks ks' : List ℕ} → Goes M b s ks t ks' → b - t.steps < b - s.steps
walks_less g = omega (arith, g.more, g.counted)
