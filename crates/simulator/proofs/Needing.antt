-- How many cells judging needs, by the capture's length alone; and the answer of the call `cells`, by its tests. Assumes nothing.
use Rattle.std.specs.Prelude.{Err, Ok}
use mathlib.Core.Path.{◌≡◌, refl}
use mathlib.Core.List.{List}
use Prim.Native.Nat.{ℕ, ◌+◌, ◌*◌, ◌≤◌}
use native.Mathlib.Omega.{arith}
use lib.ListN.{length, replicate, length-replicate}
use Rattle.refusal.specs.declared.Refusal.{Refusal}
use Rattle.refusal.specs.Checking.{checked}
use Rattle.refusal.proofs.Checked.{checked-passes, checked-refuses, checked-refused}
use Rattle.image.specs.Format
use Rattle.machine.specs.Run.{how_many}
use Rattle.image.specs.Image.{machine, states, symbols}
use Rattle.image.specs.Refusals.{image_refusal, Unrefused}
use Rattle.image.proofs.Rules.{good}
use Rattle.simulator.specs.Calls.{cells_needed, needs}
use Rattle.chain.proofs.StepSafe.{few_cells, few_places}
use Rattle.chain_theory.proofs.Finish.{zeros}

pub cells_are : (bs cs : List ℕ) → cells_needed bs (length cs) ≡ how_many (machine bs cs)
unfolding cells_needed how_many machine
cells_are bs cs = refl

module _ (bs : List ℕ) (n : ℕ) (g : (image_refusal bs).number ≡ 0) (s : n ≤ Format.max_capture) where
  -- a capture of that length is not refused: what holds of any capture holds of this one
  pub some_capture : Unrefused bs (replicate n 0)
  some_capture =
      record {
        good = g;
        short = let l = length-replicate {A = ℕ} n 0 in omega (arith, l, s);
        bytes = λ i. let z = zeros n i in omega (arith, z);
      }

  pub counts_there : Format.map_offset ≤ length bs
  counts_there = omega (arith, (good some_capture).long)

  pub few_places_of : states bs * (n + 2) ≤ Format.max_states * Format.max_places
  few_places_of = let f = few_places some_capture in rw (length-replicate {A = ℕ} n 0) at f

  pub few_cells_of : states bs * (n + 2) * symbols bs ≤ Format.max_states * Format.max_places * Format.max_symbols
  unfolding how_many machine
  few_cells_of = let f = few_cells some_capture in rw (length-replicate {A = ℕ} n 0) at f

-- for the function that counts them
pub ruleset counting = (counts_there, few_places_of, few_cells_of)

-- the answer of the call
module _ (f : Refusal) (n : ℕ) where
  pub needs_none : {e : Refusal} → checked f ≡ Err e → Err e ≡ needs f n
  unfolding needs
  needs_none {e} h = rw (checked-refuses f e h, checked-refused f e h) refl

  pub needs_cells : checked f ≡ Ok tt → Ok n ≡ needs f n
  unfolding needs
  needs_cells h = rw (checked-passes f h) refl
