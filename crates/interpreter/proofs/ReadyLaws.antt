-- What a step needs, and that it is ready again after a change, a push or a pop. Assumes nothing.
use mathlib.Core.Path.{◌≡◌, refl}
use mathlib.Core.Bool.{Bool, true, false}
use mathlib.Core.List.{List}
use Prim.Native.Nat.{ℕ, ◌+◌, ◌-◌, ◌/◌, ◌%◌, ◌≤◌, ◌<◌}
use native.Mathlib.Omega.{arith}
use lib.Dec.{eqb}
use lib.ListN.{length, get_or, set, length-set}
use lib.Seq.{get_or-set_same, get_or-set_other}
use borrow.Author.Tests.{eqb-true, eqb-false}
use Rattle.machine.specs.declared.Config.{Config}
use Rattle.machine.specs.declared.Action.TheVariants.{Change, Push, Pop}
use Rattle.image.specs.Format
use Rattle.machine.specs.Run.{Machine, config, returned}
use Rattle.machine.proofs.Reach.{Inside}
use Rattle.interpreter.specs.declared.step.RunState.{RunState}
use Rattle.interpreter.specs.Code.Stepping.{cell_symbols, cell_of, run_state, StackReady, max_steps, PushReady}
use Rattle.interpreter.proofs.CellLaws.{cell_symbol, cell_pointer}

-- a machine whose rules lead to configurations of its own, small enough for the cells
pub record Runnable (M : Machine) : Type 0 where
  pub states_few : M.states ≤ Format.max_states
  pub places_few : M.places ≤ Format.max_places
  pub symbols_few : M.symbols ≤ Format.max_symbols
  pub inside : Inside M

-- a run that is ready has an entry that fits a cell
pub entry_ready : (M : Machine) → Runnable M → (s : RunState) (ks : List ℕ) → StackReady M s ks → s.steps < max_steps → PushReady s ks
entry_ready M fit s ks r more =
    record {
      more = more;
      head_few = omega (arith, r.there.head_below, fit.places_few);
      pointer_few = omega (arith, r.pointer_below, fit.places_few);
      symbol_few = omega (arith, r.there.symbol_below, fit.symbols_few);
      room = r.room;
    }

-- READY AGAIN after a change, a push, a pop
module _ (M : Machine) (fit : Runnable M) (s : RunState) (ks : List ℕ) (r : StackReady M s ks) where
  pub ready_change : (c : Config) (n : ℕ) → M.action s.at ≡ Change c → StackReady M (run_state c s.pointer s.below n) ks
  ready_change c n e =
      record {
        there = fit.inside.changes s.at c r.there e;
        pointer_below = r.pointer_below;
        room = r.room;
        symbols_below = r.symbols_below;
        pointers_below = r.pointers_below;
      }

  pub symbol_small : s.at.symbol < cell_symbols
  symbol_small = omega (arith, r.there.symbol_below, fit.symbols_few)

  -- what holds of each cell below and of the one that is written holds of one cell more
  one_more :
      (P : ℕ → Type 0) (n v : ℕ) → n < length ks → ((i : ℕ) → i < n → P (get_or ks i 0)) → P v →
      (i : ℕ) → i < n + 1 → P (get_or (set ks n v) i 0)
  one_more P n v l h g i q = go (eqb i n) refl
    where
      go : (t : Bool) → eqb i n ≡ t → P (get_or (set ks n v) i 0)
      go true e = rw (eqb-true i n e, get_or-set_same ks n v 0 l) g
      go false e = rw (get_or-set_other ks n i v 0 (eqb-false i n e)) (h i (omega (arith, eqb-false i n e)))

  pub ready_push :
      (c : Config) (n : ℕ) → M.action s.at ≡ Push c → s.below + 1 < length ks →
      StackReady M (run_state c c.head (s.below + 1) n) (set ks s.below (cell_of s.at.symbol s.pointer))
  ready_push c n e l =
      let d = fit.inside.pushes s.at c r.there e in
      record {
        there = d;
        pointer_below = d.head_below;
        room = simp length-set l;
        symbols_below =
            one_more (λ v. v % cell_symbols < M.symbols) s.below _ r.room r.symbols_below
            (rw (cell_symbol s.at.symbol s.pointer symbol_small) r.there.symbol_below);
        pointers_below =
            one_more (λ v. v / cell_symbols < M.places) s.below _ r.room r.pointers_below
            (rw (cell_pointer s.at.symbol s.pointer symbol_small) r.pointer_below);
      }

  head_after : (returns : Bool) → returned returns s.pointer s.at.head < M.places
  head_after true = r.pointer_below
  head_after false = r.there.head_below

  pub ready_pop :
      (p : ℕ) (t : Bool) (n : ℕ) → M.action s.at ≡ Pop p t → 0 < s.below →
      StackReady M
      (run_state (config p (returned t s.pointer s.at.head) (get_or ks (s.below - 1) 0 % cell_symbols)) (get_or ks (s.below - 1) 0 / cell_symbols)
      (s.below - 1) n) ks
  ready_pop p t n e l =
      record {
        there =
            record {
              state_below = fit.inside.pops s.at p t r.there e;
              head_below = head_after t;
              symbol_below = r.symbols_below (s.below - 1) (omega arith);
            };
        pointer_below = r.pointers_below (s.below - 1) (omega arith);
        room = omega (arith, r.room);
        symbols_below = λ i h. r.symbols_below i (omega arith);
        pointers_below = λ i h. r.pointers_below i (omega arith);
      }
