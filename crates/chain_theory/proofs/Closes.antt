-- The newest open configuration gets its terminator: what holds of the chain then. Assumes nothing.
use mathlib.Core.Path.{◌≡◌, sym, subst, ◌∙◌}
use mathlib.Core.Bool.{Bool, true, false, cond}
use mathlib.Core.List.{List, ◌∷◌}
use Prim.Native.Nat.{ℕ, suc, ◌+◌, ◌*◌, ◌<◌, ◌≤◌}
use native.Mathlib.Omega.{arith}
use lib.ListN.{length, get_or, set}
use Rattle.machine.specs.declared.Config.{Config}
use Rattle.machine.specs.Run.{Machine, ValidConfig, number, how_many}
use Rattle.machine.proofs.Reach.{Inside}
use Rattle.machine.proofs.Nonzero.{nonzero_set_old}
use Rattle.machine.proofs.Numbers.{number_below}
use Rattle.machine.proofs.Ends.{Ends, ends_map, ends_pops}
use Rattle.chain.specs.declared.Mode.{Mode}
use Rattle.chain.specs.declared.Mode.TheVariants.{Look, Unwind}
use Rattle.chain.specs.declared.Environment.{Environment}
use Rattle.chain.specs.declared.Registers.{Registers}
use Rattle.chain.specs.Cells.{open_bit}
use Rattle.chain.specs.Step.{ProgramState, with_cells, registers_of, number_in, resumed}
use Rattle.chain_theory.proofs.Path.{Open, here, Path, begin, on, path_map, leads_ends}
use Rattle.chain_theory.proofs.Cells.{Seen, seen_set, Stacked, one_open, Running, running_close, among_seen}
use Rattle.chain_theory.proofs.Invariant.{Fitted, Shared, bit, pushes, Phase, unwinding, ChainInvariant}
use Rattle.chain_theory.proofs.Shares.{number_agrees, newest_fresh, taken_shared}
use Rattle.chain_theory.proofs.Resumes.{resumed_holds}

-- the start was pushed, so a path has a pushed configuration
pub path_pushes : {M : Machine} {P : Config → Type 0} {os : List Open} {c : Config} {f : Bool} → Path M P os c f → 1 ≤ pushes os + bit f
unfolding pushes
path_pushes begin = omega arith
path_pushes (on p l) = let h = path_pushes p in omega arith

-- a terminator is known for a configuration that its predecessor leads to at the same height
pub unwinding_next :
    {M : Machine} (n : ℕ) (x : ProgramState Registers) {os : List Open} {c : Config} → Running M os x.notes → Stacked M x.notes x.work os →
    Path M (Seen M x.notes) os c false → Ends M (Seen M x.notes) c x.state.at →
    n + length os + pushes os ≤ 4 * x.state.readings + 2 → Phase M n x os Unwind
unfolding pushes
unwinding_next n x running stacked (on {c = e} path l) ends few =
    unwinding running path (leads_ends (among_seen stacked e here) l ends) (omega arith)

pub newest_there : {M : Machine} {ns ws : List ℕ} {o : Open} {os : List Open} → Stacked M ns ws (o ∷ os) → ValidConfig M o.config
newest_there (one_open t w v l) = t

-- THE NEWEST OPEN CONFIGURATION IS CLOSED: what the step makes of it, entered by a push or not, with this terminator's number
abbrev pub closed_state :
    Machine → Environment → ProgramState Registers → (newest : Config) → (older : List Open) → (pushed : Bool) → (terminator : ℕ) →
    ProgramState Registers
closed_state M E x c os b j =
    with_cells
    (cond (cond b false true) (registers_of E Unwind x.state.at false (length os) x.state.readings)
    (resumed E x.state x.state.at (M.action x.state.at) c.head (length os) (set x.work (length os) 0)))
    (set x.notes (number M c) (j + 2))
    (set x.work (length os) 0)

module _ {M : Machine} {E : Environment} (fitted : Fitted M E) (inside : Inside M) (n : ℕ) (x : ProgramState Registers) {o : Open} {os : List Open} (s : Shared M (o ∷ os) x)
    (running : Running M (o ∷ os) x.notes) (ends : Ends M (Seen M x.notes) o.config x.state.at) where
  pub closed_at :
      (b : Bool) → Path M (Seen M x.notes) os o.config b → n + length os + (bit b + pushes os) ≤ 4 * x.state.readings + 1 →
      ChainInvariant M (suc n) (closed_state M E x o.config os b (number M x.state.at))
  closed_at b path few = go b path few
    where
      k : ℕ
      k = number M o.config

      v : ℕ
      v = number M x.state.at + 2

      there : ValidConfig M o.config
      there = newest_there s.stacked

      long : k < length x.notes
      long = omega (arith, number_below there, s.notes_long)

      low : number M x.state.at + 2 < open_bit
      low = omega (arith, number_below s.at_there, fitted.few_cells)

      mono : (c : Config) → Seen M x.notes c → Seen M (set x.notes k v) c
      mono = seen_set M x.notes k v long (λ z. omega arith)

      seen : get_or x.notes k 0 ≡ 0 → ⊥
      seen = among_seen s.stacked o.config here

      now : Running M os (set x.notes k v)
      now = running_close o.config x.state.at o.pushed there s.at_there long low (newest_fresh s) seen ends running

      shared_now :
          (m : Mode) (c : Config) (f : Bool) → ValidConfig M c →
          Shared M os (with_cells (registers_of E m c f (length os) x.state.readings) (set x.notes k v) (set x.work (length os) 0))
      shared_now = taken_shared s E v (s.counted ∙ sym (nonzero_set_old (how_many M) x.notes k v seen (λ z. omega arith)))

      stacked_now : Stacked M (set x.notes k v) (set x.work (length os) 0) os
      stacked_now = (shared_now Look x.state.at false s.at_there).stacked

      unwinding_on : ProgramState Registers
      unwinding_on =
          with_cells (registers_of E Unwind x.state.at false (length os) x.state.readings) (set x.notes k v) (set x.work (length os) 0)

      go :
          (b : Bool) → Path M (Seen M x.notes) os o.config b → n + length os + (bit b + pushes os) ≤ 4 * x.state.readings + 1 →
          ChainInvariant M (suc n) (closed_state M E x o.config os b (number M x.state.at))
      go false path few =
          record {
            opens = os;
            shared = shared_now Unwind x.state.at false s.at_there;
            phase =
                unwinding_next (suc n) unwinding_on now stacked_now (path_map mono path) (ends_map mono ends) (omega arith);
          }
      go true path few =
          let (p, b, pop) = ends_pops ends in
          rw pop
          (resumed_holds x.state n fitted inside shared_now stacked_now now (path_map mono path) (ends_map mono ends) there s.at_there pop (omega arith))

  -- the terminator's number by the environment's counts
  pub closed_by :
      (b : Bool) → Path M (Seen M x.notes) os o.config b → n + length os + (bit b + pushes os) ≤ 4 * x.state.readings + 1 →
      ChainInvariant M (suc n) (closed_state M E x o.config os b (number_in E x.state.at))
  closed_by b path few =
      subst (λ (j : ℕ). ChainInvariant M (suc n) (closed_state M E x o.config os b j)) (sym (number_agrees x.state.at fitted)) (closed_at b path few)
