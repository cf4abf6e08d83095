-- A step that looks at a configuration keeps what holds of the chain: it is opened, it is open already and the run loops, or its terminator is known. Assumes nothing.
use mathlib.Core.Path.{◌≡◌, refl, sym, subst, ◌∙◌, ap}
use mathlib.Core.Bool.{Bool, true, false, cond}
use mathlib.Core.List.{List, [], ◌∷◌}
use Prim.Native.Nat.{ℕ, zero, suc, ◌+◌, ◌*◌, ◌<◌, ◌≤◌}
use native.Mathlib.Omega.{arith}
use lib.ListN.{length, get_or, set}
use lib.Seq.{set-get_or}
use Rattle.machine.specs.declared.Config.{Config}
use Rattle.machine.specs.declared.Action.{Action}
use Rattle.machine.specs.declared.Action.TheVariants.{Stop, Change, Push, Pop}
use Rattle.machine.specs.declared.Note.{Note}
use Rattle.machine.specs.declared.Verdict.TheVariants.{Looping}
use Rattle.machine.specs.Terminating.{stop_verdict}
use Rattle.machine.specs.Verdicts.{loops}
use Rattle.machine.specs.Run.{Machine, ValidConfig, number}
use Rattle.machine.proofs.Terminates.{says_stopped}
use Rattle.machine.proofs.Reach.{Inside}
use Rattle.machine.proofs.Numbers.{number_below, config_at, config_at_number}
use Rattle.machine.proofs.Ends.{Ends, pops, ends_pops}
use Rattle.chain.specs.declared.Mode.{Mode}
use Rattle.chain.specs.declared.Mode.TheVariants.{Look, Unwind, Clear}
use Rattle.chain.specs.declared.Environment.{Environment}
use Rattle.chain.specs.declared.Registers.{Registers}
use Rattle.chain.specs.Cells.{open_note, cell_note}
use Rattle.chain.specs.Step.{ProgramState, with_cells, registers_of, resumed, with_reading, config_in, opened, first_look, look, step_by_mode}
use Rattle.chain.specs.Step.{closed as closed_record}
use Rattle.chain.proofs.StepAdds.{cell_unseen, open_seen}
use Rattle.chain_theory.proofs.Path.{Open, open_as, Among, here, later, by_change, by_push, Path, on, path_map}
use Rattle.chain_theory.proofs.Again.{first_again}
use Rattle.chain_theory.proofs.Endings.{path_entered, stuck_at, stuck_complete, stuck_no_end, loop_goes_on, loop_complete, loop_no_end}
use Rattle.chain_theory.proofs.Cells.{Seen, seen_set, Cell, unseen, still_open, closed, Running, running_open, among_seen, settle, low_else}
use Rattle.chain_theory.proofs.Invariant.{Fitted, Shared, bit, pushes, Settled, Phase, looking, clearing, ChainInvariant}
use Rattle.chain_theory.proofs.Shares.{number_agrees, moved_shared, opened_shared}
use Rattle.chain_theory.proofs.Resumes.{resumed_holds, not_among_none}
use Rattle.chain_theory.proofs.Closes.{path_pushes, unwinding_next, closed_at}

set_set : (l : List ℕ) (i a b : ℕ) → set (set l i a) i b ≡ set l i b
set_set [] i a b = refl
set_set (x ∷ xs) zero a b = refl
set_set (x ∷ xs) (suc i) a b = ap (λ (r : List ℕ). x ∷ r) (set_set xs i a b)

-- FIRST LOOK: unseen before
module _ {M : Machine} {E : Environment} (fitted : Fitted M E) (inside : Inside M) (n : ℕ) (x : ProgramState Registers)
    {os : List Open} (s : Shared M os x) (running : Running M os x.notes)
    (path : Path M (Seen M x.notes) os x.state.at x.state.pushed)
    (few : n + length os + pushes os + bit x.state.pushed ≤ 4 * x.state.readings + 1) (fresh : Among x.state.at os → ⊥)
    (note_zero : get_or x.notes (number M x.state.at) 0 ≡ 0) where
  first_by :
      (a : Action) → M.action x.state.at ≡ a → ChainInvariant M (suc n) (first_look E x.state (number M x.state.at) a x.notes x.work)
  unfolding first_look closed_record resumed pushes
  first_by a e = go a e
    where
      at : Config
      at = x.state.at

      k : ℕ
      k = number M at

      f : Bool
      f = x.state.pushed

      v : ℕ
      v = open_note at f

      long : k < length x.notes
      long = omega (arith, number_below s.at_there, s.notes_long)

      P : Config → Type 0
      P = Seen M (set x.notes k v)

      mono : (c : Config) → Seen M x.notes c → P c
      mono = seen_set M x.notes k v long (open_seen at f refl)

      path_now : Path M P os at f
      path_now = path_map mono path

      now : Running M (open_as at f ∷ os) (set x.notes k v)
      now = running_open at f s.at_there long fresh (path_entered path (among_seen s.stacked)) running

      shared_now :
          (m : Mode) (c : Config) (b : Bool) → ValidConfig M c → Shared M (open_as at f ∷ os) (opened E x.state k m c b x.notes x.work)
      shared_now = opened_shared E s fresh note_zero

      seen_now : (c : Config) → Among c (open_as at f ∷ os) → P c
      seen_now = among_seen (shared_now Look at f s.at_there).stacked

      seen_older : (c : Config) → Among c os → P c
      seen_older c i = seen_now c (later i)

      -- a pop: opened, and closed at once
      notes_now : set (set x.notes k v) k (k + 2) ≡ set x.notes k (k + 2)
      notes_now = set_set x.notes k v (k + 2)

      work_now : set (set x.work x.state.depth k) (length os) 0 ≡ x.work
      work_now =
          ap (λ (t : ℕ). set (set x.work t k) (length os) 0) s.depth_is ∙ set_set x.work (length os) k 0
          ∙ ap (set x.work (length os)) (sym (s.zero_above (length os) (omega arith)))
          ∙ set-get_or x.work (length os) 0

      popping :
          (p : ℕ) (c : Bool) → M.action at ≡ Pop p c → (b : Bool) → Path M P os at b → n + length os + (bit b + pushes os) ≤ 4 * (x.state.readings + 1) + 1 →
          ChainInvariant M (suc n)
          (with_cells
          (cond b (resumed E (with_reading E x.state) at (Pop p c) at.head x.state.depth x.work)
          (registers_of E Unwind at false x.state.depth (x.state.readings + 1)))
          (set x.notes k (k + 2))
          x.work)
      popping p c e true path_then l =
          let h = closed_at fitted inside n (opened E x.state k Unwind at f x.notes x.work) (shared_now Unwind at f s.at_there) now (pops (seen_now at here) e) true path_then l in
          rw (e, notes_now, work_now, ← s.depth_is) at h
      popping p c e false path_then l =
          let h = closed_at fitted inside n (opened E x.state k Unwind at f x.notes x.work) (shared_now Unwind at f s.at_there) now (pops (seen_now at here) e) false path_then l in
          rw (notes_now, work_now, ← s.depth_is) at h

      go : (a : Action) → M.action at ≡ a → ChainInvariant M (suc n) (first_look E x.state k a x.notes x.work)
      go (Stop why) e =
          record {
            opens = open_as at f ∷ os;
            shared = shared_now (Clear (stop_verdict why)) at f s.at_there;
            phase =
                clearing
                (record {
                  says = says_stopped (stuck_at path_now seen_older e);
                  told = settle now (λ c i. stuck_complete path_now seen_older (seen_now at here) e i) (λ c i. stuck_no_end path_now seen_older e i);
                  low_else = low_else now;
                })
                (omega arith);
          }
      go (Change c) e =
          record {
            opens = open_as at f ∷ os;
            shared = shared_now Look c false (inside.changes at c s.at_there e);
            phase = looking now (on path_now (by_change e)) (omega arith);
          }
      go (Push c) e =
          record {
            opens = open_as at f ∷ os;
            shared = shared_now Look c true (inside.pushes at c s.at_there e);
            phase = looking now (on path_now (by_push e)) (omega arith);
          }
      go (Pop p b) e = popping p b e f path_now (omega arith)

-- OPEN ALREADY: the run goes on for ever
looping_holds :
    {M : Machine} (E : Environment) (n : ℕ) (x : ProgramState Registers) {os : List Open} → Shared M os x → Running M os x.notes →
    Path M (Seen M x.notes) os x.state.at x.state.pushed →
    n + length os + pushes os + bit x.state.pushed ≤ 4 * x.state.readings + 1 → Among x.state.at os →
    ChainInvariant M (suc n)
    (with_cells (registers_of E (Clear Looping) x.state.at x.state.pushed x.state.depth x.state.readings) x.notes x.work)
looping_holds {M} E n x {os} s running path few a =
    record { opens = os; shared = moved_shared E s (Clear Looping) x.state.at x.state.pushed s.at_there; phase = go os a (omega (arith, path_pushes path)) settled }
  where
    after_this : ProgramState Registers
    after_this = with_cells (registers_of E (Clear Looping) x.state.at x.state.pushed x.state.depth x.state.readings) x.notes x.work

    seen : (c : Config) → Among c os → Seen M x.notes c
    seen = among_seen s.stacked

    settled : Settled M os Looping after_this
    settled =
        record {
          says = loops (loop_goes_on path seen a) (first_again path seen s.distinct a) refl;
          told = settle running (λ c i. loop_complete path seen a i) (λ c i. loop_no_end path seen a i);
          low_else = low_else running;
        }

    go :
        (ps : List Open) → Among x.state.at ps → suc n + length ps ≤ 4 * x.state.readings + 1 → Settled M ps Looping after_this →
        Phase M (suc n) after_this ps (Clear Looping)
    go [] i l t = absurd (not_among_none i)
    go (o ∷ ps) i l t = clearing t (omega arith)

-- CLOSED: the terminator is known
closed_holds :
    {M : Machine} {E : Environment} → Fitted M E → Inside M → (n : ℕ) (x : ProgramState Registers) {os : List Open} →
    Shared M os x → Running M os x.notes → (b : Bool) →
    Path M (Seen M x.notes) os x.state.at b → n + length os + pushes os + bit b ≤ 4 * x.state.readings + 1 → (d : Config) →
    ValidConfig M d → Ends M (Seen M x.notes) x.state.at d →
    ChainInvariant M (suc n)
    (with_cells
    (cond b (resumed E x.state d (M.action d) x.state.at.head x.state.depth x.work) (registers_of E Unwind d false x.state.depth x.state.readings))
    x.notes
    x.work)
closed_holds {M} {E} fitted inside n x {os} s running true path few d there ends =
    let (p, b, pop) = ends_pops ends in
    subst
    (λ (t : ℕ). ChainInvariant M (suc n) (with_cells (resumed E x.state d (M.action d) x.state.at.head t x.work) x.notes x.work))
    (sym s.depth_is)
    (rw pop
    (resumed_holds x.state n fitted inside
    (λ m c f t. subst (λ (depth : ℕ). Shared M os (with_cells (registers_of E m c f depth x.state.readings) x.notes x.work)) s.depth_is (moved_shared E s m c f t))
    s.stacked
    running
    path
    ends
    s.at_there
    there
    pop
    (omega arith)))
closed_holds {M} {E} fitted inside n x {os} s running false path few d there ends =
    record {
      opens = os;
      shared = moved_shared E s Unwind d false there;
      phase = unwinding_next (suc n) (with_cells (registers_of E Unwind d false x.state.depth x.state.readings) x.notes x.work) running s.stacked path ends (omega arith);
    }

config_kept : {M : Machine} {E : Environment} (k : ℕ) → Fitted M E → config_in E k ≡ config_at M k
unfolding config_at
config_kept {M} {E} k f = rw (f.places_are, f.symbols_are)

-- LOOK
look_by :
    {M : Machine} {E : Environment} → Fitted M E → Inside M → (n : ℕ) (x : ProgramState Registers) {os : List Open} →
    Shared M os x → Running M os x.notes →
    Path M (Seen M x.notes) os x.state.at x.state.pushed →
    n + length os + pushes os + bit x.state.pushed ≤ 4 * x.state.readings + 1 → (v : Note) →
    Cell M (Seen M x.notes) os x.state.at v → cell_note (get_or x.notes (number M x.state.at) 0) ≡ v →
    ChainInvariant M (suc n) (look M E x.state (number M x.state.at) v x.notes x.work)
unfolding look closed_record
look_by {M} fitted inside n x s running path few v (unseen fresh) e =
    first_by fitted inside n x s running path few fresh (cell_unseen e) (M.action x.state.at) refl
look_by {E = E} fitted inside n x s running path few v (still_open a) e = looping_holds E n x s running path few a
look_by {M} fitted inside n x {os} s running path few v (closed {d} fresh there ends) e =
    rw (config_kept (number M d) fitted, config_at_number there)
    (closed_holds fitted inside n x s running x.state.pushed path few d there ends)

pub look_keeps :
    {M : Machine} {E : Environment} → Fitted M E → Inside M → (n : ℕ) (x : ProgramState Registers) {os : List Open} →
    Shared M os x → Running M os x.notes →
    Path M (Seen M x.notes) os x.state.at x.state.pushed →
    n + length os + pushes os + bit x.state.pushed ≤ 4 * x.state.readings + 1 →
    ChainInvariant M (suc n) (step_by_mode Look M E x.state x.notes x.work)
unfolding step_by_mode
look_keeps {M} fitted inside n x s running path few =
    rw (number_agrees x.state.at fitted)
    (look_by fitted inside n x s running path few _ (running.cells x.state.at s.at_there) refl)
