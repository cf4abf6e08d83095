-- A step that unwinds or clears keeps what holds of the chain: the newest open configuration is closed with its terminator, or noted as one without a terminator. Assumes nothing.
use mathlib.Core.Path.{◌≡◌, sym, subst, ◌∙◌, ap}
use mathlib.Core.Bool.{Bool, true, false, cond}
use mathlib.Core.List.{List, [], ◌∷◌}
use mathlib.Core.Logic.{◌⊎◌, inl, inr}
use Prim.Native.Nat.{ℕ, suc, ◌+◌, ◌*◌, ◌-◌, ◌/◌, ◌%◌, ◌<◌, ◌≤◌}
use native.Mathlib.Omega.{arith}
use native.Mathlib.Decide.{ℕ_discrete}
use lib.Dec.{eqb}
use lib.ListN.{length, get_or, set}
use lib.Seq.{get_or-set_same, get_or-set_other}
use borrow.Author.Tests.{eq-eqb, ne_eqb}
use Rattle.machine.specs.declared.Config.{Config}
use Rattle.machine.specs.declared.Verdict.{Verdict}
use Rattle.machine.specs.Run.{Machine, ValidConfig, number_by, number, how_many}
use Rattle.machine.proofs.Reach.{Inside}
use Rattle.machine.proofs.Digits.{middle_digit}
use Rattle.machine.specs.Verdicts.{note_of, NoteRight}
use Rattle.machine.proofs.Numbers.{number_below}
use Rattle.machine.proofs.Nonzero.{nonzero_set_old}
use Rattle.machine.proofs.Ends.{Ends}
use Rattle.chain.specs.declared.Mode.{Mode}
use Rattle.chain.specs.declared.Mode.TheVariants.{Unwind, Clear, Done}
use Rattle.chain.specs.declared.Environment.{Environment}
use Rattle.chain.specs.declared.Registers.{Registers}
use Rattle.chain.specs.Cells.{open_bit, open_note, cell_note}
use Rattle.chain.specs.Step.{ProgramState, with_cells, registers_of, unwound, unwind, cleared, clear, step_by_mode}
use Rattle.chain_theory.proofs.Path.{Open, Among, here, Path}
use Rattle.chain_theory.proofs.Cells.{open_told, Seen, Stacked, one_open, Running, ToldRight, among_seen, among_other}
use Rattle.chain_theory.proofs.Invariant.{Fitted, Shared, bit, pushes, Settled, clearing, done, ChainInvariant}
use Rattle.chain_theory.proofs.Shares.{taken_shared}
use Rattle.chain_theory.proofs.Closes.{newest_there, closed_by}

-- an open note's last bit says how it was entered
open_even : (c : Config) (b : Bool) → eqb (open_note c b % 2) 0 ≡ cond b false true
open_even c true = ne_eqb (open_note c true % 2) 0 (λ z. omega arith)
open_even c false = eq-eqb (open_note c false % 2) 0 (omega arith)

-- the newest open configuration's number and note, by the registers' depth
newest_depth : {M : Machine} {o : Open} {os : List Open} {x : ProgramState Registers} → Shared M (o ∷ os) x → x.state.depth - 1 ≡ length os
newest_depth s = omega (arith, s.depth_is)

newest_number : {M : Machine} {ns ws : List ℕ} {o : Open} {os : List Open} → Stacked M ns ws (o ∷ os) → get_or ws (length os) 0 ≡ number M o.config
newest_number (one_open t w v l) = w

newest_note :
    {M : Machine} {ns ws : List ℕ} {o : Open} {os : List Open} → Stacked M ns ws (o ∷ os) →
    get_or ns (number M o.config) 0 ≡ open_note o.config o.pushed
newest_note (one_open t w v l) = v

-- its head, from its number
head_kept : {M : Machine} {E : Environment} (c : Config) → Fitted M E → ValidConfig M c → number M c / E.sizes.symbols % E.sizes.places ≡ c.head
unfolding number_by number
head_kept {M} {E} c f t = rw (f.places_are, f.symbols_are) (middle_digit c.state t.head_below t.symbol_below)

-- UNWIND
pub unwind_keeps :
    {M : Machine} {E : Environment} → Fitted M E → Inside M → (n : ℕ) (x : ProgramState Registers) {o : Open} {os : List Open} →
    Shared M (o ∷ os) x → Running M (o ∷ os) x.notes →
    Path M (Seen M x.notes) os o.config o.pushed → Ends M (Seen M x.notes) o.config x.state.at →
    n + length os + (bit o.pushed + pushes os) ≤ 4 * x.state.readings + 1 →
    ChainInvariant M (suc n) (step_by_mode Unwind M E x.state x.notes x.work)
unfolding step_by_mode unwind unwound
unwind_keeps {M} fitted inside n x {o} {os} s running path ends few =
    rw (
      newest_depth s,
      newest_number s.stacked,
      newest_note s.stacked,
      open_even o.config o.pushed,
      head_kept o.config fitted (newest_there s.stacked),
    )
    (closed_by fitted inside n x s running ends o.pushed path few)

-- CLEAR
module _ {M : Machine} (E : Environment) (n : ℕ) (x : ProgramState Registers) {o : Open} {os : List Open} {v : Verdict} (s : Shared M (o ∷ os) x)
    (settled : Settled M (o ∷ os) v x) (few : n + suc (length os) ≤ 4 * x.state.readings + 1) where
  cleared_by :
      ChainInvariant M (suc n)
      (with_cells
      (cond (eqb (length os) 0) (registers_of E (Done v) x.state.at false 0 x.state.readings)
      (registers_of E (Clear v) x.state.at false (length os) x.state.readings))
      (set x.notes (number M o.config) 1)
      (set x.work (length os) 0))
  unfolding cell_note note_of
  cleared_by = go os low_now (taken_shared s E 1 (s.counted ∙ sym (nonzero_set_old (how_many M) x.notes k 1 seen (λ z. omega arith)))) few
    where
      k : ℕ
      k = number M o.config

      seen : get_or x.notes k 0 ≡ 0 → ⊥
      seen = among_seen s.stacked o.config here

      long : k < length x.notes
      long = omega (arith, number_below (newest_there s.stacked), s.notes_long)

      ns : List ℕ
      ns = set x.notes k 1

      -- its note said open before, and says so now
      told_now : ToldRight M ns
      told_now c there = pick (ℕ_discrete (number M c) k)
        where
          pick : Dec (number M c ≡ k) → NoteRight M c (cell_note (get_or ns (number M c) 0))
          pick (yes q) =
              subst (λ (j : ℕ). NoteRight M c (cell_note j))
              (sym (ap (λ (j : ℕ). get_or ns j 0) q ∙ get_or-set_same x.notes k 1 0 long))
              (subst (NoteRight M c) (open_told o.config o.pushed (ap (λ (j : ℕ). get_or x.notes j 0) q ∙ newest_note s.stacked)) (settled.told c there))
          pick (no q) = rw (get_or-set_other x.notes k (number M c) 1 0 q) (settled.told c there)

      low_now : (c : Config) → ValidConfig M c → Among c os ⊎ (get_or ns (number M c) 0 < open_bit)
      low_now c there = pick (ℕ_discrete (number M c) k) (settled.low_else c there)
        where
          pick : Dec (number M c ≡ k) → Among c (o ∷ os) ⊎ (get_or x.notes (number M c) 0 < open_bit) → Among c os ⊎ (get_or ns (number M c) 0 < open_bit)
          pick (yes q) z = inr (rw (q, get_or-set_same x.notes k 1 0 long) (omega arith))
          pick (no q) (inl a) = inl (among_other (λ same. q (ap (number M) same)) a)
          pick (no q) (inr z) = inr (rw (get_or-set_other x.notes k (number M c) 1 0 q) z)

      go :
          (ps : List Open) → ((c : Config) → ValidConfig M c → Among c ps ⊎ (get_or ns (number M c) 0 < open_bit)) →
          ((m : Mode) (c : Config) (b : Bool) → ValidConfig M c → Shared M ps (with_cells (registers_of E m c b (length ps) x.state.readings) ns (set x.work (length os) 0))) →
          n + suc (length ps) ≤ 4 * x.state.readings + 1 →
          ChainInvariant M (suc n)
          (with_cells
          (cond (eqb (length ps) 0) (registers_of E (Done v) x.state.at false 0 x.state.readings)
          (registers_of E (Clear v) x.state.at false (length ps) x.state.readings))
          ns
          (set x.work (length os) 0))
      go [] low shared l =
          record {
            opens = [];
            shared = shared (Done v) x.state.at false s.at_there;
            phase = done (record { says = settled.says; told = told_now; low_else = low }) (omega arith);
          }
      go (p ∷ ps) low shared l =
          rw (ne_eqb (suc (length ps)) 0 (λ z. omega arith))
          (record {
            opens = p ∷ ps;
            shared = shared (Clear v) x.state.at false s.at_there;
            phase = clearing (record { says = settled.says; told = told_now; low_else = low }) (omega arith);
          })

pub clear_keeps :
    {M : Machine} (E : Environment) (n : ℕ) (x : ProgramState Registers) {o : Open} {os : List Open} {v : Verdict} → Shared M (o ∷ os) x → Settled M (o ∷ os) v x →
    n + suc (length os) ≤ 4 * x.state.readings + 1 → ChainInvariant M (suc n) (step_by_mode (Clear v) M E x.state x.notes x.work)
unfolding step_by_mode clear cleared
clear_keeps {M} E n x {o} {os} s settled few = rw (newest_depth s, newest_number s.stacked) (cleared_by E n x s settled few)
