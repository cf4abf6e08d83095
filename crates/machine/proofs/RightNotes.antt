-- What a note says: not 0 exactly for the configurations entered; one note a configuration, and one list of notes of so many cells. Assumes nothing.
use mathlib.Core.Path.{◌≡◌, refl, sym, ◌∙◌, ap}
use mathlib.Core.List.{List}
use Prim.Native.Nat.{ℕ, zero, suc, ◌+◌, ◌-◌, ◌<◌}
use native.Mathlib.Nat.{add_comm}
use native.Mathlib.Numerals.{add-two}
use native.Mathlib.Omega.{arith}
use lib.ListN.{length, get_or}
use lib.Seq.{ext_get_or}
use Rattle.machine.specs.declared.Config.{Config}
use Rattle.machine.specs.declared.Note.{Note}
use Rattle.machine.specs.declared.Note.TheVariants.{Unseen, Open, Closed}
use Rattle.machine.specs.Run.{Machine, ValidConfig, number, how_many}
use Rattle.machine.specs.Verdicts.{Entered, EndsAt, NoEnd, note_of, note_cell, NoteRight, never, unended, ended, Noted}
use Rattle.machine.proofs.Numbers.{config_at, config_at_there, number_config_at}
use Rattle.machine.proofs.Terminators.{one_end}

-- cells and what they say: the one follows from the other
pub cell_kept : (v : ℕ) → note_cell (note_of v) ≡ v
unfolding note_of note_cell
cell_kept zero = refl
cell_kept (suc zero) = refl
cell_kept (suc (suc k)) = add-two k

pub closed_cell : (k : ℕ) → note_of (k + 2) ≡ Closed k
unfolding note_of
closed_cell k = rw (add-two k) refl

pub closed_note : (v : ℕ) → (v ≡ 0 → ⊥) → (v ≡ 1 → ⊥) → Closed (v - 2) ≡ note_of v
unfolding note_of
closed_note zero some more = absurd (some refl)
closed_note (suc zero) some more = absurd (more refl)
closed_note (suc (suc k)) some more = let e : suc (suc k) - 2 ≡ k = omega arith in ap Closed e

cell_is : {v : ℕ} {w : Note} → note_of v ≡ w → v ≡ note_cell w
cell_is {v} e = sym (cell_kept v) ∙ ap note_cell e

pub zero_unseen : {v : ℕ} → note_of v ≡ Unseen → v ≡ 0
unfolding note_cell
zero_unseen e = cell_is e

-- not 0 exactly for what is entered
entered_by : {M : Machine} {c : Config} {v : Note} → NoteRight M c v → (v ≡ Unseen → ⊥) → Entered M c
entered_by (never out) kept = absurd (kept refl)
entered_by (unended e endless) kept = e
entered_by (ended e there ends) kept = e

pub note_entered : {M : Machine} {c : Config} {v : ℕ} → NoteRight M c (note_of v) → (v ≡ 0 → ⊥) → Entered M c
note_entered right kept = entered_by right (λ z. kept (zero_unseen z))

seen_by : {M : Machine} {c : Config} {v : Note} → NoteRight M c v → Entered M c → v ≡ Unseen → ⊥
seen_by (never out) e z = out e
seen_by (unended a endless) e z = let w : ◌≡◌ {A = ℕ} 0 1 = cc in omega arith
seen_by (ended a there ends) e z = let w : ◌≡◌ {A = ℕ} 0 1 = cc in omega arith

pub entered_note : {M : Machine} {c : Config} {v : ℕ} → NoteRight M c (note_of v) → Entered M c → v ≡ 0 → ⊥
unfolding note_of
entered_note right e z = seen_by right e (rw z refl)

same_terminator : (M : Machine) (c d e : Config) → EndsAt M c d → EndsAt M c e → d ≡ e
same_terminator M c d e x y = (one_end M c d e 0 0 x).1 y

-- which note is right, by what is known of the configuration
unseen_only : {M : Machine} {c : Config} {v : Note} → NoteRight M c v → (Entered M c → ⊥) → v ≡ Unseen
unseen_only (never out) no_entry = refl
unseen_only (unended e endless) no_entry = absurd (no_entry e)
unseen_only (ended e there ends) no_entry = absurd (no_entry e)

open_only : {M : Machine} {c : Config} {v : Note} → NoteRight M c v → Entered M c → NoEnd M c → v ≡ Open
open_only (never out) e endless = absurd (out e)
open_only (unended a b) e endless = refl
open_only (ended {d = d} a there ends) e endless = absurd (endless d ends)

closed_only : {M : Machine} {c d : Config} {v : Note} → NoteRight M c v → Entered M c → EndsAt M c d → v ≡ Closed (number M d)
closed_only (never out) e ends = absurd (out e)
closed_only {d = d} (unended a endless) e ends = absurd (endless d ends)
closed_only {M} {c} {d} (ended {d = f} a there ends') e ends = ap (λ (x : Config). Closed (number M x)) (same_terminator M c f d ends' ends)

pub one_note : {M : Machine} {c : Config} {v w : Note} → NoteRight M c v → NoteRight M c w → v ≡ w
one_note (never out) b = sym (unseen_only b out)
one_note (unended e endless) b = sym (open_only b e endless)
one_note (ended e there ends) b = sym (closed_only b e ends)

-- the same of its cell
pub never_only : {M : Machine} {c : Config} {v : ℕ} → NoteRight M c (note_of v) → (Entered M c → ⊥) → v ≡ 0
never_only right out = zero_unseen (unseen_only right out)

pub unended_only : {M : Machine} {c : Config} {v : ℕ} → NoteRight M c (note_of v) → Entered M c → NoEnd M c → v ≡ 1
unfolding note_cell
unended_only right e endless = cell_is (open_only right e endless)

pub ended_only : {M : Machine} {c d : Config} {v : ℕ} → NoteRight M c (note_of v) → Entered M c → EndsAt M c d → v ≡ 2 + number M d
unfolding note_cell
ended_only {M} {d = d} right e ends = cell_is (closed_only right e ends) ∙ add_comm (number M d) 2

-- two lists of notes with one cell for each configuration are the same
pub one_notes :
    (M : Machine) (ns ms : List ℕ) → Noted M ns → Noted M ms → length ns ≡ how_many M → length ms ≡ how_many M → ns ≡ ms
one_notes M ns ms a b p q = ext_get_or 0 ns ms (p ∙ sym q) at_each
  where
    at_each : (k : ℕ) → k < length ns → get_or ns k 0 ≡ get_or ms k 0
    at_each k below =
        let there : ValidConfig M (config_at M k) = config_at_there M k (omega arith) in
        let same : note_of (get_or ns k 0) ≡ note_of (get_or ms k 0) =
        rw (number_config_at M k) at (one_note (a (config_at M k) there) (b (config_at M k) there))
        in
        sym (cell_kept (get_or ns k 0)) ∙ ap note_cell same ∙ cell_kept (get_or ms k 0)
