-- What a run enters, terminators, verdicts with their end configurations, and notes; all of the run alone. Assumes nothing: these are definitions.
use Rattle.std.specs.Prelude.{◌≡◌, cond, ℕ, zero, suc, ◌+◌, ◌<◌, ◌≤◌, eqb, length, get_or}
use mathlib.Core.List.{List, [], ◌∷◌, Memᴰ}
use Rattle.std.proofs.Math.Option.{some}
use Rattle.machine.specs.declared.Config.{Config}
use Rattle.machine.specs.declared.Note.{Note}
use Rattle.machine.specs.declared.Note.TheVariants.{Unseen, Open, Closed}
use Rattle.machine.specs.declared.Verdict.{Verdict}
use Rattle.machine.specs.declared.Termination.{Termination}
use Rattle.machine.specs.declared.Verdict.TheVariants.{Looping}
use Rattle.machine.specs.Terminating.{termination_verdict}
use Rattle.machine.specs.Run.{Machine, ValidConfig, Description, description, entry, over, step, start, termination, after, config_of, number}

-- ENTERED: the run is in it after some number of steps
pub record Entered (M : Machine) (c : Config) : Type 0 where
  pub steps : ℕ
  pub place : Description
  pub reached : after steps M start ≡ some place
  pub is : config_of place ≡ c

-- a configuration with an entry of its symbol on top of others
abbrev pub over_base : Config → (pointer : ℕ) → List Rattle.machine.specs.Run.Entry → Description
over_base c i es = description c.state c.head (entry c.symbol i ∷ es)

-- THE TERMINATOR: from the configuration with that entry alone, with some pointer, the one whose step removes it
pub record EndsWith (M : Machine) (c : Config) (pointer : ℕ) (d : Config) : Type 0 where
  pub steps : ℕ
  pub place : Description
  pub reached : after steps M (over_base c pointer []) ≡ some place
  pub is : config_of place ≡ d
  pub gone : (p : ℕ) × (i : ℕ) × (step M place ≡ over p i)

abbrev pub EndsAt : Machine → (c d : Config) → Type 0
EndsAt M c d = EndsWith M c 0 d

abbrev pub NoEnd : Machine → Config → Type 0
NoEnd M c = (d : Config) → EndsAt M c d → ⊥

-- VERDICTS. The run terminates at d, in the way h
pub record TerminatesAt (M : Machine) (d : Config) (h : Termination) : Type 0 where
  pub steps : ℕ
  pub place : Description
  pub reached : after steps M start ≡ some place
  pub is : config_of place ≡ d
  pub last : termination M (step M place) ≡ some h

abbrev pub GoesOn : Machine → Type 0
GoesOn M = (n : ℕ) → (x : Description) × (after n M start ≡ some x)

-- after k steps the run is in a configuration that it was in before, and its stack has not gone below its height then
pub record Again (M : Machine) (k : ℕ) : Type 0 where
  pub earlier : ℕ
  pub before : earlier < k
  pub then_at : Description
  pub now_at : Description
  pub was : after earlier M start ≡ some then_at
  pub is : after k M start ≡ some now_at
  pub same : config_of then_at ≡ config_of now_at
  pub above : (m : ℕ) (x : Description) → earlier ≤ m → m ≤ k → after m M start ≡ some x → length then_at.stack ≤ length x.stack

pub record FirstAgain (M : Machine) (d : Config) : Type 0 where
  pub at_step : ℕ
  pub again : Again M at_step
  pub first : (j : ℕ) → j < at_step → Again M j → ⊥
  pub is : config_of again.now_at ≡ d

-- a run's verdict v and end configuration d: the run terminates at d, and v is the verdict of how it terminates; or it goes on for ever, d is the first configuration to come again, and v is looping
pub data Says (M : Machine) (v : Verdict) (d : Config) : Type 0 where
  terminates : {h : Termination} → TerminatesAt M d h → v ≡ termination_verdict h → Says M v d
  loops : GoesOn M → FirstAgain M d → v ≡ Looping → Says M v d

-- NOTES, the memo table. What a cell says: 0 unseen, 1 open, else 2 more than the number that the note is closed with
unfoldable pub note_of : (cell : ℕ) → Note
note_of zero = Unseen
note_of (suc zero) = Open
note_of (suc (suc k)) = Closed k

-- and back
unfoldable pub note_cell : Note → ℕ
note_cell Unseen = 0
note_cell Open = 1
note_cell (Closed k) = k + 2

-- a note is right: unseen if never entered, open if entered and without a terminator, else closed with the terminator's number
pub data NoteRight (M : Machine) (c : Config) : Note → Type 0 where
  never : (Entered M c → ⊥) → NoteRight M c Unseen
  unended : Entered M c → NoEnd M c → NoteRight M c Open
  ended : {d : Config} → Entered M c → ValidConfig M d → EndsAt M c d → NoteRight M c (Closed (number M d))

abbrev pub Noted : Machine → (notes : List ℕ) → Type 0
Noted M notes = (c : Config) → ValidConfig M c → NoteRight M c (note_of (get_or notes (number M c) 0))

-- READINGS: how many of the first so many notes are not 0
unfoldable pub nonzero : (count : ℕ) → List ℕ → ℕ
nonzero zero ns = 0
nonzero (suc k) [] = 0
nonzero (suc k) (n ∷ ns) = cond (eqb n 0) 0 1 + nonzero k ns

-- no two elements are the same
pub data Distinct {A : Type 0} : List A → Type 0 where
  nil : Distinct []
  cons : {a : A} {rest : List A} → (Memᴰ a rest → ⊥) → Distinct rest → Distinct (a ∷ rest)

-- a list of exactly the configurations that the run enters, each once
pub record AllEntered (M : Machine) (count : ℕ) : Type 0 where
  pub configs : List Config
  pub distinct : Distinct configs
  pub only : (c : Config) → Memᴰ c configs → Entered M c
  pub all : (c : Config) → Entered M c → Memᴰ c configs
  pub counted : length configs ≡ count
