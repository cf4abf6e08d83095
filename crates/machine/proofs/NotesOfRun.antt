-- Notes speak of the run itself, each time that it enters a configuration. Assumes nothing.
use mathlib.Core.Path.{◌≡◌}
use mathlib.Core.List.{List}
use mathlib.Core.Option.{some}
use Prim.Native.Nat.{ℕ}
use lib.ListN.{get_or}
use Rattle.machine.specs.declared.Config.{Config}
use Rattle.machine.specs.declared.Note.{Note}
use Rattle.machine.specs.Run.{Machine, ValidConfig, Entry, start, after, number}
use Rattle.machine.specs.Verdicts.{over_base, note_of, NoteRight, never, unended, ended, Noted}
use Rattle.machine.specs.Removal.{Removed, NoteTells, kept, removed}
use Rattle.machine.proofs.Runs.{config_over}
use Rattle.machine.proofs.Terminators.{terminators_of_run}

pub same_each_time :
    (M : Machine) (n m i j : ℕ) (c d : Config) (base ground : List Entry) → after n M start ≡ some (over_base c i base) →
    after m M start ≡ some (over_base c j ground) → Removed M n i base d → Removed M m j ground d
same_each_time M n m i j c d base ground at_n at_m r =
    (terminators_of_run M m j c d ground at_m).0 ((terminators_of_run M n i c d base at_n).1 r)

pub note_tells :
    (M : Machine) (n i : ℕ) (c : Config) (base : List Entry) → after n M start ≡ some (over_base c i base) → {v : Note} → NoteRight M c v →
    NoteTells M n i base v
note_tells M n i c base at_n (never no_entry) =
    absurd (no_entry (record { steps = n; place = over_base c i base; reached = at_n; is = config_over c i base }))
note_tells M n i c base at_n (unended e no_end) = kept (λ d r. no_end d ((terminators_of_run M n i c d base at_n).1 r))
note_tells M n i c base at_n (ended {d} e t x) = removed t ((terminators_of_run M n i c d base at_n).0 x)

pub notes_of_run :
    (M : Machine) (notes : List ℕ) → Noted M notes → (n i : ℕ) (c : Config) (base : List Entry) → ValidConfig M c →
    after n M start ≡ some (over_base c i base) → NoteTells M n i base (note_of (get_or notes (number M c) 0))
notes_of_run M notes noted n i c base t at_n = note_tells M n i c base at_n (noted c t)
