-- What a note cannot say: of a configuration that is entered, of one whose terminator is known, of a run that stops. Assumes nothing.
use mathlib.Core.Path.{◌≡◌, refl, sym, ap, ◌∙◌}
use mathlib.Core.Bool.{Bool}
use mathlib.Core.List.{List, []}
use mathlib.Core.Option.{some}
use Prim.Native.Nat.{ℕ, zero, suc}
use native.Mathlib.Omega.{arith}
use lib.ListN.{get_or, replicate}
use Rattle.machine.specs.declared.Config.{Config}
use Rattle.machine.specs.declared.Action.TheVariants.{Stop, Pop}
use Rattle.machine.specs.declared.Note.{Note}
use Rattle.machine.specs.declared.Note.TheVariants.{Unseen, Closed}
use Rattle.machine.specs.declared.Reason.{Reason}
use Rattle.machine.specs.declared.Termination.TheVariants.{Over, Stopped}
use Rattle.machine.specs.Run.{Machine, Entry, config, start, after, config_of, number}
use Rattle.machine.specs.Verdicts.{Entered, over_base, EndsAt, NoEnd, TerminatesAt, note_of, note_cell, NoteRight, never, unended, ended}
use Rattle.machine.specs.Removal.{NoteTells, kept, removed}
use Rattle.machine.proofs.Runs.{after_zero, config_over, step_stop, step_pop_last, terminated_over, terminated_no_more, not_none, some_same}
use Rattle.machine.proofs.Terminates.{termination_stopped, termination_over, one_termination}
use Rattle.promises.proofs.Proved.{promises}

-- a cell that is 0, in any number of such
pub zero_cell : (n k : ℕ) → get_or {A = ℕ} (replicate n 0) k 0 ≡ 0
zero_cell zero k = refl
zero_cell (suc n) zero = refl
zero_cell (suc n) (suc k) = zero_cell n k

cell_again : (v : ℕ) → note_cell (note_of v) ≡ v
unfolding note_of note_cell
cell_again zero = refl
cell_again (suc zero) = refl
cell_again (suc (suc k)) = omega arith

-- two cells that say the same are the same
pub one_cell : (v w : ℕ) → note_of v ≡ note_of w → v ≡ w
one_cell v w e = sym (cell_again v) ∙ ap note_cell e ∙ cell_again w

module _ (M : Machine) where
  -- the run is in its start configuration after no step
  pub starts : after 0 M start ≡ some (over_base (config 0 0 0) 0 [])
  unfolding start
  starts = after_zero M start

  pub start_entered : Entered M (config 0 0 0)
  unfolding start
  start_entered = record { steps = 0; place = over_base (config 0 0 0) 0 []; reached = starts; is = config_over (config 0 0 0) 0 [] }

  -- a configuration that pops is its own terminator
  pub pops_itself : (c : Config) {p : ℕ} {r : Bool} → M.action c ≡ Pop p r → EndsAt M c c
  pops_itself c h =
      record { steps = 0; place = over_base c 0 []; reached = after_zero M (over_base c 0 []); is = config_over c 0 []; gone = (_, _, step_pop_last M c 0 h) }

  -- a start configuration whose rule stops the run has none
  pub stops_at_once : {r : Reason} → M.action (config 0 0 0) ≡ Stop r → NoEnd M (config 0 0 0)
  unfolding start
  stops_at_once {r} h d e =
      let stop : TerminatesAt M (config 0 0 0) (Stopped r) =
      record {
        steps = 0;
        place = over_base (config 0 0 0) 0 [];
        reached = starts;
        is = config_over (config 0 0 0) 0 [];
        last = termination_stopped M _ (step_stop M (config 0 0 0) 0 [] h);
      } in
      let (p, i, gone) = e.gone in
      let end : TerminatesAt M d (Over (M.accepting p i)) =
      record { steps = e.steps; place = e.place; reached = e.reached; is = e.is; last = termination_over M _ gone refl } in
      let clash = (one_termination stop end).1 in
      let z : ◌≡◌ {A = ℕ} 0 1 = cc in
      omega arith

  -- a start configuration that pops is all that the run enters
  pub pops_at_once : {c : Config} {p : ℕ} {r : Bool} → M.action (config 0 0 0) ≡ Pop p r → Entered M c → config 0 0 0 ≡ c
  unfolding start
  pops_at_once {c} h e = go e.steps e.reached
    where
      go : (n : ℕ) → after n M start ≡ some e.place → config 0 0 0 ≡ c
      go zero at_place = sym (config_over (config 0 0 0) 0 []) ∙ ap config_of (some_same (after 0 M start) starts at_place) ∙ e.is
      go (suc n) at_place =
          let over = terminated_over M start (step_pop_last M (config 0 0 0) 0 h) in
          absurd (not_none _ at_place (terminated_no_more M 0 (suc n) start starts over (omega arith)))

  -- WHAT IS ENTERED is not unseen
  pub seen : {c : Config} {x : Note} → NoteRight M c x → Entered M c → x ≡ Unseen → ⊥
  seen (never f) e q = f e
  seen (unended e f) g q = let z : ◌≡◌ {A = ℕ} 0 1 = cc in omega arith
  seen (ended e v f) g q = let z : ◌≡◌ {A = ℕ} 0 1 = cc in omega arith

  -- WHAT A NOTE TELLS of an entry is not unseen,
  pub tells_seen : {n i : ℕ} {base : List Entry} {x : Note} → NoteTells M n i base x → x ≡ Unseen → ⊥
  tells_seen (kept f) q = let z : ◌≡◌ {A = ℕ} 0 1 = cc in omega arith
  tells_seen (removed v r) q = let z : ◌≡◌ {A = ℕ} 0 1 = cc in omega arith

  -- and it is closed with the number of the one terminator
  pub closed_tells :
      {n i : ℕ} {base : List Entry} {c d : Config} {x : Note} → after n M start ≡ some (over_base c i base) → EndsAt M c d →
      NoteTells M n i base x → x ≡ Closed (number M d)
  closed_tells {n} {i} {base} {c} {d} at_c e (kept f) = absurd (f d ((promises.terminators_of_run M n i c d base at_c).0 e))
  closed_tells {n} {i} {base} {c} {d} at_c e (removed {d = b} v r) =
      ap (λ (a : Config). Closed (number M a))
      ((promises.one_end M c b d 0 0 ((promises.terminators_of_run M n i c b base at_c).1 r)).1 e)
