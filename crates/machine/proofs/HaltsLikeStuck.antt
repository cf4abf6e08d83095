-- A halting rule ends a run as a missing one does: the same descriptions, the same notes, and another verdict. Assumes nothing.
use mathlib.Core.Path.{◌≡◌, refl, sym, ap, ◌∙◌, subst}
use mathlib.Core.Bool.{Bool}
use mathlib.Core.List.{List, [], ◌∷◌}
use mathlib.Core.Logic.{◌↔◌}
use mathlib.Core.Option.{Option, none, some}
use Prim.Native.Nat.{ℕ, zero, suc, ◌<◌}
use native.Mathlib.Omega.{arith}
use Rattle.machine.specs.declared.Config.{Config}
use Rattle.machine.specs.declared.Note.{Note}
use Rattle.machine.specs.declared.Reason.{Reason}
use Rattle.machine.specs.declared.Reason.TheVariants.{Missing, Halting}
use Rattle.machine.specs.declared.Action.{Action}
use Rattle.machine.specs.declared.Action.TheVariants.{Stop, Change, Push, Pop}
use Rattle.machine.specs.declared.Termination.{Termination}
use Rattle.machine.specs.declared.Termination.TheVariants.{Over, Stopped}
use Rattle.machine.specs.declared.Verdict.{Verdict}
use Rattle.machine.specs.declared.Verdict.TheVariants.{Accepted, Ended, Stuck, Looping, Halted}
use Rattle.machine.specs.Terminating.{stop_verdict, termination_verdict}
use Rattle.machine.specs.Replies.{verdict_number}
use Rattle.machine.specs.Run.{Machine, Entry, Description, Outcome, stopped, over, next, step_by, step_on, step, start, only_next, further, after, termination, number}
use Rattle.machine.specs.Verdicts.{TerminatesAt, Says, terminates, loops, NoteRight, never, unended, ended, Noted}
use Rattle.machine.specs.LikeStuck.{missing_for_halting, without_halting, LikeStuck, stuck_for_halted}
use Rattle.machine.proofs.Terminates.{termination_stopped, stopped_from, says_stopped, says_stuck, stopped_verdict, stop_action}
use Rattle.machine.proofs.SameRuns.{SameRuns, same_back, entered_alike, all_entered_alike, ends_alike, goes_on_alike, first_again_alike}

-- a step's outcome with a missing rule for a halting one
missing : Outcome → Outcome
missing (stopped r) = stopped Missing
missing (over p i) = over p i
missing (next y) = next y

by_missing :
    (a : Action) (i : ℕ) (e : Entry) (es : List Entry) → step_by (missing_for_halting a) i e es ≡ missing (step_by a i e es)
unfolding step_by missing_for_halting missing
by_missing (Stop r) i e es = refl
by_missing (Change c) i e es = refl
by_missing (Push c) i e es = refl
by_missing (Pop p r) i e [] = refl
by_missing (Pop p r) i e (f ∷ es) = refl

on_missing : (M : Machine) (p i : ℕ) (es : List Entry) → step_on (without_halting M) p i es ≡ missing (step_on M p i es)
unfolding step_on without_halting missing
on_missing M p i [] = refl
on_missing M p i (e ∷ es) = by_missing (M.action (record { state = p; head = i; symbol = e.symbol })) i e es

step_missing : (M : Machine) (x : Description) → step (without_halting M) x ≡ missing (step M x)
unfolding step
step_missing M x = on_missing M x.state x.head x.stack

next_missing : (o : Outcome) → only_next o ≡ only_next (missing o)
unfolding only_next missing
next_missing (stopped r) = refl
next_missing (over p i) = refl
next_missing (next y) = refl

over_from : (o : Outcome) {p i : ℕ} → missing o ≡ over p i → o ≡ over p i
unfolding missing
over_from (stopped r) e = let z : ◌≡◌ {A = ℕ} 0 1 = cc in absurd (omega arith)
over_from (over p i) e = e
over_from (next y) e = let z : ◌≡◌ {A = ℕ} 0 1 = cc in absurd (omega arith)

stop_from : (o : Outcome) → missing o ≡ stopped Missing → (r : Reason) × (o ≡ stopped r)
unfolding missing
stop_from (stopped r) e = (r, refl)
stop_from (over p i) e = let z : ◌≡◌ {A = ℕ} 0 1 = cc in absurd (omega arith)
stop_from (next y) e = let z : ◌≡◌ {A = ℕ} 0 1 = cc in absurd (omega arith)

no_stop : {v : Verdict} → (v ≡ Stuck → ⊥) → (v ≡ Halted → ⊥) → (r : Reason) → v ≡ termination_verdict (Stopped r) → ⊥
unfolding termination_verdict stop_verdict
no_stop not_stuck not_halted Missing e = not_stuck e
no_stop not_stuck not_halted Halting e = not_halted e

module _ (M : Machine) where
  further_missing : (o : Option Description) → further M o ≡ further (without_halting M) o
  unfolding further
  further_missing none = refl
  further_missing (some x) = next_missing (step M x) ∙ ap only_next (sym (step_missing M x))

  after_missing : (n : ℕ) (x : Description) → after n M x ≡ after n (without_halting M) x
  unfolding after
  after_missing zero x = refl
  after_missing (suc n) x = further_missing (after n M x) ∙ ap (further (without_halting M)) (after_missing n x)

  runs_on : SameRuns M (without_halting M)
  runs_on = record { runs = after_missing }

  pops_on : (x : Description) (p i : ℕ) → step M x ≡ over p i → step (without_halting M) x ≡ over p i
  unfolding missing
  pops_on x p i e = step_missing M x ∙ ap missing e

  pops_back : (x : Description) (p i : ℕ) → step (without_halting M) x ≡ over p i → step M x ≡ over p i
  pops_back x p i e = over_from (step M x) (sym (step_missing M x) ∙ e)

  -- THE NOTES
  note_on : {c : Config} {x : Note} → NoteRight M c x → NoteRight (without_halting M) c x
  unfolding number without_halting
  note_on (never f) = never (λ e. f (entered_alike (same_back runs_on) e))
  note_on (unended e f) = unended (entered_alike runs_on e) (λ d h. f d (ends_alike (same_back runs_on) pops_back h))
  note_on (ended {d} e v h) =
      ended {d = d} (entered_alike runs_on e)
      (record { state_below = v.state_below; head_below = v.head_below; symbol_below = v.symbol_below })
      (ends_alike runs_on pops_on h)

  note_back : {c : Config} {x : Note} → NoteRight (without_halting M) c x → NoteRight M c x
  unfolding number without_halting
  note_back (never f) = never (λ e. f (entered_alike runs_on e))
  note_back (unended e f) = unended (entered_alike (same_back runs_on) e) (λ d h. f d (ends_alike runs_on pops_on h))
  note_back (ended {d} e v h) =
      ended {d = d} (entered_alike (same_back runs_on) e)
      (record { state_below = v.state_below; head_below = v.head_below; symbol_below = v.symbol_below })
      (ends_alike (same_back runs_on) pops_back h)

  noted_on : (ns : List ℕ) → Noted M ns → Noted (without_halting M) ns
  unfolding number without_halting
  noted_on ns f c v =
      note_on (f c (record { state_below = v.state_below; head_below = v.head_below; symbol_below = v.symbol_below }))

  noted_back : (ns : List ℕ) → Noted (without_halting M) ns → Noted M ns
  unfolding number without_halting
  noted_back ns f c v =
      note_back (f c (record { state_below = v.state_below; head_below = v.head_below; symbol_below = v.symbol_below }))

  -- A STOP, there and back
  stop_on : {d : Config} {r : Reason} → TerminatesAt M d (Stopped r) → Says (without_halting M) Stuck d
  unfolding missing
  stop_on t =
      let stops = stopped_from M (step M t.place) t.last in
      says_stuck
      (record {
        steps = t.steps;
        place = t.place;
        reached = sym (after_missing t.steps start) ∙ t.reached;
        is = t.is;
        last = termination_stopped (without_halting M) t.place (step_missing M t.place ∙ ap missing stops);
      })

  stop_back : {d : Config} → Says (without_halting M) Stuck d → (r : Reason) × TerminatesAt M d (Stopped r)
  unfolding stop_verdict
  stop_back s =
      let t = stopped_verdict Missing s in
      let (r, stops) = stop_from (step M t.place) (sym (step_missing M t.place) ∙ stopped_from (without_halting M) (step (without_halting M) t.place) t.last) in (
        r,
        record {
          steps = t.steps;
          place = t.place;
          reached = after_missing t.steps start ∙ t.reached;
          is = t.is;
          last = termination_stopped M t.place stops;
        },
      )

  -- ANY OTHER END
  over_missing : (o : Outcome) {t : Bool} → termination M o ≡ some (Over t) → termination (without_halting M) (missing o) ≡ some (Over t)
  unfolding termination without_halting missing
  over_missing (stopped r) e = let z : ◌≡◌ {A = ℕ} 0 1 = cc in absurd (omega arith)
  over_missing (over p i) e = e
  over_missing (next y) e = let z : ◌≡◌ {A = ℕ} 0 1 = cc in absurd (omega arith)

  missing_over : (o : Outcome) {t : Bool} → termination (without_halting M) (missing o) ≡ some (Over t) → termination M o ≡ some (Over t)
  unfolding termination without_halting missing
  missing_over (stopped r) e = let z : ◌≡◌ {A = ℕ} 0 1 = cc in absurd (omega arith)
  missing_over (over p i) e = e
  missing_over (next y) e = let z : ◌≡◌ {A = ℕ} 0 1 = cc in absurd (omega arith)

  module _ {v : Verdict} {d : Config} (not_stuck : v ≡ Stuck → ⊥) (not_halted : v ≡ Halted → ⊥) where
    over_on : (h : Termination) → v ≡ termination_verdict h → TerminatesAt M d h → TerminatesAt (without_halting M) d h
    over_on (Over t) e w =
        record {
          steps = w.steps;
          place = w.place;
          reached = sym (after_missing w.steps start) ∙ w.reached;
          is = w.is;
          last = ap (termination (without_halting M)) (step_missing M w.place) ∙ over_missing (step M w.place) w.last;
        }
    over_on (Stopped r) e w = absurd (no_stop not_stuck not_halted r e)

    over_back : (h : Termination) → v ≡ termination_verdict h → TerminatesAt (without_halting M) d h → TerminatesAt M d h
    over_back (Over t) e w =
        record {
          steps = w.steps;
          place = w.place;
          reached = after_missing w.steps start ∙ w.reached;
          is = w.is;
          last = missing_over (step M w.place) (ap (termination (without_halting M)) (sym (step_missing M w.place)) ∙ w.last);
        }
    over_back (Stopped r) e w = absurd (no_stop not_stuck not_halted r e)

    others_on : Says M v d → Says (without_halting M) v d
    others_on (terminates {h} w e) = terminates (over_on h e w) e
    others_on (loops on first e) = loops (goes_on_alike runs_on on) (first_again_alike runs_on first) e

    others_back : Says (without_halting M) v d → Says M v d
    others_back (terminates {h} w e) = terminates (over_back h e w) e
    others_back (loops on first e) = loops (goes_on_alike (same_back runs_on) on) (first_again_alike (same_back runs_on) first) e

  -- WHICH OF THE TWO, by the rule of the end configuration
  says_by_reason : {d : Config} {r : Reason} → Says M (stop_verdict r) d ↔ (Says (without_halting M) Stuck d × (M.action d ≡ Stop r))
  says_by_reason {d} {r} = (λ s. let t = stopped_verdict r s in (stop_on t, stop_action t), λ (s, e). back s e)
    where
      same : {a b : Reason} → Stop a ≡ Stop b → a ≡ b
      same e = cc

      back : Says (without_halting M) Stuck d → M.action d ≡ Stop r → Says M (stop_verdict r) d
      back s e =
          let (q, t) = stop_back s in
          says_stopped (subst (λ (z : Reason). TerminatesAt M d (Stopped z)) (same (sym (stop_action t) ∙ e)) t)

  by_halting : {d : Config} → Says M Halted d ↔ (Says (without_halting M) Stuck d × (M.action d ≡ Stop Halting))
  unfolding stop_verdict
  by_halting = says_by_reason {r = Halting}

  by_missing_rule : {d : Config} → Says M Stuck d ↔ (Says (without_halting M) Stuck d × (M.action d ≡ Stop Halting → ⊥))
  unfolding stop_verdict
  by_missing_rule {d} = (on, λ (s, f). back s f)
    where
      on : Says M Stuck d → Says (without_halting M) Stuck d × (M.action d ≡ Stop Halting → ⊥)
      on s =
          let (t, e) = (says_by_reason {r = Missing}).0 s in
          (t, λ h. let z : ◌≡◌ {A = ℕ} 0 1 = cc in omega arith)

      pick : (r : Reason) → TerminatesAt M d (Stopped r) → (M.action d ≡ Stop Halting → ⊥) → Says M Stuck d
      pick Missing t f = says_stuck t
      pick Halting t f = absurd (f (stop_action t))

      back : Says (without_halting M) Stuck d → (M.action d ≡ Stop Halting → ⊥) → Says M Stuck d
      back s f = let (r, t) = stop_back s in pick r t f

pub halts_like_stuck : (M : Machine) → LikeStuck M (without_halting M)
halts_like_stuck M =
    record {
      runs = after_missing M;
      notes = λ ns. (noted_on M ns, noted_back M ns);
      readings = λ n. (all_entered_alike (runs_on M), all_entered_alike (same_back (runs_on M)));
      halted = λ d. by_halting M;
      stuck = λ d. by_missing_rule M;
      others = λ v d not_stuck not_halted. (others_on M not_stuck not_halted, others_back M not_stuck not_halted);
    }

-- so its verdict, with stuck for halted, is the other one's
other_verdict : (v w : Verdict) → verdict_number v < verdict_number w → v ≡ w → ⊥
other_verdict v w l e = let n = ap verdict_number e in omega arith

pub says_without : (M : Machine) (v : Verdict) (d : Config) → Says M v d → Says (without_halting M) (stuck_for_halted v) d
unfolding stuck_for_halted verdict_number
says_without M Accepted d s = others_on M (other_verdict Accepted Stuck (omega arith)) (other_verdict Accepted Halted (omega arith)) s
says_without M Ended d s = others_on M (other_verdict Ended Stuck (omega arith)) (other_verdict Ended Halted (omega arith)) s
says_without M Stuck d s = ((by_missing_rule M).0 s).0
says_without M Looping d s = others_on M (λ e. other_verdict Stuck Looping (omega arith) (sym e)) (other_verdict Looping Halted (omega arith)) s
says_without M Halted d s = ((by_halting M).0 s).0
