-- How a run terminates: by its last step, once, and in no other way; and what a verdict says by its kind. Assumes nothing.
use mathlib.Core.Path.{◌≡◌, refl, sym, ap, ◌∙◌, subst}
use mathlib.Core.Bool.{Bool, true, false}
use mathlib.Core.List.{List, [], ◌∷◌}
use mathlib.Core.Logic.{◌↔◌}
use mathlib.Core.Option.{some, none}
use Prim.Native.Nat.{ℕ, suc}
use native.Mathlib.Nat.{le_refl}
use native.Mathlib.Omega.{arith}
use Rattle.machine.specs.declared.Config.{Config}
use Rattle.machine.specs.declared.Reason.{Reason}
use Rattle.machine.specs.declared.Reason.TheVariants.{Missing, Halting}
use Rattle.machine.specs.declared.Action.{Action}
use Rattle.machine.specs.declared.Action.TheVariants.{Stop, Change, Push, Pop}
use Rattle.machine.specs.declared.Termination.{Termination}
use Rattle.machine.specs.declared.Termination.TheVariants.{Over, Stopped}
use Rattle.machine.specs.declared.Verdict.{Verdict}
use Rattle.machine.specs.declared.Verdict.TheVariants.{Accepted, Stuck, Looping}
use Rattle.machine.specs.Terminating.{stop_verdict, termination_verdict}
use Rattle.machine.specs.Run.{Machine, Entry, entry, Description, Outcome, stopped, over, next, step_by, step_on, step, start, termination, only_next, after, config_of}
use Rattle.machine.specs.Verdicts.{Entered, over_base, TerminatesAt, GoesOn, FirstAgain, Says, terminates, loops}
use Rattle.machine.proofs.Runs.{Terminated, terminated_no_more, terminates_once, entered_topped, step_stop, not_none, some_same}

-- the way of terminating, by the last step
pub termination_stopped : (M : Machine) (x : Description) {r : Reason} → step M x ≡ stopped r → termination M (step M x) ≡ some (Stopped r)
unfolding termination
termination_stopped M x e = ap (termination M) e

pub termination_over :
    (M : Machine) (x : Description) {p i : ℕ} {t : Bool} → step M x ≡ over p i → M.accepting p i ≡ t → termination M (step M x) ≡ some (Over t)
unfolding termination
termination_over M x e f = ap (termination M) e ∙ ap (λ (b : Bool). some (Over b)) f

pub stopped_from : (M : Machine) (o : Outcome) {r : Reason} → termination M o ≡ some (Stopped r) → o ≡ stopped r
unfolding termination
stopped_from M (stopped q) e = cc
stopped_from M (over p i) e = let z : ◌≡◌ {A = ℕ} 0 1 = cc in absurd (omega arith)
stopped_from M (next y) e = let z : ◌≡◌ {A = ℕ} 0 1 = cc in absurd (omega arith)

-- where a run stops, the rule of that configuration stops it
by_stop : (a : Action) (i : ℕ) (e : Entry) (es : List Entry) {r : Reason} → step_by a i e es ≡ stopped r → a ≡ Stop r
unfolding step_by
by_stop (Stop q) i e es h = cc
by_stop (Change c) i e es h = let z : ◌≡◌ {A = ℕ} 0 1 = cc in absurd (omega arith)
by_stop (Push c) i e es h = let z : ◌≡◌ {A = ℕ} 0 1 = cc in absurd (omega arith)
by_stop (Pop p b) i e [] h = let z : ◌≡◌ {A = ℕ} 0 1 = cc in absurd (omega arith)
by_stop (Pop p b) i e (f ∷ es) h = let z : ◌≡◌ {A = ℕ} 0 1 = cc in absurd (omega arith)

over_stop : (M : Machine) (c : Config) (i : ℕ) (base : List Entry) {r : Reason} → step M (over_base c i base) ≡ stopped r → M.action c ≡ Stop r
unfolding step step_on
over_stop M c i base e = by_stop (M.action c) c.head (entry c.symbol i) base e

pub stop_action : {M : Machine} {d : Config} {r : Reason} → TerminatesAt M d (Stopped r) → M.action d ≡ Stop r
stop_action {M} {d} {r} v =
    let t = entered_topped M v.steps v.reached in
    let stops : step M v.place ≡ stopped r = stopped_from M (step M v.place) v.last in
    let there = over_stop M (config_of v.place) t.pointer t.base (ap (step M) (sym t.is) ∙ stops) in
    ap (λ (c : Config). M.action c) (sym v.is) ∙ there

-- where a run terminates there is no next step
no_next : (M : Machine) (o : Outcome) {h : Termination} → termination M o ≡ some h → only_next o ≡ none
unfolding termination only_next
no_next M (stopped r) e = refl
no_next M (over p i) e = refl
no_next M (next y) e = let z : ◌≡◌ {A = ℕ} 0 1 = cc in absurd (omega arith)

module _ {M : Machine} {d : Config} {h : Termination} where
  pub at_termination : (v : TerminatesAt M d h) → Terminated M v.place
  at_termination v = no_next M (step M v.place) v.last

  pub one_termination : {e : Config} {k : Termination} → TerminatesAt M d h → TerminatesAt M e k → (d ≡ e) × (h ≡ k)
  one_termination v w =
      let same = (terminates_once M v.steps w.steps start v.reached (at_termination v) w.reached (no_next M (step M w.place) w.last)).1 in
      let terminates_same = ap (λ (x : Description). termination M (step M x)) same in
      (sym v.is ∙ ap config_of same ∙ w.is, some_same (termination M (step M w.place)) (sym terminates_same ∙ v.last) w.last)

  pub no_termination : GoesOn M → TerminatesAt M d h → ⊥
  no_termination on v =
      let later : ℕ = suc v.steps in
      let (x, e) = on later in
      not_none (after later M start) e (terminated_no_more M v.steps later start v.reached (at_termination v) (le_refl later))

-- WHAT A VERDICT SAYS, by its kind
module _ {M : Machine} {d : Config} where
  pub says_accepted : TerminatesAt M d (Over true) → Says M Accepted d
  unfolding termination_verdict
  says_accepted h = terminates h refl

  pub says_stopped : {r : Reason} → TerminatesAt M d (Stopped r) → Says M (stop_verdict r) d
  unfolding termination_verdict
  says_stopped h = terminates h refl

  pub says_stuck : TerminatesAt M d (Stopped Missing) → Says M Stuck d
  unfolding stop_verdict
  says_stuck h = says_stopped h

-- AND BACK: a stop by its reason, the verdict's own
stop_verdict_one : (r q : Reason) → stop_verdict r ≡ stop_verdict q → q ≡ r
unfolding stop_verdict
stop_verdict_one Missing Missing e = refl
stop_verdict_one Missing Halting e = let z : ◌≡◌ {A = ℕ} 0 1 = cc in absurd (omega arith)
stop_verdict_one Halting Missing e = let z : ◌≡◌ {A = ℕ} 0 1 = cc in absurd (omega arith)
stop_verdict_one Halting Halting e = refl

-- no run that terminates is looping,
stop_not_looping : (r : Reason) → Looping ≡ stop_verdict r → ⊥
unfolding stop_verdict
stop_not_looping Missing e = let z : ◌≡◌ {A = ℕ} 0 1 = cc in omega arith
stop_not_looping Halting e = let z : ◌≡◌ {A = ℕ} 0 1 = cc in omega arith

termination_not_looping : (h : Termination) → Looping ≡ termination_verdict h → ⊥
unfolding termination_verdict
termination_not_looping (Over true) e = let z : ◌≡◌ {A = ℕ} 0 1 = cc in omega arith
termination_not_looping (Over false) e = let z : ◌≡◌ {A = ℕ} 0 1 = cc in omega arith
termination_not_looping (Stopped r) e = stop_not_looping r e

stop_not_over : (r : Reason) (t : Bool) → stop_verdict r ≡ termination_verdict (Over t) → ⊥
unfolding stop_verdict termination_verdict
stop_not_over Missing true e = let z : ◌≡◌ {A = ℕ} 0 1 = cc in omega arith
stop_not_over Missing false e = let z : ◌≡◌ {A = ℕ} 0 1 = cc in omega arith
stop_not_over Halting true e = let z : ◌≡◌ {A = ℕ} 0 1 = cc in omega arith
stop_not_over Halting false e = let z : ◌≡◌ {A = ℕ} 0 1 = cc in omega arith

pub stopped_verdict : {M : Machine} {d : Config} (r : Reason) → Says M (stop_verdict r) d → TerminatesAt M d (Stopped r)
unfolding termination_verdict
stopped_verdict {M} {d} r (terminates {h} v e) = go h v e
  where
    go : (k : Termination) → TerminatesAt M d k → stop_verdict r ≡ termination_verdict k → TerminatesAt M d (Stopped r)
    go (Over t) w f = absurd (stop_not_over r t f)
    go (Stopped q) w f = subst (λ (z : Reason). TerminatesAt M d (Stopped z)) (stop_verdict_one r q f) w
stopped_verdict r (loops on first e) = absurd (stop_not_looping r (sym e))

-- A RUN STOPS WHERE IT COMES TO A RULE THAT STOPS IT, with that rule's verdict
stops_at : {M : Machine} {d : Config} {r : Reason} → Entered M d → M.action d ≡ Stop r → TerminatesAt M d (Stopped r)
stops_at {M} {d} {r} e a =
    let t = entered_topped M e.steps e.reached in
    let here : M.action (config_of e.place) ≡ Stop r = ap (λ (c : Config). M.action c) e.is ∙ a in
    record {
      steps = e.steps;
      place = e.place;
      reached = e.reached;
      is = e.is;
      last = termination_stopped M e.place (ap (step M) t.is ∙ step_stop M (config_of e.place) t.pointer t.base here);
    }

pub stops_there : (M : Machine) (r : Reason) (d : Config) → Says M (stop_verdict r) d ↔ (Entered M d × (M.action d ≡ Stop r))
stops_there M r d =
    (λ s. let t = stopped_verdict r s in (record { steps = t.steps; place = t.place; reached = t.reached; is = t.is }, stop_action t), λ (e, a). says_stopped (stops_at e a))

-- so a looping one goes on,
pub says_looping : {M : Machine} {d : Config} → Says M Looping d → GoesOn M × FirstAgain M d
says_looping (terminates {h} v e) = absurd (termination_not_looping h e)
says_looping (loops on first e) = (on, first)

-- and one with another verdict terminates
pub says_terminates : {M : Machine} {v : Verdict} {d : Config} → Says M v d → (v ≡ Looping → ⊥) → (h : Termination) × TerminatesAt M d h
says_terminates (terminates {h} v e) other = (h, v)
says_terminates (loops on first e) other = absurd (other e)
