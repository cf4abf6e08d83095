-- `Says` and document 03's rows are equivalent: how a run terminates by its last step, and what comes first again while the run goes on. Assumes nothing.
use mathlib.Core.Path.{◌≡◌, refl, sym, ap, subst, ◌∙◌}
use mathlib.Core.Bool.{Bool, true, false}
use mathlib.Core.Logic.{◌↔◌}
use mathlib.Core.Option.{some}
use Prim.Native.Nat.{ℕ}
use native.Mathlib.Omega.{arith}
use Rattle.machine.specs.declared.Config.{Config}
use Rattle.machine.specs.declared.Reason.{Reason}
use Rattle.machine.specs.declared.Reason.TheVariants.{Missing, Halting}
use Rattle.machine.specs.declared.Termination.{Termination}
use Rattle.machine.specs.declared.Termination.TheVariants.{Over, Stopped}
use Rattle.machine.specs.declared.Verdict.{Verdict}
use Rattle.machine.specs.declared.Verdict.TheVariants.{Accepted, Ended, Stuck, Looping, Halted}
use Rattle.machine.specs.Terminating.{stop_verdict, termination_verdict}
use Rattle.machine.specs.Run.{Machine, Outcome, stopped, over, next, step, termination}
use Rattle.machine.specs.Verdicts.{TerminatesAt, GoesOn, Again, FirstAgain, Says, terminates, loops}
use Rattle.machine.specs.VerdictRows.{ComesTo, depth_at, config_at, ComesAgain, FirstToComeAgain, SaysByRow}
use Rattle.machine.proofs.Terminates.{termination_stopped, termination_over, stopped_from}

-- A RUN THAT TERMINATES, by its last step
over_from : (M : Machine) (o : Outcome) {t : Bool} → termination M o ≡ some (Over t) → (p : ℕ) × (i : ℕ) × (o ≡ over p i) × (M.accepting p i ≡ t)
unfolding termination
over_from M (stopped r) e = let z : ◌≡◌ {A = ℕ} 0 1 = cc in absurd (omega arith)
over_from M (over p i) e = (p, i, refl, cc)
over_from M (next y) e = let z : ◌≡◌ {A = ℕ} 0 1 = cc in absurd (omega arith)

module _ {M : Machine} {d : Config} where
  comes_to : {h : Termination} {o : Outcome} (t : TerminatesAt M d h) → step M t.place ≡ o → ComesTo M d o
  comes_to t e = record { steps = t.steps; place = t.place; reached = t.reached; is = t.is; last = e }

  terminates_at : {h : Termination} {o : Outcome} (c : ComesTo M d o) → termination M (step M c.place) ≡ some h → TerminatesAt M d h
  terminates_at c e = record { steps = c.steps; place = c.place; reached = c.reached; is = c.is; last = e }

  over_row : {t : Bool} → TerminatesAt M d (Over t) → (p : ℕ) × (i : ℕ) × ComesTo M d (over p i) × (M.accepting p i ≡ t)
  over_row t = let (p, i, e, a) = over_from M (step M t.place) t.last in (p, i, comes_to t e, a)

  stop_row : {r : Reason} → TerminatesAt M d (Stopped r) → ComesTo M d (stopped r)
  stop_row t = comes_to t (stopped_from M (step M t.place) t.last)

  row_of : (h : Termination) → TerminatesAt M d h → SaysByRow M (termination_verdict h) d
  unfolding SaysByRow termination_verdict stop_verdict
  row_of (Over true) t = over_row t
  row_of (Over false) t = over_row t
  row_of (Stopped Missing) t = stop_row t
  row_of (Stopped Halting) t = stop_row t

-- WHAT COMES AGAIN, while the run goes on: after any number of steps it is somewhere
module _ {M : Machine} (on : GoesOn M) where
  comes_again : {k : ℕ} → Again M k → ComesAgain M k
  unfolding depth_at config_at
  comes_again {k} a =
      record {
        earlier = a.earlier;
        before = a.before;
        same = rw (a.was, a.is) a.same;
        above = λ m least most. let (x, e) = on m in rw (a.was, e) (a.above m x least most e);
      }

  again : {k : ℕ} → ComesAgain M k → Again M k
  unfolding depth_at config_at
  again {k} c =
      let (x, was) = on c.earlier in
      let (y, is) = on k in
      record {
        earlier = c.earlier;
        before = c.before;
        then_at = x;
        now_at = y;
        was = was;
        is = is;
        same = ap config_at (sym was) ∙ c.same ∙ ap config_at is;
        above = λ m z least most e. let h = c.above m least most in rw (was, e) at h;
      }

  comes_first : {d : Config} → FirstAgain M d → FirstToComeAgain M d
  unfolding config_at
  comes_first f =
      record {
        at_step = f.at_step;
        again = comes_again f.again;
        first = λ j h c. f.first j h (again c);
        is = ap config_at f.again.is ∙ f.is;
      }

  first_again : {d : Config} → FirstToComeAgain M d → FirstAgain M d
  unfolding config_at
  first_again f =
      let a = again f.again in
      record { at_step = f.at_step; again = a; first = λ j h c. f.first j h (comes_again c); is = ap config_at (sym a.is) ∙ f.is }

-- THE TWO FORMS
by_row : {M : Machine} {v : Verdict} {d : Config} → Says M v d → SaysByRow M v d
unfolding SaysByRow
by_row {M} {d = d} (terminates {h} t e) = subst (λ (v : Verdict). SaysByRow M v d) (sym e) (row_of h t)
by_row {M} {d = d} (loops on f e) = subst (λ (v : Verdict). SaysByRow M v d) (sym e) (on, comes_first on f)

from_row : (M : Machine) (v : Verdict) (d : Config) → SaysByRow M v d → Says M v d
unfolding SaysByRow termination_verdict stop_verdict
from_row M Accepted d (p, i, c, a) = terminates (terminates_at c (termination_over M c.place c.last a)) refl
from_row M Ended d (p, i, c, a) = terminates (terminates_at c (termination_over M c.place c.last a)) refl
from_row M Stuck d c = terminates (terminates_at c (termination_stopped M c.place c.last)) refl
from_row M Looping d (on, f) = loops on (first_again on f) refl
from_row M Halted d c = terminates (terminates_at c (termination_stopped M c.place c.last)) refl

pub says_by_row : (M : Machine) (v : Verdict) (d : Config) → Says M v d ↔ SaysByRow M v d
says_by_row M v d = (by_row, from_row M v d)
