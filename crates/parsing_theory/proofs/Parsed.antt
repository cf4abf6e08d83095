-- A table's machine parses, by either choice of a match: its verdicts are those of parsing from rule 0 at place 0. Assumes only the table and the row of the choice.
use mathlib.Core.Path.{◌≡◌, refl, ap, ◌∙◌}
use mathlib.Core.List.{List, [], ◌∷◌}
use mathlib.Core.Option.{Option, none, some}
use mathlib.Core.Logic.{inl, inr}
use Prim.Native.Nat.{ℕ, zero, suc, ◌+◌, ◌-◌, ◌≤◌}
use native.Mathlib.Nat.{le_refl}
use native.Mathlib.Decide.{ℕ_discrete}
use native.Mathlib.Omega.{arith}
use lib.ListN.{length}
use borrow.Author.Tests.{eq-eqb}
use Rattle.machine.specs.declared.Config.{Config}
use Rattle.machine.specs.declared.Reason.TheVariants.{Missing}
use Rattle.machine.specs.declared.Verdict.{Verdict}
use Rattle.machine.specs.declared.Verdict.TheVariants.{Accepted, Ended, Stuck, Looping, Halted}
use Rattle.machine.specs.Run.{Machine, Entry, entry, Description, stopped, over, step, start, after, config, config_of}
use Rattle.machine.specs.Verdicts.{Says, GoesOn}
use Rattle.machine.proofs.Runs.{after_zero, after_then, after_front, step_stop, step_change, step_push, step_pop_last, Terminated, terminated_stopped, terminated_over, terminated_no_more, not_none}
use Rattle.machine.proofs.Terminates.{termination_stopped, termination_over, at_termination, says_accepted, says_stuck, says_terminates}
use Rattle.machine.proofs.OneVerdict.{one_verdict}
use Rattle.grammar.specs.Parsing.{Rules, Parses}
use Rattle.builder.specs.declared.Matching.{Matching}
use Rattle.builder.specs.declared.Matching.TheVariants.{Whole, Leading}
use Rattle.builder.specs.Table.{state_start, state_ok, state_fail, state_done}
use Rattle.parsing_theory.proofs.Table.{Table, ChoiceRow}
use Rattle.parsing_theory.proofs.ParseRuns.{working, popped, EndsInside, came}
use Rattle.parsing_theory.proofs.RunParses.{Known, parses_or_goes}

-- THE RESULT WITH WHICH THE RUN TERMINATES: by a leading match a success goes on to the capture's end
abbrev pub final : Matching → (size : ℕ) → Option ℕ → Option ℕ
final Whole n o = o
final Leading n none = none
final Leading n (some j) = some n

-- a result by which the capture is accepted: success with all of it consumed; by a leading match any success
abbrev pub Passes : Matching → (size : ℕ) → Option ℕ → Type 0
Passes how n o = final how n o ≡ some n

-- THE SECOND DEMAND for grammars, of any machine: accepted where parsing from rule 0 has a result that passes, stuck where it has another, without end where it has none; never ended, never halted
pub record ParsesRight (how : Matching) (M : Machine) (E : Rules) (cs : List ℕ) : Type 0 where
  pub accepted_parses : (d : Config) → Says M Accepted d → (o : Option ℕ) × Parses E cs 0 0 o × Passes how (length cs) o
  pub parses_accepted : (o : Option ℕ) → Parses E cs 0 0 o → Passes how (length cs) o → (d : Config) × Says M Accepted d
  pub parses_stuck : (o : Option ℕ) → Parses E cs 0 0 o → (Passes how (length cs) o → ⊥) → (d : Config) × Says M Stuck d
  pub stuck_parses : (d : Config) → Says M Stuck d → (o : Option ℕ) × Parses E cs 0 0 o × (Passes how (length cs) o → ⊥)
  pub parses_terminates : (o : Option ℕ) → Parses E cs 0 0 o → GoesOn M → ⊥
  pub no_parse_goes_on : ((o : Option ℕ) → Parses E cs 0 0 o → ⊥) → GoesOn M
  pub never_ended : (d : Config) → Says M Ended d → ⊥
  pub never_halted : (d : Config) → Says M Halted d → ⊥

-- the run's first entry, below that of rule 0
abbrev ground : List Entry
ground = entry 0 0 ∷ []

which : (o : Option ℕ) (n : ℕ) → Dec (o ≡ some n)
which none n = no (λ e. let z : ◌≡◌ {A = ℕ} 0 1 = cc in omega arith)
which (some j) n = go (ℕ_discrete j n)
  where
    go : Dec (j ≡ n) → Dec (some j ≡ some n)
    go (yes e) = yes (ap some e)
    go (no e) = no (λ f. let same : j ≡ n = cc in e same)

module _ {M : Machine} {E : Rules} {m : ℕ} {cs : List ℕ} (t : Table M E m cs) where
  -- WHERE THE RUN TERMINATES, with the result on the first entry: a whole match at once, a leading one at the capture's end
  moves : (n j : ℕ) → ChoiceRow Leading M cs → j + n ≡ length cs → after n M (popped 0 (some j) ground) ≡ some (popped 0 (some (length cs)) ground)
  moves zero j c e =
      let here : j ≡ length cs = omega arith in
      after_zero M (popped 0 (some j) ground) ∙ ap (λ (i : ℕ). some (popped 0 (some i) ground)) here
  moves (suc n) j c e =
      after_front M n (popped 0 (some j) ground) (step_change M (config state_ok (suc j) 0) 0 [] (c.on_bytes j (omega arith)))
      ∙ moves n (suc j) c (omega arith)

  settles :
      {how : Matching} → ChoiceRow how M cs → (o : Option ℕ) → EndsInside (length cs) 0 o →
      (n : ℕ) × (after n M (popped 0 o ground) ≡ some (popped 0 (final how (length cs) o) ground))
  settles {how = Whole} c o inside = (0, after_zero M (popped 0 o ground))
  settles {how = Leading} c none inside = (0, after_zero M (popped 0 none ground))
  settles {how = Leading} c (some j) inside = (length cs - j, moves (length cs - j) j c (omega (arith, inside.1)))

  accepts_last : step M (popped 0 (some (length cs)) ground) ≡ over state_done (suc (length cs))
  accepts_last = step_pop_last M (config state_ok (suc (length cs)) 0) 0 t.ends

  stuck_last :
      {how : Matching} → ChoiceRow how M cs → (o : Option ℕ) → EndsInside (length cs) 0 o → (Passes how (length cs) o → ⊥) →
      step M (popped 0 (final how (length cs) o) ground) ≡ stopped Missing
  stuck_last {how = Whole} c none inside other = step_stop M (config state_fail 1 0) 0 [] (t.fail_stops 0 (omega arith))
  stuck_last {how = Whole} c (some j) inside other =
      let l : j ≤ length cs = inside.1 in
      let ne : j ≡ length cs → ⊥ = λ e. other (ap some e) in
      step_stop M (config state_ok (suc j) 0) 0 [] (c.on_bytes j (omega arith))
  stuck_last {how = Leading} c none inside other = step_stop M (config state_fail 1 0) 0 [] (t.fail_stops 0 (omega arith))
  stuck_last {how = Leading} c (some j) inside other = absurd (other refl)

  -- FROM THE START
  start_then : (n : ℕ) → after (suc n) M start ≡ after n M (working 0 0 ground)
  unfolding start
  start_then n = after_front M n start (step_push M (config state_start 0 0) 0 [] t.starts)

-- where the run comes with a result, and that it terminates there
record Arrives (how : Matching) (M : Machine) (cs : List ℕ) (o : Option ℕ) : Type 0 where
  steps : ℕ
  reached : after steps M start ≡ some (popped 0 (final how (length cs) o) ground)
  terminated : Terminated M (popped 0 (final how (length cs) o) ground)
  stuck : (Passes how (length cs) o → ⊥) → step M (popped 0 (final how (length cs) o) ground) ≡ stopped Missing

module _ {how : Matching} {M : Machine} {E : Rules} {m : ℕ} {cs : List ℕ} (t : Table M E m cs) (c : ChoiceRow how M cs) where
  arrives : {o : Option ℕ} → Parses E cs 0 0 o → Arrives how M cs o
  arrives {o} p =
      let w = came t t.some_rule (omega arith) p in
      let (n, e) = settles t c o w.ends in
      record {
        steps = suc (w.steps + n);
        reached = start_then t (w.steps + n) ∙ after_then M w.steps n (working 0 0 ground) (w.comes (entry 0 0) []) ∙ e;
        terminated = go (which (final how (length cs) o) (length cs)) w.ends;
        stuck = stuck_last t c o w.ends;
      }
    where
      go : Dec (Passes how (length cs) o) → EndsInside (length cs) 0 o → Terminated M (popped 0 (final how (length cs) o) ground)
      go (yes e) inside = rw e (terminated_over M (popped 0 (some (length cs)) ground) (accepts_last t))
      go (no other) inside = terminated_stopped M (popped 0 (final how (length cs) o) ground) (stuck_last t c o inside other)

  accepts : (o : Option ℕ) → Parses E cs 0 0 o → Passes how (length cs) o → (d : Config) × Says M Accepted d
  accepts o p passes =
      let w = arrives p in
      let place : Description = popped 0 (some (length cs)) ground in
      let at_end : suc (length cs) + 1 ≡ length cs + 2 = omega arith in
      let accepting = t.accepting_are state_done (suc (length cs)) ∙ eq-eqb (suc (length cs) + 1) (length cs + 2) at_end in
      let last = termination_over M place (accepts_last t) accepting in
      let reached = w.reached ∙ ap (λ (u : Option ℕ). some (popped 0 u ground)) passes in
      (config_of place, says_accepted (record { steps = w.steps; place = place; reached = reached; is = refl; last = last }))

  sticks : (o : Option ℕ) → Parses E cs 0 0 o → (Passes how (length cs) o → ⊥) → (d : Config) × Says M Stuck d
  sticks o p other =
      let w = arrives p in
      let place : Description = popped 0 (final how (length cs) o) ground in
      let last = termination_stopped M place (w.stuck other) in
      (config_of place, says_stuck (record { steps = w.steps; place = place; reached = w.reached; is = refl; last = last }))

  terminates : (o : Option ℕ) → Parses E cs 0 0 o → GoesOn M → ⊥
  terminates o p on =
      let w = arrives p in
      let (x, e) = on (suc w.steps) in
      not_none (after (suc w.steps) M start) e (terminated_no_more M w.steps (suc w.steps) start w.reached w.terminated (le_refl (suc w.steps)))

  goes_on : ((o : Option ℕ) → Parses E cs 0 0 o → ⊥) → GoesOn M
  goes_on never zero = (start, after_zero M start)
  goes_on never (suc n) = go (parses_or_goes t n 0 0 t.some_rule (omega arith))
    where
      go : Known M E cs n 0 0 → (x : Description) × (after (suc n) M start ≡ some x)
      go (inl (o, p)) = absurd (never o p)
      go (inr g) = let (x, e) = g.goes (entry 0 0) [] in (x, start_then t n ∙ e)

  -- a run that terminates has parsed
  terminated_parses : (n : ℕ) {x : Description} → after n M start ≡ some x → Terminated M x → (o : Option ℕ) × Parses E cs 0 0 o
  terminated_parses n {x} reached terminated = go (parses_or_goes t n 0 0 t.some_rule (omega arith))
    where
      go : Known M E cs n 0 0 → (o : Option ℕ) × Parses E cs 0 0 o
      go (inl p) = p
      go (inr g) =
          let (y, e) = g.goes (entry 0 0) [] in
          let none_then = terminated_no_more M n (suc n) start reached terminated (le_refl (suc n)) in
          absurd (not_none (after (suc n) M start) (start_then t n ∙ e) none_then)

  -- the two verdicts that a result leads to; a run has one only
  when_accepted : {d : Config} {o : Option ℕ} → Says M Accepted d → Parses E cs 0 0 o → Passes how (length cs) o
  when_accepted {d} {o} s p = go (which (final how (length cs) o) (length cs))
    where
      go : Dec (Passes how (length cs) o) → Passes how (length cs) o
      go (yes e) = e
      go (no other) =
          let (e, v) = sticks o p other in
          let same : Accepted ≡ Stuck = (one_verdict M Accepted Stuck d e s v).0 in
          let z : ◌≡◌ {A = ℕ} 0 1 = cc in
          absurd (omega arith)

  when_stuck : {d : Config} {o : Option ℕ} → Says M Stuck d → Parses E cs 0 0 o → Passes how (length cs) o → ⊥
  when_stuck {d} {o} s p passes =
      let (e, v) = accepts o p passes in
      let same : Stuck ≡ Accepted = (one_verdict M Stuck Accepted d e s v).0 in
      let z : ◌≡◌ {A = ℕ} 0 1 = cc in
      omega arith

  when_parsed : {v : Verdict} {d : Config} {o : Option ℕ} → Says M v d → Parses E cs 0 0 o → (v ≡ Accepted → ⊥) → (v ≡ Stuck → ⊥) → ⊥
  when_parsed {v} {d} {o} s p not_accepted not_stuck = go (which (final how (length cs) o) (length cs))
    where
      go : Dec (Passes how (length cs) o) → ⊥
      go (yes passes) = let (e, w) = accepts o p passes in not_accepted (one_verdict M v Accepted d e s w).0
      go (no other) = let (e, w) = sticks o p other in not_stuck (one_verdict M v Stuck d e s w).0

  -- a run with a verdict other than looping has parsed
  verdict_parses : {v : Verdict} {d : Config} → Says M v d → (v ≡ Looping → ⊥) → (o : Option ℕ) × Parses E cs 0 0 o
  verdict_parses s other = let (h, v) = says_terminates s other in terminated_parses v.steps v.reached (at_termination v)

  accepted_has : (d : Config) → Says M Accepted d → (o : Option ℕ) × Parses E cs 0 0 o × Passes how (length cs) o
  accepted_has d s =
      let (o, q) = verdict_parses s (λ e. let z : ◌≡◌ {A = ℕ} 0 1 = cc in omega arith) in
      (o, q, when_accepted s q)

  stuck_has : (d : Config) → Says M Stuck d → (o : Option ℕ) × Parses E cs 0 0 o × (Passes how (length cs) o → ⊥)
  stuck_has d s =
      let (o, q) = verdict_parses s (λ e. let z : ◌≡◌ {A = ℕ} 0 1 = cc in omega arith) in
      (o, q, when_stuck s q)

  ended_not : (d : Config) → Says M Ended d → ⊥
  ended_not d s =
      let (o, q) = verdict_parses s (λ e. let z : ◌≡◌ {A = ℕ} 0 1 = cc in omega arith) in
      when_parsed s q (λ e. let z : ◌≡◌ {A = ℕ} 0 1 = cc in omega arith) (λ e. let z : ◌≡◌ {A = ℕ} 0 1 = cc in omega arith)

  halted_not : (d : Config) → Says M Halted d → ⊥
  halted_not d s =
      let (o, q) = verdict_parses s (λ e. let z : ◌≡◌ {A = ℕ} 0 1 = cc in omega arith) in
      when_parsed s q (λ e. let z : ◌≡◌ {A = ℕ} 0 1 = cc in omega arith) (λ e. let z : ◌≡◌ {A = ℕ} 0 1 = cc in omega arith)

  pub parses_right : ParsesRight how M E cs
  parses_right =
      record {
        accepted_parses = accepted_has;
        parses_accepted = accepts;
        parses_stuck = sticks;
        stuck_parses = stuck_has;
        parses_terminates = terminates;
        no_parse_goes_on = goes_on;
        never_ended = ended_not;
        never_halted = halted_not;
      }
