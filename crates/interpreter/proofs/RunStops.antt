-- The plain run where a rule stops the run: within its budget and its cells it answers so, with no step for it, before anything else. Assumes nothing.
use mathlib.Core.Path.{◌≡◌, sym, ap, ◌∙◌}
use mathlib.Core.List.{List}
use mathlib.Core.Option.{some}
use Prim.Native.Nat.{ℕ, zero, suc, ◌+◌, ◌≤◌}
use native.Mathlib.Nat.{add-zero}
use native.Mathlib.Omega.{arith}
use lib.ListN.{length}
use Rattle.machine.specs.declared.Action.TheVariants.{Stop}
use Rattle.machine.specs.declared.Reason.{Reason}
use Rattle.machine.specs.declared.Reason.TheVariants.{Missing, Halting}
use Rattle.machine.specs.declared.Termination.TheVariants.{Stopped}
use Rattle.machine.specs.Terminating.{stop_verdict, termination_verdict}
use Rattle.machine.specs.Run.{Machine, Description, stopped, next, step, start, after, config_of}
use Rattle.machine.specs.Replies.{verdict_number, answer_reply}
use Rattle.machine.proofs.Runs.{after_zero, after_last, after_split, after_front, some_same, step_stop, entered_topped}
use Rattle.image.specs.Image.{rule_of, action, machine}
use Rattle.image.proofs.HaltingRules.{misses, halts}
use Rattle.interpreter.specs.declared.Exit.TheVariants.{Terminated}
use Rattle.interpreter.specs.Answers.{Ran}
use Rattle.interpreter.specs.PlainRun.{run_end, spent_or, run_on}
use Rattle.interpreter.specs.Calls.{run_refusal, answer, RunSays}
use Rattle.interpreter.specs.Replies.{exit_number, of_ran}
use Rattle.interpreter.proofs.RunSteps.{run_spent, run_stopped, run_next}
use Rattle.interpreter.proofs.Answered.{run_answered}

-- the first of so many steps is one to the place after it
first_step : (M : Machine) (y z : Description) → after 1 M y ≡ some z → step M y ≡ next z
first_step M y z e =
    let (u, at_u, goes) = after_last M 0 y e in
    let same : u ≡ y = some_same (after 0 M y) at_u (after_zero M y) in
    ap (step M) (sym same) ∙ goes

-- from y on the run stops at x, j steps later; the fuel is enough, and no stack on the way has more entries than cells
to_stop :
    (M : Machine) (k : ℕ) (r : Reason) (x : Description) → step M x ≡ stopped r → (j f m : ℕ) (y : Description) → j ≤ f →
    after j M y ≡ some x → ((i : ℕ) (z : Description) → i ≤ j → after i M y ≡ some z → length z.stack ≤ k) →
    run_on f M m k y ≡ run_end (Terminated (Stopped r)) (m + j) (config_of x)
unfolding spent_or
to_stop M k r x s zero zero m y l e low =
    let same : y ≡ x = some_same (after 0 M y) (after_zero M y) e in
    rw (add-zero, same) (run_spent M m k x (ap spent_or s))
to_stop M k r x s zero (suc f) m y l e low =
    let same : y ≡ x = some_same (after 0 M y) (after_zero M y) e in
    rw (add-zero, same) (run_stopped M m k x f r s)
to_stop M k r x s (suc j) zero m y l e low = absurd (omega arith)
to_stop M k r x s (suc j) (suc f) m y l e low =
    let one : suc j ≡ 1 + j = omega arith in
    let (z, first, rest) = after_split M 1 j y (rw one at e) in
    let goes = first_step M y z first in
    let on : run_on f M (suc m) k z ≡ run_end (Terminated (Stopped r)) (suc m + j) (config_of x) =
    to_stop M k r x s j f (suc m) z (omega arith) rest (λ i w h at_w. low (suc i) w (omega arith) (after_front M i y goes ∙ at_w)) in
    let count : m + suc j ≡ suc m + j = omega arith in
    rw count (run_next M m k y f z goes (low 1 z (omega arith) first) ∙ on)

-- THE CALL'S ANSWER, by the kind of the rule
module _
    (bs cs : List ℕ) (budget n : ℕ) (x : Description) (r : Ran) (a a_now : List ℕ) (none : (run_refusal bs cs (length a)).number ≡ 0)
    (says : RunSays bs cs budget r a a_now) (comes : after n (machine bs cs) start ≡ some x) (within : n ≤ budget)
    (low : (m : ℕ) (y : Description) → m ≤ n → after m (machine bs cs) start ≡ some y → length y.stack ≤ length a)
  where
    stops_by : (q : Reason) → (machine bs cs).action (config_of x) ≡ Stop q → of_ran r ≡ answer_reply (verdict_number (stop_verdict q)) n (config_of x)
    unfolding of_ran exit_number termination_verdict
    stops_by q stop =
        let t = entered_topped (machine bs cs) n comes in
        let stops : step (machine bs cs) x ≡ stopped q =
        ap (step (machine bs cs)) t.is ∙ step_stop (machine bs cs) (config_of x) t.pointer t.base stop in
        let ran = to_stop (machine bs cs) (length a) q x stops n budget 0 start within comes low in
        let counted : 0 + n ≡ n = omega arith in
        rw (sym counted) (ap of_ran ((run_answered bs cs budget r a a_now none says).0 ∙ ap answer ran))

    pub run_stops :
        ((rule_of bs cs (config_of x)).kind ≡ 4 → of_ran r ≡ answer_reply 7 n (config_of x))
        × ((rule_of bs cs (config_of x)).kind ≡ 0 → of_ran r ≡ answer_reply 3 n (config_of x))
    unfolding stop_verdict verdict_number machine action
    run_stops = (
      λ kind. stops_by Halting (halts (rule_of bs cs (config_of x)) (config_of x).head kind),
      λ kind. stops_by Missing (misses (rule_of bs cs (config_of x)) (config_of x).head kind),
    )
