-- Judging says halted and stuck just where the run comes to a rule that halts it or to a missing one, by the rule's kind. Assumes nothing.
use Rattle.std.specs.Prelude.{Ok}
use mathlib.Core.Path.{◌≡◌, sym}
use mathlib.Core.List.{List}
use mathlib.Core.Logic.{◌↔◌}
use Prim.Native.Nat.{ℕ, ◌<◌}
use Rattle.codec.specs.Bytes.{byte}
use Rattle.machine.specs.declared.Config.{Config}
use Rattle.machine.specs.declared.Action.TheVariants.{Stop}
use Rattle.machine.specs.declared.Reason.{Reason}
use Rattle.machine.specs.declared.Reason.TheVariants.{Missing, Halting}
use Rattle.machine.specs.declared.Verdict.{Verdict}
use Rattle.machine.specs.declared.Verdict.TheVariants.{Stuck, Halted}
use Rattle.machine.specs.Terminating.{stop_verdict}
use Rattle.machine.specs.Verdicts.{Entered}
use Rattle.machine.proofs.Terminates.{stops_there}
use Rattle.image.specs.Image.{rule_of, class_under, action, machine}
use Rattle.image.proofs.Rules.{rule_right}
use Rattle.image.proofs.HaltingRules.{lookup_apart}
use Rattle.simulator.specs.Calls.{judgement, JudgeSays}
use Rattle.simulator.proofs.Answered.{answered}
use Rattle.simulator.proofs.JudgingRight.{entered_numbered, verdict_exact}

module _
    (bs cs a a_now b b_now : List ℕ) (v : Verdict) (n : ℕ) (d : Config) (bytes : (i : ℕ) → byte cs i < 256)
    (says : JudgeSays bs cs (Ok (judgement v n d)) a a_now b b_now)
  where
    -- by what the rule does
    stops_exact : (r : Reason) (e : Config) → ((v ≡ stop_verdict r) × (d ≡ e)) ↔ (Entered (machine bs cs) e × ((machine bs cs).action e ≡ Stop r))
    stops_exact r e =
        let (exact_on, exact_back) = verdict_exact bs cs a a_now b b_now v n d bytes says (stop_verdict r) e in
        let (there_on, there_back) = stops_there (machine bs cs) r e in
        (λ (p, q). there_on (exact_back (sym p, sym q)), λ x. let (p, q) = exact_on (there_back x) in (sym p, sym q))

    -- by its kind, since the rule of a configuration that is entered is right
    module _ (e : Config) (entered : Entered (machine bs cs) e) where
      apart :
          (((machine bs cs).action e ≡ Stop Halting) ↔ ((rule_of bs cs e).kind ≡ 4)) × (((machine bs cs).action e ≡ Stop Missing) ↔ ((rule_of bs cs e).kind ≡ 0))
      unfolding machine action
      apart =
          let u = (answered bs cs a a_now b b_now v n d bytes says).unrefused in
          let t = (entered_numbered bs cs u e entered).0 in
          lookup_apart bs (class_under bs cs e.head) e.head (rule_of bs cs e) (rule_right u t)

    pub halted_exact : (e : Config) → ((v ≡ Halted) × (d ≡ e)) ↔ (Entered (machine bs cs) e × ((rule_of bs cs e).kind ≡ 4))
    unfolding stop_verdict
    halted_exact e =
        let (on, back) = stops_exact Halting e in
        (λ x. let (entered, stops) = on x in (entered, (apart e entered).0.0 stops), λ (entered, kind). back (entered, (apart e entered).0.1 kind))

    pub stuck_exact : (e : Config) → ((v ≡ Stuck) × (d ≡ e)) ↔ (Entered (machine bs cs) e × ((rule_of bs cs e).kind ≡ 0))
    unfolding stop_verdict
    stuck_exact e =
        let (on, back) = stops_exact Missing e in
        (λ x. let (entered, stops) = on x in (entered, (apart e entered).1.0 stops), λ (entered, kind). back (entered, (apart e entered).1.1 kind))
