-- The test of a row: what is computed of it, what the row says, and that a row holds where the two are the same. Assumes nothing.
use mathlib.Core.Path.{◌≡◌, refl, ap, ◌∙◌, subst}
use mathlib.Core.Bool.{Bool, true, false, ◌&&◌}
use mathlib.Core.List.{List, [], ◌∷◌}
use mathlib.Core.Option.{Option, none, some}
use Prim.Native.Nat.{ℕ, zero, suc, ◌+◌, ◌*◌, ◌<◌}
use native.Mathlib.Omega.{arith}
use lib.Dec.{ltb, leb}
use lib.ListN.{length}
use borrow.Author.Tests.{ltb-true, leb-true}
use Rattle.machine.specs.declared.Config.{Config}
use Rattle.machine.specs.declared.Verdict.{Verdict}
use Rattle.machine.specs.declared.Verdict.TheVariants.{Looping}
use Rattle.machine.specs.declared.Termination.{Termination}
use Rattle.image.specs.Format
use Rattle.machine.specs.Terminating.{termination_verdict}
use Rattle.machine.specs.Run.{Machine, start}
use Rattle.codec.specs.Bytes.{byte}
use Rattle.image.specs.Image.{machine}
use Rattle.image.specs.Refusals.{Unrefused, image_refusal}
use Rattle.machine.specs.Verdicts.{Says, AllEntered}
use Rattle.machine.proofs.Runs.{some_same}
use Rattle.machine.proofs.Terminates.{says_looping}
use Rattle.interpreter.specs.declared.Exit.{Exit}
use Rattle.interpreter.specs.declared.Exit.TheVariants.{Terminated, Spent, Deep}
use Rattle.interpreter.specs.declared.RunEnd.{RunEnd}
use Rattle.interpreter.specs.PlainRun.{run_end, run_on, TrueEnd}
use Rattle.interpreter.proofs.TrueEnd.{plain_run_true}
use Rattle.chain.specs.declared.Registers.{Registers}
use Rattle.chain.specs.Step.{ProgramState}
use Rattle.chain.specs.Chain.{environment_of, verdict_of}
use Rattle.chain_theory.proofs.ChainJudges.{registers_at}
use Rattle.worked_examples.specs.Examples.{Row, row_machine, image_of, source_refusal, Takes, StepsAre, RowHolds}
use Rattle.worked_examples.proofs.ChainEnd.{steps_on, registers_steps, chain_tells}

-- bytes
unfoldable pub all_bytes : List ℕ → Bool
all_bytes [] = true
all_bytes (b ∷ bs) = ltb b 256 && all_bytes bs

and_true : (a b : Bool) → (a && b) ≡ true → (a ≡ true) × (b ≡ true)
and_true true true e = (refl, refl)
and_true true false e = absurd (let z : ◌≡◌ {A = ℕ} 0 1 = cc in omega arith)
and_true false b e = absurd (let z : ◌≡◌ {A = ℕ} 0 1 = cc in omega arith)

bytes_below : (cs : List ℕ) → all_bytes cs ≡ true → (i : ℕ) → byte cs i < 256
unfolding all_bytes
bytes_below [] e i = omega arith
bytes_below (b ∷ bs) e zero = ltb-true b 256 (and_true (ltb b 256) (all_bytes bs) e).0
bytes_below (b ∷ bs) e (suc i) = bytes_below bs (and_true (ltb b 256) (all_bytes bs) e).1 i

-- the verdict, steps and end of a plain run that terminates
pub record RanAs : Type 0 where
  pub verdict : Option Verdict
  pub steps : ℕ
  pub end : Config

abbrev pub ran_as : Option Verdict → (steps : ℕ) → Config → RanAs
ran_as v n d = record { verdict = v; steps = n; end = d }

unfoldable pub exit_verdict : Exit → Option Verdict
exit_verdict (Terminated h) = some (termination_verdict h)
exit_verdict Spent = none
exit_verdict Deep = none

abbrev pub ran_of : RunEnd → RanAs
ran_of e = ran_as (exit_verdict e.exit) e.steps e.reached

-- WHAT IS COMPUTED of a row: the refusals, the end of the judge's chain, and of a plain run that has budget and cells enough; for a row without steps the verdict that it names
pub record Found : Type 0 where
  pub source_refused : ℕ
  pub image_refused : ℕ
  pub short : Bool
  pub bytes : Bool
  pub verdict : Option Verdict
  pub readings : ℕ
  pub end : Config
  pub ran : RanAs

-- more than any capture of the table takes
unfoldable pub enough : ℕ
enough = 20

unfoldable pub ran_found : Option ℕ → Machine → Verdict → Config → RanAs
ran_found none M v d = ran_as (some v) 0 d
ran_found (some n) M v d = ran_of (run_on enough M 0 enough start)

unfoldable pub ran_said : Option ℕ → Verdict → Config → RanAs
ran_said none v d = ran_as (some Looping) 0 d
ran_said (some n) v d = ran_as (some v) n d

-- the chain after 4 r + 1 steps
unfoldable pub chain_last : (image capture : List ℕ) → (readings : ℕ) → ProgramState Registers
chain_last bs cs r = steps_on (4 * r + 1) (machine bs cs) (environment_of bs cs) (registers_at bs cs 0)

unfoldable pub found_by : Row → Machine → ProgramState Registers → Found
found_by r M x =
    record {
      source_refused = source_refusal r.source;
      image_refused = (image_refusal (image_of r.source)).number;
      short = leb (length r.capture) Format.max_capture;
      bytes = all_bytes r.capture;
      verdict = verdict_of x.state.mode;
      readings = x.state.readings;
      end = x.state.at;
      ran = ran_found r.steps M r.verdict r.end;
    }

unfoldable pub found : Row → Found
found r = found_by r (row_machine r) (chain_last (image_of r.source) r.capture r.readings)

-- WHAT THE ROW SAYS
unfoldable pub said : Row → Found
said r =
    record {
      source_refused = 0;
      image_refused = 0;
      short = true;
      bytes = true;
      verdict = some r.verdict;
      readings = r.readings;
      end = r.end;
      ran = ran_said r.steps r.verdict r.end;
    }

-- THE LAW, by parts
exit_terminates : (e : Exit) (v : Verdict) → exit_verdict e ≡ some v → (h : Termination) × (e ≡ Terminated h) × (v ≡ termination_verdict h)
unfolding exit_verdict
exit_terminates (Terminated h) v e = (h, refl, cc)
exit_terminates Spent v e = absurd (let z : ◌≡◌ {A = ℕ} 0 1 = cc in omega arith)
exit_terminates Deep v e = absurd (let z : ◌≡◌ {A = ℕ} 0 1 = cc in omega arith)

end_same : (e : RunEnd) {x : Exit} {n : ℕ} {d : Config} → e.exit ≡ x → e.steps ≡ n → e.reached ≡ d → e ≡ run_end x n d
end_same e p q r = rw (← p, ← q, ← r) refl

run_ends : (M : Machine) (v : Verdict) (n : ℕ) (d : Config) → ran_of (run_on enough M 0 enough start) ≡ ran_as (some v) n d → Takes M v n d
unfolding enough
run_ends M v n d e =
    let ran : RunEnd = run_on enough M 0 enough start in
    let (h, exits, verdicts) = exit_terminates ran.exit v (ap (λ (x : RanAs). x.verdict) e) in
    let same : ran ≡ run_end (Terminated h) n d = end_same ran exits (ap (λ (x : RanAs). x.steps) e) (ap (λ (x : RanAs). x.end) e) in
    record {
      budget = enough;
      cells = enough;
      termination = h;
      verdict_is = verdicts;
      ran = same;
      true_end = subst (TrueEnd M enough enough) same (plain_run_true M enough enough (omega arith));
    }

steps_hold :
    (s : Option ℕ) (M : Machine) (v : Verdict) (d : Config) → ran_found s M v d ≡ ran_said s v d → Says M v d → StepsAre s M v d
unfolding ran_found ran_said StepsAre
steps_hold none M v d e h =
    let loops : v ≡ Looping = some_same (some v) refl (ap (λ (x : RanAs). x.verdict) e) in
    (says_looping (subst (λ (w : Verdict). Says M w d) loops h)).0
steps_hold (some n) M v d e h = run_ends M v n d e

chain_holds :
    (bs cs : List ℕ) (v : Verdict) (r : ℕ) (d : Config) → Unrefused bs cs →
    verdict_of (chain_last bs cs r).state.mode ≡ some v → (chain_last bs cs r).state.readings ≡ r →
    (chain_last bs cs r).state.at ≡ d → Says (machine bs cs) v d × AllEntered (machine bs cs) r
unfolding chain_last
chain_holds bs cs v r d u e f g =
    let same = registers_steps bs cs (4 * r + 1) in
    let t = chain_tells bs cs u (4 * r + 1) v (ap (λ (x : ProgramState Registers). verdict_of x.state.mode) same ∙ e) in (
      subst (Says (machine bs cs) v) (ap (λ (x : ProgramState Registers). x.state.at) same ∙ g) t.says,
      subst (AllEntered (machine bs cs)) (ap (λ (x : ProgramState Registers). x.state.readings) same ∙ f) t.entered,
    )

pub found_holds : (r : Row) → found r ≡ said r → RowHolds r
unfolding found found_by said row_machine
found_holds r e =
    let u : Unrefused (image_of r.source) r.capture =
    record {
      good = ap (λ (x : Found). x.image_refused) e;
      short = leb-true _ _ (ap (λ (x : Found). x.short) e);
      bytes = bytes_below r.capture (ap (λ (x : Found). x.bytes) e);
    } in
    let c : Says (row_machine r) r.verdict r.end × AllEntered (row_machine r) r.readings =
    chain_holds (image_of r.source) r.capture r.verdict r.readings r.end u
    (ap (λ (x : Found). x.verdict) e) (ap (λ (x : Found). x.readings) e) (ap (λ (x : Found). x.end) e) in
    record {
      good = ap (λ (x : Found). x.source_refused) e;
      unrefused = u;
      says = c.0;
      entered = c.1;
      steps_are = steps_hold r.steps (row_machine r) r.verdict r.end (ap (λ (x : Found). x.ran) e) c.0;
    }
