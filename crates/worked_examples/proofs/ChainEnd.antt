-- Any step of the judge's chain that has a verdict tells the run's verdict, end and readings. Assumes nothing.
use mathlib.Core.Path.{◌≡◌, refl, sym, ap, ◌∙◌, subst}
use mathlib.Core.List.{List}
use mathlib.Core.Option.{none, some}
use Prim.Native.Nat.{ℕ, zero, suc, ◌+◌, ◌-◌, ◌<◌}
use native.Mathlib.Decide.{dec_lt}
use native.Mathlib.Omega.{arith}
use Rattle.machine.specs.declared.Verdict.{Verdict}
use Rattle.machine.specs.Run.{Machine}
use Rattle.image.specs.Image.{machine}
use Rattle.machine.specs.Verdicts.{Says, AllEntered}
use Rattle.image.specs.Refusals.{Unrefused}
use Rattle.chain.specs.declared.Environment.{Environment}
use Rattle.chain.specs.declared.Registers.{Registers}
use Rattle.chain.specs.declared.JudgeState.{JudgeState}
use Rattle.chain.specs.Step.{ProgramState, judge_step}
use Rattle.chain.specs.Chain.{ChainCorrect, chain, environment_of, verdict_of}
use Rattle.chain_theory.proofs.ChainJudges.{registers_at, registers_go}
use Rattle.chain_theory.proofs.Stays.{stays}
use Rattle.chain_theory.proofs.Interface.{chain_judges}

-- so many steps of the judge
unfoldable pub steps_on : (count : ℕ) → Machine → Environment → ProgramState Registers → ProgramState Registers
steps_on zero M e x = x
steps_on (suc n) M e x = judge_step M e (steps_on n M e x)

pub registers_steps :
    (bs cs : List ℕ) (n : ℕ) → registers_at bs cs n ≡ steps_on n (machine bs cs) (environment_of bs cs) (registers_at bs cs 0)
unfolding steps_on
registers_steps bs cs zero = refl
registers_steps bs cs (suc n) =
    registers_go bs cs n ∙ ap (judge_step (machine bs cs) (environment_of bs cs)) (registers_steps bs cs n)

module _ (bs cs : List ℕ) where
  -- what registers and cells tell of the run
  pub record Told (x : ProgramState Registers) (v : Verdict) : Type 0 where
    pub verdict_is : verdict_of x.state.mode ≡ some v
    pub says : Says (machine bs cs) v x.state.at
    pub entered : AllEntered (machine bs cs) x.state.readings

  told_last : (j : ChainCorrect JudgeState chain bs cs) → Told (registers_at bs cs j.steps) j.verdict
  unfolding chain registers_at
  told_last j = record { verdict_is = j.answers; says = j.says; entered = j.entered }

  no_verdict :
      (j : ChainCorrect JudgeState chain bs cs) (n : ℕ) → n < j.steps → verdict_of (registers_at bs cs n).state.mode ≡ none
  unfolding chain registers_at
  no_verdict j n h = j.not_before n h

  told_after :
      (j : ChainCorrect JudgeState chain bs cs) (n : ℕ) (v : Verdict) → verdict_of (registers_at bs cs n).state.mode ≡ some v →
      Told (registers_at bs cs n) j.verdict
  told_after j n v e = go (dec_lt n j.steps)
    where
      go : Dec (n < j.steps) → Told (registers_at bs cs n) j.verdict
      go (yes h) =
          let f : verdict_of (registers_at bs cs n).state.mode ≡ none = no_verdict j n h in
          absurd (let z : ◌≡◌ {A = ℕ} 0 1 = cc in omega arith)
      go (no h) =
          let k : n ≡ j.steps + (n - j.steps) = omega arith in
          let same : registers_at bs cs n ≡ registers_at bs cs j.steps =
          ap (registers_at bs cs) k ∙ stays bs cs j.steps j.verdict (told_last j).verdict_is (n - j.steps) in
          subst (λ (x : ProgramState Registers). Told x j.verdict) (sym same) (told_last j)

  pub chain_tells :
      Unrefused bs cs → (n : ℕ) (v : Verdict) → verdict_of (registers_at bs cs n).state.mode ≡ some v →
      Told (registers_at bs cs n) v
  chain_tells u n v e =
      let t = told_after (chain_judges bs cs u) n v e in
      let same : (chain_judges bs cs u).verdict ≡ v = cc (t.verdict_is, e) in
      subst (Told (registers_at bs cs n)) same t
