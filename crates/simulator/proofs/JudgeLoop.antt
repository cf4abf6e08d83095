-- The loop of the call `judge`: what holds after each step, and the answer at the end. Over the interface to the chain's theory; assumes nothing else.
use mathlib.Core.Path.{◌≡◌, sym, ap, ◌∙◌, subst}
use mathlib.Core.List.{List}
use mathlib.Core.Option.{none, some}
use Prim.Native.Nat.{ℕ, suc, ◌+◌, ◌*◌, ◌-◌, ◌<◌, ◌≤◌}
use native.Mathlib.Decide.{dec_lt}
use native.Mathlib.Omega.{arith}
use lib.ListN.{length, take, drop, replicate}
use Rattle.machine.specs.declared.Verdict.{Verdict}
use Rattle.image.specs.Format
use Rattle.machine.specs.Run.{how_many}
use Rattle.image.specs.Image.{machine}
use Rattle.machine.specs.Verdicts.{Says, Noted, nonzero}
use Rattle.image.specs.Refusals.{Unrefused}
use Rattle.machine.proofs.Nonzero.{nonzero_most}
use Rattle.image.proofs.Rules.{good}
use Rattle.chain.specs.declared.Mode.TheVariants.{Done}
use Rattle.chain.specs.declared.Environment.{Environment}
use Rattle.chain.specs.declared.Registers.{Registers}
use Rattle.chain.specs.declared.JudgeState.{JudgeState}
use Rattle.chain.specs.Step.{ProgramState}
use Rattle.chain.specs.Code.Ready.{Ready, StepSays}
use Rattle.chain.specs.Chain.{ChainCorrect, environment_of, start_in, start_state, started, chain, reached, stepped, verdict_of}
use Rattle.simulator.specs.Calls.{JudgementRight, judgement}
use Rattle.simulator.specs.Code.Checked.{Cleared}
use Rattle.simulator.proofs.StepsLeft.{steps_left, steps_left-reached}
use Rattle.chain_theory.proofs.ChainJudges.{start_environment}
use Rattle.chain_theory.proofs.Interface.{chain_judges, chain_ready}

abbrev at_reached : Environment → Registers → (notes work : List ℕ) → ProgramState JudgeState
at_reached e r ns ws = record { state = record { environment = e; registers = r }; notes = ns; work = ws }

-- THE INVARIANT: state and cells are those of the chain after some steps, and the verdict is not yet passed
pub record AfterSteps (bs cs : List ℕ) (e : Environment) (r : Registers) (ns ws : List ℕ) : Type 0 where
  pub unrefused : Unrefused bs cs
  pub steps : ℕ
  pub is : reached chain bs cs steps ≡ at_reached e r ns ws
  pub early : steps ≤ (chain_judges bs cs unrefused).steps

-- THE MEASURE: how many steps the chain still takes, which are 4 for each configuration and 1 at most
unfoldable pub left : (image capture : List ℕ) → Environment → Registers → (notes work : List ℕ) → ℕ
left bs cs e r ns ws = steps_left (4 * how_many (machine bs cs) + 1) bs cs (at_reached e r ns ws)

-- the start is the chain's
pub start_is :
    (bs cs : List ℕ) →
    start_in (environment_of bs cs) ≡ start_state (take Format.counts_length (drop Format.counts_offset bs)) (length cs)
unfolding start_state
start_is bs cs = ap start_in (sym (start_environment bs cs))

pub long_image : {bs cs ns ws : List ℕ} → Cleared bs cs ns ws → Format.map_offset ≤ length bs
long_image c = omega (arith, (good c.unrefused).long)

pub at_start :
    {bs cs : List ℕ} {s : JudgeState} {ns ws : List ℕ} → s ≡ start_in (environment_of bs cs) → Cleared bs cs ns ws →
    AfterSteps bs cs s.environment s.registers ns ws
unfolding reached started chain
at_start {bs} {cs} e c =
    record { unrefused = c.unrefused; steps = 0; is = rw (e, c.notes_zero, c.work_zero, start_is bs cs); early = omega arith }

-- what the theory says of the chain's end, over record and cells
record Ends (bs cs : List ℕ) (x : ProgramState JudgeState) (v : Verdict) : Type 0 where
  answers : verdict_of x.state.registers.mode ≡ some v
  says : Says (machine bs cs) v x.state.registers.at
  noted : Noted (machine bs cs) x.notes
  cleared : x.work ≡ replicate (how_many (machine bs cs)) 0
  counted : x.state.registers.readings ≡ nonzero (how_many (machine bs cs)) x.notes

ends : {bs cs : List ℕ} (j : ChainCorrect JudgeState chain bs cs) → Ends bs cs (reached chain bs cs j.steps) j.verdict
unfolding chain
ends j =
    record {
      answers = j.answers;
      says = j.says;
      noted = j.noted;
      cleared = j.cleared;
      counted = j.counted j.steps (omega arith);
    }

steps_most : {bs cs : List ℕ} (j : ChainCorrect JudgeState chain bs cs) → j.steps ≤ 4 * how_many (machine bs cs) + 1
unfolding chain
steps_most {bs} {cs} j =
    omega
    (arith, j.few, (ends j).counted, nonzero_most (how_many (machine bs cs)) (reached chain bs cs j.steps).notes)

module _ {bs cs : List ℕ} {e : Environment} {r : Registers} {ns ws : List ℕ} (a : AfterSteps bs cs e r ns ws) where
  abbrev judges : ChainCorrect JudgeState chain bs cs
  judges = chain_judges bs cs a.unrefused

  pub ready : Ready bs cs e r ns ws
  ready =
      subst
      (λ (x : ProgramState JudgeState). Ready bs cs x.state.environment x.state.registers x.notes x.work)
      a.is
      (chain_ready bs cs a.unrefused a.steps a.early)

  at_now : chain.verdict (reached chain bs cs a.steps).state ≡ verdict_of r.mode
  unfolding chain
  at_now = rw a.is

  -- before the verdict
  pub before_end : verdict_of r.mode ≡ none → a.steps < judges.steps
  before_end e = go (dec_lt a.steps judges.steps)
    where
      go : Dec (a.steps < judges.steps) → a.steps < judges.steps
      go (yes h) = h
      go (no h) =
          let q : a.steps ≡ judges.steps = omega (arith, a.early) in
          let s : chain.verdict (reached chain bs cs a.steps).state ≡ some judges.verdict =
          subst (λ (k : ℕ). chain.verdict (reached chain bs cs k).state ≡ some judges.verdict) (sym q) judges.answers
          in
          absurd (let z : ◌≡◌ {A = ℕ} 0 1 = cc (e, s, at_now) in omega arith)

  -- a step more
  module _ (running : verdict_of r.mode ≡ none) {x : Registers} {ns' ws' : List ℕ} (says : StepSays bs cs e r x ns ns' ws ws') where
    stepped_now : reached chain bs cs (suc a.steps) ≡ at_reached e x ns' ws'
    unfolding reached stepped chain
    stepped_now = rw a.is (ap (λ (y : ProgramState Registers). at_reached e y.state y.notes y.work) (sym says.is))

    pub next : AfterSteps bs cs e x ns' ws'
    next = record { unrefused = a.unrefused; steps = suc a.steps; is = stepped_now; early = omega (arith, before_end running) }

    pub fewer : left bs cs e x ns' ws' < left bs cs e r ns ws
    unfolding left
    fewer =
        let most = steps_most judges in
        let early = before_end running in
        let now = steps_left-reached judges a.steps (judges.steps - a.steps) (4 * how_many (machine bs cs) + 1) (omega arith) (omega arith) in
        let then = steps_left-reached judges (suc a.steps) (judges.steps - suc a.steps) (4 * how_many (machine bs cs) + 1) (omega arith) (omega arith) in
        let now' : steps_left (4 * how_many (machine bs cs) + 1) bs cs (at_reached e r ns ws) ≡ judges.steps - a.steps = rw (← a.is) now in
        let then' : steps_left (4 * how_many (machine bs cs) + 1) bs cs (at_reached e x ns' ws') ≡ judges.steps - suc a.steps = rw (← stepped_now) then in
        omega arith

  -- at the verdict
  at_end : {v : Verdict} → r.mode ≡ Done v → judges.steps ≡ a.steps
  unfolding verdict_of
  at_end {v} e = go (dec_lt a.steps judges.steps)
    where
      go : Dec (a.steps < judges.steps) → judges.steps ≡ a.steps
      go (yes h) =
          let s : verdict_of r.mode ≡ some v = rw e in
          let t : verdict_of r.mode ≡ none = sym at_now ∙ judges.not_before a.steps h in
          absurd (let z : ◌≡◌ {A = ℕ} 0 1 = cc in omega arith)
      go (no h) = omega (arith, a.early)

  ends_now : {v : Verdict} → r.mode ≡ Done v → Ends bs cs (at_reached e r ns ws) judges.verdict
  ends_now f =
      subst
      (λ (x : ProgramState JudgeState). Ends bs cs x judges.verdict)
      (ap (reached chain bs cs) (at_end f) ∙ a.is)
      (ends judges)

  same_verdict : {v : Verdict} → r.mode ≡ Done v → judges.verdict ≡ v
  unfolding verdict_of
  same_verdict {v} e = let s : verdict_of r.mode ≡ some v = rw e in cc (ends_now e).answers

  -- the steps taken are the theory's, so its bound is theirs
  steps_few : {v : Verdict} → r.mode ≡ Done v → a.steps ≤ 4 * r.readings + 1
  unfolding chain
  steps_few f =
      let same : reached chain bs cs judges.steps ≡ at_reached e r ns ws = ap (reached chain bs cs) (at_end f) ∙ a.is in
      let reads : (reached chain bs cs judges.steps).state.registers.readings ≡ r.readings =
      ap (λ (x : ProgramState JudgeState). x.state.registers.readings) same
      in
      omega (arith, at_end f, judges.few, reads)

  pub right : {v : Verdict} → r.mode ≡ Done v → JudgementRight bs cs (judgement v r.readings r.at) ns ws
  unfolding chain verdict_of
  right {v} g =
      let f : Ends bs cs (at_reached e r ns ws) v = rw (same_verdict g) at (ends_now g) in
      record {
        says = f.says;
        noted = f.noted;
        counted = f.counted;
        noted_cells = ready.notes_long;
        work_zero = f.cleared;
        by_chain =
            record {
              steps = a.steps;
              verdict_is = rw (a.is, g);
              readings_are = rw a.is;
              end_is = rw a.is;
              notes_are = rw a.is;
              few = steps_few g;
              not_before = λ m h. judges.not_before m (omega (arith, at_end g));
            };
      }
