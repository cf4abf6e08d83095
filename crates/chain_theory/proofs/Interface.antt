-- What the call `judge` takes from the theory of the chain: it is correct, and up to its verdict every state is ready for a step. Assumes nothing.
use mathlib.Core.Path.{◌≡◌, sym, ◌∙◌}
use mathlib.Core.List.{List}
use mathlib.Core.Option.{none, some}
use Prim.Native.Nat.{ℕ, ◌<◌, ◌≤◌}
use native.Mathlib.Decide.{dec_lt}
use native.Mathlib.Omega.{arith}
use Rattle.image.specs.Refusals.{Unrefused}
use Rattle.chain.specs.declared.JudgeState.{JudgeState}
use Rattle.chain.specs.Chain.{ChainCorrect, chain, reached}
use Rattle.chain.specs.Code.Ready.{Ready}
use Rattle.chain_theory.proofs.ChainJudges as Theory

pub chain_judges : (bs cs : List ℕ) → Unrefused bs cs → ChainCorrect JudgeState chain bs cs
chain_judges bs cs u = Theory.chain_judges bs cs u

-- the verdict stands at the theory's step and at none before the chain's
steps_early : (bs cs : List ℕ) (u : Unrefused bs cs) → (chain_judges bs cs u).steps ≤ (Theory.finished bs cs u).steps
unfolding chain Theory.registers_at
steps_early bs cs u = go (dec_lt (Theory.finished bs cs u).steps (chain_judges bs cs u).steps)
  where
    go : Dec ((Theory.finished bs cs u).steps < (chain_judges bs cs u).steps) → (chain_judges bs cs u).steps ≤ (Theory.finished bs cs u).steps
    go (yes h) =
        let e : some (Theory.finished bs cs u).verdict ≡ none = sym (Theory.finished bs cs u).answers ∙ (chain_judges bs cs u).not_before _ h in
        absurd (let z : ◌≡◌ {A = ℕ} 0 1 = cc in omega arith)
    go (no h) = omega arith

pub chain_ready :
    (bs cs : List ℕ) (u : Unrefused bs cs) (n : ℕ) → n ≤ (chain_judges bs cs u).steps →
    Ready bs cs (reached chain bs cs n).state.environment (reached chain bs cs n).state.registers (reached chain bs cs n).notes (reached chain bs cs n).work
unfolding Theory.registers_at
chain_ready bs cs u n h = rw (Theory.environment_at bs cs n) (Theory.ready_at bs cs u n (omega (arith, steps_early bs cs u)))
