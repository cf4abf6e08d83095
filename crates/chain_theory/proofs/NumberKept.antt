-- Every state of the program's chain keeps the number of the configuration beside it, up to the verdict and past it. Assumes nothing.
use mathlib.Core.Path.{◌≡◌, sym, subst, ◌∙◌, ap}
use mathlib.Core.List.{List}
use Prim.Native.Nat.{ℕ, ◌+◌, ◌-◌, ◌≤◌}
use native.Mathlib.Omega.{arith}
use native.Mathlib.Decide.{dec_le}
use Rattle.machine.specs.Run.{ValidConfig}
use Rattle.image.specs.Image.{machine}
use Rattle.chain.specs.declared.Registers.{Registers}
use Rattle.chain.specs.declared.JudgeState.{JudgeState}
use Rattle.chain.specs.Step.{ProgramState}
use Rattle.chain.specs.Chain.{chain}
use Rattle.chain.specs.NumberKept.{NumberKept}
use Rattle.chain_theory.proofs.Shares.{number_agrees}
use Rattle.chain_theory.proofs.Finish.{Finished}
use Rattle.chain_theory.proofs.ChainJudges.{environment_fitted, registers_at, finished, numbered_at}
use Rattle.chain_theory.proofs.Stays.{stays}

there_at :
    (bs cs : List ℕ) → Finished (machine bs cs) (registers_at bs cs) → (n : ℕ) → ValidConfig (machine bs cs) (registers_at bs cs n).state.at
there_at bs cs f n = go (dec_le n f.steps)
  where
    go : Dec (n ≤ f.steps) → ValidConfig (machine bs cs) (registers_at bs cs n).state.at
    go (yes l) = (f.holds n l).shared.at_there
    go (no l) =
        let k : n ≡ f.steps + (n - f.steps) = omega arith in
        let same : registers_at bs cs n ≡ registers_at bs cs f.steps =
        ap (registers_at bs cs) k ∙ stays bs cs f.steps f.verdict f.answers (n - f.steps) in
        subst (λ (x : ProgramState Registers). ValidConfig (machine bs cs) x.state.at) (sym same) (f.holds f.steps (omega arith)).shared.at_there

pub number_kept : NumberKept chain (λ (s : JudgeState). s.registers.number) (λ (s : JudgeState). s.registers.at)
unfolding registers_at
number_kept bs cs n u =
    record {
      is = (numbered_at bs cs n).number_is ∙ number_agrees (registers_at bs cs n).state.at (environment_fitted bs cs u);
      there = there_at bs cs (finished bs cs u) n;
    }
