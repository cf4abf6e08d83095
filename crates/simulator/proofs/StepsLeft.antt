-- How many steps the chain still takes: the measure of the loop of the call `judge`, whose code counts none. Assumes nothing.
use mathlib.Core.Path.{◌≡◌, refl, ap, ◌∙◌}
use mathlib.Core.List.{List}
use mathlib.Core.Option.{Option, none, some}
use Prim.Native.Nat.{ℕ, zero, suc, ◌+◌, ◌≤◌}
use native.Mathlib.Omega.{arith}
use Rattle.machine.specs.declared.Verdict.{Verdict}
use Rattle.chain.specs.declared.JudgeState.{JudgeState}
use Rattle.chain.specs.Step.{ProgramState}
use Rattle.chain.specs.Chain.{ChainCorrect, chain, reached, stepped}

abbrev one_more : (then : ℕ) → Option Verdict → ℕ
one_more n none = suc n
one_more n (some v) = 0

-- none at a verdict, else one more than after a step; of this many at most
unfoldable pub steps_left : (most : ℕ) → (image capture : List ℕ) → ProgramState JudgeState → ℕ
steps_left zero bs cs x = 0
steps_left (suc m) bs cs x = one_more (steps_left m bs cs (stepped chain bs cs x)) (chain.verdict x.state)

-- from the state after n steps they are those to the chain's end
pub steps_left-reached :
    {bs cs : List ℕ} (j : ChainCorrect JudgeState chain bs cs) (n k m : ℕ) → n + k ≡ j.steps → k ≤ m →
    steps_left m bs cs (reached chain bs cs n) ≡ k
unfolding steps_left reached
steps_left-reached j n zero zero e h = refl
steps_left-reached j n (suc k) zero e h = absurd (omega arith)
steps_left-reached {bs} {cs} j n zero (suc m) e h =
    let q : n ≡ j.steps = omega arith in
    ap (one_more _) (ap (λ (i : ℕ). chain.verdict (reached chain bs cs i).state) q ∙ j.answers)
steps_left-reached j n (suc k) (suc m) e h =
    ap (one_more _) (j.not_before n (omega arith))
    ∙ ap suc (steps_left-reached j (suc n) k m (omega arith) (omega arith))
