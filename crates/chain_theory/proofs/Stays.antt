-- Past the verdict nothing moves: a step changes nothing, so every later state of the program's chain is the same. Assumes nothing.
use mathlib.Core.Path.{◌≡◌, refl, ap, ◌∙◌}
use mathlib.Core.List.{List}
use mathlib.Core.Option.{some}
use Prim.Native.Nat.{ℕ, zero, suc, ◌+◌}
use native.Mathlib.Nat.{add-zero, add-suc}
use native.Mathlib.Omega.{arith}
use Rattle.machine.specs.declared.Verdict.{Verdict}
use Rattle.machine.specs.Run.{Machine}
use Rattle.image.specs.Image.{machine}
use Rattle.chain.specs.declared.Mode.{Mode}
use Rattle.chain.specs.declared.Mode.TheVariants.{Look, Unwind, Clear, Done}
use Rattle.chain.specs.declared.Environment.{Environment}
use Rattle.chain.specs.declared.Registers.{Registers}
use Rattle.chain.specs.Step.{ProgramState, with_cells, judge_step, step_by_mode}
use Rattle.chain.specs.Chain.{environment_of, verdict_of}
use Rattle.chain_theory.proofs.ChainJudges.{registers_at, registers_go}

by_mode :
    (M : Machine) (e : Environment) (r : Registers) (ns ws : List ℕ) (v : Verdict) (m : Mode) → verdict_of m ≡ some v →
    step_by_mode m M e r ns ws ≡ with_cells r ns ws
unfolding step_by_mode verdict_of
by_mode M e r ns ws v Look q = absurd (let z : ◌≡◌ {A = ℕ} 0 1 = cc in omega arith)
by_mode M e r ns ws v Unwind q = absurd (let z : ◌≡◌ {A = ℕ} 0 1 = cc in omega arith)
by_mode M e r ns ws v (Clear w) q = absurd (let z : ◌≡◌ {A = ℕ} 0 1 = cc in omega arith)
by_mode M e r ns ws v (Done w) q = refl

step_stays :
    (M : Machine) (e : Environment) (x : ProgramState Registers) (v : Verdict) → verdict_of x.state.mode ≡ some v → judge_step M e x ≡ x
unfolding judge_step
step_stays M e x v q = by_mode M e x.state x.notes x.work v x.state.mode q

pub stays :
    (bs cs : List ℕ) (n : ℕ) (v : Verdict) → verdict_of (registers_at bs cs n).state.mode ≡ some v → (k : ℕ) →
    registers_at bs cs (n + k) ≡ registers_at bs cs n
stays bs cs n v e zero = ap (registers_at bs cs) (add-zero n)
stays bs cs n v e (suc k) =
    ap (registers_at bs cs) (add-suc n k)
    ∙ registers_go bs cs (n + k)
    ∙ ap (judge_step (machine bs cs) (environment_of bs cs)) (stays bs cs n v e k)
    ∙ step_stays (machine bs cs) (environment_of bs cs) (registers_at bs cs n) v e
