-- A line's readings have 32 bits: there are no more of them than configurations. Assumes nothing.
use Rattle.std.specs.Prelude.{Err, Ok}
use mathlib.Core.Path.{◌≡◌, ap, ◌∙◌}
use mathlib.Core.List.{List}
use Prim.Native.Nat.{ℕ, ◌≤◌}
use native.Mathlib.Omega.{arith}
use lib.ListN.{length}
use Rattle.machine.specs.Run.{how_many}
use Rattle.machine.proofs.Nonzero.{nonzero_most}
use Rattle.image.specs.Image.{machine}
use Rattle.image.specs.Refusals.{capture_refusal}
use Rattle.image.proofs.CaptureRefused.{capture_fine}
use Rattle.simulator.specs.Answers.{Judged}
use Rattle.simulator.specs.declared.Judgement.{Judgement}
use Rattle.simulator.specs.Calls.{cells_needed, JudgeSays}
use Rattle.simulator.proofs.Answered.{judged_right, answered_fine, unrefused_capture}
use Rattle.simulator.proofs.Needing.{cells_are, few_cells_of}
use Rattle.bundle.specs.Report.{line_readings}
use Rattle.bundle.specs.Code.Judging.{max_u32}

cells_few : (bs cs : List ℕ) → (capture_refusal bs (length cs)).number ≡ 0 → how_many (machine bs cs) ≤ max_u32
unfolding cells_needed
cells_few bs cs e =
    let (good, short) = capture_fine bs (length cs) e in
    let few = few_cells_of bs (length cs) good short in
    let same = cells_are bs cs in
    omega (arith, few, same)

pub readings_few :
    (bs cs : List ℕ) (r : Judged) (a x b y : List ℕ) → JudgeSays bs cs r a x b y → line_readings r ≤ max_u32
unfolding line_readings
readings_few bs cs (Err f) a x b y s = omega arith
readings_few bs cs (Ok j) a x b y s =
    let e = answered_fine bs cs a x b y j.verdict j.readings j.end s in
    let right = judged_right bs cs (Ok j) a x b y e s in
    let k : Judgement = right.judgement in
    let same : j ≡ k = let q = right.answers in cc in
    let most = nonzero_most (how_many (machine bs cs)) right.notes in
    let few = cells_few bs cs (unrefused_capture bs cs (length a) (length b) e) in
    let counted : j.readings ≡ _ = ap (λ (k : Judgement). k.readings) same ∙ right.right.counted in
    omega (arith, most, few, counted)
