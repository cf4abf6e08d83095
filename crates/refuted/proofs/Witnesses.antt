-- Calls that answer: for whatever is not refused judging has an answer, and for an example that holds it is the example's. Assumes nothing.
use Rattle.std.specs.Prelude.{Err, Ok}
use mathlib.Core.Path.{◌≡◌, refl, sym, ap}
use mathlib.Core.List.{List}
use Prim.Native.Nat.{ℕ, ◌<◌, ◌≤◌}
use native.Mathlib.Omega.{arith}
use lib.ListN.{length, replicate, length-replicate}
use Rattle.machine.specs.declared.Config.{Config}
use Rattle.machine.specs.declared.Verdict.{Verdict}
use Rattle.machine.specs.Run.{Machine, how_many}
use Rattle.machine.specs.Verdicts.{Says}
use Rattle.machine.specs.Replies.{verdict_number}
use Rattle.image.specs.Image.{machine}
use Rattle.image.specs.Refusals.{Unrefused, image_refusal}
use Rattle.image.proofs.CaptureRefused.{then_fine}
use Rattle.refusal.specs.declared.Refusal.{Refusal}
use Rattle.refusal.specs.First.{refusal}
use Rattle.chain.specs.Chain.{chain, reached}
use Rattle.chain_theory.proofs.Interface.{chain_judges, chain_ready}
use Rattle.simulator.specs.declared.Judgement.{Judgement}
use Rattle.simulator.specs.Code.Checked.{Sized}
use Rattle.simulator.specs.Calls.{judgement, cells_needed, JudgementRight, JudgeSays}
use Rattle.simulator.proofs.Needing.{cells_are}
use Rattle.simulator.proofs.JudgeRefusals.{answer_says, notes_says}
use Rattle.worked_examples.specs.Examples.{Row, RowHolds, image_of, row_machine}
use Rattle.promises.proofs.Proved.{promises}

-- ANY IMAGE AND CAPTURE THAT ARE NOT REFUSED: what the chain ends with is a right judgement,
chain_right :
    (bs cs : List ℕ) → Unrefused bs cs →
    (j : Judgement) × (notes : List ℕ) × JudgementRight bs cs j notes (replicate (how_many (machine bs cs)) 0)
unfolding chain
chain_right bs cs u =
    let k = chain_judges bs cs u in
    let last = reached chain bs cs k.steps in (
      judgement k.verdict last.state.registers.readings last.state.registers.at,
      last.notes,
      record {
        says = k.says;
        noted = k.noted;
        counted = k.counted k.steps (omega arith);
        noted_cells = (chain_ready bs cs u k.steps (omega arith)).notes_long;
        work_zero = refl;
        by_chain =
            record {
              steps = k.steps;
              verdict_is = k.answers;
              readings_are = refl;
              end_is = refl;
              notes_are = refl;
              few = k.few;
              not_before = k.not_before;
            };
      },
    )

sized : {bs cs : List ℕ} → Unrefused bs cs → Sized bs cs (cells_needed bs (length cs))
sized {bs} {cs} u =
    record { no_refusal = ap (λ (f : Refusal). f.number) (sym (then_fine bs (length cs) (image_refusal bs) refl u.good u.short)); counted = refl }

-- so judging with enough cells answers,
pub record JudgedThere (bs cs a b : List ℕ) : Type 0 where
  pub verdict : Verdict
  pub readings : ℕ
  pub end : Config
  pub a_now : List ℕ
  pub b_now : List ℕ
  pub says : JudgeSays bs cs (Ok (judgement verdict readings end)) a a_now b b_now

pub judged_there :
    (bs cs a b : List ℕ) → Unrefused bs cs → how_many (machine bs cs) ≤ length a → how_many (machine bs cs) ≤ length b → JudgedThere bs cs a b
judged_there bs cs a b u h k =
    let (j, notes, right) = chain_right bs cs u in
    let cells : cells_needed bs (length cs) ≡ how_many (machine bs cs) = cells_are bs cs in
    record {
      verdict = j.verdict;
      readings = j.readings;
      end = j.end;
      a_now = _;
      b_now = _;
      says = answer_says bs cs a b (sized u) (omega (arith, cells)) (omega (arith, cells)) refl right;
    }

-- and with fewer notes the refusal is 8, at N
pub few_notes_judged :
    (bs cs a b : List ℕ) → Unrefused bs cs → length a < how_many (machine bs cs) → JudgeSays bs cs (Err (refusal 8 (how_many (machine bs cs)))) a a b b
few_notes_judged bs cs a b u few =
    let cells : cells_needed bs (length cs) ≡ how_many (machine bs cs) = cells_are bs cs in
    notes_says bs cs a b (sized u) (omega arith) (rw cells)

-- AN EXAMPLE THAT HOLDS: judging it on cells that are enough answers its verdict, readings and end
pub record RowJudged (r : Row) (a b : List ℕ) : Type 0 where
  pub notes_now : List ℕ
  pub work_now : List ℕ
  pub says : JudgeSays (image_of r.source) r.capture (Ok (judgement r.verdict r.readings r.end)) a notes_now b work_now

pub row_judged :
    (r : Row) → RowHolds r → (a b : List ℕ) → how_many (row_machine r) ≤ length a → how_many (row_machine r) ≤ length b → RowJudged r a b
unfolding row_machine
row_judged r h a b p q =
    let bs : List ℕ = image_of r.source in
    let cs : List ℕ = r.capture in
    let bytes = h.unrefused.bytes in
    let j = judged_there bs cs a b h.unrefused p q in
    let (same_verdict, same_end) =
    (promises.judge_exact bs cs a j.a_now b j.b_now j.verdict j.readings j.end bytes j.says r.verdict r.end).0 h.says in
    let entered = promises.readings_entered bs cs a j.a_now b j.b_now j.verdict j.readings j.end bytes j.says in
    let same_readings = promises.one_count bs cs j.readings r.readings h.unrefused entered h.entered in
    record { notes_now = j.a_now; work_now = j.b_now; says = rw (same_verdict, same_end, ← same_readings) j.says }

-- on N cells that are 0
abbrev pub zeros : Row → List ℕ
zeros r = replicate (how_many (row_machine r)) 0

pub row_judged_zeros : (r : Row) → RowHolds r → RowJudged r (zeros r) (zeros r)
row_judged_zeros r h =
    let long : length (zeros r) ≡ how_many (row_machine r) = length-replicate (how_many (row_machine r)) 0 in
    row_judged r h (zeros r) (zeros r) (omega (arith, long)) (omega (arith, long))

-- TWO VERDICTS of one machine have the same number
pub same_number : {M : Machine} {v w : Verdict} {c d : Config} → Says M v c → Says M w d → verdict_number v ≡ verdict_number w
same_number {M} {v} {w} p q = ap verdict_number (promises.one_verdict M v w _ _ p q).0

-- what clashing constructors come to
pub clash : ◌≡◌ {A = ℕ} 0 1 → ⊥
clash z = omega arith
