-- What the steps of building and judging may assume and what they leave: the image stands at the start of the lent buffer, and the capture is judged by it. Assumes nothing.
use Rattle.std.specs.Prelude.{Ok}
use mathlib.Core.Path.{◌≡◌, refl, sym, subst, ap, ◌∙◌}
use mathlib.Core.List.{List, ◌++◌}
use Prim.Native.Nat.{ℕ, ◌≤◌}
use native.Mathlib.Omega.{arith}
use lib.ListN.{length, take, drop, length-append}
use lib.Seq.{take_at}
use Rattle.image.specs.Format
use Rattle.machine.specs.Run.{how_many}
use Rattle.image.specs.Image.{machine}
use Rattle.simulator.specs.declared.Judgement.{Judgement}
use Rattle.simulator.specs.Calls.{JudgeSays}
use Rattle.simulator.proofs.Needing.{cells_are}
use Rattle.builder.specs.declared.Matching.TheVariants.{Whole}
use Rattle.builder.specs.Image.{built, built_length}
use Rattle.builder.specs.Code.Building.{CellsAre}
use Rattle.builder.proofs.BuiltImage.{built_length_is}
use Rattle.grammar_judge.specs.Calls.{Lent, lent_refusal, Builds}
use Rattle.grammar_judge.specs.Code.Steps.{JudgeReady}
use Rattle.grammar_judge.proofs.Refusing.{Roomy, roomy}

-- THE IMAGE STANDS at the start of the buffer, before the later bytes
pub record Stands (gs m p : List ℕ) (long : ℕ) : Type 0 where
  pub bytes : p ≡ built Whole gs ++ drop (built_length gs) m
  pub part : take long p ≡ built Whole gs
  pub fits : long ≤ length p

pub stands : (gs m w : List ℕ) (long : ℕ) → long ≡ built_length gs → w ≡ built Whole gs → Stands gs m (w ++ drop long m) long
stands gs m w long l e =
    let all : length w ≡ long = ap length e ∙ built_length_is Whole gs ∙ sym l in
    record {
      bytes = ap (λ (x : List ℕ). x ++ drop long m) e ∙ ap (λ (n : ℕ). built Whole gs ++ drop n m) l;
      part = take_at w _ long all ∙ e;
      fits = omega (arith, length-append w (drop long m));
    }

-- WHAT THE STEPS MAY ASSUME, where nothing is refused
module _ (gs cs : List ℕ) (x : Lent) (unrefused : (lent_refusal gs cs x).number ≡ 0) where
  room : Roomy gs cs x
  room = roomy gs cs x unrefused

  pub image_fits : (long : ℕ) → long ≡ built_length gs → long ≤ length x.image
  image_fits long l = omega (arith, room.image_room, l)

  pub capture_short : length cs ≤ Format.max_capture
  capture_short = room.short

  pub judge_ready : (bs : List ℕ) (cells : ℕ) → bs ≡ built Whole gs → CellsAre gs (length cs) cells → JudgeReady bs cs cells x.notes x.work
  judge_ready bs cells e count =
      let k : cells ≡ how_many (machine (built Whole gs) cs) = count Whole cs refl in
      subst (λ (y : List ℕ). JudgeReady y cs cells x.notes x.work) (sym e)
      (record {
        sized = record { no_refusal = room.no_refusal; counted = k ∙ sym (cells_are (built Whole gs) cs) };
        notes_enough = omega (arith, room.notes_room);
        work_enough = omega (arith, room.work_room);
      })

pub builds :
    {gs cs : List ℕ} {x y : Lent} {j : Judgement} {long : ℕ} → Stands gs x.image y.image long →
    JudgeSays (take long y.image) cs (Ok j) x.notes y.notes x.work y.work → Builds gs cs x y j
builds {gs} {cs} {x} {y} {j} {long} s says =
    record {
      image_now = s.bytes;
      judges = subst (λ (bs : List ℕ). JudgeSays bs cs (Ok j) x.notes y.notes x.work y.work) s.part says;
    }
