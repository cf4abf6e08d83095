-- What the call's contract comes to where it answers, and where it refuses. Assumes nothing.
use Rattle.std.specs.Prelude.{Err, Ok}
use mathlib.Core.Path.{◌≡◌, refl, ap, ◌∙◌}
use mathlib.Core.List.{List}
use Prim.Native.Nat.{ℕ, zero, suc, ◌<◌}
use native.Mathlib.Omega.{arith}
use lib.ListN.{length, drop, length-replicate}
use lib.Seq.{drop_at}
use Rattle.machine.specs.declared.Config.{Config}
use Rattle.refusal.specs.declared.Refusal.{Refusal}
use Rattle.machine.specs.declared.Verdict.{Verdict}
use Rattle.machine.specs.Run.{how_many}
use Rattle.codec.specs.Bytes.{byte}
use Rattle.image.specs.Image.{machine}
use Rattle.image.specs.Refusals.{Unrefused, capture_refusal}
use Rattle.refusal.proofs.Refused.{neither}
use Rattle.image.proofs.CaptureRefused.{unrefused_by}
use Rattle.simulator.specs.Answers.{Judged}
use Rattle.simulator.specs.Calls.{judgement, judge_refusal, JudgedRight, JudgeAs, JudgeSays}

right_as :
    (k : ℕ) (f : Refusal) (bs cs : List ℕ) (r : Judged) (a a_now b b_now : List ℕ) → k ≡ 0 → JudgeAs k f bs cs r a a_now b b_now →
    JudgedRight bs cs r a a_now b b_now
unfolding JudgeAs
right_as zero f bs cs r a a_now b b_now e s = s
right_as (suc k) f bs cs r a a_now b b_now e s = absurd (omega arith)

-- not refused, the answer is right
pub judged_right :
    (bs cs : List ℕ) (r : Judged) (a a_now b b_now : List ℕ) → (judge_refusal bs cs (length a) (length b)).number ≡ 0 →
    JudgeSays bs cs r a a_now b b_now → JudgedRight bs cs r a a_now b b_now
unfolding JudgeSays
judged_right bs cs r a a_now b b_now e s =
    right_as (judge_refusal bs cs (length a) (length b)).number (judge_refusal bs cs (length a) (length b)) bs cs r a a_now b b_now e s

refused_as :
    (k : ℕ) (f : Refusal) (bs cs : List ℕ) (r : Judged) (a a_now b b_now : List ℕ) → (k ≡ 0 → ⊥) → JudgeAs k f bs cs r a a_now b b_now →
    (r ≡ Err f) × (a_now ≡ a) × (b_now ≡ b)
unfolding JudgeAs
refused_as zero f bs cs r a a_now b b_now e s = absurd (e refl)
refused_as (suc k) f bs cs r a a_now b b_now e s = s

-- refused, the refusal is given and no cell changes
pub judged_refused :
    (bs cs : List ℕ) (r : Judged) (a a_now b b_now : List ℕ) → ((judge_refusal bs cs (length a) (length b)).number ≡ 0 → ⊥) →
    JudgeSays bs cs r a a_now b b_now → (r ≡ Err (judge_refusal bs cs (length a) (length b))) × (a_now ≡ a) × (b_now ≡ b)
unfolding JudgeSays
judged_refused bs cs r a a_now b b_now e s =
    refused_as (judge_refusal bs cs (length a) (length b)).number (judge_refusal bs cs (length a) (length b)) bs cs r a a_now b b_now e s

-- no refusal of judging: none of image and capture
pub unrefused_capture : (bs cs : List ℕ) (a b : ℕ) → (judge_refusal bs cs a b).number ≡ 0 → (capture_refusal bs (length cs)).number ≡ 0
unfolding judge_refusal
unrefused_capture bs cs a b e = (neither (capture_refusal bs (length cs)) _ (record { none_such = e })).0.none_such

-- WHAT AN ANSWER COMES TO
pub record Answered (bs cs : List ℕ) (v : Verdict) (n : ℕ) (d : Config) (a a_now b b_now : List ℕ) : Type 0 where
  pub unrefused : Unrefused bs cs
  pub right : JudgedRight bs cs (Ok (judgement v n d)) a a_now b b_now

answered_as :
    (k : ℕ) (f : Refusal) (bs cs a a_now b b_now : List ℕ) (v : Verdict) (n : ℕ) (d : Config) →
    JudgeAs k f bs cs (Ok (judgement v n d)) a a_now b b_now → k ≡ 0
unfolding JudgeAs
answered_as zero f bs cs a a_now b b_now v n d s = refl
answered_as (suc k) f bs cs a a_now b b_now v n d s =
    let clash : Ok (judgement v n d) ≡ Err f = s.0 in
    absurd (let z : ◌≡◌ {A = ℕ} 0 1 = cc in omega arith)

pub answered_fine :
    (bs cs a a_now b b_now : List ℕ) (v : Verdict) (n : ℕ) (d : Config) → JudgeSays bs cs (Ok (judgement v n d)) a a_now b b_now →
    (judge_refusal bs cs (length a) (length b)).number ≡ 0
unfolding JudgeSays
answered_fine bs cs a a_now b b_now v n d s =
    answered_as (judge_refusal bs cs (length a) (length b)).number (judge_refusal bs cs (length a) (length b)) bs cs a a_now b b_now v n d s

pub answered :
    (bs cs a a_now b b_now : List ℕ) (v : Verdict) (n : ℕ) (d : Config) → ((i : ℕ) → byte cs i < 256) →
    JudgeSays bs cs (Ok (judgement v n d)) a a_now b b_now → Answered bs cs v n d a a_now b b_now
answered bs cs a a_now b b_now v n d bytes s =
    let e = answered_fine bs cs a a_now b b_now v n d s in
    record {
      unrefused = unrefused_by bs cs bytes (unrefused_capture bs cs (length a) (length b) e);
      right = judged_right bs cs (Ok (judgement v n d)) a a_now b b_now e s;
    }

-- the cells after the first N are as they were, whatever the call says
later_as :
    (k : ℕ) (f : Refusal) (bs cs : List ℕ) (r : Judged) (a a_now b b_now : List ℕ) → JudgeAs k f bs cs r a a_now b b_now →
    (drop (how_many (machine bs cs)) a_now ≡ drop (how_many (machine bs cs)) a)
    × (drop (how_many (machine bs cs)) b_now ≡ drop (how_many (machine bs cs)) b)
unfolding JudgeAs
later_as zero f bs cs r a a_now b b_now s =
    let n = how_many (machine bs cs) in (
      ap (drop n) s.notes_now ∙ drop_at s.notes (drop n a) n s.right.noted_cells,
      ap (drop n) s.work_now ∙ drop_at s.work (drop n b) n (ap length s.right.work_zero ∙ length-replicate n 0),
    )
later_as (suc k) f bs cs r a a_now b b_now s =
    (ap (drop (how_many (machine bs cs))) s.1, ap (drop (how_many (machine bs cs))) s.2)

pub later_kept :
    (bs cs : List ℕ) (r : Judged) (a a_now b b_now : List ℕ) → JudgeSays bs cs r a a_now b b_now →
    (drop (how_many (machine bs cs)) a_now ≡ drop (how_many (machine bs cs)) a)
    × (drop (how_many (machine bs cs)) b_now ≡ drop (how_many (machine bs cs)) b)
unfolding JudgeSays
later_kept bs cs r a a_now b b_now s =
    later_as (judge_refusal bs cs (length a) (length b)).number (judge_refusal bs cs (length a) (length b)) bs cs r a a_now b b_now s
