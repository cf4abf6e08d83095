-- Judging keeps the lengths of the lent slices, whatever it says. Assumes nothing.
use mathlib.Core.Path.{◌≡◌, sym, ap, ◌∙◌}
use mathlib.Core.List.{List, ◌++◌}
use Prim.Native.Nat.{ℕ, ◌≤◌}
use native.Mathlib.Decide.{ℕ_discrete}
use lib.ListN.{length, drop, length-replicate}
use lib.Seq.{length-take-le, length_front}
use Rattle.machine.specs.Run.{how_many}
use Rattle.image.specs.Image.{machine}
use Rattle.simulator.specs.Answers.{Judged}
use Rattle.simulator.specs.Calls.{judge_refusal, JudgeSays}
use Rattle.simulator.proofs.Answered.{judged_right, judged_refused}
use Rattle.simulator.proofs.ConditionsMet.{judging_check}

kept_long : (n : ℕ) (ns a : List ℕ) → length ns ≡ n → n ≤ length a → length (ns ++ drop n a) ≡ length a
kept_long n ns a e h = length_front a ns n (e ∙ sym (length-take-le n a h))

pub lengths_kept :
    (bs cs : List ℕ) (r : Judged) (a x b y : List ℕ) → JudgeSays bs cs r a x b y → (length x ≡ length a) × (length y ≡ length b)
lengths_kept bs cs r a x b y s = go (ℕ_discrete (judge_refusal bs cs (length a) (length b)).number 0)
  where
    go : Dec ((judge_refusal bs cs (length a) (length b)).number ≡ 0) → (length x ≡ length a) × (length y ≡ length b)
    go (yes e) =
        let f = judged_right bs cs r a x b y e s in
        let room = (judging_check bs cs (length a) (length b)).right e in
        let n = how_many (machine bs cs) in
        let zeros : length f.work ≡ n = ap length f.right.work_zero ∙ length-replicate n 0 in (
          ap length f.notes_now ∙ kept_long n f.notes a f.right.noted_cells room.notes_room,
          ap length f.work_now ∙ kept_long n f.work b zeros room.work_room,
        )
    go (no n) = let f = judged_refused bs cs r a x b y n s in (ap length f.1, ap length f.2)
