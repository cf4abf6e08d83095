-- The call's answer and the cells that it leaves are determined by its input; earlier contents of the first N cells don't matter. Assumes nothing.
use Rattle.std.specs.Prelude.{Ok}
use mathlib.Core.Path.{◌≡◌, sym, ◌∙◌, ap, subst}
use mathlib.Core.List.{List, ◌++◌}
use Prim.Native.Nat.{ℕ, zero, suc}
use native.Mathlib.Omega.{arith}
use lib.ListN.{length, take, drop, length-replicate}
use lib.Seq.{take_at}
use Rattle.refusal.specs.declared.Refusal.{Refusal}
use Rattle.machine.specs.Run.{how_many}
use Rattle.image.specs.Image.{machine}
use Rattle.machine.specs.Verdicts.{nonzero}
use Rattle.machine.proofs.RightNotes.{one_notes}
use Rattle.machine.proofs.OneVerdict.{one_verdict}
use Rattle.simulator.specs.Answers.{Judged}
use Rattle.simulator.specs.Calls.{judgement, JudgedRight, JudgeAs, JudgeSays, judge_refusal}

-- two right answers for one image and capture, whatever the cells held before
record SameAnswer (r s : Judged) (f_notes g_notes f_work g_work : List ℕ) : Type 0 where
  answers : r ≡ s
  notes : f_notes ≡ g_notes
  work : f_work ≡ g_work

same_answer :
    (bs cs a b a' b' : List ℕ) (r s : Judged) (x y x' y' : List ℕ) (f : JudgedRight bs cs r a x b y) (g : JudgedRight bs cs s a' x' b' y') →
    SameAnswer r s f.notes g.notes f.work g.work
same_answer bs cs a b a' b' r s x y x' y' f g =
    let M = machine bs cs in
    let j = f.judgement in
    let k = g.judgement in
    let (verdicts, ends) = one_verdict M j.verdict k.verdict j.end k.end f.right.says g.right.says in
    let notes : f.notes ≡ g.notes =
    one_notes M f.notes g.notes f.right.noted g.right.noted f.right.noted_cells g.right.noted_cells
    in
    let readings : j.readings ≡ k.readings = f.right.counted ∙ ap (nonzero (how_many M)) notes ∙ sym g.right.counted in
    let answers : Ok (judgement j.verdict j.readings j.end) ≡ Ok (judgement k.verdict k.readings k.end) =
    rw (verdicts, readings, ends)
    in
    record {
      answers = f.answers ∙ answers ∙ sym g.answers;
      notes = notes;
      work = f.right.work_zero ∙ sym g.right.work_zero;
    }

right_determined :
    (bs cs a b : List ℕ) (r s : Judged) (x y x' y' : List ℕ) → JudgedRight bs cs r a x b y → JudgedRight bs cs s a x' b y' →
    (r ≡ s) × (x ≡ x') × (y ≡ y')
right_determined bs cs a b r s x y x' y' f g =
    let same = same_answer bs cs a b a b r s x y x' y' f g in
    let cells = ap (λ (l : List ℕ). l ++ drop (how_many (machine bs cs)) a) same.notes in
    let zeros = ap (λ (l : List ℕ). l ++ drop (how_many (machine bs cs)) b) same.work in
    (same.answers, f.notes_now ∙ cells ∙ sym g.notes_now, f.work_now ∙ zeros ∙ sym g.work_now)

by_number :
    (n : ℕ) (z : Refusal) (bs cs a b : List ℕ) (r s : Judged) (x y x' y' : List ℕ) → JudgeAs n z bs cs r a x b y →
    JudgeAs n z bs cs s a x' b y' → (r ≡ s) × (x ≡ x') × (y ≡ y')
unfolding JudgeAs
by_number zero z bs cs a b r s x y x' y' f g = right_determined bs cs a b r s x y x' y' f g
by_number (suc n) z bs cs a b r s x y x' y' f g = (f.0 ∙ sym g.0, f.1 ∙ sym g.1, f.2 ∙ sym g.2)

pub judge_determined :
    (bs cs a b : List ℕ) (r s : Judged) (x y x' y' : List ℕ) → JudgeSays bs cs r a x b y → JudgeSays bs cs s a x' b y' →
    (r ≡ s) × (x ≡ x') × (y ≡ y')
unfolding JudgeSays
judge_determined bs cs a b r s x y x' y' f g =
    by_number (judge_refusal bs cs (length a) (length b)).number (judge_refusal bs cs (length a) (length b)) bs cs a b r s x y x' y' f g

-- EARLIER CONTENTS DON'T MATTER: slices of the same lengths get the same answer and the same first N cells
Independent : (bs cs : List ℕ) → (k : ℕ) → (r s : Judged) → (x y x' y' : List ℕ) → Type 0
Independent bs cs k r s x y x' y' =
    (r ≡ s)
    × (k ≡ 0 →
    (take (how_many (machine bs cs)) x ≡ take (how_many (machine bs cs)) x')
    × (take (how_many (machine bs cs)) y ≡ take (how_many (machine bs cs)) y'))

independent_by :
    (k : ℕ) (z : Refusal) (bs cs a b a' b' : List ℕ) (r s : Judged) (x y x' y' : List ℕ) → JudgeAs k z bs cs r a x b y →
    JudgeAs k z bs cs s a' x' b' y' → Independent bs cs k r s x y x' y'
unfolding JudgeAs Independent
independent_by zero z bs cs a b a' b' r s x y x' y' f g =
    let n = how_many (machine bs cs) in
    let same = same_answer bs cs a b a' b' r s x y x' y' f g in
    let first = ap (take n) f.notes_now ∙ take_at f.notes (drop n a) n f.right.noted_cells in
    let second = ap (take n) g.notes_now ∙ take_at g.notes (drop n a') n g.right.noted_cells in
    let zeros = ap (take n) f.work_now ∙ take_at f.work (drop n b) n (ap length f.right.work_zero ∙ length-replicate n 0) in
    let zeros' = ap (take n) g.work_now ∙ take_at g.work (drop n b') n (ap length g.right.work_zero ∙ length-replicate n 0) in
    (same.answers, λ e. (first ∙ same.notes ∙ sym second, zeros ∙ same.work ∙ sym zeros'))
independent_by (suc k) z bs cs a b a' b' r s x y x' y' f g = (f.0 ∙ sym g.0, λ e. absurd (omega arith))

pub judge_independent :
    (bs cs a b a' b' : List ℕ) (r s : Judged) (x y x' y' : List ℕ) → length a ≡ length a' → length b ≡ length b' →
    JudgeSays bs cs r a x b y → JudgeSays bs cs s a' x' b' y' →
    (r ≡ s)
    × ((judge_refusal bs cs (length a) (length b)).number ≡ 0 →
    (take (how_many (machine bs cs)) x ≡ take (how_many (machine bs cs)) x')
    × (take (how_many (machine bs cs)) y ≡ take (how_many (machine bs cs)) y'))
unfolding JudgeSays Independent
judge_independent bs cs a b a' b' r s x y x' y' p q f g =
    let same : judge_refusal bs cs (length a') (length b') ≡ judge_refusal bs cs (length a) (length b) = rw (p, q) in
    independent_by (judge_refusal bs cs (length a) (length b)).number (judge_refusal bs cs (length a) (length b)) bs cs a b a' b' r s x y x' y' f
    (subst (λ (z : Refusal). JudgeAs z.number z bs cs s a' x' b' y') same g)
