-- Sums over lines, by cells and by lines: a sum over the lines' cells is one over the lines, and what each line adds stands in its cells. Assumes nothing.
use Rattle.std.specs.Prelude.{Err, Ok}
use mathlib.Core.Path.{◌≡◌, refl, sym, ap, ◌∙◌}
use mathlib.Core.Bool.{cond}
use mathlib.Core.List.{List, [], ◌∷◌, ◌++◌, append_assoc}
use Prim.Native.Nat.{ℕ, zero, suc, ◌+◌, ◌*◌, ◌<◌}
use native.Mathlib.Decide.{ℕ_discrete}
use native.Mathlib.Omega.{arith}
use lib.Dec.{eqb}
use lib.ListN.{length, get_or, get_or-append}
use lib.Seq.{get_or-append-add}
use borrow.Author.Tests.{ne_eqb}
use Rattle.machine.specs.declared.Verdict.{Verdict}
use Rattle.machine.specs.declared.Verdict.TheVariants.{Accepted, Ended, Stuck, Looping, Halted}
use Rattle.machine.specs.Replies.{verdict_number}
use Rattle.refusal.specs.declared.Refusal.{Refusal}
use Rattle.simulator.specs.Answers.{Judged}
use Rattle.simulator.specs.Calls.{judge_refusal, JudgeSays}
use Rattle.simulator.specs.Replies.{of_judged}
use Rattle.simulator.proofs.Answered.{judged_right, judged_refused}
use Rattle.bundle.specs.Format.{capture}
use Rattle.bundle.specs.Report.{line_cells, lines_cells, refusal_cell, verdict_cell, readings_cell, sum, gives, is_refused, line_readings, sum_of_lines}
use Rattle.bundle.specs.Calls.{InOrder, done, next}
use Rattle.bundle.proofs.LineCells.{line_long}

-- A SUM OVER CELLS, a line in front taken off
line_off :
    (n k : ℕ) (f : ℕ → ℕ) (p m : List ℕ) → length p ≡ 7 → k < 7 → sum_of_lines (suc n) k f (p ++ m) ≡ f (get_or p k 0) + sum_of_lines n k f m
unfolding sum_of_lines
line_off zero k f p m l h =
    let here : 7 * 0 + k ≡ k = omega arith in
    let cell : get_or (p ++ m) (7 * 0 + k) 0 ≡ get_or p k 0 =
    ap (λ (j : ℕ). get_or (p ++ m) j 0) here ∙ get_or-append p m 0 k (omega (arith, l, h))
    in
    let value : f (get_or (p ++ m) (7 * 0 + k) 0) ≡ f (get_or p k 0) = ap f cell in
    omega (arith, value)
line_off (suc n) k f p m l h =
    let there : 7 * suc n + k ≡ length p + (7 * n + k) = omega (arith, l) in
    let cell : get_or (p ++ m) (7 * suc n + k) 0 ≡ get_or m (7 * n + k) 0 =
    ap (λ (j : ℕ). get_or (p ++ m) j 0) there ∙ get_or-append-add p m (7 * n + k) 0
    in
    let value : f (get_or (p ++ m) (7 * suc n + k) 0) ≡ f (get_or m (7 * n + k) 0) = ap f cell in
    let rest = line_off n k f p m l h in
    omega (arith, value, rest)

-- so it is the sum over the lines
pub cells_sum :
    (k : ℕ) (f : ℕ → ℕ) (rs : List Judged) (m : List ℕ) → k < 7 →
    sum_of_lines (length rs) k f (lines_cells rs ++ m) ≡ sum (λ (r : Judged). f (get_or (line_cells (of_judged r)) k 0)) rs
unfolding sum_of_lines sum lines_cells
cells_sum k f [] m h = refl
cells_sum k f (r ∷ rs) m h =
    ap (sum_of_lines (suc (length rs)) k f) (append_assoc (line_cells (of_judged r)) (lines_cells rs) m)
    ∙ line_off (length rs) k f (line_cells (of_judged r)) (lines_cells rs ++ m) (line_long (of_judged r)) h
    ∙ ap (λ (z : ℕ). f (get_or (line_cells (of_judged r)) k 0) + z) (cells_sum k f rs m h)

-- WHAT EACH LINE ADDS
pub same_sum : (f g : Judged → ℕ) → ((r : Judged) → f r ≡ g r) → (rs : List Judged) → sum f rs ≡ sum g rs
unfolding sum
same_sum f g h [] = refl
same_sum f g h (r ∷ rs) = rw (h r, same_sum f g h rs) refl

pub gives_cell : (v : Verdict) (r : Judged) → gives v r ≡ cond (eqb (get_or (line_cells (of_judged r)) verdict_cell 0) (verdict_number v)) 1 0
unfolding gives line_cells of_judged verdict_number
gives_cell Accepted (Err f) = refl
gives_cell Ended (Err f) = refl
gives_cell Stuck (Err f) = refl
gives_cell Looping (Err f) = refl
gives_cell Halted (Err f) = refl
gives_cell v (Ok j) = refl

pub readings_cell_is : (r : Judged) → line_readings r ≡ get_or (line_cells (of_judged r)) readings_cell 0
unfolding line_readings line_cells of_judged
readings_cell_is (Err f) = refl
readings_cell_is (Ok j) = refl

-- a line that is a refusal has a number that is not 0
refused_number : (bs cs : List ℕ) (f : Refusal) (a x b y : List ℕ) → JudgeSays bs cs (Err f) a x b y → f.number ≡ 0 → ⊥
refused_number bs cs f a x b y s z = go (ℕ_discrete (judge_refusal bs cs (length a) (length b)).number 0)
  where
    go : Dec ((judge_refusal bs cs (length a) (length b)).number ≡ 0) → ⊥
    go (yes e) =
        let g = judged_right bs cs (Err f) a x b y e s in
        let clash : Err f ≡ Ok g.judgement = g.answers in
        let q : ◌≡◌ {A = ℕ} 0 1 = cc in omega arith
    go (no n) =
        let clash : Err f ≡ Err (judge_refusal bs cs (length a) (length b)) = (judged_refused bs cs (Err f) a x b y n s).0 in
        let same : f ≡ judge_refusal bs cs (length a) (length b) = cc in
        n (ap (λ (g : Refusal). g.number) (sym same) ∙ z)

refused_cell :
    (bs cs : List ℕ) (r : Judged) (a x b y : List ℕ) → JudgeSays bs cs r a x b y →
    is_refused r ≡ cond (eqb (get_or (line_cells (of_judged r)) refusal_cell 0) 0) 0 1
unfolding is_refused line_cells of_judged
refused_cell bs cs (Err f) a x b y s = rw (ne_eqb f.number 0 (refused_number bs cs f a x b y s)) refl
refused_cell bs cs (Ok j) a x b y s = refl

pub refused_sum :
    (bs xs : List ℕ) (i : ℕ) (rs : List Judged) (a x b y : List ℕ) → InOrder bs xs i rs a x b y →
    sum is_refused rs ≡ sum (λ (r : Judged). cond (eqb (get_or (line_cells (of_judged r)) refusal_cell 0) 0) 0 1) rs
unfolding sum
refused_sum bs xs i rs a x b y done = refl
refused_sum bs xs i rs a x b y (next {a_then = c} {b_then = d} {r = r} {rs = qs} h s f) =
    rw (refused_cell bs (capture xs i) r a c b d s, refused_sum bs xs (suc i) qs c x d y f) refl
