-- The totals are the sums over the lines, as the lines' cells have them, and every line is counted once. Assumes nothing.
use Rattle.std.specs.Prelude.{Err, Ok}
use mathlib.Core.Path.{◌≡◌, refl, sym, ap, ◌∙◌}
use mathlib.Core.Bool.{cond}
use mathlib.Core.List.{List, [], ◌∷◌, ◌++◌}
use Prim.Native.Nat.{ℕ, ◌+◌, ◌*◌, ◌<◌}
use native.Mathlib.Omega.{arith}
use lib.Dec.{eqb}
use lib.ListN.{length, get_or, drop}
use Rattle.machine.specs.declared.Verdict.{Verdict}
use Rattle.machine.specs.declared.Verdict.TheVariants.{Accepted, Ended, Stuck, Looping, Halted}
use Rattle.machine.specs.Replies.{verdict_number}
use Rattle.simulator.specs.Answers.{Judged}
use Rattle.simulator.specs.Replies.{of_judged}
use Rattle.bundle.specs.Answers as answers
use Rattle.bundle.specs.declared.Totals.{Totals}
use Rattle.bundle.specs.Format.{count}
use Rattle.bundle.specs.Report.{line_width, line_cells, lines_cells, refusal_cell, verdict_cell, readings_cell, sum, gives, is_refused, line_readings, totals, sum_of_lines}
use Rattle.bundle.specs.Calls.{InOrder, BundleSays}
use Rattle.bundle.specs.Replies.{totals_cells}
use Rattle.bundle.proofs.InOrder.{lines_count}
use Rattle.bundle.proofs.BundleSaid.{reported, report_parts}
use Rattle.bundle.proofs.LineSums.{cells_sum, same_sum, gives_cell, readings_cell_is, refused_sum}

-- THE LAST LINE EQUALS THE SUMS OVER THE LINES
total_of : (v : Verdict) (rs : List Judged) → get_or (totals_cells (totals rs)) (verdict_number v) 0 ≡ sum (gives v) rs
unfolding totals_cells totals verdict_number
total_of Accepted rs = refl
total_of Ended rs = refl
total_of Stuck rs = refl
total_of Looping rs = refl
total_of Halted rs = refl

refused_total : (rs : List Judged) → (totals rs).refused ≡ sum is_refused rs
unfolding totals
refused_total rs = refl

readings_total : (rs : List Judged) → (totals rs).readings ≡ sum line_readings rs
unfolding totals
readings_total rs = refl

over_cells :
    (bs xs : List ℕ) (k : ℕ) (f : ℕ → ℕ) (rs : List Judged) (l m a x b y : List ℕ) → InOrder bs xs 0 rs a x b y →
    m ≡ lines_cells rs ++ drop (line_width * count xs) l → k < 7 →
    sum (λ (r : Judged). f (get_or (line_cells (of_judged r)) k 0)) rs ≡ sum_of_lines (count xs) k f m
over_cells bs xs k f rs l m a x b y o e h =
    let long = lines_count bs xs 0 rs a x b y o in
    let all : length rs ≡ count xs = omega (arith, long) in
    sym (cells_sum k f rs (drop (line_width * count xs) l) h) ∙ ap (sum_of_lines (length rs) k f) (sym e)
    ∙ ap (λ (n : ℕ). sum_of_lines n k f m) all

pub totals_sum :
    (bs xs : List ℕ) (n : ℕ) (t : Totals) (l m a x b y : List ℕ) → BundleSays bs xs (answers.lines n t) l m a x b y →
    ((v : Verdict) →
    get_or (totals_cells t) (verdict_number v) 0
    ≡ sum_of_lines (count xs) verdict_cell (λ k. cond (eqb k (verdict_number v)) 1 0) m)
    × (t.refused ≡ sum_of_lines (count xs) refusal_cell (λ k. cond (eqb k 0) 0 1) m)
    × (t.readings ≡ sum_of_lines (count xs) readings_cell (λ k. k) m)
totals_sum bs xs n t l m a x b y s =
    let f = reported bs xs n t l m a x b y s in
    let rs = f.lines in
    let same : t ≡ totals rs = (report_parts n (count xs) t (totals rs) f.answers).1 in (
      λ v.
          ap (λ (u : Totals). get_or (totals_cells u) (verdict_number v) 0) same ∙ total_of v rs
          ∙ same_sum (gives v) (λ (r : Judged). cond (eqb (get_or (line_cells (of_judged r)) verdict_cell 0) (verdict_number v)) 1 0) (gives_cell v) rs
          ∙ over_cells bs xs verdict_cell (λ k. cond (eqb k (verdict_number v)) 1 0) rs l m a x b y f.judged f.lines_now (omega arith),
      ap (λ (u : Totals). u.refused) same ∙ refused_total rs ∙ refused_sum bs xs 0 rs a x b y f.judged
          ∙ over_cells bs xs refusal_cell (λ k. cond (eqb k 0) 0 1) rs l m a x b y f.judged f.lines_now (omega arith),
      ap (λ (u : Totals). u.readings) same ∙ readings_total rs
          ∙ same_sum line_readings (λ (r : Judged). get_or (line_cells (of_judged r)) readings_cell 0) readings_cell_is rs
          ∙ over_cells bs xs readings_cell (λ k. k) rs l m a x b y f.judged f.lines_now (omega arith),
    )

-- EVERY LINE IS COUNTED ONCE
counted_once : (r : Judged) → gives Accepted r + gives Ended r + gives Stuck r + gives Looping r + gives Halted r + is_refused r ≡ 1
unfolding gives is_refused verdict_number
counted_once (Err f) = refl
counted_once (Ok j) = by_verdict j.verdict
  where
    by_verdict :
        (v : Verdict) →
        cond (eqb (verdict_number v) 1) 1 0 + cond (eqb (verdict_number v) 2) 1 0 + cond (eqb (verdict_number v) 3) 1 0
        + cond (eqb (verdict_number v) 4) 1 0
        + cond (eqb (verdict_number v) 7) 1 0
        + 0
        ≡ 1
    by_verdict Accepted = refl
    by_verdict Ended = refl
    by_verdict Stuck = refl
    by_verdict Looping = refl
    by_verdict Halted = refl

all_counted :
    (rs : List Judged) →
    sum (gives Accepted) rs + sum (gives Ended) rs + sum (gives Stuck) rs + sum (gives Looping) rs + sum (gives Halted) rs + sum is_refused rs ≡ length rs
unfolding sum
all_counted [] = refl
all_counted (r ∷ rs) =
    let one = counted_once r in
    let rest = all_counted rs in
    omega (arith, one, rest)

pub totals_whole :
    (bs xs : List ℕ) (n : ℕ) (t : Totals) (l m a x b y : List ℕ) → BundleSays bs xs (answers.lines n t) l m a x b y →
    (n ≡ count xs) × (t.accepted + t.ended + t.stuck + t.looping + t.halted + t.refused ≡ count xs)
unfolding totals
totals_whole bs xs n t l m a x b y s =
    let f = reported bs xs n t l m a x b y s in
    let rs = f.lines in
    let parts = report_parts n (count xs) t (totals rs) f.answers in
    let long = lines_count bs xs 0 rs a x b y f.judged in
    let all : length rs ≡ count xs = omega (arith, long) in
    (parts.0, ap (λ (u : Totals). u.accepted + u.ended + u.stuck + u.looping + u.halted + u.refused) parts.1 ∙ all_counted rs ∙ all)
