-- Wrong neighbours of the promises of Bundles.antt, each under its promise's name, with what is wrong in it. Assumes nothing: each is a type, and proofs/ has a proof that nothing is of it.
use Rattle.std.specs.Prelude.{◌≡◌, cond, List, [], ◌∷◌, map, ◌↔◌, ℕ, suc, ◌+◌, ◌*◌, ◌<◌, ◌≤◌, eqb, length, get_or, take, drop, replicate}
use Rattle.refusal.specs.First.{refusal, no_refusal, or_else}
use Rattle.machine.specs.declared.Verdict.{Verdict}
use Rattle.machine.specs.declared.Verdict.TheVariants.{Accepted}
use Rattle.machine.specs.Run.{config, how_many}
use Rattle.machine.specs.Verdicts.{Says}
use Rattle.machine.specs.Replies.{verdict_number, refusal_reply, count_reply}
use Rattle.codec.specs.Bytes.{section}
use Rattle.image.specs.Image.{machine}
use Rattle.image.specs.Refusals.{image_refusal}
use Rattle.simulator.specs.Answers.{Judged}
use Rattle.simulator.specs.Calls.{judge_refusal, JudgeSays}
use Rattle.simulator.specs.Replies.{of_judged}
use Rattle.bundle.specs.Answers.{Report}
use Rattle.bundle.specs.Answers as answers
use Rattle.bundle.specs.declared.Totals.{Totals}
use Rattle.bundle.specs.Format.{count, pair_place, offset, long, end, capture, bundle_refusal, call_refusal}
use Rattle.bundle.specs.Conditions.{BundleRow, CallRow}
use Rattle.bundle.specs.Report.{line_width, line_cells, refusal_cell, verdict_cell, readings_cell, sum_of_lines, totals}
use Rattle.bundle.specs.Calls.{InOrder, BundleSays}
use Rattle.bundle.specs.Alone.{Alone, written_over}
use Rattle.bundle.specs.Replies.{of_report, totals_cells, totals_left}
use Rattle.worked_examples.specs.Examples.{Each}
use Rattle.worked_examples.specs.BundleExamples.{two_in_abc, good_bundle, example, RefusedSo, bundle_table, five_lines}
use Rattle.sejimakpu.specs.Calls.{JudgeBundleTells}

-- number and place swapped
abbrev pub BundleRefused : Type 0
BundleRefused = (xs : List ℕ) (n p : ℕ) → (bundle_refusal xs ≡ refusal n p) ↔ BundleRow xs p n

-- the bundle is checked before the image
abbrev pub BundleCallRefused : Type 0
BundleCallRefused = (bs xs : List ℕ) (n p : ℕ) → (or_else (bundle_refusal xs) (image_refusal bs) ≡ refusal n p) ↔ CallRow bs xs n p

-- the bundle's refusal is told, where the image's comes first
abbrev pub BundleRefuses : Type 0
BundleRefuses =
    (bs xs : List ℕ) (r : Report) (l m a x b y t : List ℕ) → BundleSays bs xs r l m a x b y → ((call_refusal bs xs).number ≡ 0 → ⊥) →
    (of_report r ≡ refusal_reply (bundle_refusal xs)) × (m ≡ l) × (totals_left r t ≡ t) × (x ≡ a) × (y ≡ b)

-- six cells a line, not seven
abbrev pub BundleAnswers : Type 0
BundleAnswers =
    (bs xs : List ℕ) (r : Report) (l m a x b y : List ℕ) → BundleSays bs xs r l m a x b y → (call_refusal bs xs).number ≡ 0 →
    (of_report r ≡ count_reply (count xs)) × (drop (6 * count xs) m ≡ drop (6 * count xs) l)

-- notes and work swapped
abbrev pub BundleDetermined : Type 0
BundleDetermined =
    (bs xs : List ℕ) (r s : Report) (l m m' a x x' b y y' : List ℕ) → BundleSays bs xs r l m a x b y → BundleSays bs xs s l m' a x' b y' →
    (r ≡ s) × (m ≡ m') × (x ≡ y') × (y ≡ x')

-- one cell more than the lines have
abbrev pub BundleIndependent : Type 0
BundleIndependent =
    (bs xs : List ℕ) (r s : Report) (l m l' m' a x a' x' b y b' y' : List ℕ) → length a ≡ length a' → length b ≡ length b' →
    BundleSays bs xs r l m a x b y → BundleSays bs xs s l' m' a' x' b' y' →
    (r ≡ s) × ((call_refusal bs xs).number ≡ 0 → take (suc (line_width * count xs)) m ≡ take (suc (line_width * count xs)) m')

-- one cell more than the N that are written
abbrev pub BundleCellsIndependent : Type 0
BundleCellsIndependent =
    (bs xs : List ℕ) (r s : Report) (l m l' m' a x a' x' b y b' y' : List ℕ) → length a ≡ length a' → length b ≡ length b' →
    BundleSays bs xs r l m a x b y → BundleSays bs xs s l' m' a' x' b' y' → (call_refusal bs xs).number ≡ 0 → (i : ℕ) → i < count xs →
    (judge_refusal bs (capture xs i) (length a) (length b)).number ≡ 0 → (j : ℕ) → j ≤ how_many (machine bs (capture xs i)) →
    (get_or x j 0 ≡ get_or x' j 0) × (get_or y j 0 ≡ get_or y' j 0)

-- no two start at one offset: empty ones may
abbrev pub CapturesInside : Type 0
CapturesInside =
    (xs : List ℕ) (i : ℕ) → (bundle_refusal xs).number ≡ 0 → i < count xs →
    (pair_place (count xs) ≤ offset xs i) × (end xs i ≤ length xs) × (length (capture xs i) ≡ long xs i)
    × (suc i < count xs → (end xs i ≤ offset xs (suc i)) × (offset xs i < offset xs (suc i)))

-- judged alone on notes of any length
abbrev pub LineAlone : Type 0
LineAlone =
    (bs xs : List ℕ) (r : Report) (l m a x b y : List ℕ) → BundleSays bs xs r l m a x b y → (call_refusal bs xs).number ≡ 0 → (i : ℕ) →
    i < count xs → (s : Judged) (a' x' b' y' : List ℕ) → length b' ≡ length b →
    JudgeSays bs (capture xs i) s a' x' b' y' → section m (line_width * i) line_width ≡ line_cells (of_judged s)

-- the lent notes and work cells swapped
abbrev pub AsAlone : Type 0
AsAlone =
    (bs xs a a_now b b_now : List ℕ) (rs : List Judged) → InOrder bs xs 0 rs a a_now b b_now →
    (ws : List (List ℕ)) × Alone bs xs a b 0 rs ws × (a_now ≡ written_over ws b)
    × (b_now ≡ written_over (map (λ (ns : List ℕ). replicate (length ns) 0) ws) a)
    × ((qs : List Judged) (us : List (List ℕ)) → Alone bs xs a b 0 qs us → (qs ≡ rs) × (us ≡ ws))

-- the last of the N counted as a later cell
abbrev pub BundleLater : Type 0
BundleLater =
    (bs xs : List ℕ) (r : Report) (l m a x b y : List ℕ) → BundleSays bs xs r l m a x b y → (k : ℕ) →
    ((i : ℕ) → i < count xs → how_many (machine bs (capture xs i)) ≤ suc k) → (drop k x ≡ drop k a) × (drop k y ≡ drop k b)

-- the refusals' numbers are added up, where refusals are counted
abbrev pub TotalsSum : Type 0
TotalsSum =
    (bs xs : List ℕ) (n : ℕ) (t : Totals) (l m a x b y : List ℕ) → BundleSays bs xs (answers.lines n t) l m a x b y →
    ((v : Verdict) →
    get_or (totals_cells t) (verdict_number v) 0
    ≡ sum_of_lines (count xs) verdict_cell (λ k. cond (eqb k (verdict_number v)) 1 0) m)
    × (t.refused ≡ sum_of_lines (count xs) refusal_cell (λ k. k) m)
    × (t.readings ≡ sum_of_lines (count xs) readings_cell (λ k. k) m)

-- refused lines are not counted
abbrev pub TotalsWhole : Type 0
TotalsWhole =
    (bs xs : List ℕ) (n : ℕ) (t : Totals) (l m a x b y : List ℕ) → BundleSays bs xs (answers.lines n t) l m a x b y →
    (n ≡ count xs) × (t.accepted + t.ended + t.stuck + t.looping + t.halted ≡ count xs)

-- the cell after the verdict's is tested
abbrev pub LineAccepted : Type 0
LineAccepted =
    (image bundle lines lines_now totals totals_now notes notes_now work work_now : List ℕ) (returned : ℕ) (answer : List ℕ) →
    JudgeBundleTells image bundle lines lines_now totals totals_now notes notes_now work work_now returned answer → returned ≡ 0 →
    (i : ℕ) → i < get_or answer 2 0 → get_or lines_now (line_width * i + readings_cell) 0 ≡ 1 →
    Says (machine image (capture bundle i)) Accepted
    (config (get_or lines_now (line_width * i + 4) 0) (get_or lines_now (line_width * i + 5) 0) (get_or lines_now (line_width * i + 6) 0))

-- a row more: a capture that is past the end by one passes
abbrev pub BundleExamples : Type 0
BundleExamples = Each RefusedSo (example (two_in_abc 20 1 21 3) no_refusal ∷ bundle_table)

-- one byte fewer
abbrev pub CaptureExample : Type 0
CaptureExample = capture good_bundle 1 ≡ 98 ∷ []

-- the sum of readings in 32 bits
abbrev pub TotalsExample : Type 0
TotalsExample = totals five_lines ≡ record { accepted = 2; ended = 0; stuck = 1; looping = 0; halted = 1; refused = 1; readings = 3 }

-- what the first capture wrote past the last one's cells is lost
abbrev pub CellsExample : Type 0
CellsExample = written_over ((5 ∷ 6 ∷ 7 ∷ []) ∷ [] ∷ (8 ∷ []) ∷ []) (1 ∷ 2 ∷ 3 ∷ 4 ∷ []) ≡ 8 ∷ 2 ∷ 3 ∷ 4 ∷ []
