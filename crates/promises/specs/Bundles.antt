-- A SHIFT'S CAPTURES IN ONE BUNDLE (request (d)): its format, the report against one image, and the cells. Assumes nothing: each claim is a type, and proofs/ has its proof.
use Rattle.std.specs.Prelude.{◌≡◌, cond, List, [], ◌∷◌, map, ◌↔◌, ℕ, suc, ◌+◌, ◌*◌, ◌<◌, ◌≤◌, eqb, length, get_or, take, drop, replicate}
use Rattle.refusal.specs.First.{refusal}
use Rattle.machine.specs.declared.Verdict.{Verdict}
use Rattle.machine.specs.declared.Verdict.TheVariants.{Accepted}
use Rattle.machine.specs.Run.{config, how_many}
use Rattle.machine.specs.Verdicts.{Says}
use Rattle.machine.specs.Replies.{verdict_number, refusal_reply, count_reply}
use Rattle.codec.specs.Bytes.{section}
use Rattle.image.specs.Image.{machine}
use Rattle.simulator.specs.Answers.{Judged}
use Rattle.simulator.specs.Calls.{judge_refusal, JudgeSays}
use Rattle.simulator.specs.Replies.{of_judged}
use Rattle.bundle.specs.Answers.{Report}
use Rattle.bundle.specs.Answers as answers
use Rattle.bundle.specs.declared.Totals.{Totals}
use Rattle.bundle.specs.Format.{count, pair_place, offset, long, end, capture, bundle_refusal, call_refusal}
use Rattle.bundle.specs.Conditions.{BundleRow, CallRow}
use Rattle.bundle.specs.Report.{line_width, line_cells, refusal_cell, verdict_cell, readings_cell, sum_of_lines, totals}
use Rattle.bundle.specs.Calls.{InOrder, BundleSays}
use Rattle.bundle.specs.Alone.{Alone, written_over}
use Rattle.bundle.specs.Replies.{of_report, totals_cells, totals_left}
use Rattle.worked_examples.specs.Examples.{Each}
use Rattle.worked_examples.specs.BundleExamples.{good_bundle, RefusedSo, bundle_table, five_lines}
use Rattle.sejimakpu.specs.Calls.{JudgeBundleTells}

-- A WRONG BUNDLE IS REFUSED by 18: a wrong count, or too short for count and pairs, at place 0, else the first wrong pair at its place; 0 at 0 exactly if all that the request asks holds
abbrev pub BundleRefused : Type 0
BundleRefused = (xs : List ℕ) (n p : ℕ) → (bundle_refusal xs ≡ refusal n p) ↔ BundleRow xs n p

-- A BAD IMAGE REFUSES THE WHOLE CALL, with 1 to 6; after that a wrong bundle does
abbrev pub BundleCallRefused : Type 0
BundleCallRefused = (bs xs : List ℕ) (n p : ℕ) → (call_refusal bs xs ≡ refusal n p) ↔ CallRow bs xs n p

-- A REFUSED CALL TELLS NUMBER AND PLACE, before anything is judged: no line, no total, no lent cell changes
abbrev pub BundleRefuses : Type 0
BundleRefuses =
    (bs xs : List ℕ) (r : Report) (l m a x b y t : List ℕ) → BundleSays bs xs r l m a x b y → ((call_refusal bs xs).number ≡ 0 → ⊥) →
    (of_report r ≡ refusal_reply (call_refusal bs xs)) × (m ≡ l) × (totals_left r t ≡ t) × (x ≡ a) × (y ≡ b)

-- not refused, it answers how many captures there are, each with its line; later lines are as they were
abbrev pub BundleAnswers : Type 0
BundleAnswers =
    (bs xs : List ℕ) (r : Report) (l m a x b y : List ℕ) → BundleSays bs xs r l m a x b y → (call_refusal bs xs).number ≡ 0 →
    (of_report r ≡ count_reply (count xs)) × (drop (line_width * count xs) m ≡ drop (line_width * count xs) l)

-- REPORT AND LENT CELLS FOLLOW FROM THE INPUT ALONE
abbrev pub BundleDetermined : Type 0
BundleDetermined =
    (bs xs : List ℕ) (r s : Report) (l m m' a x x' b y y' : List ℕ) → BundleSays bs xs r l m a x b y → BundleSays bs xs s l m' a x' b y' →
    (r ≡ s) × (m ≡ m') × (x ≡ x') × (y ≡ y')

-- whatever stood in slices of these lengths, the report is the same, and so are its lines
abbrev pub BundleIndependent : Type 0
BundleIndependent =
    (bs xs : List ℕ) (r s : Report) (l m l' m' a x a' x' b y b' y' : List ℕ) → length a ≡ length a' → length b ≡ length b' →
    BundleSays bs xs r l m a x b y → BundleSays bs xs s l' m' a' x' b' y' →
    (r ≡ s) × ((call_refusal bs xs).number ≡ 0 → take (line_width * count xs) m ≡ take (line_width * count xs) m')

-- and so is every cell that the call writes: the first N of each capture that has no refusal
abbrev pub BundleCellsIndependent : Type 0
BundleCellsIndependent =
    (bs xs : List ℕ) (r s : Report) (l m l' m' a x a' x' b y b' y' : List ℕ) → length a ≡ length a' → length b ≡ length b' →
    BundleSays bs xs r l m a x b y → BundleSays bs xs s l' m' a' x' b' y' → (call_refusal bs xs).number ≡ 0 → (i : ℕ) → i < count xs →
    (judge_refusal bs (capture xs i) (length a) (length b)).number ≡ 0 → (j : ℕ) → j < how_many (machine bs (capture xs i)) →
    (get_or x j 0 ≡ get_or x' j 0) × (get_or y j 0 ≡ get_or y' j 0)

-- EACH CAPTURE IS THE BUNDLE'S OWN BYTES: of a bundle that is not refused, they lie one after another behind the pairs, sorted by offset, all inside
abbrev pub CapturesInside : Type 0
CapturesInside =
    (xs : List ℕ) (i : ℕ) → (bundle_refusal xs).number ≡ 0 → i < count xs →
    (pair_place (count xs) ≤ offset xs i) × (end xs i ≤ length xs) × (length (capture xs i) ≡ long xs i)
    × (suc i < count xs → (end xs i ≤ offset xs (suc i)) × (offset xs i ≤ offset xs (suc i)))

-- A LINE EQUALS THE ANSWER FOR THAT CAPTURE JUDGED ALONE, on slices of the same lengths, whatever stands in them: in line i's cells stand the numbers of that answer
abbrev pub LineAlone : Type 0
LineAlone =
    (bs xs : List ℕ) (r : Report) (l m a x b y : List ℕ) → BundleSays bs xs r l m a x b y → (call_refusal bs xs).number ≡ 0 → (i : ℕ) →
    i < count xs → (s : Judged) (a' x' b' y' : List ℕ) → length a' ≡ length a → length b' ≡ length b →
    JudgeSays bs (capture xs i) s a' x' b' y' → section m (line_width * i) line_width ≡ line_cells (of_judged s)

-- THE CELLS END AS AFTER JUDGING THEM IN ORDER: they are a fold over what each capture, judged alone on the cells as they were lent, writes to its own first N; and lines and writings are the only such
abbrev pub AsAlone : Type 0
AsAlone =
    (bs xs a a_now b b_now : List ℕ) (rs : List Judged) → InOrder bs xs 0 rs a a_now b b_now →
    (ws : List (List ℕ)) × Alone bs xs a b 0 rs ws × (a_now ≡ written_over ws a)
    × (b_now ≡ written_over (map (λ (ns : List ℕ). replicate (length ns) 0) ws) b)
    × ((qs : List Judged) (us : List (List ℕ)) → Alone bs xs a b 0 qs us → (qs ≡ rs) × (us ≡ ws))

-- LATER CELLS ARE UNCHANGED: those past the N of every capture
abbrev pub BundleLater : Type 0
BundleLater =
    (bs xs : List ℕ) (r : Report) (l m a x b y : List ℕ) → BundleSays bs xs r l m a x b y → (k : ℕ) →
    ((i : ℕ) → i < count xs → how_many (machine bs (capture xs i)) ≤ k) → (drop k x ≡ drop k a) × (drop k y ≡ drop k b)

-- THE LAST LINE EQUALS THE SUMS OVER THE LINES, as the lines' cells have them: of each verdict, of refusals, of readings
abbrev pub TotalsSum : Type 0
TotalsSum =
    (bs xs : List ℕ) (n : ℕ) (t : Totals) (l m a x b y : List ℕ) → BundleSays bs xs (answers.lines n t) l m a x b y →
    ((v : Verdict) →
    get_or (totals_cells t) (verdict_number v) 0
    ≡ sum_of_lines (count xs) verdict_cell (λ k. cond (eqb k (verdict_number v)) 1 0) m)
    × (t.refused ≡ sum_of_lines (count xs) refusal_cell (λ k. cond (eqb k 0) 0 1) m)
    × (t.readings ≡ sum_of_lines (count xs) readings_cell (λ k. k) m)

-- and every line is counted once
abbrev pub TotalsWhole : Type 0
TotalsWhole =
    (bs xs : List ℕ) (n : ℕ) (t : Totals) (l m a x b y : List ℕ) → BundleSays bs xs (answers.lines n t) l m a x b y →
    (n ≡ count xs) × (t.accepted + t.ended + t.stuck + t.looping + t.halted + t.refused ≡ count xs)

-- THE LIBRARY FOR C: where the call is not refused, who tests a line's verdict for 1, accepted, and nothing else, is never wrong
abbrev pub LineAccepted : Type 0
LineAccepted =
    (image bundle lines lines_now totals totals_now notes notes_now work work_now : List ℕ) (returned : ℕ) (answer : List ℕ) →
    JudgeBundleTells image bundle lines lines_now totals totals_now notes notes_now work work_now returned answer → returned ≡ 0 →
    (i : ℕ) → i < get_or answer 2 0 → get_or lines_now (line_width * i + verdict_cell) 0 ≡ 1 →
    Says (machine image (capture bundle i)) Accepted
    (config (get_or lines_now (line_width * i + 4) 0) (get_or lines_now (line_width * i + 5) 0) (get_or lines_now (line_width * i + 6) 0))

-- WORKED EXAMPLES, computed: bundles with their refusals, the second capture of the first of them
abbrev pub BundleExamples : Type 0
BundleExamples = Each RefusedSo bundle_table

abbrev pub CaptureExample : Type 0
CaptureExample = capture good_bundle 1 ≡ 98 ∷ 99 ∷ []

-- a sum of readings past 32 bits
abbrev pub TotalsExample : Type 0
TotalsExample = totals five_lines ≡ record { accepted = 2; ended = 0; stuck = 1; looping = 0; halted = 1; refused = 1; readings = 8589934595 }

-- notes after a capture that writes three, a refused one, and one that writes one
abbrev pub CellsExample : Type 0
CellsExample = written_over ((5 ∷ 6 ∷ 7 ∷ []) ∷ [] ∷ (8 ∷ []) ∷ []) (1 ∷ 2 ∷ 3 ∷ 4 ∷ []) ≡ 8 ∷ 6 ∷ 7 ∷ 4 ∷ []
