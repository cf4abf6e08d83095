-- The report: a refused call tells number and place and changes nothing, any other how many captures there are; and report, lines and lent cells follow from the input. Assumes nothing.
use mathlib.Core.Path.{◌≡◌, refl, sym, ap, ◌∙◌}
use mathlib.Core.List.{List, ◌++◌}
use Prim.Native.Nat.{ℕ, ◌*◌}
use native.Mathlib.Decide.{ℕ_discrete}
use native.Mathlib.Omega.{arith}
use lib.ListN.{length, take, drop}
use Rattle.machine.specs.Replies.{refusal_reply, count_reply}
use Rattle.simulator.specs.Answers.{Judged}
use Rattle.bundle.specs.Answers.{Report}
use Rattle.bundle.specs.Answers as answers
use Rattle.bundle.specs.Format.{count, call_refusal}
use Rattle.bundle.specs.Report.{line_width, lines_cells, totals}
use Rattle.bundle.specs.Calls.{BundleJudged, BundleSays}
use Rattle.bundle.specs.Replies.{of_report, totals_left}
use Rattle.bundle.proofs.InOrder.{lines_count, lines_independent, cells_determined}
use Rattle.bundle.proofs.BundleSaid.{bundle_judged, bundle_refused}
use Rattle.bundle.proofs.LineCells.{lines_then_rest, lines_first}

-- A REFUSED CALL
pub bundle_refuses :
    (bs xs : List ℕ) (r : Report) (l m a x b y t : List ℕ) → BundleSays bs xs r l m a x b y → ((call_refusal bs xs).number ≡ 0 → ⊥) →
    (of_report r ≡ refusal_reply (call_refusal bs xs)) × (m ≡ l) × (totals_left r t ≡ t) × (x ≡ a) × (y ≡ b)
unfolding of_report totals_left
bundle_refuses bs xs r l m a x b y t s n =
    let f = bundle_refused bs xs r l m a x b y n s in
    (ap of_report f.0, f.1, ap (λ (q : Report). totals_left q t) f.0, f.2, f.3)

-- ANY OTHER
all_lines : (bs xs : List ℕ) (r : Report) (l m a x b y : List ℕ) (f : BundleJudged bs xs r l m a x b y) → length f.lines ≡ count xs
all_lines bs xs r l m a x b y f =
    let long = lines_count bs xs 0 f.lines a x b y f.judged in omega (arith, long)

pub bundle_answers :
    (bs xs : List ℕ) (r : Report) (l m a x b y : List ℕ) → BundleSays bs xs r l m a x b y → (call_refusal bs xs).number ≡ 0 →
    (of_report r ≡ count_reply (count xs)) × (drop (line_width * count xs) m ≡ drop (line_width * count xs) l)
unfolding of_report
bundle_answers bs xs r l m a x b y s e =
    let f = bundle_judged bs xs r l m a x b y e s in (
      ap of_report f.answers,
      ap (drop (line_width * count xs)) f.lines_now
          ∙ lines_then_rest f.lines (count xs) (drop (line_width * count xs) l) (all_lines bs xs r l m a x b y f),
    )

-- THE SAME LINES, whatever stood in slices of these lengths
same_lines :
    (bs xs : List ℕ) (r s : Report) (l m l' m' a x a' x' b y b' y' : List ℕ) → length a ≡ length a' → length b ≡ length b' →
    (f : BundleJudged bs xs r l m a x b y) (g : BundleJudged bs xs s l' m' a' x' b' y') → f.lines ≡ g.lines
same_lines bs xs r s l m l' m' a x a' x' b y b' y' p q f g =
    lines_independent bs xs 0 0 f.lines g.lines a x b y a' x' b' y' refl p q f.judged g.judged

pub bundle_independent :
    (bs xs : List ℕ) (r s : Report) (l m l' m' a x a' x' b y b' y' : List ℕ) → length a ≡ length a' → length b ≡ length b' →
    BundleSays bs xs r l m a x b y → BundleSays bs xs s l' m' a' x' b' y' →
    (r ≡ s) × ((call_refusal bs xs).number ≡ 0 → take (line_width * count xs) m ≡ take (line_width * count xs) m')
bundle_independent bs xs r s l m l' m' a x a' x' b y b' y' p q f g = go (ℕ_discrete (call_refusal bs xs).number 0)
  where
    go :
        Dec ((call_refusal bs xs).number ≡ 0) →
        (r ≡ s) × ((call_refusal bs xs).number ≡ 0 → take (line_width * count xs) m ≡ take (line_width * count xs) m')
    go (no n) =
        ((bundle_refused bs xs r l m a x b y n f).0 ∙ sym (bundle_refused bs xs s l' m' a' x' b' y' n g).0, λ e. absurd (n e))
    go (yes e) =
        let f' = bundle_judged bs xs r l m a x b y e f in
        let g' = bundle_judged bs xs s l' m' a' x' b' y' e g in
        let same : f'.lines ≡ g'.lines = same_lines bs xs r s l m l' m' a x a' x' b y b' y' p q f' g' in
        let n = line_width * count xs in
        let first : take n m ≡ lines_cells f'.lines =
        ap (take n) f'.lines_now ∙ lines_first f'.lines (count xs) (drop n l) (all_lines bs xs r l m a x b y f')
        in
        let second : take n m' ≡ lines_cells g'.lines =
        ap (take n) g'.lines_now ∙ lines_first g'.lines (count xs) (drop n l') (all_lines bs xs s l' m' a' x' b' y' g')
        in (
          f'.answers ∙ ap (λ (rs : List Judged). answers.lines (count xs) (totals rs)) same ∙ sym g'.answers,
          λ z. first ∙ ap lines_cells same ∙ sym second,
        )

-- REPORT, LINES AND LENT CELLS FOLLOW FROM THE INPUT ALONE
pub bundle_determined :
    (bs xs : List ℕ) (r s : Report) (l m m' a x x' b y y' : List ℕ) → BundleSays bs xs r l m a x b y → BundleSays bs xs s l m' a x' b y' →
    (r ≡ s) × (m ≡ m') × (x ≡ x') × (y ≡ y')
bundle_determined bs xs r s l m m' a x x' b y y' f g = go (ℕ_discrete (call_refusal bs xs).number 0)
  where
    go : Dec ((call_refusal bs xs).number ≡ 0) → (r ≡ s) × (m ≡ m') × (x ≡ x') × (y ≡ y')
    go (no n) =
        let f' = bundle_refused bs xs r l m a x b y n f in
        let g' = bundle_refused bs xs s l m' a x' b y' n g in
        (f'.0 ∙ sym g'.0, f'.1 ∙ sym g'.1, f'.2 ∙ sym g'.2, f'.3 ∙ sym g'.3)
    go (yes e) =
        let f' = bundle_judged bs xs r l m a x b y e f in
        let g' = bundle_judged bs xs s l m' a x' b y' e g in
        let same : f'.lines ≡ g'.lines = same_lines bs xs r s l m l m' a x a x' b y b y' refl refl f' g' in
        let cells = cells_determined bs xs 0 0 f'.lines g'.lines a x b y a x' b y' refl refl refl f'.judged g'.judged in (
          f'.answers ∙ ap (λ (rs : List Judged). answers.lines (count xs) (totals rs)) same ∙ sym g'.answers,
          f'.lines_now ∙ ap (λ (rs : List Judged). lines_cells rs ++ drop (line_width * count xs) l) same ∙ sym g'.lines_now,
          cells.0,
          cells.1,
        )
