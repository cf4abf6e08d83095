-- A line's cells hold the numbers of its capture's answer alone; and cells past the N of every capture are as they were. Assumes nothing.
use mathlib.Core.Path.{◌≡◌, refl, sym, ap, ◌∙◌, subst}
use mathlib.Core.List.{List, ◌++◌}
use Prim.Native.Nat.{ℕ, suc, ◌+◌, ◌-◌, ◌*◌, ◌<◌, ◌≤◌}
use native.Mathlib.Decide.{ℕ_discrete}
use native.Mathlib.Omega.{arith}
use lib.ListN.{length, drop}
use lib.Seq.{drop-drop}
use Rattle.machine.specs.Run.{how_many}
use Rattle.codec.specs.Bytes.{section}
use Rattle.image.specs.Image.{machine}
use Rattle.simulator.specs.Answers.{Judged}
use Rattle.simulator.specs.Calls.{JudgeSays}
use Rattle.simulator.specs.Replies.{of_judged}
use Rattle.simulator.proofs.Answered.{later_kept}
use Rattle.simulator.proofs.Determined.{judge_independent}
use Rattle.bundle.specs.Answers.{Report}
use Rattle.bundle.specs.Format.{count, capture, call_refusal}
use Rattle.bundle.specs.Report.{line_width, line_cells, lines_cells}
use Rattle.bundle.specs.Calls.{InOrder, done, next, BundleSays}
use Rattle.bundle.proofs.InOrder.{line_judged}
use Rattle.bundle.proofs.BundleSaid.{bundle_judged, bundle_refused}
use Rattle.bundle.proofs.LineCells.{line_section}

-- LINE i IN ITS CELLS, and what its capture was judged on
pub record LineThere (bs xs m a b : List ℕ) (i : ℕ) : Type 0 where
  pub line : Judged
  pub cells : section m (line_width * i) line_width ≡ line_cells (of_judged line)
  pub notes : List ℕ
  pub notes_then : List ℕ
  pub work : List ℕ
  pub work_then : List ℕ
  pub says : JudgeSays bs (capture xs i) line notes notes_then work work_then
  pub notes_long : length notes ≡ length a
  pub work_long : length work ≡ length b

pub line_there :
    (bs xs : List ℕ) (r : Report) (l m a x b y : List ℕ) → BundleSays bs xs r l m a x b y → (call_refusal bs xs).number ≡ 0 → (i : ℕ) →
    i < count xs → LineThere bs xs m a b i
line_there bs xs r l m a x b y s e i h =
    let f = bundle_judged bs xs r l m a x b y e s in
    let z = line_judged bs xs 0 f.lines a x b y f.judged i (omega (arith, h)) in
    let rest = drop (line_width * count xs) l in
    let here : 0 + i ≡ i = omega arith in
    record {
      line = z.line;
      cells =
          ap (λ (c : List ℕ). section c (line_width * i) line_width) f.lines_now
          ∙ ap (λ (rs : List Judged). section (lines_cells rs ++ rest) (line_width * i) line_width) z.whole
          ∙ line_section z.earlier z.line z.later i rest z.placed;
      notes = z.notes;
      notes_then = z.notes_then;
      work = z.work;
      work_then = z.work_then;
      says =
          subst (λ (k : ℕ). JudgeSays bs (capture xs k) z.line z.notes z.notes_then z.work z.work_then) here z.says;
      notes_long = z.notes_long;
      work_long = z.work_long;
    }

-- A LINE EQUALS THE ANSWER FOR THAT CAPTURE JUDGED ALONE
pub line_alone :
    (bs xs : List ℕ) (r : Report) (l m a x b y : List ℕ) → BundleSays bs xs r l m a x b y → (call_refusal bs xs).number ≡ 0 → (i : ℕ) →
    i < count xs → (s : Judged) (a' x' b' y' : List ℕ) → length a' ≡ length a → length b' ≡ length b →
    JudgeSays bs (capture xs i) s a' x' b' y' → section m (line_width * i) line_width ≡ line_cells (of_judged s)
line_alone bs xs r l m a x b y f e i h s a' x' b' y' p q g =
    let z = line_there bs xs r l m a x b y f e i h in
    let same : z.line ≡ s =
    (judge_independent bs (capture xs i) z.notes z.work a' b' z.line s z.notes_then z.work_then x' y' (z.notes_long ∙ sym p)
    (z.work_long ∙ sym q) z.says g).0
    in
    z.cells ∙ ap (λ (t : Judged). line_cells (of_judged t)) same

-- LATER CELLS ARE UNCHANGED
further : (n k : ℕ) (c d : List ℕ) → n ≤ k → drop n c ≡ drop n d → drop k c ≡ drop k d
further n k c d h e =
    let sum : n + (k - n) ≡ k = omega (arith, h) in
    let one = drop-drop (k - n) n c in
    let two = drop-drop (k - n) n d in
    rw (sym sum) (sym one ∙ ap (drop (k - n)) e ∙ two)

later_from :
    (bs xs : List ℕ) (i : ℕ) (rs : List Judged) (a x b y : List ℕ) → InOrder bs xs i rs a x b y → (k : ℕ) →
    ((j : ℕ) → j < count xs → how_many (machine bs (capture xs j)) ≤ k) → (drop k x ≡ drop k a) × (drop k y ≡ drop k b)
later_from bs xs i rs a x b y done k h = (refl, refl)
later_from bs xs i rs a x b y (next {a_then = c} {b_then = d} {r = r} {rs = qs} l s f) k h =
    let rest = later_from bs xs (suc i) qs c x d y f k h in
    let here = later_kept bs (capture xs i) r a c b d s in (
      rest.0 ∙ further (how_many (machine bs (capture xs i))) k c a (h i l) here.0,
      rest.1 ∙ further (how_many (machine bs (capture xs i))) k d b (h i l) here.1,
    )

pub bundle_later :
    (bs xs : List ℕ) (r : Report) (l m a x b y : List ℕ) → BundleSays bs xs r l m a x b y → (k : ℕ) →
    ((i : ℕ) → i < count xs → how_many (machine bs (capture xs i)) ≤ k) → (drop k x ≡ drop k a) × (drop k y ≡ drop k b)
bundle_later bs xs r l m a x b y s k h = go (ℕ_discrete (call_refusal bs xs).number 0)
  where
    go : Dec ((call_refusal bs xs).number ≡ 0) → (drop k x ≡ drop k a) × (drop k y ≡ drop k b)
    go (yes e) = let f = bundle_judged bs xs r l m a x b y e s in later_from bs xs 0 f.lines a x b y f.judged k h
    go (no n) = let f = bundle_refused bs xs r l m a x b y n s in (ap (drop k) f.2, ap (drop k) f.3)
