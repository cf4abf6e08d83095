-- What the call `judge_bundle` answers, and what it leaves in the lent cells and lines. Assumes nothing: these are definitions.
use Rattle.std.specs.Prelude.{◌≡◌, List, [], ◌∷◌, ◌++◌, ℕ, zero, suc, ◌*◌, ◌<◌, drop, Err}
use Rattle.refusal.specs.declared.Refusal.{Refusal}
use Rattle.simulator.specs.Answers.{Judged}
use Rattle.simulator.specs.Calls.{JudgeSays}
use Rattle.bundle.specs.Answers as answers
use Rattle.bundle.specs.Answers.{Report}
use Rattle.bundle.specs.Format.{count, capture, call_refusal}
use Rattle.bundle.specs.Report.{line_width, lines_cells, totals}

-- JUDGED IN ORDER from capture i on, each on the cells that the one before left
pub data InOrder (image bundle : List ℕ) : (i : ℕ) → (lines : List Judged) → (a a_now b b_now : List ℕ) → Type 0 where
  done : {a b : List ℕ} → InOrder image bundle (count bundle) [] a a b b
  next :
      {i : ℕ} {a a_then a_now b b_then b_now : List ℕ} {r : Judged} {rs : List Judged} → i < count bundle →
      JudgeSays image (capture bundle i) r a a_then b b_then → InOrder image bundle (suc i) rs a_then a_now b_then b_now →
      InOrder image bundle i (r ∷ rs) a a_now b b_now

-- a report: the lines of the captures in order, and their totals. The lines stand at the start of the lent ones, and later ones are as they were
pub record BundleJudged (bs xs : List ℕ) (r : Report) (l l_now a a_now b b_now : List ℕ) : Type 0 where
  pub lines : List Judged
  pub judged : InOrder bs xs 0 lines a a_now b b_now
  pub answers : r ≡ answers.lines (count xs) (totals lines)
  pub lines_now : l_now ≡ lines_cells lines ++ drop (line_width * count xs) l

-- a refused call changes no cell and no line
unfoldable pub BundleAs : (number : ℕ) → Refusal → (bs xs : List ℕ) → Report → (l l_now a a_now b b_now : List ℕ) → Type 0
BundleAs zero f bs xs r l m a x b y = BundleJudged bs xs r l m a x b y
BundleAs (suc n) f bs xs r l m a x b y = (r ≡ Err f) × (m ≡ l) × (x ≡ a) × (y ≡ b)

unfoldable pub BundleSays : (image bundle : List ℕ) → Report → (l l_now a a_now b b_now : List ℕ) → Type 0
BundleSays bs xs r l m a x b y = BundleAs (call_refusal bs xs).number (call_refusal bs xs) bs xs r l m a x b y
