-- Captures judged in order: there is a line for each, and lines and cells follow from the input. Assumes nothing.
use mathlib.Core.Path.{◌≡◌, refl, sym, ap, ◌∙◌, subst}
use mathlib.Core.List.{List, [], ◌∷◌, ◌++◌}
use Prim.Native.Nat.{ℕ, zero, suc, ◌+◌, ◌<◌}
use native.Mathlib.Omega.{arith}
use lib.ListN.{length}
use Rattle.simulator.specs.Answers.{Judged}
use Rattle.simulator.specs.Calls.{JudgeSays}
use Rattle.simulator.proofs.LengthsKept.{lengths_kept}
use Rattle.simulator.proofs.Determined.{judge_determined, judge_independent}
use Rattle.bundle.specs.Format.{count, capture}
use Rattle.bundle.specs.Calls.{InOrder, done, next}

-- A LINE FOR EACH CAPTURE that is left
pub lines_count :
    (bs xs : List ℕ) (i : ℕ) (rs : List Judged) (a x b y : List ℕ) → InOrder bs xs i rs a x b y → i + length rs ≡ count xs
lines_count bs xs i rs a x b y done = omega arith
lines_count bs xs i rs a x b y (next {rs = qs} h s f) =
    let rest : suc i + length qs ≡ count xs = lines_count bs xs (suc i) qs _ _ _ _ f in omega (arith, rest)

-- THE LINE OF A CAPTURE: what comes before and after it, and what it was judged on
pub record LineJudged (bs xs : List ℕ) (i k : ℕ) (rs : List Judged) (a b : List ℕ) : Type 0 where
  pub earlier : List Judged
  pub line : Judged
  pub later : List Judged
  pub whole : rs ≡ earlier ++ line ∷ later
  pub placed : length earlier ≡ k
  pub notes : List ℕ
  pub notes_then : List ℕ
  pub work : List ℕ
  pub work_then : List ℕ
  pub says : JudgeSays bs (capture xs (i + k)) line notes notes_then work work_then
  pub notes_long : length notes ≡ length a
  pub work_long : length work ≡ length b

pub line_judged :
    (bs xs : List ℕ) (i : ℕ) (rs : List Judged) (a x b y : List ℕ) → InOrder bs xs i rs a x b y → (k : ℕ) → i + k < count xs →
    LineJudged bs xs i k rs a b
line_judged bs xs i rs a x b y done k h = absurd (omega (arith, h))
line_judged bs xs i rs a x b y (next {a_then = c} {b_then = d} {r = r} {rs = qs} l s f) zero h =
    let here : i ≡ i + 0 = omega arith in
    record {
      earlier = [];
      line = r;
      later = qs;
      whole = refl;
      placed = refl;
      notes = a;
      notes_then = c;
      work = b;
      work_then = d;
      says = subst (λ (j : ℕ). JudgeSays bs (capture xs j) r a c b d) here s;
      notes_long = refl;
      work_long = refl;
    }
line_judged bs xs i rs a x b y (next {r = r} {rs = qs} l s f) (suc k) h =
    let there : suc i + k ≡ i + suc k = omega arith in
    let below : suc i + k < count xs = omega (arith, h) in
    let kept = lengths_kept bs (capture xs i) r a _ b _ s in
    let z = line_judged bs xs (suc i) qs _ x _ y f k below in
    record {
      earlier = r ∷ z.earlier;
      line = z.line;
      later = z.later;
      whole = ap (λ (ls : List Judged). r ∷ ls) z.whole;
      placed = ap suc z.placed;
      notes = z.notes;
      notes_then = z.notes_then;
      work = z.work;
      work_then = z.work_then;
      says = subst (λ (j : ℕ). JudgeSays bs (capture xs j) z.line z.notes z.notes_then z.work z.work_then) there z.says;
      notes_long = z.notes_long ∙ kept.0;
      work_long = z.work_long ∙ kept.1;
    }

-- THE LINES FOLLOW from the lengths of what is lent
pub lines_independent :
    (bs xs : List ℕ) (i j : ℕ) (rs qs : List Judged) (a x b y a' x' b' y' : List ℕ) → i ≡ j → length a ≡ length a' →
    length b ≡ length b' → InOrder bs xs i rs a x b y → InOrder bs xs j qs a' x' b' y' → rs ≡ qs
lines_independent bs xs i j rs qs a x b y a' x' b' y' e p q done done = refl
lines_independent bs xs i j rs qs a x b y a' x' b' y' e p q done (next h s g) = absurd (omega (arith, e, h))
lines_independent bs xs i j rs qs a x b y a' x' b' y' e p q (next h s f) done = absurd (omega (arith, e, h))
lines_independent bs xs i j rs qs a x b y a' x' b' y' e p q (next {a_then} {b_then} {r} {rs = rs'} h s f) (next {a_then = c} {b_then = d} {r = r'} {rs = qs'} k t g) =
    let t' = subst (λ (n : ℕ). JudgeSays bs (capture xs n) r' a' c b' d) (sym e) t in
    let same : r ≡ r' = (judge_independent bs (capture xs i) a b a' b' r r' a_then b_then c d p q s t').0 in
    let kept = lengths_kept bs (capture xs i) r a a_then b b_then s in
    let kept' = lengths_kept bs (capture xs i) r' a' c b' d t' in
    let rest : rs' ≡ qs' =
    lines_independent bs xs (suc i) (suc j) rs' qs' a_then x b_then y c x' d y' (ap suc e) (kept.0 ∙ p ∙ sym kept'.0)
    (kept.1 ∙ q ∙ sym kept'.1) f g
    in
    rw (same, rest) refl

-- AND THE CELLS from what is lent
pub cells_determined :
    (bs xs : List ℕ) (i j : ℕ) (rs qs : List Judged) (a x b y a' x' b' y' : List ℕ) → i ≡ j → a ≡ a' → b ≡ b' →
    InOrder bs xs i rs a x b y → InOrder bs xs j qs a' x' b' y' → (x ≡ x') × (y ≡ y')
cells_determined bs xs i j rs qs a x b y a' x' b' y' e p q done done = (p, q)
cells_determined bs xs i j rs qs a x b y a' x' b' y' e p q done (next h s g) = absurd (omega (arith, e, h))
cells_determined bs xs i j rs qs a x b y a' x' b' y' e p q (next h s f) done = absurd (omega (arith, e, h))
cells_determined bs xs i j rs qs a x b y a' x' b' y' e p q (next {a_then} {b_then} {r} {rs = rs'} h s f) (next {a_then = c} {b_then = d} {r = r'} {rs = qs'} k t g) =
    let t' : JudgeSays bs (capture xs i) r' a c b d = rw (e, p, q) t in
    let same = judge_determined bs (capture xs i) a b r r' a_then b_then c d s t' in
    cells_determined bs xs (suc i) (suc j) rs' qs' a_then x b_then y c x' d y' (ap suc e) same.1 same.2 f g
