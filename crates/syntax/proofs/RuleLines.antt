-- Helper rules follow line by line, each line's after those of the lines before: so a rule is of one line. Assumes nothing.
use mathlib.Core.Path.{◌≡◌, refl, ap, ◌∙◌}
use mathlib.Core.List.{List, [], ◌∷◌}
use Prim.Native.Nat.{ℕ, zero, suc, ◌+◌, ◌-◌, ◌<◌, ◌≤◌}
use native.Mathlib.Decide.{dec_lt}
use native.Mathlib.Omega.{arith}
use lib.ListN.{length, take, drop, length-drop}
use lib.Seq.{length-take-le, take-length, drop-drop}
use Rattle.syntax.specs.Trees.{Definition}
use Rattle.syntax.specs.Needs.{needs}
use Rattle.syntax.specs.RuleLines.{first_helper, LineOfRule, own, helper}
use Rattle.syntax.proofs.Counting.{lines_needed}

-- what the first lines need, and the others
needs_split : (j : ℕ) (ds : List Definition) → needs ds ≡ needs (take j ds) + needs (drop j ds)
unfolding needs
needs_split zero ds = omega arith
needs_split (suc j) [] = refl
needs_split (suc j) (d ∷ ds) = omega (arith, needs_split j ds)

-- THE FIRST HELPER OF LINE j, counted from the end: what the lines from j on need is left
pub helper_first :
    (ds : List Definition) (j : ℕ) → j ≤ length ds → first_helper ds j + needs (drop j ds) ≡ needs ds + (length ds - j)
unfolding first_helper
helper_first ds j h =
    omega (arith, needs_split j ds, lines_needed (take j ds), length-take-le j ds h)

-- after the last line's there are no more
pub helpers_end : (ds : List Definition) → first_helper ds (length ds) ≡ needs ds
unfolding first_helper
helpers_end ds = omega (arith, ap needs (take-length ds), lines_needed ds)

-- a later line's helpers come later
helpers_later : (ds : List Definition) (i j : ℕ) → i ≤ j → j ≤ length ds → first_helper ds i ≤ first_helper ds j
helpers_later ds i j le h =
    let between : List Definition = take (j - i) (drop i ds) in
    let long : length between ≡ j - i = length-take-le (j - i) (drop i ds) (omega (arith, length-drop i ds)) in
    let at : i + (j - i) ≡ j = omega arith in
    let rest : drop (j - i) (drop i ds) ≡ drop j ds = drop-drop (j - i) i ds ∙ ap (λ (n : ℕ). drop n ds) at in
    omega (
      arith,
      helper_first ds i (omega arith),
      helper_first ds j h,
      needs_split (j - i) (drop i ds),
      ap needs rest,
      lines_needed between,
      long,
    )

own_first : (ds : List Definition) (j : ℕ) → length ds ≤ first_helper ds j
unfolding first_helper
own_first ds j = omega arith

-- ONE LINE: a line's own rule is no helper, and helpers of two lines are apart
pub one_line : {ds : List Definition} {k i j : ℕ} → LineOfRule ds k i → LineOfRule ds k j → i ≡ j
one_line (own h) (own g) = refl
one_line {ds} {k} (own h) (helper {line = j} g f l) = absurd (omega (arith, own_first ds j))
one_line {ds} (helper {line = i} g f l) (own h) = absurd (omega (arith, own_first ds i))
one_line {ds} {k} (helper {line = i} g f l) (helper {line = j} p q r) = go (dec_lt i j) (dec_lt j i)
  where
    go : Dec (i < j) → Dec (j < i) → i ≡ j
    go (yes b) c = absurd (omega (arith, helpers_later ds (suc i) j b (omega arith)))
    go (no b) (yes c) = absurd (omega (arith, helpers_later ds (suc j) i c (omega arith)))
    go (no b) (no c) = omega arith

-- a rule's line is one of the lines
pub line_there : {ds : List Definition} {k line : ℕ} → LineOfRule ds k line → line < length ds
line_there (own h) = h
line_there (helper h f l) = h
