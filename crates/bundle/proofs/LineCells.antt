-- Lines in cells: how many cells there are, where a line stands, and what stands in a cell of it. Assumes nothing.
use mathlib.Core.Path.{◌≡◌, refl, sym, ap, ◌∙◌}
use mathlib.Core.List.{List, [], ◌∷◌, ◌++◌, append_assoc}
use Prim.Native.Nat.{ℕ, ◌+◌, ◌*◌}
use native.Mathlib.Omega.{arith}
use lib.ListN.{length, take, drop, length-append}
use lib.Seq.{take_at, drop_at}
use Rattle.codec.specs.Bytes.{section}
use Rattle.machine.specs.declared.Reply.{Reply}
use Rattle.simulator.specs.Answers.{Judged}
use Rattle.simulator.specs.Replies.{of_judged}
use Rattle.bundle.specs.Report.{line_width, line_cells, lines_cells}

pub line_long : (p : Reply) → length (line_cells p) ≡ line_width
unfolding line_cells
line_long p = refl

pub lines_long : (rs : List Judged) → length (lines_cells rs) ≡ line_width * length rs
unfolding lines_cells
lines_long [] = refl
lines_long (r ∷ rs) =
    let front : length (line_cells (of_judged r)) ≡ 7 = line_long (of_judged r) in
    let rest : length (lines_cells rs) ≡ 7 * length rs = lines_long rs in
    let both : length (line_cells (of_judged r) ++ lines_cells rs) ≡ length (line_cells (of_judged r)) + length (lines_cells rs) =
    length-append (line_cells (of_judged r)) (lines_cells rs)
    in
    omega (arith, front, rest, both)

pub lines_append : (ps qs : List Judged) → lines_cells (ps ++ qs) ≡ lines_cells ps ++ lines_cells qs
unfolding lines_cells
lines_append [] qs = refl
lines_append (p ∷ ps) qs =
    ap (λ (cs : List ℕ). line_cells (of_judged p) ++ cs) (lines_append ps qs)
    ∙ sym (append_assoc (line_cells (of_judged p)) (lines_cells ps) (lines_cells qs))

-- after the lines come the later cells
pub lines_then_rest : (rs : List Judged) (n : ℕ) (rest : List ℕ) → length rs ≡ n → drop (line_width * n) (lines_cells rs ++ rest) ≡ rest
lines_then_rest rs n rest e = drop_at (lines_cells rs) rest (line_width * n) (lines_long rs ∙ ap (λ (k : ℕ). line_width * k) e)

pub lines_first : (rs : List Judged) (n : ℕ) (rest : List ℕ) → length rs ≡ n → take (line_width * n) (lines_cells rs ++ rest) ≡ lines_cells rs
lines_first rs n rest e = take_at (lines_cells rs) rest (line_width * n) (lines_long rs ∙ ap (λ (k : ℕ). line_width * k) e)

-- WHERE A LINE STANDS
from_line :
    (ps : List Judged) (r : Judged) (qs : List Judged) (n : ℕ) (rest : List ℕ) → length ps ≡ n →
    drop (line_width * n) (lines_cells (ps ++ r ∷ qs) ++ rest) ≡ line_cells (of_judged r) ++ (lines_cells qs ++ rest)
unfolding lines_cells
from_line ps r qs n rest e =
    ap (λ (cs : List ℕ). drop (line_width * n) (cs ++ rest)) (lines_append ps (r ∷ qs))
    ∙ ap (drop (line_width * n)) (append_assoc (lines_cells ps) (line_cells (of_judged r) ++ lines_cells qs) rest)
    ∙ lines_then_rest ps n ((line_cells (of_judged r) ++ lines_cells qs) ++ rest) e
    ∙ append_assoc (line_cells (of_judged r)) (lines_cells qs) rest

pub line_section :
    (ps : List Judged) (r : Judged) (qs : List Judged) (n : ℕ) (rest : List ℕ) → length ps ≡ n →
    section (lines_cells (ps ++ r ∷ qs) ++ rest) (line_width * n) line_width ≡ line_cells (of_judged r)
line_section ps r qs n rest e =
    ap (take line_width) (from_line ps r qs n rest e) ∙ take_at (line_cells (of_judged r)) (lines_cells qs ++ rest) line_width (line_long (of_judged r))
