-- A line's seven cells copied, and the lines in cells when one more is written. Assumes nothing.
use mathlib.Core.Path.{◌≡◌, sym, ap, ◌∙◌}
use mathlib.Core.List.{List, [], ◌∷◌, ◌++◌, append_assoc}
use Prim.Native.Nat.{ℕ, ◌+◌, ◌*◌, ◌-◌}
use native.Mathlib.Omega.{arith}
use lib.ListN.{length, take, drop}
use lib.Seq.{drop-drop}
use borrow.Rule.Slice.PartMut.{put_mid}
use Rattle.codec.specs.Bytes.{written}
use Rattle.machine.specs.declared.Reply.{Reply}
use Rattle.simulator.specs.Answers.{Judged}
use Rattle.simulator.specs.Replies.{of_judged}
use Rattle.bundle.specs.Report.{line_width, line_cells, lines_cells}
use Rattle.bundle.proofs.LineCells.{lines_append, lines_first, lines_then_rest}

-- seven cells copied into their place
pub line_copied :
    (l : List ℕ) (k : ℕ) {ys : List ℕ} (p : Reply) → ys ≡ line_cells p → put_mid k (k + 7 - k) l ys ≡ written l k (line_cells p)
unfolding written line_cells
line_copied l k p e =
    let width : k + 7 - k ≡ 7 = omega arith in
    rw (e, width, drop-drop 7 k l) (sym (append_assoc (take k l) (line_cells p) (drop (k + 7) l)))

-- written behind those that stand there
pub line_behind :
    (l : List ℕ) (rs : List Judged) (r : Judged) (i : ℕ) → length rs ≡ i →
    written (lines_cells rs ++ drop (line_width * i) l) (line_width * i) (line_cells (of_judged r))
    ≡ lines_cells (rs ++ (r ∷ [])) ++ drop (line_width * (i + 1)) l
unfolding written line_cells lines_cells
line_behind l rs r i e =
    let k = line_width * i in
    let next : k + 7 ≡ line_width * (i + 1) = omega arith in
    let front = lines_first rs i (drop k l) e in
    let rest : drop (k + 7) (lines_cells rs ++ drop k l) ≡ drop (line_width * (i + 1)) l =
    sym (drop-drop 7 k (lines_cells rs ++ drop k l)) ∙ ap (drop 7) (lines_then_rest rs i (drop k l) e) ∙ drop-drop 7 k l ∙ ap (λ (n : ℕ). drop n l) next
    in
    rw (front, lines_append rs (r ∷ [])) (ap (λ (d : List ℕ). lines_cells rs ++ line_cells (of_judged r) ++ d) rest)
