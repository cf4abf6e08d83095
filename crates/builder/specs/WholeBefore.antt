-- The table as it was before there was a choice: symbol 0 has two rules. Images that match whole are those of this table. Assumes nothing: these are definitions.
use Rattle.std.specs.Prelude.{◌&&◌, cond, List, ℕ, zero, suc, ◌+◌, ◌/◌, ◌%◌, eqb}
use Rattle.image.specs.Format
use Rattle.image.specs.Image.{Rule}
use Rattle.image.specs.Encoding.{encode}
use Rattle.builder.specs.Classes.{class_count}
use Rattle.builder.specs.Table.{state_start, state_work, state_ok, state_done, first, rule, no_rule, select, rows_at}
use Rattle.builder.specs.Image.{parts}

-- start on the left marker, ok on the right one
unfoldable pub row_zero_before : (class_count p class : ℕ) → Rule
row_zero_before n p k =
    cond (eqb p state_start && eqb k n) (rule Format.kind_push state_work (first 0) Format.direction_right)
    (cond (eqb p state_ok && eqb k (n + 1)) (rule Format.kind_pop state_done 0 Format.pop_stay) no_rule)

unfoldable pub made_before : List ℕ → (p class a : ℕ) → Rule
made_before gs p x zero = row_zero_before (class_count gs) p x
made_before gs p x (suc a) = select (rows_at gs (a / 2) x) (eqb (a % 2) 1) p

unfoldable pub built_before : List ℕ → List ℕ
built_before gs = encode (parts (made_before gs) gs)
