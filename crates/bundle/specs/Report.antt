-- THE REPORT: a line for each capture in order, and a last line, the totals. A line is what `judge` answers, by the numbers of its reply; lines stand in lent cells of 64 bits, seven each, one after another. Assumes nothing: these are definitions.
use Rattle.std.specs.Prelude.{cond, List, [], ◌∷◌, ◌++◌, ℕ, zero, suc, ◌+◌, ◌*◌, eqb, get_or, Err, Ok}
use Rattle.machine.specs.declared.Verdict.{Verdict}
use Rattle.machine.specs.declared.Verdict.TheVariants.{Accepted, Ended, Stuck, Looping, Halted}
use Rattle.machine.specs.declared.Reply.{Reply}
use Rattle.machine.specs.Replies.{verdict_number}
use Rattle.simulator.specs.Answers.{Judged}
use Rattle.simulator.specs.Replies.{of_judged}
use Rattle.bundle.specs.declared.Totals.{Totals}

-- A LINE IN CELLS: refusal, place, verdict, count, and the end's state, head and symbol
abbrev pub line_width : ℕ
line_width = 7

unfoldable pub line_cells : Reply → List ℕ
line_cells p = p.refusal ∷ p.place ∷ p.verdict ∷ p.count ∷ p.end.state ∷ p.end.head ∷ p.end.symbol ∷ []

-- LINES IN CELLS, one after another
unfoldable pub lines_cells : List Judged → List ℕ
lines_cells [] = []
lines_cells (r ∷ rs) = line_cells (of_judged r) ++ lines_cells rs

-- a sum over lines
unfoldable pub sum : (Judged → ℕ) → List Judged → ℕ
sum f [] = 0
sum f (r ∷ rs) = f r + sum f rs

-- what a line adds: 1 where it gives a verdict, 1 where it is a refusal, its readings
unfoldable pub gives : Verdict → Judged → ℕ
gives v (Err f) = 0
gives v (Ok j) = cond (eqb (verdict_number j.verdict) (verdict_number v)) 1 0

unfoldable pub is_refused : Judged → ℕ
is_refused (Err f) = 1
is_refused (Ok j) = 0

unfoldable pub line_readings : Judged → ℕ
line_readings (Err f) = 0
line_readings (Ok j) = j.readings

-- THE LAST LINE: how many lines give each verdict, how many are refusals, and the sum of readings
unfoldable pub totals : List Judged → Totals
totals rs =
    record {
      accepted = sum (gives Accepted) rs;
      ended = sum (gives Ended) rs;
      stuck = sum (gives Stuck) rs;
      looping = sum (gives Looping) rs;
      halted = sum (gives Halted) rs;
      refused = sum is_refused rs;
      readings = sum line_readings rs;
    }

-- THE SAME SUMS over the lines' cells: of the first so many lines, of what a cell of each line says
abbrev pub refusal_cell : ℕ
refusal_cell = 0

abbrev pub verdict_cell : ℕ
verdict_cell = 2

abbrev pub readings_cell : ℕ
readings_cell = 3

unfoldable pub sum_of_lines : (lines : ℕ) → (cell : ℕ) → (ℕ → ℕ) → (cells : List ℕ) → ℕ
sum_of_lines zero k f m = 0
sum_of_lines (suc n) k f m = sum_of_lines n k f m + f (get_or m (line_width * n + k) 0)
