-- C1 to C10 one by one: each example's row, that it holds, and judging it. Assumes nothing.
use mathlib.Core.List.{List, [], ◌∷◌}
use mathlib.Core.Option.{none, some}
use Prim.Native.Nat.{ℕ, zero, suc}
use lib.ListN.{drop}
use Rattle.machine.specs.declared.Verdict.TheVariants.{Accepted, Ended, Stuck, Looping}
use Rattle.machine.specs.Run.{config}
use Rattle.builder.specs.declared.Matching.TheVariants.{Whole}
use Rattle.worked_examples.specs.Examples.{Row, row, from_grammar, from_image, RowHolds, Each, cons, table, grammar_rows, second_row, empty_grammar, byte_grammar, endless_grammar, sequence_grammar, not_grammar, choice_grammar, popping_image}
use Rattle.promises.proofs.Proved.{promises}
use Rattle.refuted.proofs.Witnesses.{RowJudged, row_judged_zeros, zeros}

-- the first element of a list of which each holds, and the others
pub first : {A : Type 0} {P : A → Type 0} {a : A} {rest : List A} → Each P (a ∷ rest) → P a
first (cons p ps) = p

pub others : {A : Type 0} {P : A → Type 0} {a : A} {rest : List A} → Each P (a ∷ rest) → Each P rest
others (cons p ps) = ps

-- those from one on
pub rows_from : {A : Type 0} {P : A → Type 0} (n : ℕ) (l : List A) → Each P l → Each P (drop n l)
rows_from zero l ps = ps
rows_from (suc n) [] ps = ps
rows_from (suc n) (a ∷ l) ps = rows_from n l (others ps)

abbrev pub c1 : Row
c1 = row (from_grammar Whole empty_grammar) [] Accepted 3 (config 2 1 0) (some 3)

abbrev pub c2 : Row
c2 = row (from_grammar Whole empty_grammar) (97 ∷ []) Stuck 3 (config 2 1 0) (some 2)

abbrev pub c3 : Row
c3 = row (from_grammar Whole byte_grammar) (97 ∷ []) Accepted 4 (config 2 2 0) (some 4)

abbrev pub c4 : Row
c4 = row (from_grammar Whole byte_grammar) (98 ∷ []) Stuck 3 (config 3 1 0) (some 2)

abbrev pub c5 : Row
c5 = row (from_grammar Whole endless_grammar) [] Looping 2 (config 1 1 1) none

abbrev pub c6 : Row
c6 = row (from_grammar Whole sequence_grammar) [] Accepted 11 (config 2 1 0) (some 18)

abbrev pub c7 : Row
c7 = row (from_grammar Whole not_grammar) [] Accepted 5 (config 2 1 0) (some 5)

abbrev pub c8 : Row
c8 = row (from_grammar Whole not_grammar) (97 ∷ []) Stuck 6 (config 3 1 0) (some 5)

abbrev pub c9 : Row
c9 = row (from_grammar Whole choice_grammar) [] Accepted 8 (config 2 1 0) (some 8)

abbrev pub c10 : Row
c10 = row (from_image popping_image) [] Ended 1 (config 0 0 0) (some 1)

-- C1 to C10 in their order
abbrev all_rows : List Row
all_rows = c1 ∷ c2 ∷ c3 ∷ c4 ∷ c5 ∷ c6 ∷ c7 ∷ c8 ∷ c9 ∷ c10 ∷ []

all_hold : Each RowHolds all_rows
unfolding table grammar_rows second_row
all_hold = promises.examples_hold

pub c1_holds : RowHolds c1
c1_holds = first all_hold

pub c2_holds : RowHolds c2
c2_holds = first (rows_from 1 all_rows all_hold)

pub c3_holds : RowHolds c3
c3_holds = first (rows_from 2 all_rows all_hold)

pub c4_holds : RowHolds c4
c4_holds = first (rows_from 3 all_rows all_hold)

pub c5_holds : RowHolds c5
c5_holds = first (rows_from 4 all_rows all_hold)

pub c10_holds : RowHolds c10
c10_holds = first (rows_from 9 all_rows all_hold)

pub c1_judged : RowJudged c1 (zeros c1) (zeros c1)
c1_judged = row_judged_zeros c1 c1_holds

pub c2_judged : RowJudged c2 (zeros c2) (zeros c2)
c2_judged = row_judged_zeros c2 c2_holds

pub c5_judged : RowJudged c5 (zeros c5) (zeros c5)
c5_judged = row_judged_zeros c5 c5_holds

pub c10_judged : RowJudged c10 (zeros c10) (zeros c10)
c10_judged = row_judged_zeros c10 c10_holds
