-- Examples that are built from a grammar: what a row that holds says of the grammar, its image and judging by it; C1, C2 and C4 by a whole match, C1 and C2 by a leading one. Assumes nothing.
use Rattle.std.specs.Prelude.{Ok}
use mathlib.Core.Path.{◌≡◌, refl}
use mathlib.Core.List.{List, [], ◌∷◌}
use mathlib.Core.Option.{Option, some}
use Prim.Native.Nat.{ℕ}
use native.Mathlib.Omega.{arith}
use lib.ListN.{replicate}
use Rattle.machine.specs.declared.Config.{Config}
use Rattle.machine.specs.declared.Verdict.{Verdict}
use Rattle.machine.specs.declared.Verdict.TheVariants.{Accepted, Stuck}
use Rattle.machine.specs.Run.{config, how_many}
use Rattle.machine.specs.Verdicts.{Says, AllEntered}
use Rattle.machine.specs.Replies.{verdict_number}
use Rattle.image.specs.Image.{machine}
use Rattle.image.specs.Refusals.{Unrefused}
use Rattle.simulator.specs.Calls.{judgement, JudgeSays}
use Rattle.grammar.specs.Grammar.{kind_of, expression_by, expression, grammar_refusal}
use Rattle.grammar.specs.Parsing.{Parses, empty}
use Rattle.builder.specs.declared.Matching.{Matching}
use Rattle.builder.specs.declared.Matching.TheVariants.{Whole, Leading}
use Rattle.builder.specs.Image.{built}
use Rattle.worked_examples.specs.Examples.{row, from_grammar, RowHolds, image_of, row_machine, source_refusal, second_row, grammar_rows, empty_grammar, byte_grammar}
use Rattle.worked_examples.specs.LeadingExamples.{leading_table}
use Rattle.promises.proofs.Proved.{promises}
use Rattle.refuted.proofs.Witnesses.{row_judged_zeros, same_number}
use Rattle.refuted.proofs.Rows.{first, others, c1_holds, c2_holds, c4_holds}

pub record Example (how : Matching) (gs cs : List ℕ) (v : Verdict) (n : ℕ) (d : Config) : Type 0 where
  pub good : (grammar_refusal gs).number ≡ 0
  pub unrefused : Unrefused (built how gs) cs
  pub says : Says (machine (built how gs) cs) v d
  pub entered : AllEntered (machine (built how gs) cs) n
  pub notes_now : List ℕ
  pub work_now : List ℕ
  pub judged :
      JudgeSays (built how gs) cs (Ok (judgement v n d))
      (replicate (how_many (machine (built how gs) cs)) 0) notes_now (replicate (how_many (machine (built how gs) cs)) 0) work_now

example :
    (how : Matching) (gs cs : List ℕ) (v : Verdict) (n : ℕ) (d : Config) (steps : Option ℕ) → RowHolds (row (from_grammar how gs) cs v n d steps) →
    Example how gs cs v n d
unfolding image_of row_machine source_refusal
example how gs cs v n d steps h =
    let j = row_judged_zeros (row (from_grammar how gs) cs v n d steps) h in
    record {
      good = h.good;
      unrefused = h.unrefused;
      says = h.says;
      entered = h.entered;
      notes_now = j.notes_now;
      work_now = j.work_now;
      judged = j.says;
    }

-- the empty grammar on no byte, and on one
pub c1_built : Example Whole empty_grammar [] Accepted 3 (config 2 1 0)
c1_built = example _ _ _ _ _ _ _ c1_holds

pub c2_built : Example Whole empty_grammar (97 ∷ []) Stuck 3 (config 2 1 0)
c2_built = example _ _ _ _ _ _ _ c2_holds

-- of which parsing consumes none, so not all
pub c2_parses : Parses (expression empty_grammar) (97 ∷ []) 0 0 (some 0)
unfolding expression expression_by kind_of
c2_parses = empty refl

pub c2_not_all : Parses (expression empty_grammar) (97 ∷ []) 0 0 (some 1) → ⊥
unfolding verdict_number
c2_not_all all =
    let (d, accepted) = (promises.built_accepts empty_grammar (97 ∷ []) c2_built.good c2_built.unrefused.bytes).1 all in
    omega (arith, same_number accepted c2_built.says)

-- a byte that fails
pub c4_built : Example Whole byte_grammar (98 ∷ []) Stuck 3 (config 3 1 0)
c4_built = example _ _ _ _ _ _ _ c4_holds

-- C1 and C2 by a leading match
first_leading : RowHolds (row (from_grammar Leading empty_grammar) [] Accepted 3 (config 2 1 0) (some 3))
unfolding leading_table grammar_rows
first_leading = first promises.leading_rows

second_leading : RowHolds (second_row Leading)
unfolding leading_table grammar_rows
second_leading = first (others promises.leading_rows)

pub c1_leading : Example Leading empty_grammar [] Accepted 3 (config 2 1 0)
c1_leading = example _ _ _ _ _ _ _ first_leading

pub c2_leading : Example Leading empty_grammar (97 ∷ []) Accepted 4 (config 2 2 0)
unfolding second_row
c2_leading = example _ _ _ _ _ _ _ second_leading
