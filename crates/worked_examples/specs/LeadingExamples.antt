-- Leading matches: the grammars of C1 to C9 on their captures, and two on captures that go on after the match, by a choice of a match. Assumes nothing: these are definitions.
use Rattle.std.specs.Prelude.{List, [], ◌∷◌, ◌++◌}
use Rattle.std.proofs.Math.Option.{some}
use Rattle.machine.specs.declared.Verdict.TheVariants.{Accepted}
use Rattle.machine.specs.Run.{config}
use Rattle.builder.specs.declared.Matching.{Matching}
use Rattle.worked_examples.specs.Examples.{Row, row, from_grammar, byte_grammar, choice_grammar, grammar_rows}

-- C1 to C9 in their order; then a byte that follows the match, after one that is consumed and after none
unfoldable pub leading_table : Matching → List Row
leading_table how =
    grammar_rows how
    ++ (row (from_grammar how byte_grammar) (97 ∷ 98 ∷ []) Accepted 5 (config 2 3 0) (some 5)
    ∷ row (from_grammar how choice_grammar) (98 ∷ []) Accepted 9 (config 2 2 0) (some 9)
    ∷ [])
