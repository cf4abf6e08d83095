-- Rows beside C1 to C10 for refutations, computed: an image without a rule, a run to the last configuration, an image of pushes, nested sequences. Assumes nothing.
use mathlib.Core.Path.{◌≡◌, refl, sym, ap, ◌∙◌}
use mathlib.Core.List.{List, [], ◌∷◌}
use mathlib.Core.Option.{none, some}
use Prim.Native.Nat.{ℕ, ◌+◌, ◌-◌, ◌≤◌}
use native.Mathlib.Omega.{arith}
use lib.ListN.{replicate}
use Rattle.machine.specs.declared.Verdict.{Verdict}
use Rattle.machine.specs.declared.Verdict.TheVariants.{Accepted, Ended, Stuck}
use Rattle.machine.specs.Terminating.{stop_verdict, termination_verdict, accepts_by}
use Rattle.machine.specs.Run.{config, start, step, step_on, step_by, config_of, top, how_many, number_by, config_by}
use Rattle.machine.specs.Verdicts.{note_of}
use Rattle.machine.proofs.Runs.{not_none}
use Rattle.codec.specs.Numbers.{number_at, little_endian, pair_bytes}
use Rattle.image.specs.Format
use Rattle.image.specs.Image.{machine, states, classes, symbols, rule_offset, rule_from, rule_at, class_under, moved, action_by, action, accepting, sizes_of}
use Rattle.image.specs.Encoding.{header, rule_bytes, rules_bytes, encode}
use Rattle.refusal.specs.First.{or_else, refuse_if}
use Rattle.image.specs.Refusals.{pair_is, directory, counts, count_wrong, map_from, move_off, rule_bad, index_class, rule_count, image_refusal, rules_refusal_from}
use Rattle.chain.specs.declared.Registers.{Registers}
use Rattle.chain.specs.Cells.{cell_note}
use Rattle.chain.specs.Step.{ProgramState, judge_step, step_by_mode, look, unwind, unwound, clear, cleared, closed, first_look, resumed}
use Rattle.chain.specs.Chain.{reached, chain, environment_of, verdict_of, started, start_state}
use Rattle.chain_theory.proofs.ChainJudges.{registers_at}
use Rattle.chain_theory.proofs.Stays.{stays}
use Rattle.interpreter.specs.PlainRun.{run_on, run_step, spent_or}
use Rattle.grammar.specs.Grammar as Grammar
use Rattle.builder.specs.declared.Matching.TheVariants.{Whole}
use Rattle.builder.specs.Classes.{cuts_at, cut_from, cut, class_of, class_count, class_in}
use Rattle.builder.specs.Table.{rule, no_rule, rows, by_state, select, on_byte, row_zero, class_inside, rows_at, made}
use Rattle.builder.specs.Image.{symbols_of, built_rules, rules_made, map_made, built, parts}
use Rattle.worked_examples.specs.Examples.{Row, row, from_grammar, from_image, RowHolds, image_of, source_refusal, row_machine, marker_parts, marker_image}
use Rattle.worked_examples.specs.HaltingExamples.{telling_image}
use Rattle.worked_examples.proofs.ChainEnd.{steps_on, registers_steps}
use Rattle.worked_examples.proofs.RowLaws.{found, found_by, said, exit_verdict, ran_found, ran_said, chain_last, enough, all_bytes, found_holds}
use Rattle.refuted.proofs.Witnesses.{RowJudged, row_judged_zeros, zeros}

-- no rule at all
abbrev pub empty_image : List ℕ
empty_image = marker_image no_rule

abbrev pub empty_row : Row
empty_row = row (from_image empty_image) [] Stuck 1 (config 0 0 0) (some 0)

-- from the left marker to the right one, the last of the two configurations
abbrev pub edge_row : Row
edge_row = row (from_image telling_image) [] Stuck 2 (config 0 1 0) (some 1)

-- on the left marker states 0 to 2 push the next one, and 3 pops: each push is looked at again when it comes back
abbrev pub pushing_image : List ℕ
pushing_image =
    encode
    (record {
      states = 4;
      classes = 1;
      symbols = 1;
      finals = 0;
      class_map = replicate Format.map_length 0;
      rules =
          no_rule ∷ rule Format.kind_push 1 0 Format.direction_stay ∷ no_rule
          ∷ no_rule ∷ rule Format.kind_push 2 0 Format.direction_stay ∷ no_rule
          ∷ no_rule ∷ rule Format.kind_push 3 0 Format.direction_stay ∷ no_rule
          ∷ no_rule ∷ rule Format.kind_pop 3 0 Format.pop_stay ∷ no_rule
          ∷ [];
    })

abbrev pub pushing_row : Row
pushing_row = row (from_image pushing_image) [] Ended 4 (config 3 0 0) (some 7)

-- 01010300 01020300 01030300 04000000: three sequences, one in the other, of which each of four configurations is entered
abbrev pub nested_grammar : List ℕ
nested_grammar = 1 ∷ 1 ∷ 3 ∷ 0 ∷ 1 ∷ 2 ∷ 3 ∷ 0 ∷ 1 ∷ 3 ∷ 3 ∷ 0 ∷ 4 ∷ 0 ∷ 0 ∷ 0 ∷ []

abbrev pub nested_row : Row
nested_row = row (from_grammar Whole nested_grammar) [] Accepted 15 (config 2 1 0) (some 18)

-- THE TESTS, computed
computed :
    (found empty_row ≡ said empty_row) × (found edge_row ≡ said edge_row) × (found pushing_row ≡ said pushing_row) × (found nested_row ≡ said nested_row)
    × (verdict_of (steps_on 9 (machine pushing_image []) (environment_of pushing_image []) (registers_at pushing_image [] 0)).state.mode ≡ none)
unfolding found said found_by ran_found ran_said chain_last enough all_bytes steps_on image_of source_refusal row_machine marker_parts marker_image telling_image
    start step step_on step_by config_of top how_many number_by config_by note_of sizes_of
    machine number_at little_endian pair_bytes header rule_bytes rules_bytes encode states classes symbols rule_offset rule_from rule_at class_under moved action_by action accepting
    or_else refuse_if pair_is directory counts count_wrong map_from move_off rule_bad index_class rules_refusal_from rule_count image_refusal
    judge_step step_by_mode look unwind unwound clear cleared closed first_look resumed cell_note reached started chain start_state verdict_of registers_at
    run_on run_step spent_or exit_verdict stop_verdict termination_verdict accepts_by
    Grammar.rules Grammar.kind_of Grammar.b_of Grammar.c_of Grammar.expression_by Grammar.expression Grammar.range_of Grammar.rule_right Grammar.grammar_rules_from Grammar.grammar_refusal
    cuts_at cut_from cut class_of class_count class_in
    rows by_state select on_byte row_zero class_inside rows_at made
    symbols_of built_rules rules_made map_made parts built
computed = (refl, refl, refl, refl, refl)

pub empty_holds : RowHolds empty_row
empty_holds = found_holds empty_row computed.0

pub edge_holds : RowHolds edge_row
edge_holds = found_holds edge_row computed.1

pub pushing_holds : RowHolds pushing_row
pushing_holds = found_holds pushing_row computed.2

-- the chain has no verdict of it after 9 steps, nor before
late : verdict_of (registers_at pushing_image [] 9).state.mode ≡ none
late = ap (λ (x : ProgramState Registers). verdict_of x.state.mode) (registers_steps pushing_image [] 9) ∙ computed.4

pub pushing_late : (k : ℕ) (v : Verdict) → k ≤ 9 → chain.verdict (reached chain pushing_image [] k).state ≡ some v → ⊥
unfolding chain registers_at
pushing_late k v h e =
    let nine : k + (9 - k) ≡ 9 = omega arith in
    let stands : registers_at pushing_image [] 9 ≡ registers_at pushing_image [] k = ap (registers_at pushing_image []) (sym nine) ∙ stays pushing_image [] k v e (9 - k) in
    not_none _ (ap (λ (x : ProgramState Registers). verdict_of x.state.mode) stands ∙ e) late

pub nested_holds : RowHolds nested_row
nested_holds = found_holds nested_row computed.3

pub empty_judged : RowJudged empty_row (zeros empty_row) (zeros empty_row)
empty_judged = row_judged_zeros empty_row empty_holds

pub edge_judged : RowJudged edge_row (zeros edge_row) (zeros edge_row)
edge_judged = row_judged_zeros edge_row edge_holds

pub pushing_judged : RowJudged pushing_row (zeros pushing_row) (zeros pushing_row)
pushing_judged = row_judged_zeros pushing_row pushing_holds
