-- The ten examples hold: the test of a row computes over the whole table. So do C1's facts and the examples of halting rules and of leading matches. Assumes nothing.
use mathlib.Core.Path.{◌≡◌, refl, ap}
use mathlib.Core.List.{List, [], ◌∷◌, map}
use lib.ListN.{length, get_or, drop}
use Rattle.machine.specs.declared.Verdict.TheVariants.{Halted}
use Rattle.machine.specs.Terminating.{stop_verdict, termination_verdict, accepts_by}
use Rattle.machine.specs.Run.{start, step, step_on, step_by, config_of, top, how_many, number_by, config_by}
use Rattle.codec.specs.Numbers.{number_at, little_endian, pair_bytes}
use Rattle.image.specs.Image.{machine, states, classes, symbols, rule_offset, rule_from, rule_at, class_under, moved, action_by, action, accepting, sizes_of}
use Rattle.image.specs.Encoding.{header, rule_bytes, rules_bytes, encode}
use Rattle.refusal.specs.First.{or_else, refuse_if}
use Rattle.image.specs.Refusals.{pair_is, directory, counts, count_wrong, map_from, move_off, rule_bad, index_class, rule_count, image_refusal, rules_refusal_from}
use Rattle.machine.specs.Verdicts.{note_of}
use Rattle.chain.specs.Cells.{cell_note}
use Rattle.chain.specs.Step.{judge_step, step_by_mode, look, unwind, unwound, clear, cleared, closed, first_look, resumed}
use Rattle.chain.specs.Chain.{reached, chain, verdict_of, started, start_state}
use Rattle.chain_theory.proofs.ChainJudges.{registers_at}
use Rattle.interpreter.specs.PlainRun.{run_on, run_step, spent_or}
use Rattle.grammar.specs.Grammar as Grammar
use Rattle.builder.specs.declared.Matching.TheVariants.{Whole, Leading}
use Rattle.builder.specs.Classes.{cuts_at, cut_from, cut, class_of, class_count, class_in}
use Rattle.builder.specs.Table.{rows, by_state, select, on_byte, row_zero, class_inside, rows_at, made}
use Rattle.builder.specs.Image.{symbols_of, built_rules, rules_made, map_made, built, parts}
use Rattle.worked_examples.specs.Examples.{Row, RowHolds, Each, nil, cons, second_row, grammar_rows, table, image_of, source_refusal, row_machine, marker_parts, marker_image, empty_grammar, plain_table, PlainHolds}
use Rattle.worked_examples.specs.HaltingExamples.{telling_image, halting_table, HaltsAfter, halting_budgets, RuleRefusedSo, halting_rules}
use Rattle.worked_examples.specs.LeadingExamples.{leading_table}
use Rattle.worked_examples.proofs.ChainEnd.{steps_on}
use Rattle.worked_examples.proofs.RowLaws.{Found, found, found_by, said, exit_verdict, ran_found, ran_said, chain_last, enough, all_bytes, found_holds}

-- rows whose tests all pass
each_holds : (rs : List Row) → map found rs ≡ map said rs → Each RowHolds rs
each_holds [] e = nil
each_holds (r ∷ rs) e =
    cons (found_holds r (ap (λ (l : List Found). get_or l 0 (said r)) e)) (each_holds rs (ap (λ (l : List Found). drop 1 l) e))

-- THE TESTS, C1's facts, those of halting rules and those of leading matches, computed
computed :
    (map found table ≡ map said table) × (length (built Whole empty_grammar) ≡ 468) × (how_many (machine (built Whole empty_grammar) []) ≡ 30) × Each PlainHolds plain_table
    × (map found (halting_table Halted) ≡ map said (halting_table Halted)) × Each (HaltsAfter 0) halting_budgets × Each RuleRefusedSo (halting_rules 4)
    × (map found (leading_table Leading) ≡ map said (leading_table Leading))
unfolding second_row grammar_rows table leading_table plain_table telling_image halting_table HaltsAfter halting_budgets RuleRefusedSo halting_rules
    found said found_by ran_found ran_said chain_last enough all_bytes steps_on image_of source_refusal row_machine marker_parts marker_image
    start step step_on step_by config_of top how_many number_by config_by note_of sizes_of
    machine number_at little_endian pair_bytes header rule_bytes rules_bytes encode states classes symbols rule_offset rule_from rule_at class_under moved action_by action accepting
    or_else refuse_if pair_is directory counts count_wrong map_from move_off rule_bad index_class rules_refusal_from rule_count image_refusal
    judge_step step_by_mode look unwind unwound clear cleared closed first_look resumed cell_note reached started chain start_state verdict_of registers_at
    run_on run_step spent_or exit_verdict stop_verdict termination_verdict accepts_by
    Grammar.rules Grammar.kind_of Grammar.b_of Grammar.c_of Grammar.expression_by Grammar.expression Grammar.range_of Grammar.rule_right Grammar.grammar_rules_from Grammar.grammar_refusal
    cuts_at cut_from cut class_of class_count class_in
    rows by_state select on_byte row_zero class_inside rows_at made
    symbols_of built_rules rules_made map_made parts built
computed =
    (refl, refl, refl, cons refl (cons refl (cons refl nil)), refl, cons refl (cons refl nil), cons refl (cons refl (cons refl (cons refl (cons refl (cons refl nil))))), refl)

pub examples_hold : Each RowHolds table
examples_hold = each_holds table computed.0

-- C1's image, its N, and its plain runs
pub c1_image : length (built Whole empty_grammar) ≡ 468
c1_image = computed.1

pub c1_cells : how_many (machine (built Whole empty_grammar) []) ≡ 30
c1_cells = computed.2

pub c1_plain_runs : Each PlainHolds plain_table
c1_plain_runs = computed.3

-- halting rules
pub halting_rows : Each RowHolds (halting_table Halted)
halting_rows = each_holds (halting_table Halted) computed.4

pub halting_runs : Each (HaltsAfter 0) halting_budgets
halting_runs = computed.5

pub halting_images : Each RuleRefusedSo (halting_rules 4)
halting_images = computed.6

-- leading matches
pub leading_rows : Each RowHolds (leading_table Leading)
leading_rows = each_holds (leading_table Leading) computed.7
