-- The program prints C5's line: nothing refuses its 20 bytes, and what judging answers is the table's row. Assumes nothing.
use Rattle.std.specs.Prelude.{Ok}
use mathlib.Core.Path.{◌≡◌, refl, sym, ap, ◌∙◌}
use mathlib.Core.Option.{none}
use mathlib.Core.List.{List, [], ◌∷◌}
use Prim.Native.Nat.{ℕ}
use lib.ListN.{length, take, drop}
use lib.Seq.{take_at}
use Rattle.machine.specs.declared.Verdict.TheVariants.{Looping}
use Rattle.machine.specs.Run.{config, how_many}
use Rattle.codec.specs.Numbers.{number_at, little_endian, pair_bytes}
use Rattle.image.specs.Image.{machine, states, classes, symbols, rule_from}
use Rattle.image.specs.Encoding.{header, rule_bytes, rules_bytes, encode}
use Rattle.refusal.specs.First.{or_else, refuse_if}
use Rattle.image.specs.Refusals.{pair_is, directory, counts, count_wrong, map_from, move_off, rule_bad, index_class, rule_count, image_refusal, capture_refusal, rules_refusal_from}
use Rattle.simulator.specs.Answers.{Judged}
use Rattle.simulator.specs.Calls.{judge_refusal, judgement, JudgedRight}
use Rattle.simulator.proofs.Answered.{judged_right}
use Rattle.simulator.proofs.JudgingRight.{answer_known}
use Rattle.grammar.specs.Grammar as Grammar
use Rattle.builder.specs.declared.Matching.TheVariants.{Whole}
use Rattle.builder.specs.Classes.{cuts_at, cut_from, cut, class_of, class_count, class_in}
use Rattle.builder.specs.Table.{rows, by_state, select, on_byte, row_zero, class_inside, rows_at, made}
use Rattle.builder.specs.Image.{symbols_of, built_rules, rules_made, map_made, built, built_length, parts as parts_of}
use Rattle.builder.specs.Calls.{build_refusal}
use Rattle.answer_line.specs.Line.{digits, decimal, field, verdict_word, answer_line}
use Rattle.answer.specs.Input.{capture_offset, first_pair_right, second_pair_right, input_refusal, input_grammar, input_capture}
use Rattle.grammar_judge.specs.Calls.{Lent, parts_refusal}
use Rattle.answer.specs.Calls.{judged_line, answer_refusal, InputSays, AnswerSays}
use Rattle.answer.proofs.LineWhole.{line_whole}
use Rattle.answer.proofs.Answered.{input_judged, input_fine}
use Rattle.worked_examples.specs.Examples.{Row, row, from_grammar, RowHolds, Each, cons, endless_grammar, table, grammar_rows, image_of, row_machine}
use Rattle.worked_examples.specs.ProgramLine.{endless_input, endless_line, ProgramRoom}
use Rattle.worked_examples.proofs.ExamplesHold.{examples_hold}

-- nothing is refused, by the buffers' lengths
parts : (input_grammar endless_input ≡ endless_grammar) × (input_capture endless_input ≡ [])
unfolding endless_input input_grammar input_capture capture_offset number_at little_endian pair_bytes
parts = (refl, refl)

fine_by_lengths : (or_else (input_refusal endless_input) (parts_refusal (input_grammar endless_input) (input_capture endless_input) 65536 16384 16384)).number ≡ 0
unfolding endless_input input_refusal first_pair_right second_pair_right input_grammar input_capture capture_offset
    parts_refusal build_refusal judge_refusal capture_refusal how_many
    machine number_at little_endian pair_bytes header rule_bytes rules_bytes encode states classes symbols rule_from
    or_else refuse_if pair_is directory counts count_wrong map_from move_off rule_bad index_class rules_refusal_from rule_count image_refusal
    Grammar.rules Grammar.kind_of Grammar.b_of Grammar.c_of Grammar.expression_by Grammar.expression Grammar.range_of Grammar.rule_right Grammar.grammar_rules_from Grammar.grammar_refusal
    cuts_at cut_from cut class_of class_count class_in
    rows by_state select on_byte row_zero class_inside rows_at made
    symbols_of built_rules rules_made map_made parts_of built built_length
fine_by_lengths = refl

no_refusal : (x : Lent) (out : List ℕ) → ProgramRoom x out → (answer_refusal endless_input x).number ≡ 0
unfolding answer_refusal
no_refusal x out room = rw (room.image, room.notes, room.work) fine_by_lengths

line_is : answer_line Looping 2 (config 1 1 1) ≡ endless_line
unfolding answer_line verdict_word field decimal digits endless_line
line_is = refl

-- the table's row
fifth : {P : Row → Type 0} {a b c d e : Row} {rest : List Row} → Each P (a ∷ b ∷ c ∷ d ∷ e ∷ rest) → P e
fifth (cons p (cons q (cons r (cons s (cons found later))))) = found

endless_row : RowHolds (row (from_grammar Whole endless_grammar) [] Looping 2 (config 1 1 1) none)
unfolding table grammar_rows
endless_row = fifth examples_hold

answer_is :
    (r : Judged) (a a_now b b_now : List ℕ) → JudgedRight (built Whole endless_grammar) [] r a a_now b b_now → r ≡ Ok (judgement Looping 2 (config 1 1 1))
unfolding row_machine image_of
answer_is r a a_now b b_now right =
    answer_known (built Whole endless_grammar) [] endless_row.unrefused Looping 2 (config 1 1 1) endless_row.says endless_row.entered
    r a a_now b b_now right

line_of : (x y : Lent) (out line : List ℕ) → ProgramRoom x out → InputSays endless_input x y line → line ≡ endless_line
unfolding judged_line
line_of x y out line room s =
    let none_refused = no_refusal x out room in
    let j = input_judged endless_input x y line none_refused s in
    let right =
    judged_right (built Whole (input_grammar endless_input)) (input_capture endless_input) j.judged x.notes y.notes x.work y.work
    (input_fine endless_input x none_refused).1 j.judges
    in
    let known : j.judged ≡ Ok (judgement Looping 2 (config 1 1 1)) =
    answer_is j.judged x.notes y.notes x.work y.work (rw (parts.0, parts.1) at right) in
    j.says ∙ ap judged_line known ∙ line_is

-- THE WHOLE OUTPUT
pub endless_printed :
    (x y : Lent) (out out_now : List ℕ) (count : ℕ) → ProgramRoom x out → AnswerSays endless_input x y out out_now count →
    take count out_now ≡ endless_line
unfolding AnswerSays
endless_printed x y out out_now count room s =
    let (counted, bytes) = line_whole s.line out out_now count s.lined room.line in
    ap (take count) bytes ∙ take_at s.line (drop (length s.line) out) count (sym counted) ∙ line_of x y out s.line room s.right
