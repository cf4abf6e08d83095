-- Closed facts of small grammars: their images, rules and cells, and judging by an image with a byte too many, computed. Assumes nothing.
use Rattle.std.specs.Prelude.{Err}
use mathlib.Core.Path.{◌≡◌, refl}
use mathlib.Core.List.{List, [], ◌∷◌, ◌++◌}
use Prim.Native.Nat.{ℕ}
use lib.ListN.{replicate}
use Rattle.codec.specs.Numbers.{number_at, little_endian, pair_bytes}
use Rattle.image.specs.Format
use Rattle.image.specs.Image.{machine, states, classes, symbols, rule_offset, rule_from, rule_at}
use Rattle.image.specs.Encoding.{header, rule_bytes, rules_bytes, encode}
use Rattle.refusal.specs.First.{refusal, or_else, refuse_if}
use Rattle.image.specs.Refusals.{pair_is, directory, counts, count_wrong, map_from, move_off, rule_bad, index_class, rule_count, image_refusal, capture_refusal, rules_refusal_from}
use Rattle.simulator.specs.Calls.{cells_needed, judge_refusal, JudgeAs, JudgeSays}
use Rattle.grammar.specs.Grammar as Grammar
use Rattle.builder.specs.declared.Matching.TheVariants.{Whole}
use Rattle.builder.specs.Classes.{cuts_at, cut_from, cut, class_of, class_count, class_in}
use Rattle.builder.specs.Table.{no_rule, rows, by_state, select, on_byte, row_zero, class_inside, rows_at, made, state_ok}
use Rattle.builder.specs.Image.{symbols_of, built_rules, rules_made, map_made, built, built_length, parts}
use Rattle.worked_examples.specs.Examples.{empty_grammar}

-- C1's image and one byte of the buffer after it
abbrev pub longer_buffer : List ℕ
longer_buffer = built Whole empty_grammar ++ (0 ∷ [])

computed :
    ((image_refusal (built Whole [])).number ≡ 6)
    × (cells_needed (built Whole empty_grammar) 2 ≡ 60)
    × (rule_at (built Whole empty_grammar) state_ok 1 0 ≡ no_rule)
    × (judge_refusal longer_buffer [] 30 30 ≡ refusal 2 Format.rules_pair)
unfolding machine number_at little_endian pair_bytes header rule_bytes rules_bytes encode states classes symbols rule_offset rule_from rule_at
    or_else refuse_if pair_is directory counts count_wrong map_from move_off rule_bad index_class rules_refusal_from rule_count image_refusal capture_refusal
    cells_needed judge_refusal
    Grammar.rules Grammar.kind_of Grammar.b_of Grammar.c_of Grammar.expression_by Grammar.expression Grammar.range_of Grammar.rule_right Grammar.grammar_rules_from Grammar.grammar_refusal
    cuts_at cut_from cut class_of class_count class_in
    rows by_state select on_byte row_zero class_inside rows_at made
    symbols_of built_rules rules_made map_made parts built built_length
computed = (refl, refl, refl, refl)

-- of the grammar without a rule, which is refused, the image is too
pub no_rules_refused : (image_refusal (built Whole [])).number ≡ 6
no_rules_refused = computed.0

pub doubled_markers : cells_needed (built Whole empty_grammar) 2 ≡ 60
doubled_markers = computed.1

-- ok on the left marker: no rule
pub marker_unruled : rule_at (built Whole empty_grammar) state_ok 1 0 ≡ no_rule
marker_unruled = computed.2

-- C1's image judged by with one byte too many
pub longer_judged :
    JudgeSays longer_buffer [] (Err (refusal 2 Format.rules_pair)) (replicate 30 0) (replicate 30 0) (replicate 30 0) (replicate 30 0)
unfolding JudgeSays JudgeAs
longer_judged = rw computed.3 (refl, refl, refl)
