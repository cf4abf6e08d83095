-- Runs that refutations ask for, computed: C1's to its terminator, configurations that pop in C3, C6 and C10, one that C6 enters twice, and the image of no bytes, which stops at once. Assumes nothing.
use mathlib.Core.Path.{◌≡◌, refl}
use mathlib.Core.Bool.{false}
use mathlib.Core.List.{List, [], ◌∷◌}
use mathlib.Core.Option.{some}
use native.Mathlib.Omega.{arith}
use Rattle.machine.specs.declared.Action.TheVariants.{Stop, Pop}
use Rattle.machine.specs.declared.Reason.TheVariants.{Missing}
use Rattle.machine.specs.Run.{ValidConfig, Entry, config, entry, description, start, after, further, only_next, step, step_on, step_by, config_of, top, how_many, number, number_by}
use Rattle.machine.specs.Verdicts.{EndsAt, over_base}
use Rattle.codec.specs.Numbers.{number_at, little_endian, pair_bytes}
use Rattle.image.specs.Image.{machine, states, classes, symbols, rule_offset, rule_from, rule_at, class_under, moved, action_by, action, accepting}
use Rattle.image.specs.Encoding.{header, rule_bytes, rules_bytes, encode}
use Rattle.grammar.specs.Grammar as Grammar
use Rattle.builder.specs.Classes.{cuts_at, cut_from, cut, class_of, class_count, class_in}
use Rattle.builder.specs.Table.{rows, by_state, select, on_byte, row_zero, class_inside, rows_at, made}
use Rattle.builder.specs.Image.{symbols_of, built_rules, rules_made, map_made, built, parts}
use Rattle.worked_examples.specs.Examples.{image_of, row_machine, marker_parts, marker_image}
use Rattle.worked_examples.specs.HaltingExamples.{telling_image}
use Rattle.refuted.proofs.Rows.{c1, c3, c6, c10}
use Rattle.refuted.proofs.MadeRows.{empty_row, edge_row}

-- what lies under C6's rule 2, the first and the second time
abbrev pub under_first : List Entry
under_first = entry 3 1 ∷ entry 1 1 ∷ entry 0 0 ∷ []

abbrev pub under_second : List Entry
under_second = entry 4 1 ∷ entry 1 1 ∷ entry 0 0 ∷ []

pub record Computed : Type 0 where
  pub c1_ends : EndsAt (row_machine c1) (config 0 0 0) (config 2 1 0)
  pub c1_ok : EndsAt (row_machine c1) (config 2 1 0) (config 2 1 0)
  pub c3_byte : (row_machine c3).action (config 2 1 1) ≡ Pop 2 false
  pub c3_end : (row_machine c3).action (config 2 2 1) ≡ Pop 2 false
  pub c6_pops : (row_machine c6).action (config 1 1 5) ≡ Pop 2 false
  pub c6_first : after 3 (row_machine c6) start ≡ some (over_base (config 1 1 5) 1 under_first)
  pub c6_second : after 6 (row_machine c6) start ≡ some (over_base (config 1 1 5) 1 under_second)
  pub c6_popped : after 7 (row_machine c6) start ≡ some (description 2 1 under_second)
  pub c10_pops : (row_machine c10).action (config 0 0 0) ≡ Pop 0 false
  pub c10_start : number (row_machine c10) (config 0 0 0) ≡ 0
  pub c10_next : number (row_machine c10) (config 0 1 0) ≡ 1
  pub c10_valid : ValidConfig (row_machine c10) (config 0 1 0)
  pub empty_stops : (row_machine empty_row).action (config 0 0 0) ≡ Stop Missing
  pub edge_number : number (row_machine edge_row) (config 0 1 0) ≡ 1
  pub edge_cells : how_many (row_machine edge_row) ≡ 2
  pub byteless_stops : (machine [] []).action (config 0 0 0) ≡ Stop Missing
  pub byteless_states : (machine [] []).states ≡ 0
  pub byteless_cells : how_many (machine [] []) ≡ 0

pub computed : Computed
unfolding image_of row_machine marker_parts marker_image telling_image start after further only_next step step_on step_by config_of top how_many number number_by
    machine number_at little_endian pair_bytes header rule_bytes rules_bytes encode states classes symbols rule_offset rule_from rule_at class_under moved action_by action accepting
    Grammar.rules Grammar.kind_of Grammar.b_of Grammar.c_of Grammar.expression_by Grammar.expression Grammar.range_of
    cuts_at cut_from cut class_of class_count class_in
    rows by_state select on_byte row_zero class_inside rows_at made
    symbols_of built_rules rules_made map_made parts built
computed =
    record {
      c1_ends = record { steps = 2; place = over_base (config 2 1 0) 0 []; reached = refl; is = refl; gone = (4, 1, refl) };
      c1_ok = record { steps = 0; place = over_base (config 2 1 0) 0 []; reached = refl; is = refl; gone = (4, 1, refl) };
      c3_byte = refl;
      c3_end = refl;
      c6_pops = refl;
      c6_first = refl;
      c6_second = refl;
      c6_popped = refl;
      c10_pops = refl;
      c10_start = refl;
      c10_next = refl;
      c10_valid = record { state_below = omega arith; head_below = omega arith; symbol_below = omega arith };
      empty_stops = refl;
      edge_number = refl;
      edge_cells = refl;
      byteless_stops = refl;
      byteless_states = refl;
      byteless_cells = refl;
    }
