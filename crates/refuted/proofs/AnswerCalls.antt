-- Calls of the program's function and what they say: no input, an input with no grammar, and C5's. Assumes nothing.
use Rattle.std.specs.Prelude.{Ok}
use mathlib.Core.Path.{◌≡◌, refl}
use mathlib.Core.List.{List, [], ◌∷◌, ◌++◌}
use Prim.Native.Nat.{ℕ, ◌≤◌, min}
use native.Mathlib.Omega.{arith}
use lib.Dec.{ltb}
use lib.ListN.{length, drop}
use borrow.Author.Tests.{le-ltb}
use Rattle.refusal.specs.First.{refusal, or_else, refuse_if}
use Rattle.codec.specs.Numbers.{number_at, little_endian, pair_bytes}
use Rattle.machine.specs.declared.Verdict.TheVariants.{Looping}
use Rattle.machine.specs.Run.{config, how_many}
use Rattle.image.specs.Image.{machine, states, classes, symbols, rule_from}
use Rattle.image.specs.Encoding.{header, rule_bytes, rules_bytes, encode}
use Rattle.image.specs.Refusals.{pair_is, directory, counts, count_wrong, map_from, move_off, rule_bad, index_class, rule_count, image_refusal, capture_refusal, rules_refusal_from}
use Rattle.simulator.specs.Calls.{judgement, judge_refusal, JudgeSays}
use Rattle.grammar.specs.Grammar as Grammar
use Rattle.builder.specs.declared.Matching.TheVariants.{Whole}
use Rattle.builder.specs.Classes.{cuts_at, cut_from, cut, class_of, class_count, class_in}
use Rattle.builder.specs.Table.{rows, by_state, select, on_byte, row_zero, class_inside, rows_at, made}
use Rattle.builder.specs.Image.{symbols_of, built_rules, rules_made, map_made, built, built_length, parts}
use Rattle.builder.specs.Calls.{build_refusal}
use Rattle.answer_line.specs.Line.{digits, decimal, field, verdict_word, refused_word, refusal_line, answer_line, written, max_line}
use Rattle.answer.specs.Input.{capture_offset, first_pair_right, second_pair_right, input_refusal, input_grammar, input_capture}
use Rattle.grammar_judge.specs.Calls.{Lent, lent, parts_refusal, lent_refusal}
use Rattle.answer.specs.Calls.{judged_line, answer_refusal, PartsAs, PartsSay, InputAs, InputSays, AnswerSays}
use Rattle.worked_examples.specs.Examples.{image_of, row_machine, endless_grammar}
use Rattle.worked_examples.specs.ProgramLine.{endless_input, ProgramRoom}
use Rattle.refuted.proofs.Witnesses.{row_judged}
use Rattle.refuted.proofs.Rows.{c5, c5_holds}

-- a right line that is short, written into any out buffer
pub told :
    (xs : List ℕ) (x y : Lent) (line out : List ℕ) → InputSays xs x y line → length line ≤ max_line →
    AnswerSays xs x y out (written line out) (min (length line) (length out))
unfolding AnswerSays
told xs x y line out right short =
    record { line = line; right = right; lined = record { holds = record { bytes = refl; counted = refl }; short = short } }

-- NO INPUT: refused by 14 at 0
pub unread : (x : Lent) → InputSays [] x x (refusal_line (refusal 14 0))
unfolding InputSays InputAs input_refusal
unread x = record { says = refl; kept = refl }

pub unread_told : (x : Lent) (out : List ℕ) → AnswerSays [] x x out (written (refusal_line (refusal 14 0)) out) (min 13 (length out))
unfolding refusal_line refused_word field decimal digits
unread_told x out = told [] x x (refusal_line (refusal 14 0)) out (unread x) (omega arith)

-- AN INPUT WITH NO GRAMMAR AND NO CAPTURE: it is right, and its grammar is refused by 11 at 0
abbrev pub bare_input : List ℕ
bare_input = 16 ∷ 0 ∷ 0 ∷ 0 ∷ 0 ∷ 0 ∷ 0 ∷ 0 ∷ 16 ∷ 0 ∷ 0 ∷ 0 ∷ 0 ∷ 0 ∷ 0 ∷ 0 ∷ []

pub bare_answering : (x : Lent) → answer_refusal bare_input x ≡ refusal 11 0
unfolding answer_refusal input_refusal first_pair_right second_pair_right capture_offset input_grammar number_at
    or_else parts_refusal build_refusal Grammar.grammar_refusal
bare_answering x = refl

pub bare_fine : input_refusal bare_input ≡ refusal 0 0
unfolding input_refusal first_pair_right second_pair_right capture_offset number_at
bare_fine = refl

pub bare_read : (x : Lent) → InputSays bare_input x x (refusal_line (refusal 11 0))
unfolding InputSays InputAs PartsSay PartsAs input_refusal first_pair_right second_pair_right capture_offset input_grammar number_at
    or_else parts_refusal build_refusal Grammar.grammar_refusal
bare_read x = record { says = refl; kept = refl }

-- C5'S INPUT: it is right, and its image has 468 bytes and needs 30 cells
endless_computed :
    (input_refusal endless_input ≡ refusal 0 0) × (input_grammar endless_input ≡ endless_grammar) × (input_capture endless_input ≡ [])
    × ((m a b : ℕ) → parts_refusal endless_grammar [] m a b
    ≡ or_else (refuse_if (ltb m 468) (refusal 13 468)) (or_else (refuse_if (ltb a 30) (refusal 8 30)) (refuse_if (ltb b 30) (refusal 9 30))))
    × (how_many (machine (built Whole endless_grammar) []) ≡ 30)
unfolding endless_input input_refusal first_pair_right second_pair_right input_grammar input_capture capture_offset
    parts_refusal build_refusal judge_refusal capture_refusal how_many
    machine number_at little_endian pair_bytes header rule_bytes rules_bytes encode states classes symbols rule_from
    or_else refuse_if pair_is directory counts count_wrong map_from move_off rule_bad index_class rules_refusal_from rule_count image_refusal
    Grammar.rules Grammar.kind_of Grammar.b_of Grammar.c_of Grammar.expression_by Grammar.expression Grammar.range_of Grammar.rule_right Grammar.grammar_rules_from Grammar.grammar_refusal
    cuts_at cut_from cut class_of class_count class_in
    rows by_state select on_byte row_zero class_inside rows_at made
    symbols_of built_rules rules_made map_made parts built built_length
endless_computed = (refl, refl, refl, λ m a b. refl, refl)

pub endless_fine : input_refusal endless_input ≡ refusal 0 0
endless_fine = endless_computed.0

pub endless_right : input_grammar endless_input ≡ endless_grammar
endless_right = endless_computed.1

pub endless_answering :
    (x : Lent) → answer_refusal endless_input x
    ≡ or_else (refuse_if (ltb (length x.image) 468) (refusal 13 468))
    (or_else (refuse_if (ltb (length x.notes) 30) (refusal 8 30)) (refuse_if (ltb (length x.work) 30) (refusal 9 30)))
unfolding answer_refusal or_else
endless_answering x = rw (endless_computed.0, endless_computed.1, endless_computed.2, endless_computed.3)

c5_judged_on :
    (a b : List ℕ) → 30 ≤ length a → 30 ≤ length b →
    (x : List ℕ) × (y : List ℕ) × JudgeSays (built Whole endless_grammar) [] (Ok (judgement Looping 2 (config 1 1 1))) a x b y
unfolding row_machine image_of
c5_judged_on a b p q =
    let j = row_judged c5 c5_holds a b (omega (arith, endless_computed.4)) (omega (arith, endless_computed.4)) in
    (j.notes_now, j.work_now, j.says)

-- with so much room it is not refused, and C5's line is told
pub record EndlessRoom (x : Lent) : Type 0 where
  pub image : 468 ≤ length x.image
  pub notes : 30 ≤ length x.notes
  pub work : 30 ≤ length x.work

endless_lent : (x : Lent) → EndlessRoom x → (lent_refusal endless_grammar [] x).number ≡ 0
unfolding or_else refuse_if
endless_lent x e = rw (endless_computed.3, le-ltb _ _ e.image, le-ltb _ _ e.notes, le-ltb _ _ e.work)

pub endless_unrefused : (x : Lent) → EndlessRoom x → (answer_refusal endless_input x).number ≡ 0
unfolding answer_refusal or_else
endless_unrefused x e = rw (endless_computed.0, endless_computed.1, endless_computed.2) (endless_lent x e)

pub record EndlessLine (x : Lent) : Type 0 where
  pub after : Lent
  pub says : InputSays endless_input x after (answer_line Looping 2 (config 1 1 1))

pub endless_line : (x : Lent) → EndlessRoom x → EndlessLine x
unfolding InputSays InputAs PartsSay PartsAs judged_line
endless_line x e =
    let (a, b, judges) = c5_judged_on x.notes x.work e.notes e.work in
    record {
      after = lent (built Whole endless_grammar ++ drop (built_length endless_grammar) x.image) a b;
      says =
          rw (endless_computed.0, endless_computed.1, endless_computed.2, endless_lent x e)
          (record { judged = _; image_now = refl; judges = judges; says = refl });
    }

pub endless_told :
    (x : Lent) (out : List ℕ) → ProgramRoom x out → (y : Lent) × (out_now : List ℕ) × (count : ℕ) × AnswerSays endless_input x y out out_now count
unfolding answer_line verdict_word field decimal digits
endless_told x out room =
    let enough : EndlessRoom x = record { image = omega (arith, room.image); notes = omega (arith, room.notes); work = omega (arith, room.work) } in
    let line = endless_line x enough in
    (line.after, _, _, told endless_input x line.after (answer_line Looping 2 (config 1 1 1)) out line.says (omega arith))
