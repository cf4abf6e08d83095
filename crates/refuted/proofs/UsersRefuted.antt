-- The wrong neighbours of Users.antt refuted: each by a closed example beside the promise. Assumes nothing.
use Rattle.std.specs.Prelude.{Err}
use mathlib.Core.Path.{◌≡◌, refl, sym, ap, ◌∙◌}
use mathlib.Core.List.{List, [], ◌∷◌}
use mathlib.Core.Option.{some}
use Prim.Native.Nat.{ℕ}
use native.Mathlib.Omega.{arith}
use lib.ListN.{get_or, replicate, length-replicate}
use Rattle.refusal.specs.declared.Refusal.{Refusal}
use Rattle.refusal.specs.First.{refusal, or_else, refuse_if}
use Rattle.codec.specs.Numbers.{number_at, little_endian, pair_bytes}
use Rattle.machine.specs.declared.Config.{Config}
use Rattle.machine.specs.declared.Verdict.{Verdict}
use Rattle.machine.specs.declared.Verdict.TheVariants.{Accepted, Ended, Stuck, Looping, Halted}
use Rattle.machine.specs.Run.{config}
use Rattle.machine.specs.Replies.{verdict_number}
use Rattle.image.specs.Refusals.{image_refusal, capture_refusal}
use Rattle.simulator.specs.Calls.{judge_refusal, JudgeAs, JudgeSays}
use Rattle.simulator.specs.Replies.{of_judged}
use Rattle.interpreter.specs.declared.RunEnd.{RunEnd}
use Rattle.builder.specs.declared.Matching.TheVariants.{Whole}
use Rattle.answer_line.specs.Line.{digits, decimal, field, verdict_word, refused_word, refusal_line, answer_line, written, Lined}
use Rattle.answer.specs.Input.{input_grammar}
use Rattle.answer.specs.Conditions.{InputRight}
use Rattle.grammar_judge.specs.Calls.{Lent, lent}
use Rattle.worked_examples.specs.Examples.{Row, row, from_grammar, RowHolds, table, grammar_rows, second_row, row_machine, empty_grammar, plain_table}
use Rattle.worked_examples.specs.ProgramLine.{endless_input, endless_line, ProgramRoom}
use Rattle.sejimakpu.specs.Cells.{cells}
use Rattle.sejimakpu.specs.Calls.{JudgeTells}
use Rattle.promises.proofs.Proved.{promises}
use Rattle.refuted.proofs.Rows.{first, others, c2_holds, c3, c4, c3_holds, c4_holds}
use Rattle.refuted.proofs.SmallCalls
use Rattle.refuted.proofs.AnswerCalls
use Rattle.refuted.specs.Users as Wrong

-- THE LINE
abbrev nothing_lent : Lent
nothing_lent = lent [] [] []

-- refused begins as no verdict does
no_verdict : (v : Verdict) (n : ℕ) (d : Config) → refusal_line (refusal 14 0) ≡ answer_line v n d → ⊥
unfolding refusal_line refused_word answer_line verdict_word
no_verdict Accepted n d e = omega (arith, ap (λ (l : List ℕ). get_or l 0 0) e)
no_verdict Ended n d e = omega (arith, ap (λ (l : List ℕ). get_or l 0 0) e)
no_verdict Stuck n d e = omega (arith, ap (λ (l : List ℕ). get_or l 0 0) e)
no_verdict Looping n d e = omega (arith, ap (λ (l : List ℕ). get_or l 0 0) e)
no_verdict Halted n d e = omega (arith, ap (λ (l : List ℕ). get_or l 0 0) e)

pub line_says : Wrong.LineSays → ⊥
line_says wrong =
    let p = wrong [] nothing_lent nothing_lent _ (λ i. omega arith) (AnswerCalls.unread nothing_lent) in
    no_verdict p.verdict p.readings p.end p.says

-- C5's input has a grammar of 4 bytes and no capture
endless_right : InputRight endless_input
unfolding endless_input number_at little_endian pair_bytes
endless_right =
    record {
      long = record { least = omega arith; most = omega arith };
      grammar_length = 4;
      capture_length = 0;
      first_pair = record { offset_is = refl; length_is = refl };
      second_pair = record { offset_is = refl; length_is = refl };
      nothing_after = refl;
    }

pub input_is : Wrong.InputIs → ⊥
unfolding endless_right endless_input input_grammar number_at little_endian pair_bytes
input_is wrong = omega (arith, (wrong endless_input endless_right).grammar_long)

-- 64 bytes in a buffer of 63
long_line : Lined (replicate 64 0) (replicate 63 0) (written (replicate 64 0) (replicate 63 0)) 63
long_line = record { holds = record { bytes = refl; counted = refl }; short = omega arith }

pub line_whole : Wrong.LineWhole → ⊥
line_whole wrong = omega (arith, (wrong (replicate 64 0) (replicate 63 0) _ 63 long_line (omega arith)).0)

-- C5 in the program's buffers
program_lent : Lent
program_lent = lent (replicate 65536 0) (replicate 16384 0) (replicate 16384 0)

room : ProgramRoom program_lent (replicate 64 0)
unfolding program_lent
room = record { image = length-replicate {A = ℕ} 65536 0; notes = length-replicate {A = ℕ} 16384 0; work = length-replicate {A = ℕ} 16384 0; line = omega arith }

pub endless_printed : Wrong.EndlessPrinted → ⊥
unfolding endless_line answer_line verdict_word field decimal digits
endless_printed wrong =
    let (y, now, count, says) = AnswerCalls.endless_told program_lent (replicate 64 0) room in
    let right = promises.endless_printed program_lent y (replicate 64 0) now count room says in
    omega (arith, ap (λ (l : List ℕ). get_or l 8 0) (sym right ∙ wrong program_lent y (replicate 64 0) now count room says))

pub unread_refused : Wrong.UnreadRefused → ⊥
unfolding refusal_line refused_word field decimal digits
unread_refused wrong = omega (arith, ap (λ (l : List ℕ). get_or l 11 0) (wrong nothing_lent nothing_lent _ (AnswerCalls.unread nothing_lent)))

-- C1 with neither notes nor work cells
pub refusals_left : Wrong.RefusalsLeft → ⊥
unfolding or_else refuse_if
refusals_left wrong =
    let bad = rw promises.c1_cells at (wrong Whole empty_grammar [] 0 0 SmallCalls.c1_good) in
    omega (arith, ap (λ (f : Refusal). f.number) (sym (SmallCalls.c1_judging 0 0) ∙ bad))

-- THE EXAMPLES
pub examples_hold : Wrong.ExamplesHold → ⊥
unfolding table grammar_rows second_row row_machine verdict_number
examples_hold wrong =
    let bad : RowHolds (row (from_grammar Whole empty_grammar) (97 ∷ []) Accepted 4 (config 2 2 0) (some 4)) = first (others wrong) in
    omega (arith, ap verdict_number (promises.one_verdict _ Accepted Stuck _ _ bad.says c2_holds.says).0)

pub c1_image : Wrong.C1Image → ⊥
c1_image wrong = omega (arith, wrong, promises.c1_image)

pub c1_cells : Wrong.C1Cells → ⊥
c1_cells wrong = omega (arith, wrong, promises.c1_cells)

pub c1_plain_runs : Wrong.C1PlainRuns → ⊥
unfolding plain_table
c1_plain_runs wrong = omega (arith, ap (λ (e : RunEnd). e.steps) (sym (first wrong) ∙ SmallCalls.c1_accepted))

-- THE LIBRARY FOR C: an image of one byte is refused by 1 at 1
one_byte_told : JudgeTells (0 ∷ []) [] [] [] [] [] 1 (1 ∷ 0 ∷ 0 ∷ 0 ∷ 0 ∷ 0 ∷ [])
unfolding JudgeSays JudgeAs judge_refusal capture_refusal image_refusal or_else of_judged cells
one_byte_told = record { judged = Err (refusal 1 1); says = (refl, refl, refl); tells = record { number = refl; written = refl } }

pub accepted_told : Wrong.AcceptedTold → ⊥
accepted_told wrong = omega (arith, (wrong _ _ _ _ _ _ 1 _ one_byte_told refl).0)

-- C3 and C4 have captures of one byte, of which one is accepted and the other not
pub only_row : Wrong.OnlyRow → ⊥
unfolding verdict_number
only_row wrong = omega (arith, ap (λ (r : Row). verdict_number r.verdict) (wrong c3 c4 refl refl c3_holds c4_holds))
