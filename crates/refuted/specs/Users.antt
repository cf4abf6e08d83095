-- Wrong neighbours of the promises of Users.antt, each under its promise's name, with what is wrong in it. Assumes nothing: each is a type, and proofs/ has a proof that nothing is of it.
use Rattle.std.specs.Prelude.{◌≡◌, true, List, [], ◌∷◌, ◌++◌, ℕ, ◌+◌, ◌≤◌, ltb, length, get_or, take, drop}
use Rattle.std.proofs.Math.Option.{some}
use Rattle.machine.specs.declared.Verdict.TheVariants.{Accepted, Looping}
use Rattle.machine.specs.declared.Termination.TheVariants.{Over}
use Rattle.image.specs.Format.{max_capture}
use Rattle.machine.specs.Run.{config, how_many}
use Rattle.codec.specs.Bytes.{Bytes}
use Rattle.image.specs.Image.{machine}
use Rattle.machine.specs.Verdicts.{Says}
use Rattle.refusal.specs.First.{refusal, or_else, refuse_if}
use Rattle.simulator.specs.Calls.{judge_refusal}
use Rattle.interpreter.specs.declared.Exit.TheVariants.{Terminated}
use Rattle.interpreter.specs.PlainRun.{run_end}
use Rattle.grammar.specs.Grammar.{grammar_refusal}
use Rattle.builder.specs.declared.Matching.{Matching}
use Rattle.builder.specs.declared.Matching.TheVariants.{Whole}
use Rattle.builder.specs.Image.{built}
use Rattle.answer_line.specs.Line.{line_feed, field, refused_word, answer_line, max_line, Lined}
use Rattle.answer.specs.Input.{input_grammar, input_capture}
use Rattle.answer.specs.Conditions.{InputRight, InputParts}
use Rattle.grammar_judge.specs.Calls.{Lent}
use Rattle.answer.specs.Calls.{InputSays, AnswerSays}
use Rattle.answer.specs.LineParsed.{LineParsed}
use Rattle.worked_examples.specs.Examples.{Row, row, from_grammar, RowHolds, Each, table, empty_grammar, plain_row, PlainHolds, plain_table}
use Rattle.worked_examples.specs.ProgramLine.{endless_input, ProgramRoom}
use Rattle.sejimakpu.specs.Calls.{JudgeTells}

-- also where the input is refused
abbrev pub LineSays : Type 0
LineSays =
    (xs : List ℕ) (x y : Lent) (line : List ℕ) → Bytes xs → InputSays xs x y line → LineParsed (input_grammar xs) (input_capture xs) line

-- the lengths of grammar and capture exchanged
abbrev pub InputIs : Type 0
InputIs = (xs : List ℕ) (r : InputRight xs) → InputParts xs r.capture_length r.grammar_length

-- a buffer that is one byte shorter than the longest line will do
abbrev pub LineWhole : Type 0
LineWhole =
    (line buffer buffer_now : List ℕ) (count : ℕ) → Lined line buffer buffer_now count → max_line ≤ length buffer + 1 →
    (count ≡ length line) × (buffer_now ≡ line ++ drop (length line) buffer)

-- one reading more: the configuration that comes again is counted twice
abbrev pub EndlessPrinted : Type 0
EndlessPrinted =
    (x y : Lent) (out out_now : List ℕ) (count : ℕ) → ProgramRoom x out → AnswerSays endless_input x y out out_now count →
    take count out_now ≡ answer_line Looping 3 (config 1 1 1)

-- the place of the second pair
abbrev pub UnreadRefused : Type 0
UnreadRefused =
    (x y : Lent) (line : List ℕ) → InputSays [] x y line → line ≡ refused_word ++ field 14 ++ field 8 ++ (line_feed ∷ [])

-- 9 before 8
abbrev pub RefusalsLeft : Type 0
RefusalsLeft =
    (how : Matching) (gs cs : List ℕ) (notes work : ℕ) → (grammar_refusal gs).number ≡ 0 →
    judge_refusal (built how gs) cs notes work
    ≡ or_else (refuse_if (ltb max_capture (length cs)) (refusal 7 (length cs)))
    (or_else (refuse_if (ltb work (how_many (machine (built how gs) cs))) (refusal 9 (how_many (machine (built how gs) cs))))
    (refuse_if (ltb notes (how_many (machine (built how gs) cs))) (refusal 8 (how_many (machine (built how gs) cs)))))

-- C2 accepted, as by a leading match
abbrev pub ExamplesHold : Type 0
ExamplesHold = Each RowHolds (take 1 table ++ (row (from_grammar Whole empty_grammar) (97 ∷ []) Accepted 4 (config 2 2 0) (some 4) ∷ drop 2 table))

-- without the markers' rules
abbrev pub C1Image : Type 0
C1Image = length (built Whole empty_grammar) ≡ 348

-- without the right marker's place
abbrev pub C1Cells : Type 0
C1Cells = how_many (machine (built Whole empty_grammar) []) ≡ 15

-- the last pop is not counted as a step
abbrev pub C1PlainRuns : Type 0
C1PlainRuns = Each PlainHolds (plain_row 3 2 (run_end (Terminated (Over true)) 2 (config 2 1 0)) ∷ drop 1 plain_table)

-- the cell before the verdict's, a refusal's place
abbrev pub AcceptedTold : Type 0
AcceptedTold =
    (image capture notes notes_now work work_now : List ℕ) (returned : ℕ) (answer : List ℕ) →
    JudgeTells image capture notes notes_now work work_now returned answer → get_or answer 0 0 ≡ 1 →
    (returned ≡ 0) × Says (machine image capture) Accepted (config (get_or answer 3 0) (get_or answer 4 0) (get_or answer 5 0))

-- captures that are as long as each other are taken for the same
abbrev pub OnlyRow : Type 0
OnlyRow = (r s : Row) → r.source ≡ s.source → length r.capture ≡ length s.capture → RowHolds r → RowHolds s → r ≡ s
