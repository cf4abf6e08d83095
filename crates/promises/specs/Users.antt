-- WHAT USERS GET: the program's line, the worked examples, the library for C. Assumes nothing: each claim is a type, and proofs/ has its proof.
use Rattle.std.specs.Prelude.{◌≡◌, List, [], ◌∷◌, ◌++◌, ℕ, ◌≤◌, ltb, length, get_or, take, drop}
use Rattle.machine.specs.declared.Verdict.TheVariants.{Accepted}
use Rattle.image.specs.Format.{max_capture}
use Rattle.machine.specs.Run.{config, how_many}
use Rattle.codec.specs.Bytes.{Bytes}
use Rattle.image.specs.Image.{machine}
use Rattle.machine.specs.Verdicts.{Says}
use Rattle.refusal.specs.First.{refusal, or_else, refuse_if}
use Rattle.simulator.specs.Calls.{judge_refusal}
use Rattle.grammar.specs.Grammar.{grammar_refusal}
use Rattle.builder.specs.declared.Matching.{Matching}
use Rattle.builder.specs.declared.Matching.TheVariants.{Whole}
use Rattle.builder.specs.Image.{built}
use Rattle.answer_line.specs.Line.{line_feed, field, refused_word, max_line, Lined}
use Rattle.answer.specs.Input.{input_grammar, input_capture}
use Rattle.answer.specs.Conditions.{InputRight, InputParts}
use Rattle.grammar_judge.specs.Calls.{Lent}
use Rattle.answer.specs.Calls.{answer_refusal, InputSays, AnswerSays}
use Rattle.answer.specs.LineParsed.{LineParsed}
use Rattle.worked_examples.specs.Examples.{Row, RowHolds, Each, table, empty_grammar, PlainHolds, plain_table}
use Rattle.worked_examples.specs.ProgramLine.{endless_input, endless_line, ProgramRoom}
use Rattle.sejimakpu.specs.Calls.{JudgeTells}

-- THE LINE: for every input that is not refused, that of a verdict which parsing gives, with few readings
abbrev pub LineSays : Type 0
LineSays =
    (xs : List ℕ) (x y : Lent) (line : List ℕ) → Bytes xs → (answer_refusal xs x).number ≡ 0 → InputSays xs x y line →
    LineParsed (input_grammar xs) (input_capture xs) line

-- an input that is not refused is its pairs, its grammar and its capture, and nothing after
abbrev pub InputIs : Type 0
InputIs = (xs : List ℕ) (r : InputRight xs) → InputParts xs r.grammar_length r.capture_length

-- a buffer with room for the longest line has the whole line, and its later bytes are as they were
abbrev pub LineWhole : Type 0
LineWhole =
    (line buffer buffer_now : List ℕ) (count : ℕ) → Lined line buffer buffer_now count → max_line ≤ length buffer →
    (count ≡ length line) × (buffer_now ≡ line ++ drop (length line) buffer)

-- C5's 20 bytes give exactly looping 2 1 1 1
abbrev pub EndlessPrinted : Type 0
EndlessPrinted =
    (x y : Lent) (out out_now : List ℕ) (count : ℕ) → ProgramRoom x out → AnswerSays endless_input x y out out_now count →
    take count out_now ≡ endless_line

-- where a read failed there is no input, and the line for that is no verdict: it is refused 14 0
abbrev pub UnreadRefused : Type 0
UnreadRefused =
    (x y : Lent) (line : List ℕ) → InputSays [] x y line → line ≡ refused_word ++ field 14 ++ field 0 ++ (line_feed ∷ [])

-- of judging's refusals the program can meet 7, 8 and 9 alone: by either choice of a match the image of a grammar that is not refused is good
abbrev pub RefusalsLeft : Type 0
RefusalsLeft =
    (how : Matching) (gs cs : List ℕ) (notes work : ℕ) → (grammar_refusal gs).number ≡ 0 →
    judge_refusal (built how gs) cs notes work
    ≡ or_else (refuse_if (ltb max_capture (length cs)) (refusal 7 (length cs)))
    (or_else (refuse_if (ltb notes (how_many (machine (built how gs) cs))) (refusal 8 (how_many (machine (built how gs) cs))))
    (refuse_if (ltb work (how_many (machine (built how gs) cs))) (refusal 9 (how_many (machine (built how gs) cs)))))

-- C1 TO C10, and C1's image, N and plain runs
abbrev pub ExamplesHold : Type 0
ExamplesHold = Each RowHolds table

-- and of one image and capture no other row holds: verdict, readings, end and steps are all determined
abbrev pub OnlyRow : Type 0
OnlyRow = (r s : Row) → r.source ≡ s.source → r.capture ≡ s.capture → RowHolds r → RowHolds s → r ≡ s

abbrev pub C1Image : Type 0
C1Image = length (built Whole empty_grammar) ≡ 468

abbrev pub C1Cells : Type 0
C1Cells = how_many (machine (built Whole empty_grammar) []) ≡ 30

abbrev pub C1PlainRuns : Type 0
C1PlainRuns = Each PlainHolds plain_table

-- THE LIBRARY FOR C: who tests the answer's verdict for 1, accepted, and nothing else, is never wrong
abbrev pub AcceptedTold : Type 0
AcceptedTold =
    (image capture notes notes_now work work_now : List ℕ) (returned : ℕ) (answer : List ℕ) →
    JudgeTells image capture notes notes_now work work_now returned answer → get_or answer 1 0 ≡ 1 →
    (returned ≡ 0) × Says (machine image capture) Accepted (config (get_or answer 3 0) (get_or answer 4 0) (get_or answer 5 0))
