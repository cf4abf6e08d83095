-- THE SECOND DEMAND: accepted, ended, stuck, halted exactly where the step-by-step run, unbounded in time and stack, ends so; looping only where it has no end. A machine built from a grammar accepts where parsing from the start rule consumes all, loops where parsing has no result, and is stuck in all other cases; one that was built to match a leading part accepts where parsing succeeds at all (Matching.antt). Assumes nothing: each claim is a type, and proofs/ has its proof.
use Rattle.std.specs.Prelude.{◌≡◌, true, false, List, ◌++◌, ◌↔◌, ℕ, suc, ◌%◌, ◌<◌, ◌≤◌, length, take, replicate, Ok}
use Rattle.std.proofs.Math.Option.{Option, none, some}
use Rattle.machine.specs.declared.Config.{Config}
use Rattle.machine.specs.declared.Action.TheVariants.{Pop}
use Rattle.machine.specs.declared.Verdict.{Verdict}
use Rattle.machine.specs.declared.Verdict.TheVariants.{Accepted, Ended, Stuck, Looping, Halted}
use Rattle.image.specs.Format.{max_capture}
use Rattle.machine.specs.Run.{Machine, config, start, how_many}
use Rattle.codec.specs.Bytes.{Bytes}
use Rattle.image.specs.Image.{machine}
use Rattle.machine.specs.Verdicts.{Says, GoesOn}
use Rattle.machine.specs.VerdictRows.{SaysByRow}
use Rattle.image.specs.Refusals.{Unrefused, image_refusal}
use Rattle.machine.specs.Replies.{verdict_number, answer_reply}
use Rattle.simulator.specs.Answers.{Judged}
use Rattle.simulator.specs.Calls.{cells_needed, judgement, judge_refusal, JudgeSays}
use Rattle.simulator.specs.Replies.{of_judged}
use Rattle.interpreter.specs.Answers.{Ran}
use Rattle.interpreter.specs.declared.RunEnd.{RunEnd}
use Rattle.interpreter.specs.PlainRun.{run_on, TrueEnd}
use Rattle.interpreter.specs.Calls.{run_refusal, RunSays}
use Rattle.interpreter.specs.Replies.{exit_number, of_ran}
use Rattle.builder.specs.declared.Matching.{Matching}
use Rattle.builder.specs.declared.Matching.TheVariants.{Whole}
use Rattle.builder.specs.Answers.{Built}
use Rattle.grammar.specs.declared.Expression.TheVariants.{Not, Empty}
use Rattle.grammar.specs.Grammar.{Inverted, rules, range_bytes, expression, grammar_refusal}
use Rattle.grammar.specs.Parsing.{Parses}
use Rattle.builder.specs.Classes.{class_of, class_count, class_in}
use Rattle.builder.specs.ClassMeaning.{ClassCounts, ByteOfClass}
use Rattle.builder.specs.Table.{state_work, state_fail, first}
use Rattle.builder.specs.Image.{built, built_length}
use Rattle.builder.specs.Calls.{BuildSays}
use Rattle.grammar_judge.specs.TwoCalls.{Enough, Gets}

-- THE RUN'S VERDICT: there is one, with its end configuration, and one only
abbrev pub VerdictThere : Type 0
VerdictThere = (bs cs : List ℕ) → Unrefused bs cs → (v : Verdict) × (d : Config) × Says (machine bs cs) v d

abbrev pub OneVerdict : Type 0
OneVerdict = (M : Machine) (v w : Verdict) (d e : Config) → Says M v d → Says M w e → (v ≡ w) × (d ≡ e)

-- it is document 03's: a row for each verdict, and document 04's for halted
abbrev pub VerdictRows : Type 0
VerdictRows = (M : Machine) (v : Verdict) (d : Config) → Says M v d ↔ SaysByRow M v d

-- A CALL THAT IS NOT REFUSED ANSWERS, and tells refusal 0 and the verdict's number
abbrev pub JudgeAnswers : Type 0
JudgeAnswers =
    (bs cs : List ℕ) (r : Judged) (a a_now b b_now : List ℕ) → (judge_refusal bs cs (length a) (length b)).number ≡ 0 →
    JudgeSays bs cs r a a_now b b_now →
    (v : Verdict) × (n : ℕ) × (d : Config) × (r ≡ Ok (judgement v n d)) × (of_judged r ≡ answer_reply (verdict_number v) n d)

-- ACCEPTED, ENDED, STUCK, HALTED EXACTLY WHERE THE RUN ENDS SO, looping exactly where it has no end, and at the run's end configuration
abbrev pub JudgeExact : Type 0
JudgeExact =
    (bs cs a a_now b b_now : List ℕ) (v : Verdict) (n : ℕ) (d : Config) → Bytes cs → JudgeSays bs cs (Ok (judgement v n d)) a a_now b b_now →
    (w : Verdict) (e : Config) → Says (machine bs cs) w e ↔ (w ≡ v) × (e ≡ d)

-- LOOPING ONLY WHERE IT HAS NO END, and always there
abbrev pub LoopingEndless : Type 0
LoopingEndless =
    (bs cs a a_now b b_now : List ℕ) (v : Verdict) (n : ℕ) (d : Config) → Bytes cs → JudgeSays bs cs (Ok (judgement v n d)) a a_now b b_now →
    (v ≡ Looping) ↔ GoesOn (machine bs cs)

-- A MACHINE BUILT FROM A GRAMMAR, by either choice of a match, is never refused,
abbrev pub BuiltGood : Type 0
BuiltGood = (how : Matching) (gs : List ℕ) → (grammar_refusal gs).number ≡ 0 → (image_refusal (built how gs)).number ≡ 0

-- built to match the whole capture, accepts where parsing from the start rule consumes all,
abbrev pub BuiltAccepts : Type 0
BuiltAccepts =
    (gs cs : List ℕ) → (grammar_refusal gs).number ≡ 0 → Bytes cs →
    ((d : Config) × Says (machine (built Whole gs) cs) Accepted d) ↔ Parses (expression gs) cs 0 0 (some (length cs))

-- by either choice loops where parsing has no result,
abbrev pub BuiltLoops : Type 0
BuiltLoops =
    (how : Matching) (gs cs : List ℕ) → (grammar_refusal gs).number ≡ 0 → Bytes cs → length cs ≤ max_capture →
    ((d : Config) × Says (machine (built how gs) cs) Looping d) ↔ ((o : Option ℕ) → Parses (expression gs) cs 0 0 o → ⊥)

-- goes on for ever there, however long the capture,
abbrev pub BuiltGoesOn : Type 0
BuiltGoesOn =
    (how : Matching) (gs cs : List ℕ) → (grammar_refusal gs).number ≡ 0 → Bytes cs →
    GoesOn (machine (built how gs) cs) ↔ ((o : Option ℕ) → Parses (expression gs) cs 0 0 o → ⊥)

-- built to match the whole capture, is stuck in all other cases,
abbrev pub BuiltStuck : Type 0
BuiltStuck =
    (gs cs : List ℕ) → (grammar_refusal gs).number ≡ 0 → Bytes cs →
    ((d : Config) × Says (machine (built Whole gs) cs) Stuck d)
    ↔ ((o : Option ℕ) × Parses (expression gs) cs 0 0 o × (o ≡ some (length cs) → ⊥))

-- by either choice never ends otherwise
abbrev pub BuiltNotEnded : Type 0
BuiltNotEnded =
    (how : Matching) (gs cs : List ℕ) → (grammar_refusal gs).number ≡ 0 → Bytes cs → (d : Config) → Says (machine (built how gs) cs) Ended d → ⊥

-- and is never halted
abbrev pub BuiltNotHalted : Type 0
BuiltNotHalted =
    (how : Matching) (gs cs : List ℕ) → (grammar_refusal gs).number ≡ 0 → Bytes cs → (d : Config) → Says (machine (built how gs) cs) Halted d → ⊥

-- A RANGE WITH ITS LOW BYTE ABOVE ITS HIGH BYTE ALWAYS FAILS: at every place of every capture it has one result, failure,
abbrev pub InvertedFails : Type 0
InvertedFails = (gs cs : List ℕ) (k : ℕ) → Inverted gs k → (i : ℕ) (o : Option ℕ) → Parses (expression gs) cs k i o ↔ (o ≡ none)

-- as 004's failure has, F = !ε,
abbrev pub InvertedAsFailure : Type 0
InvertedAsFailure =
    (gs cs : List ℕ) (k f e : ℕ) → Inverted gs k → expression gs f ≡ Not e → expression gs e ≡ Empty →
    (i : ℕ) (o : Option ℕ) → Parses (expression gs) cs k i o ↔ Parses (expression gs) cs f i o

-- it consumes nothing: the machine, with the rule's symbol on top at any place, pops it in one step, fails, and the head stays,
abbrev pub InvertedPops : Type 0
InvertedPops =
    (how : Matching) (gs cs : List ℕ) (k i : ℕ) → (grammar_refusal gs).number ≡ 0 → Bytes cs → k < rules gs → Inverted gs k → i ≤ length cs →
    (machine (built how gs) cs).action (config state_work (suc i) (first k)) ≡ Pop state_fail false

-- and it adds no value to the class count, nor to a byte's class: without its four bytes the grammar has the same
abbrev pub InvertedAddsNone : Type 0
InvertedAddsNone =
    (before after : List ℕ) (b c : ℕ) → length before % 4 ≡ 0 → c < b →
    (class_count (before ++ range_bytes b c ++ after) ≡ class_count (before ++ after))
    × ((v : ℕ) → class_of (before ++ range_bytes b c ++ after) v ≡ class_of (before ++ after) v)

-- THE TWO CALLS: building, by either choice of a match, then judging by the image that was built, gives what parsing says, and few readings
abbrev pub BuildThenJudge : Type 0
BuildThenJudge =
    (how : Matching) (gs cs image image_now notes notes_now work work_now : List ℕ) (b : Built) (r : Judged) → Enough how gs cs image notes work →
    BuildSays how gs b image image_now → JudgeSays (take (built_length gs) image_now) cs r notes notes_now work work_now →
    (b ≡ Ok (built_length gs)) × Gets how gs cs r

-- THE PLAIN RUN'S answer is true of the run: within its budget and all the way within its cells, by the run's own steps, at the configuration reached; and all lent cells are 0
abbrev pub PlainRunTrue : Type 0
PlainRunTrue = (M : Machine) (budget cells : ℕ) → 0 < cells → TrueEnd M budget cells (run_on budget M 0 cells start)

abbrev pub RunAnswers : Type 0
RunAnswers =
    (bs cs : List ℕ) (budget : ℕ) (r : Ran) (a a_now : List ℕ) → (run_refusal bs cs (length a)).number ≡ 0 →
    RunSays bs cs budget r a a_now →
    (e : RunEnd) × (of_ran r ≡ answer_reply (exit_number e.exit) e.steps e.reached) × TrueEnd (machine bs cs) budget (length a) e
    × (a_now ≡ replicate (length a) 0)

-- ONE MEANING FOR TWO FORMULAS: an image's length and N, by the numbers that a call works with
abbrev pub ImageLength : Type 0
ImageLength = (how : Matching) (gs : List ℕ) → length (built how gs) ≡ built_length gs

abbrev pub CellsCounted : Type 0
CellsCounted = (bs cs : List ℕ) → cells_needed bs (length cs) ≡ how_many (machine bs cs)

-- no built image is longer than 82,188 bytes, and some grammar's is as long
abbrev pub LongestImage : Type 0
LongestImage = (how : Matching) (gs : List ℕ) → (grammar_refusal gs).number ≡ 0 → length (built how gs) ≤ 82188

abbrev pub LongestThere : Type 0
LongestThere = (gs : List ℕ) × ((grammar_refusal gs).number ≡ 0) × ((how : Matching) → length (built how gs) ≡ 82188)

-- A BYTE'S CLASS is the number of different cuts not above it, and a class is in a range exactly if some byte of the range has it
abbrev pub ClassesCount : Type 0
ClassesCount = (gs : List ℕ) (v : ℕ) → ClassCounts gs v

abbrev pub RangeClasses : Type 0
RangeClasses = (gs : List ℕ) (b c k : ℕ) → (class_in gs b c k ≡ true) ↔ ByteOfClass gs b c k
