-- Wrong neighbours of the promises of SecondDemand.antt, each under its promise's name, with what is wrong in it. Assumes nothing: each is a type, and proofs/ has a proof that nothing is of it.
use Rattle.std.specs.Prelude.{◌≡◌, true, ◌&&◌, ◌↔◌, ℕ, suc, ◌+◌, ◌*◌, ◌%◌, ◌<◌, ◌≤◌, leb, length, Ok}
use mathlib.Core.List.{List, Memᴰ, ◌++◌}
use Rattle.std.proofs.Math.Option.{Option, none, some}
use Rattle.machine.specs.declared.Config.{Config}
use Rattle.machine.specs.declared.Action.TheVariants.{Pop}
use Rattle.machine.specs.declared.Verdict.{Verdict}
use Rattle.machine.specs.declared.Verdict.TheVariants.{Accepted, Ended, Stuck, Looping, Halted}
use Rattle.image.specs.Format
use Rattle.machine.specs.Run.{Machine, config, start, after, how_many}
use Rattle.codec.specs.Bytes.{Bytes}
use Rattle.image.specs.Image.{machine}
use Rattle.machine.specs.Verdicts.{Says, GoesOn, Distinct}
use Rattle.machine.specs.VerdictRows.{config_at, ComesAgain}
use Rattle.image.specs.Refusals.{Unrefused, image_refusal}
use Rattle.machine.specs.Replies.{verdict_number, answer_reply}
use Rattle.simulator.specs.Answers.{Judged}
use Rattle.simulator.specs.Calls.{cells_needed, judgement, judge_refusal, JudgeSays}
use Rattle.simulator.specs.Replies.{of_judged}
use Rattle.interpreter.specs.Answers.{Ran}
use Rattle.interpreter.specs.declared.RunEnd.{RunEnd}
use Rattle.interpreter.specs.PlainRun.{run_on, TrueEnd}
use Rattle.interpreter.specs.Calls.{run_refusal, RunSays}
use Rattle.interpreter.specs.Replies.{exit_number, of_ran}
use Rattle.builder.specs.declared.Matching.{Matching}
use Rattle.builder.specs.declared.Matching.TheVariants.{Whole}
use Rattle.builder.specs.Answers.{Built}
use Rattle.grammar.specs.declared.Expression.TheVariants.{Not}
use Rattle.grammar.specs.Grammar.{Inverted, rules, kind_of, b_of, c_of, kind_range, range_bytes, expression, grammar_refusal}
use Rattle.grammar.specs.Parsing.{Parses}
use Rattle.builder.specs.Classes.{class_of, class_count}
use Rattle.builder.specs.ClassMeaning.{RangeCut, ByteOfClass}
use Rattle.builder.specs.Table.{state_work, state_fail, first}
use Rattle.builder.specs.Image.{built, built_rules, built_length}
use Rattle.builder.specs.Calls.{BuildSays}
use Rattle.grammar_judge.specs.TwoCalls.{Enough, Gets}

-- of every image: the premise that image and capture are not refused is dropped
abbrev pub VerdictThere : Type 0
VerdictThere = (bs cs : List ℕ) → (v : Verdict) × (d : Config) × Says (machine bs cs) v d

-- one verdict of an image, whatever the capture
abbrev pub OneVerdict : Type 0
OneVerdict = (bs cs ds : List ℕ) (v w : Verdict) (d e : Config) → Says (machine bs cs) v d → Says (machine bs ds) w e → (v ≡ w) × (d ≡ e)

-- verdict and readings exchanged in the reply
abbrev pub JudgeAnswers : Type 0
JudgeAnswers =
    (bs cs : List ℕ) (r : Judged) (a a_now b b_now : List ℕ) → (judge_refusal bs cs (length a) (length b)).number ≡ 0 →
    JudgeSays bs cs r a a_now b b_now →
    (v : Verdict) × (n : ℕ) × (d : Config) × (r ≡ Ok (judgement v n d)) × (of_judged r ≡ answer_reply n (verdict_number v) d)

-- the verdict alone, at whatever end configuration
abbrev pub JudgeExact : Type 0
JudgeExact =
    (bs cs a a_now b b_now : List ℕ) (v : Verdict) (n : ℕ) (d : Config) → Bytes cs → JudgeSays bs cs (Ok (judgement v n d)) a a_now b b_now →
    (w : Verdict) (e : Config) → Says (machine bs cs) w e ↔ (w ≡ v)

-- whatever is not accepted goes on for ever
abbrev pub LoopingEndless : Type 0
LoopingEndless =
    (bs cs a a_now b b_now : List ℕ) (v : Verdict) (n : ℕ) (d : Config) → Bytes cs → JudgeSays bs cs (Ok (judgement v n d)) a a_now b b_now →
    (v ≡ Accepted → ⊥) ↔ GoesOn (machine bs cs)

-- of every grammar: the premise that it is not refused is dropped
abbrev pub BuiltGood : Type 0
BuiltGood = (how : Matching) (gs : List ℕ) → (image_refusal (built how gs)).number ≡ 0

-- accepts where parsing succeeds at all, as an image does that matches a leading part
abbrev pub BuiltAccepts : Type 0
BuiltAccepts =
    (gs cs : List ℕ) → (grammar_refusal gs).number ≡ 0 → Bytes cs →
    ((d : Config) × Says (machine (built Whole gs) cs) Accepted d) ↔ ((j : ℕ) × Parses (expression gs) cs 0 0 (some j))

-- loops where parsing fails
abbrev pub BuiltLoops : Type 0
BuiltLoops =
    (how : Matching) (gs cs : List ℕ) → (grammar_refusal gs).number ≡ 0 → Bytes cs → length cs ≤ Format.max_capture →
    ((d : Config) × Says (machine (built how gs) cs) Looping d) ↔ Parses (expression gs) cs 0 0 none

-- goes on where parsing does not consume all
abbrev pub BuiltGoesOn : Type 0
BuiltGoesOn =
    (how : Matching) (gs cs : List ℕ) → (grammar_refusal gs).number ≡ 0 → Bytes cs →
    GoesOn (machine (built how gs) cs) ↔ (Parses (expression gs) cs 0 0 (some (length cs)) → ⊥)

-- is stuck only where parsing fails, as an image is that matches a leading part
abbrev pub BuiltStuck : Type 0
BuiltStuck =
    (gs cs : List ℕ) → (grammar_refusal gs).number ≡ 0 → Bytes cs →
    ((d : Config) × Says (machine (built Whole gs) cs) Stuck d) ↔ Parses (expression gs) cs 0 0 none

-- of every image that is not refused, built or not
abbrev pub BuiltNotEnded : Type 0
BuiltNotEnded = (bs cs : List ℕ) → Unrefused bs cs → (d : Config) → Says (machine bs cs) Ended d → ⊥

-- of every image that is not refused, built or not
abbrev pub BuiltNotHalted : Type 0
BuiltNotHalted = (bs cs : List ℕ) → Unrefused bs cs → (d : Config) → Says (machine bs cs) Halted d → ⊥

-- a range of one byte, low as high, fails too
abbrev pub InvertedFails : Type 0
InvertedFails =
    (gs cs : List ℕ) (k : ℕ) → kind_of gs k ≡ kind_range → c_of gs k ≤ b_of gs k → (i : ℕ) (o : Option ℕ) →
    Parses (expression gs) cs k i o ↔ (o ≡ none)

-- as any !e, whatever e is
abbrev pub InvertedAsFailure : Type 0
InvertedAsFailure =
    (gs cs : List ℕ) (k f e : ℕ) → Inverted gs k → expression gs f ≡ Not e →
    (i : ℕ) (o : Option ℕ) → Parses (expression gs) cs k i o ↔ Parses (expression gs) cs f i o

-- the head returns
abbrev pub InvertedPops : Type 0
InvertedPops =
    (how : Matching) (gs cs : List ℕ) (k i : ℕ) → (grammar_refusal gs).number ≡ 0 → Bytes cs → k < rules gs → Inverted gs k → i ≤ length cs →
    (machine (built how gs) cs).action (config state_work (suc i) (first k)) ≡ Pop state_fail true

-- nor does a range of one byte, low as high, add a value
abbrev pub InvertedAddsNone : Type 0
InvertedAddsNone =
    (before after : List ℕ) (b c : ℕ) → length before % 4 ≡ 0 → c ≤ b →
    (class_count (before ++ range_bytes b c ++ after) ≡ class_count (before ++ after))
    × ((v : ℕ) → class_of (before ++ range_bytes b c ++ after) v ≡ class_of (before ++ after) v)

-- judging by the whole buffer, not by so many bytes as were built
abbrev pub BuildThenJudge : Type 0
BuildThenJudge =
    (how : Matching) (gs cs image image_now notes notes_now work work_now : List ℕ) (b : Built) (r : Judged) → Enough how gs cs image notes work →
    BuildSays how gs b image image_now → JudgeSays image_now cs r notes notes_now work work_now →
    (b ≡ Ok (built_length gs)) × Gets how gs cs r

-- with no cell too: the premise that there is one is dropped
abbrev pub PlainRunTrue : Type 0
PlainRunTrue = (M : Machine) (budget cells : ℕ) → TrueEnd M budget cells (run_on budget M 0 cells start)

-- the lent cells are as they were
abbrev pub RunAnswers : Type 0
RunAnswers =
    (bs cs : List ℕ) (budget : ℕ) (r : Ran) (a a_now : List ℕ) → (run_refusal bs cs (length a)).number ≡ 0 →
    RunSays bs cs budget r a a_now →
    (e : RunEnd) × (of_ran r ≡ answer_reply (exit_number e.exit) e.steps e.reached) × TrueEnd (machine bs cs) budget (length a) e
    × (a_now ≡ a)

-- the rules alone: what stands before them is left out
abbrev pub ImageLength : Type 0
ImageLength = (how : Matching) (gs : List ℕ) → length (built how gs) ≡ Format.rule_length * built_rules gs

-- the two markers counted twice
abbrev pub CellsCounted : Type 0
CellsCounted = (bs cs : List ℕ) → cells_needed bs (length cs + 2) ≡ how_many (machine bs cs)

-- the bound less one
abbrev pub LongestImage : Type 0
LongestImage = (how : Matching) (gs : List ℕ) → (grammar_refusal gs).number ≡ 0 → length (built how gs) ≤ 82187

-- one byte more
abbrev pub LongestThere : Type 0
LongestThere = (gs : List ℕ) × ((grammar_refusal gs).number ≡ 0) × ((how : Matching) → length (built how gs) ≡ 82189)

-- the builder's `ClassCounts` with the cuts from 0 on, and not from 1
pub record ClassCountsWithZero (gs : List ℕ) (v : ℕ) : Type 0 where
  pub cuts : List ℕ
  pub distinct : Distinct cuts
  pub only : (u : ℕ) → Memᴰ u cuts → (u ≤ v) × RangeCut gs u
  pub all : (u : ℕ) → u ≤ v → RangeCut gs u → Memᴰ u cuts
  pub counted : length cuts ≡ class_of gs v

-- a cut at 0 counts too
abbrev pub ClassesCount : Type 0
ClassesCount = (gs : List ℕ) (v : ℕ) → ClassCountsWithZero gs v

-- by the classes of the range's ends alone: that the low one is not above the high one is not asked
abbrev pub RangeClasses : Type 0
RangeClasses = (gs : List ℕ) (b c k : ℕ) → ((leb (class_of gs b) k && leb k (class_of gs c)) ≡ true) ↔ ByteOfClass gs b c k

-- looping at any configuration that comes again, not at the first
abbrev pub VerdictRows : Type 0
VerdictRows =
    (M : Machine) (d : Config) → Says M Looping d ↔ (GoesOn M × (k : ℕ) × ComesAgain M k × (config_at (after k M start) ≡ d))
