-- A RULE THAT HALTS ON PURPOSE: kind 4, other bytes zero, halts, and rule lookup answers missing and halting apart; the verdict halted is for a run that ends at such a rule, and notes, readings and end configuration treat it like stuck; the plain run takes no step for it and puts it before spent; images without kind 4 judge as before; refusal 6 begins at kind 5, and is given for kind 4 with another byte not zero. Assumes nothing: each claim is a type, and proofs/ has its proof.
use Rattle.std.specs.Prelude.{◌≡◌, List, ◌↔◌, ℕ, ◌≤◌, length, take, Ok}
use Rattle.std.proofs.Math.Option.{some}
use Rattle.codec.specs.Bytes.{Bytes}
use Rattle.machine.specs.declared.Config.{Config}
use Rattle.machine.specs.declared.Action.TheVariants.{Stop}
use Rattle.machine.specs.declared.Reason.TheVariants.{Missing, Halting}
use Rattle.machine.specs.declared.Verdict.{Verdict}
use Rattle.machine.specs.declared.Verdict.TheVariants.{Stuck, Halted}
use Rattle.machine.specs.Run.{Machine, Description, start, after, config_of, how_many}
use Rattle.machine.specs.Verdicts.{Entered}
use Rattle.machine.specs.LikeStuck.{without_halting, LikeStuck, stuck_for_halted}
use Rattle.machine.specs.Replies.{answer_reply}
use Rattle.image.specs.Image.{Rule, rule_of, action_by, machine}
use Rattle.image.specs.Refusals.{rule_bad}
use Rattle.image.specs.Conditions.{RuleRight}
use Rattle.image.specs.WithoutHalting.{NoHaltingRule, rule_bad_before, action_before, AsBefore, MissingForHalting}
use Rattle.simulator.specs.Calls.{judgement, JudgeSays}
use Rattle.interpreter.specs.Answers.{Ran}
use Rattle.interpreter.specs.Calls.{run_refusal, RunSays}
use Rattle.interpreter.specs.Replies.{of_ran}
use Rattle.builder.specs.declared.Matching.{Matching}
use Rattle.builder.specs.Image.{built}
use Rattle.worked_examples.specs.Examples.{Each, RowHolds}
use Rattle.worked_examples.specs.HaltingExamples.{halting_table, HaltsAfter, halting_budgets, RuleRefusedSo, halting_rules}

-- A RULE OF KIND 4 IS RIGHT exactly if its other bytes are zero, for every class, the markers among them; from kind 5 on no rule is. Where a rule is not right, 6 is given at the first such one's offset (`image_refused`)
abbrev pub HaltingRight : Type 0
HaltingRight =
    (bs : List ℕ) (class : ℕ) (r : Rule) →
    (r.kind ≡ 4 → RuleRight bs class r ↔ (r.state ≡ 0) × (r.symbol ≡ 0) × (r.direction ≡ 0))
    × (5 ≤ r.kind → RuleRight bs class r → ⊥)

-- LOOKUP ANSWERS MISSING AND HALTING APART, with the head anywhere
abbrev pub LookupApart : Type 0
LookupApart =
    (bs : List ℕ) (class head : ℕ) (r : Rule) → RuleRight bs class r →
    ((action_by r head ≡ Stop Halting) ↔ (r.kind ≡ 4)) × ((action_by r head ≡ Stop Missing) ↔ (r.kind ≡ 0))

-- HALTED EXACTLY WHERE THE RUN COMES TO A RULE OF KIND 4, and that configuration is the end
abbrev pub HaltedExact : Type 0
HaltedExact =
    (bs cs a a_now b b_now : List ℕ) (v : Verdict) (n : ℕ) (d : Config) → Bytes cs → JudgeSays bs cs (Ok (judgement v n d)) a a_now b b_now →
    (e : Config) → ((v ≡ Halted) × (d ≡ e)) ↔ (Entered (machine bs cs) e × ((rule_of bs cs e).kind ≡ 4))

-- and stuck exactly where it comes to one of kind 0
abbrev pub StuckExact : Type 0
StuckExact =
    (bs cs a a_now b b_now : List ℕ) (v : Verdict) (n : ℕ) (d : Config) → Bytes cs → JudgeSays bs cs (Ok (judgement v n d)) a a_now b b_now →
    (e : Config) → ((v ≡ Stuck) × (d ≡ e)) ↔ (Entered (machine bs cs) e × ((rule_of bs cs e).kind ≡ 0))

-- NOTES, READINGS AND END CONFIGURATION TREAT IT LIKE STUCK: any machine beside the same one with missing rules for its halting ones,
abbrev pub HaltedLikeStuck : Type 0
HaltedLikeStuck = (M : Machine) → LikeStuck M (without_halting M)

-- and two calls, by an image and by the same one with missing rules for its halting ones: verdict, stuck for halted, readings, end configuration, the first N notes and work cells
abbrev pub JudgedLikeStuck : Type 0
JudgedLikeStuck =
    (bs zs cs a a_now b b_now x x_now y y_now : List ℕ) (v w : Verdict) (n m : ℕ) (d e : Config) → Bytes cs → MissingForHalting bs zs →
    JudgeSays bs cs (Ok (judgement v n d)) a a_now b b_now → JudgeSays zs cs (Ok (judgement w m e)) x x_now y y_now →
    (w ≡ stuck_for_halted v) × (m ≡ n) × (e ≡ d) × (take (how_many (machine bs cs)) x_now ≡ take (how_many (machine bs cs)) a_now)
    × (take (how_many (machine bs cs)) y_now ≡ take (how_many (machine bs cs)) b_now)

-- THE PLAIN RUN TAKES NO STEP FOR IT AND PUTS IT BEFORE SPENT: where the run comes to such a rule after n steps, no more than the budget, and its stack never had more entries than there are cells, the answer is halted, by its number 7, with n steps and that configuration; and so it is stuck, by 3, at a missing rule
abbrev pub RunStops : Type 0
RunStops =
    (bs cs : List ℕ) (budget n : ℕ) (x : Description) (r : Ran) (a a_now : List ℕ) → (run_refusal bs cs (length a)).number ≡ 0 →
    RunSays bs cs budget r a a_now → after n (machine bs cs) start ≡ some x → n ≤ budget →
    ((m : ℕ) (y : Description) → m ≤ n → after m (machine bs cs) start ≡ some y → length y.stack ≤ length a) →
    ((rule_of bs cs (config_of x)).kind ≡ 4 → of_ran r ≡ answer_reply 7 n (config_of x))
    × ((rule_of bs cs (config_of x)).kind ≡ 0 → of_ran r ≡ answer_reply 3 n (config_of x))

-- IMAGES WITHOUT KIND 4 JUDGE AS BEFORE: a rule of another kind is bad where it was, and does what it did;
abbrev pub RuleAsBefore : Type 0
RuleAsBefore =
    (bs : List ℕ) (class head : ℕ) (r : Rule) → (r.kind ≡ 4 → ⊥) →
    (rule_bad bs class r ≡ rule_bad_before bs class r) × (action_by r head ≡ action_before r head)

-- so the image is refused as it was, its machine does what it did, and its run never says halted;
abbrev pub ImageAsBefore : Type 0
ImageAsBefore = (bs : List ℕ) → NoHaltingRule bs → AsBefore bs

-- and an image that is built, by either choice of a match, is one of these
abbrev pub BuiltWithoutHalting : Type 0
BuiltWithoutHalting = (how : Matching) (gs : List ℕ) → NoHaltingRule (built how gs)

-- WORKED EXAMPLES, computed: runs to a halting rule and to a missing one on the same path,
abbrev pub HaltingRows : Type 0
HaltingRows = Each RowHolds (halting_table Halted)

-- plain runs that are halted after no step, with budget 0 and with 9,
abbrev pub HaltingRuns : Type 0
HaltingRuns = Each (HaltsAfter 0) halting_budgets

-- and rules of kind 4 and above, good and bad
abbrev pub HaltingImages : Type 0
HaltingImages = Each RuleRefusedSo (halting_rules 4)
