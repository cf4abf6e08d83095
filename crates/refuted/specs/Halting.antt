-- Wrong neighbours of the promises of Halting.antt, each under its promise's name, with what is wrong in it. Assumes nothing: each is a type, and proofs/ has a proof that nothing is of it.
use Rattle.std.specs.Prelude.{◌≡◌, List, ◌↔◌, ℕ, suc, ◌+◌, ◌<◌, ◌≤◌, length, take, Ok}
use Rattle.std.proofs.Math.Option.{some}
use Rattle.codec.specs.Bytes.{Bytes}
use Rattle.machine.specs.declared.Config.{Config}
use Rattle.machine.specs.declared.Action.TheVariants.{Stop}
use Rattle.machine.specs.declared.Reason.TheVariants.{Missing, Halting}
use Rattle.machine.specs.declared.Verdict.{Verdict}
use Rattle.machine.specs.declared.Verdict.TheVariants.{Stuck, Halted}
use Rattle.machine.specs.Run.{Machine, Description, start, after, config_of, how_many}
use Rattle.machine.specs.Verdicts.{Entered}
use Rattle.machine.specs.LikeStuck.{without_halting, LikeStuck}
use Rattle.machine.specs.Replies.{answer_reply}
use Rattle.image.specs.Format
use Rattle.image.specs.Image.{Rule, states, classes, symbols, rule_at, rule_of, action_by, machine}
use Rattle.image.specs.Refusals.{rule_bad}
use Rattle.image.specs.Conditions.{RuleRight}
use Rattle.image.specs.WithoutHalting.{rule_bad_before, action_before, AsBefore, MissingForHalting}
use Rattle.simulator.specs.Calls.{judgement, JudgeSays}
use Rattle.interpreter.specs.Answers.{Ran}
use Rattle.interpreter.specs.Calls.{run_refusal, RunSays}
use Rattle.interpreter.specs.Replies.{of_ran}
use Rattle.builder.specs.declared.Matching.{Matching}
use Rattle.builder.specs.Image.{built}
use Rattle.worked_examples.specs.Examples.{Each, RowHolds}
use Rattle.worked_examples.specs.HaltingExamples.{halting_table, HaltsAfter, halting_budgets, RuleRefusedSo, halting_rules}

-- no rule is right from kind 4 on, where it is from 5 on
abbrev pub HaltingRight : Type 0
HaltingRight =
    (bs : List ℕ) (class : ℕ) (r : Rule) →
    (r.kind ≡ 4 → RuleRight bs class r ↔ (r.state ≡ 0) × (r.symbol ≡ 0) × (r.direction ≡ 0))
    × (4 ≤ r.kind → RuleRight bs class r → ⊥)

-- of any rule: the premise that it is right is dropped
abbrev pub LookupApart : Type 0
LookupApart =
    (head : ℕ) (r : Rule) →
    ((action_by r head ≡ Stop Halting) ↔ (r.kind ≡ 4)) × ((action_by r head ≡ Stop Missing) ↔ (r.kind ≡ 0))

-- of every configuration, not of the end alone
abbrev pub HaltedExact : Type 0
HaltedExact =
    (bs cs a a_now b b_now : List ℕ) (v : Verdict) (n : ℕ) (d : Config) → Bytes cs → JudgeSays bs cs (Ok (judgement v n d)) a a_now b b_now →
    (e : Config) → (v ≡ Halted) ↔ (Entered (machine bs cs) e × ((rule_of bs cs e).kind ≡ 4))

-- stuck at a rule of kind 4
abbrev pub StuckExact : Type 0
StuckExact =
    (bs cs a a_now b b_now : List ℕ) (v : Verdict) (n : ℕ) (d : Config) → Bytes cs → JudgeSays bs cs (Ok (judgement v n d)) a a_now b b_now →
    (e : Config) → ((v ≡ Stuck) × (d ≡ e)) ↔ (Entered (machine bs cs) e × ((rule_of bs cs e).kind ≡ 4))

-- the two machines exchanged
abbrev pub HaltedLikeStuck : Type 0
HaltedLikeStuck = (M : Machine) → LikeStuck (without_halting M) M

-- the same verdict, halted as it was
abbrev pub JudgedLikeStuck : Type 0
JudgedLikeStuck =
    (bs zs cs a a_now b b_now x x_now y y_now : List ℕ) (v w : Verdict) (n m : ℕ) (d e : Config) → Bytes cs → MissingForHalting bs zs →
    JudgeSays bs cs (Ok (judgement v n d)) a a_now b b_now → JudgeSays zs cs (Ok (judgement w m e)) x x_now y y_now →
    (w ≡ v) × (m ≡ n) × (e ≡ d) × (take (how_many (machine bs cs)) x_now ≡ take (how_many (machine bs cs)) a_now)
    × (take (how_many (machine bs cs)) y_now ≡ take (how_many (machine bs cs)) b_now)

-- a step is taken for the halting rule
abbrev pub RunStops : Type 0
RunStops =
    (bs cs : List ℕ) (budget n : ℕ) (x : Description) (r : Ran) (a a_now : List ℕ) → (run_refusal bs cs (length a)).number ≡ 0 →
    RunSays bs cs budget r a a_now → after n (machine bs cs) start ≡ some x → n ≤ budget →
    ((m : ℕ) (y : Description) → m ≤ n → after m (machine bs cs) start ≡ some y → length y.stack ≤ length a) →
    ((rule_of bs cs (config_of x)).kind ≡ 4 → of_ran r ≡ answer_reply 7 (suc n) (config_of x))
    × ((rule_of bs cs (config_of x)).kind ≡ 0 → of_ran r ≡ answer_reply 3 n (config_of x))

-- of any kind: the premise that it is not 4 is dropped
abbrev pub RuleAsBefore : Type 0
RuleAsBefore =
    (bs : List ℕ) (class head : ℕ) (r : Rule) →
    (rule_bad bs class r ≡ rule_bad_before bs class r) × (action_by r head ≡ action_before r head)

-- of any image: the premise that no rule halts is dropped
abbrev pub ImageAsBefore : Type 0
ImageAsBefore = (bs : List ℕ) → AsBefore bs

-- that no rule is missing, not that none halts
abbrev pub BuiltWithoutHalting : Type 0
BuiltWithoutHalting =
    (how : Matching) (gs : List ℕ) (p k a : ℕ) → p < states (built how gs) → k < classes (built how gs) + 2 → a < symbols (built how gs) →
    (rule_at (built how gs) p k a).kind ≡ Format.kind_none → ⊥

-- stuck where a rule of kind 4 stops the run
abbrev pub HaltingRows : Type 0
HaltingRows = Each RowHolds (halting_table Stuck)

-- after one step, not after none
abbrev pub HaltingRuns : Type 0
HaltingRuns = Each (HaltsAfter 1) halting_budgets

-- kind 5 for kind 4
abbrev pub HaltingImages : Type 0
HaltingImages = Each RuleRefusedSo (halting_rules 5)
