-- Wrong neighbours of the promises of ThirdDemand.antt, each under its promise's name, with what is wrong in it. Assumes nothing: each is a type, and proofs/ has a proof that nothing is of it.
use Rattle.std.specs.Prelude.{◌≡◌, List, ℕ, suc, ◌+◌, ◌*◌, ◌<◌, ◌≤◌, length, get_or, take, drop, replicate, Ok}
use Rattle.std.proofs.Math.Option.{none, some}
use Rattle.machine.specs.declared.Config.{Config}
use Rattle.machine.specs.declared.Verdict.{Verdict}
use Rattle.image.specs.Format
use Rattle.machine.specs.Run.{Machine, ValidConfig, Entry, config, start, after, number, how_many}
use Rattle.codec.specs.Bytes.{Bytes}
use Rattle.image.specs.Image.{machine}
use Rattle.machine.specs.Verdicts.{Entered, over_base, EndsAt, NoEnd, Noted, nonzero, AllEntered, note_of, NoteRight}
use Rattle.machine.specs.Removal.{Removed, NoteTells}
use Rattle.machine.specs.Implications.{NotedByImplication}
use Rattle.image.specs.Refusals.{Unrefused}
use Rattle.chain.specs.declared.JudgeState.{JudgeState}
use Rattle.chain.specs.Chain.{ChainCorrect, start_in, environment_of, start_state, chain, reached}
use Rattle.chain.specs.NumberKept.{NumberKept}
use Rattle.simulator.specs.Calls.{judgement, ChainEnds, JudgeSays}
use Rattle.grammar.specs.Grammar.{rules, grammar_refusal}
use Rattle.builder.specs.declared.Matching.TheVariants.{Whole}
use Rattle.builder.specs.Image.{built}

-- READINGS: one reading too few, as if the start did not count
abbrev pub ReadingsEntered : Type 0
ReadingsEntered =
    (bs cs a a_now b b_now : List ℕ) (v : Verdict) (n : ℕ) (d : Config) → Bytes cs → JudgeSays bs cs (Ok (judgement v n d)) a a_now b b_now →
    AllEntered (machine bs cs) (suc n)

-- the same number whatever the capture
abbrev pub OneCount : Type 0
OneCount =
    (bs cs ds : List ℕ) (n m : ℕ) → Unrefused bs cs → Unrefused bs ds → AllEntered (machine bs cs) n → AllEntered (machine bs ds) m → n ≡ m

-- counted over all cells that are lent, not over the first N
abbrev pub ReadingsNoted : Type 0
ReadingsNoted =
    (bs cs a a_now b b_now : List ℕ) (v : Verdict) (n : ℕ) (d : Config) → Bytes cs → JudgeSays bs cs (Ok (judgement v n d)) a a_now b b_now →
    n ≡ nonzero (length a_now) a_now

-- three configurations for each rule and place, where a rule has six
abbrev pub FewReadings : Type 0
FewReadings =
    (gs cs notes : List ℕ) → (grammar_refusal gs).number ≡ 0 → Bytes cs → Noted (machine (built Whole gs) cs) notes →
    nonzero (how_many (machine (built Whole gs) cs)) notes ≤ 3 * rules gs * (length cs + 1) + 2

-- NOTES: the bound one smaller, so that the last configuration is never entered
abbrev pub EnteredNumbered : Type 0
EnteredNumbered =
    (bs cs : List ℕ) → Unrefused bs cs → (c : Config) → Entered (machine bs cs) c →
    ValidConfig (machine bs cs) c × (suc (number (machine bs cs) c) < how_many (machine bs cs))

-- in the cell after the configuration's own
abbrev pub NotesLeft : Type 0
NotesLeft =
    (bs cs a a_now b b_now : List ℕ) (v : Verdict) (n : ℕ) (d : Config) → Bytes cs → JudgeSays bs cs (Ok (judgement v n d)) a a_now b b_now →
    (c : Config) → Entered (machine bs cs) c → NoteRight (machine bs cs) c (note_of (get_or a_now (suc (number (machine bs cs) c)) 0))

-- 0 for what has no terminator, entered or not
abbrev pub OthersZero : Type 0
OthersZero =
    (bs cs a a_now b b_now : List ℕ) (v : Verdict) (n : ℕ) (d : Config) → Bytes cs → JudgeSays bs cs (Ok (judgement v n d)) a a_now b b_now →
    (c : Config) → ValidConfig (machine bs cs) c → NoEnd (machine bs cs) c → get_or a_now (number (machine bs cs) c) 0 ≡ 0

-- the cells as they were lent, not as they are left
abbrev pub NotesTell : Type 0
NotesTell =
    (bs cs a a_now b b_now : List ℕ) (v : Verdict) (n : ℕ) (d : Config) → Bytes cs → JudgeSays bs cs (Ok (judgement v n d)) a a_now b b_now →
    (m i : ℕ) (c : Config) (base : List Entry) → after m (machine bs cs) start ≡ some (over_base c i base) →
    NoteTells (machine bs cs) m i base (note_of (get_or a (number (machine bs cs) c) 0))

-- a closed note is 1 more than a number, not 2
abbrev pub NotesOfRun : Type 0
NotesOfRun =
    (M : Machine) (notes : List ℕ) → Noted M notes → (n i : ℕ) (c : Config) (base : List Entry) → ValidConfig M c →
    after n M start ≡ some (over_base c i base) → NoteTells M n i base (note_of (suc (get_or notes (number M c) 0)))

-- whatever the image: the premise that it is not refused is dropped
abbrev pub NotesImply : Type 0
NotesImply = (bs cs notes : List ℕ) → Noted (machine bs cs) notes → NotedByImplication (machine bs cs) notes

-- TERMINATORS: the same whatever head the configuration has, not whatever pointer the entry has
abbrev pub OneEnd : Type 0
OneEnd =
    (M : Machine) (p a i j : ℕ) (d e : Config) → EndsAt M (config p i a) d →
    EndsAt M (config p j a) d × (EndsAt M (config p j a) e → d ≡ e)

-- the second part with configuration and terminator exchanged
abbrev pub TerminatorsOfRun : Type 0
TerminatorsOfRun =
    (M : Machine) (n i : ℕ) (c d : Config) (base : List Entry) → after n M start ≡ some (over_base c i base) →
    (EndsAt M c d → Removed M n i base d) × (Removed M n i base d → EndsAt M d c)

-- on the same entries each time: those below are the first time's
abbrev pub SameEachTime : Type 0
SameEachTime =
    (M : Machine) (n m i j : ℕ) (c d : Config) (base ground : List Entry) → after n M start ≡ some (over_base c i base) →
    after m M start ≡ some (over_base c j ground) → Removed M n i base d → Removed M m j base d

-- THE JUDGE'S OWN STEPS: whatever the image, the premise that it is not refused is dropped
abbrev pub ChainJudges : Type 0
ChainJudges = (bs cs : List ℕ) → ChainCorrect JudgeState chain bs cs

-- of the tape's length, the two markers counted, for the capture's
abbrev pub StartMade : Type 0
StartMade =
    (bs cs : List ℕ) →
    start_in (environment_of bs cs)
    ≡ start_state (take Format.counts_length (drop Format.counts_offset bs)) (length cs + 2)

-- configurations numbered from 1 on
abbrev pub NumberAlong : Type 0
NumberAlong = NumberKept chain (λ s. suc s.registers.number) (λ s. s.registers.at)

-- all cells that are lent, not the first N
abbrev pub JudgeByChain : Type 0
JudgeByChain =
    (bs cs a a_now b b_now : List ℕ) (v : Verdict) (n : ℕ) (d : Config) → Bytes cs → JudgeSays bs cs (Ok (judgement v n d)) a a_now b b_now →
    ChainEnds bs cs v n d a_now

-- two steps a reading, not four
abbrev pub FewSteps : Type 0
FewSteps =
    (bs cs a a_now b b_now : List ℕ) (v : Verdict) (n : ℕ) (d : Config) → Bytes cs → JudgeSays bs cs (Ok (judgement v n d)) a a_now b b_now →
    (k : ℕ) × (k ≤ 2 * n + 1) × (chain.verdict (reached chain bs cs k).state ≡ some v)
    × ((m : ℕ) → m < k → chain.verdict (reached chain bs cs m).state ≡ none)

-- all work cells that are lent, not the first N
abbrev pub WorkCleared : Type 0
WorkCleared =
    (bs cs a a_now b b_now : List ℕ) (v : Verdict) (n : ℕ) (d : Config) → Bytes cs → JudgeSays bs cs (Ok (judgement v n d)) a a_now b b_now →
    b_now ≡ replicate (length b_now) 0
