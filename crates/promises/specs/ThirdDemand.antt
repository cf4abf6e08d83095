-- THE THIRD DEMAND: reported readings are exactly the number of different configurations that the run enters; for a grammar few; the notes name for each the one that pops its entry; the judge's own steps, one chain, reach answer and notes within 4 r + 1. Assumes nothing: each claim is a type, and proofs/ has its proof.
use Rattle.std.specs.Prelude.{◌≡◌, List, ℕ, ◌+◌, ◌*◌, ◌<◌, ◌≤◌, length, get_or, take, drop, replicate, Ok}
use Rattle.std.proofs.Math.Option.{none, some}
use Rattle.machine.specs.declared.Config.{Config}
use Rattle.machine.specs.declared.Verdict.{Verdict}
use Rattle.image.specs.Format
use Rattle.machine.specs.Run.{Machine, ValidConfig, Entry, start, after, number, how_many}
use Rattle.codec.specs.Bytes.{Bytes}
use Rattle.image.specs.Image.{machine}
use Rattle.machine.specs.Verdicts.{Entered, over_base, EndsWith, EndsAt, Noted, nonzero, AllEntered, note_of, NoteRight}
use Rattle.machine.specs.Removal.{Removed, NoteTells}
use Rattle.machine.specs.Implications.{NotedByImplication}
use Rattle.image.specs.Refusals.{Unrefused}
use Rattle.chain.specs.declared.JudgeState.{JudgeState}
use Rattle.chain.specs.Chain.{ChainCorrect, start_in, environment_of, start_state, chain, reached}
use Rattle.chain.specs.NumberKept.{NumberKept}
use Rattle.simulator.specs.Calls.{judgement, ChainEnds, JudgeSays}
use Rattle.grammar.specs.Grammar.{rules, grammar_refusal}
use Rattle.builder.specs.declared.Matching.TheVariants.{Whole}
use Rattle.builder.specs.Image.{built}

-- READINGS ARE EXACTLY THE NUMBER OF DIFFERENT CONFIGURATIONS THAT THE RUN ENTERS, endless runs included: the length of a list without repeats of exactly those; every such list is as long; and as many notes are not 0
abbrev pub ReadingsEntered : Type 0
ReadingsEntered =
    (bs cs a a_now b b_now : List ℕ) (v : Verdict) (n : ℕ) (d : Config) → Bytes cs → JudgeSays bs cs (Ok (judgement v n d)) a a_now b b_now →
    AllEntered (machine bs cs) n

abbrev pub OneCount : Type 0
OneCount =
    (bs cs : List ℕ) (n m : ℕ) → Unrefused bs cs → AllEntered (machine bs cs) n → AllEntered (machine bs cs) m → n ≡ m

abbrev pub ReadingsNoted : Type 0
ReadingsNoted =
    (bs cs a a_now b b_now : List ℕ) (v : Verdict) (n : ℕ) (d : Config) → Bytes cs → JudgeSays bs cs (Ok (judgement v n d)) a a_now b b_now →
    n ≡ nonzero (how_many (machine bs cs)) a_now

-- FOR A GRAMMAR of m rules and n bytes, built to match the whole capture, at most 6 m (n + 1) + 2; for one built to match a leading part Matching.antt has the number
abbrev pub FewReadings : Type 0
FewReadings =
    (gs cs notes : List ℕ) → (grammar_refusal gs).number ≡ 0 → Bytes cs → Noted (machine (built Whole gs) cs) notes →
    nonzero (how_many (machine (built Whole gs) cs)) notes ≤ 6 * rules gs * (length cs + 1) + 2

-- THE NOTES: whatever the run enters is one of the N configurations,
abbrev pub EnteredNumbered : Type 0
EnteredNumbered =
    (bs cs : List ℕ) → Unrefused bs cs → (c : Config) → Entered (machine bs cs) c →
    ValidConfig (machine bs cs) c × (number (machine bs cs) c < how_many (machine bs cs))

-- for each one entered the note names the one that pops its entry, or that none does,
abbrev pub NotesLeft : Type 0
NotesLeft =
    (bs cs a a_now b b_now : List ℕ) (v : Verdict) (n : ℕ) (d : Config) → Bytes cs → JudgeSays bs cs (Ok (judgement v n d)) a a_now b b_now →
    (c : Config) → Entered (machine bs cs) c → NoteRight (machine bs cs) c (note_of (get_or a_now (number (machine bs cs) c) 0))

-- and every other is marked as never entered
abbrev pub OthersZero : Type 0
OthersZero =
    (bs cs a a_now b b_now : List ℕ) (v : Verdict) (n : ℕ) (d : Config) → Bytes cs → JudgeSays bs cs (Ok (judgement v n d)) a a_now b b_now →
    (c : Config) → ValidConfig (machine bs cs) c → (Entered (machine bs cs) c → ⊥) → get_or a_now (number (machine bs cs) c) 0 ≡ 0

-- a note speaks of the run itself: each time that the run enters its configuration, of the entry then on top
abbrev pub NotesTell : Type 0
NotesTell =
    (bs cs a a_now b b_now : List ℕ) (v : Verdict) (n : ℕ) (d : Config) → Bytes cs → JudgeSays bs cs (Ok (judgement v n d)) a a_now b b_now →
    (m i : ℕ) (c : Config) (base : List Entry) → after m (machine bs cs) start ≡ some (over_base c i base) →
    NoteTells (machine bs cs) m i base (note_of (get_or a_now (number (machine bs cs) c) 0))

-- so does it in any machine, for each of its configurations
abbrev pub NotesOfRun : Type 0
NotesOfRun =
    (M : Machine) (notes : List ℕ) → Noted M notes → (n i : ℕ) (c : Config) (base : List Entry) → ValidConfig M c →
    after n M start ≡ some (over_base c i base) → NoteTells M n i base (note_of (get_or notes (number M c) 0))

-- notes, one statement a cell, imply document 03's three implications
abbrev pub NotesImply : Type 0
NotesImply = (bs cs notes : List ℕ) → Unrefused bs cs → Noted (machine bs cs) notes → NotedByImplication (machine bs cs) notes

-- TERMINATORS: one at most, and the same whatever pointer the entry has,
abbrev pub OneEnd : Type 0
OneEnd =
    (M : Machine) (c d e : Config) (i j : ℕ) → EndsWith M c i d → EndsWith M c j d × (EndsWith M c j e → d ≡ e)

-- of the run itself: whenever it enters c, the entry then on top is removed from d exactly if d is c's terminator,
abbrev pub TerminatorsOfRun : Type 0
TerminatorsOfRun =
    (M : Machine) (n i : ℕ) (c d : Config) (base : List Entry) → after n M start ≡ some (over_base c i base) →
    (EndsAt M c d → Removed M n i base d) × (Removed M n i base d → EndsAt M c d)

-- the same each time, or none each time
abbrev pub SameEachTime : Type 0
SameEachTime =
    (M : Machine) (n m i j : ℕ) (c d : Config) (base ground : List Entry) → after n M start ≡ some (over_base c i base) →
    after m M start ≡ some (over_base c j ground) → Removed M n i base d → Removed M m j ground d

-- THE JUDGE'S OWN STEPS, one chain, reach the verdict within 4 r + 1, adding one to the readings exactly where a zero note turns nonzero,
abbrev pub ChainJudges : Type 0
ChainJudges = (bs cs : List ℕ) → Unrefused bs cs → ChainCorrect JudgeState chain bs cs

-- from a start made without any rule or captured byte: of the counts' eight bytes and the capture's length,
abbrev pub StartMade : Type 0
StartMade =
    (bs cs : List ℕ) →
    start_in (environment_of bs cs)
    ≡ start_state (take Format.counts_length (drop Format.counts_offset bs)) (length cs)

-- in every record of the chain, at each step up to the verdict and past it, the number kept is that of the state, head and symbol kept beside it, which is one of the machine's configurations,
abbrev pub NumberAlong : Type 0
NumberAlong = NumberKept chain (λ s. s.registers.number) (λ s. s.registers.at)

-- and the call's answer and notes are those that the chain ends with, within 4 r + 1 steps
abbrev pub JudgeByChain : Type 0
JudgeByChain =
    (bs cs a a_now b b_now : List ℕ) (v : Verdict) (n : ℕ) (d : Config) → Bytes cs → JudgeSays bs cs (Ok (judgement v n d)) a a_now b b_now →
    ChainEnds bs cs v n d (take (how_many (machine bs cs)) a_now)

-- the number itself: with n readings the chain's first verdict stands after 4 n + 1 steps at most, and it is the call's
abbrev pub FewSteps : Type 0
FewSteps =
    (bs cs a a_now b b_now : List ℕ) (v : Verdict) (n : ℕ) (d : Config) → Bytes cs → JudgeSays bs cs (Ok (judgement v n d)) a a_now b b_now →
    (k : ℕ) × (k ≤ 4 * n + 1) × (chain.verdict (reached chain bs cs k).state ≡ some v)
    × ((m : ℕ) → m < k → chain.verdict (reached chain bs cs m).state ≡ none)

-- THE FIRST N WORK CELLS ARE 0
abbrev pub WorkCleared : Type 0
WorkCleared =
    (bs cs a a_now b b_now : List ℕ) (v : Verdict) (n : ℕ) (d : Config) → Bytes cs → JudgeSays bs cs (Ok (judgement v n d)) a a_now b b_now →
    take (how_many (machine bs cs)) b_now ≡ replicate (how_many (machine bs cs)) 0
