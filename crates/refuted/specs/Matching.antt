-- Wrong neighbours of the promises of Matching.antt, each under its promise's name, with what is wrong in it. Assumes nothing: each is a type, and proofs/ has a proof that nothing is of it.
use Rattle.std.specs.Prelude.{◌≡◌, ◌&&◌, cond, List, ◌↔◌, ℕ, ◌+◌, ◌*◌, ◌<◌, ◌≤◌, ltb, eqb, length, get_or, take, Ok}
use Rattle.std.proofs.Math.Option.{Option, some}
use Rattle.codec.specs.Bytes.{Bytes}
use Rattle.machine.specs.declared.Config.{Config}
use Rattle.machine.specs.declared.Verdict.{Verdict}
use Rattle.machine.specs.declared.Verdict.TheVariants.{Accepted, Stuck}
use Rattle.machine.specs.Run.{how_many}
use Rattle.machine.specs.Verdicts.{Says, Noted, nonzero}
use Rattle.image.specs.Format
use Rattle.image.specs.Image.{machine, rule_at}
use Rattle.simulator.specs.Calls.{judgement, JudgeSays}
use Rattle.grammar.specs.Grammar.{rules, expression, grammar_refusal}
use Rattle.grammar.specs.Parsing.{Parses}
use Rattle.builder.specs.declared.Matching.TheVariants.{Whole, Leading}
use Rattle.builder.specs.Matching.{default_matching}
use Rattle.builder.specs.Classes.{class_count}
use Rattle.builder.specs.Table.{state_ok, state_count, rule}
use Rattle.builder.specs.Image.{symbols_of, built}
use Rattle.builder.specs.WholeBefore.{built_before}
use Rattle.sejimakpu.specs.Calls.{JudgeTells, BuildTells}
use Rattle.worked_examples.specs.Examples.{Each, RowHolds}
use Rattle.worked_examples.specs.LeadingExamples.{leading_table}

-- with none given it is whole
abbrev pub DefaultLeading : Type 0
DefaultLeading = default_matching ≡ Whole

-- accepts where parsing consumes all, as a whole image does
abbrev pub LeadingAccepts : Type 0
LeadingAccepts =
    (gs cs : List ℕ) → (grammar_refusal gs).number ≡ 0 → Bytes cs →
    ((d : Config) × Says (machine (built Leading gs) cs) Accepted d) ↔ Parses (expression gs) cs 0 0 (some (length cs))

-- is stuck where parsing has any result but consuming all, as a whole image is
abbrev pub LeadingStuck : Type 0
LeadingStuck =
    (gs cs : List ℕ) → (grammar_refusal gs).number ≡ 0 → Bytes cs →
    ((d : Config) × Says (machine (built Leading gs) cs) Stuck d)
    ↔ ((o : Option ℕ) × Parses (expression gs) cs 0 0 o × (o ≡ some (length cs) → ⊥))

-- the converse: what is accepted leading is accepted whole
abbrev pub WholeThenLeading : Type 0
WholeThenLeading =
    (gs cs : List ℕ) → (grammar_refusal gs).number ≡ 0 → Bytes cs → ((d : Config) × Says (machine (built Leading gs) cs) Accepted d) →
    (e : Config) × Says (machine (built Whole gs) cs) Accepted e

-- the converse, by two calls
abbrev pub JudgedWholeLeading : Type 0
JudgedWholeLeading =
    (gs cs a a_now b b_now x x_now y y_now : List ℕ) (v : Verdict) (n m : ℕ) (d e : Config) → (grammar_refusal gs).number ≡ 0 → Bytes cs →
    JudgeSays (built Leading gs) cs (Ok (judgement Accepted n d)) a a_now b b_now →
    JudgeSays (built Whole gs) cs (Ok (judgement v m e)) x x_now y y_now → v ≡ Accepted

-- it is the leading image that is as before
abbrev pub WholeAsBefore : Type 0
WholeAsBefore = (gs : List ℕ) → built Leading gs ≡ built_before gs

-- the left marker is passed as a byte is: one class more
abbrev pub LeadingOneRow : Type 0
LeadingOneRow =
    (gs : List ℕ) →
    (take Format.rules_offset (built Leading gs) ≡ take Format.rules_offset (built Whole gs))
    × ((p k a : ℕ) → p < state_count → k < class_count gs + 2 → a < symbols_of gs →
    rule_at (built Leading gs) p k a
    ≡ cond (eqb p state_ok && (ltb k (class_count gs + 1) && eqb a 0)) (rule Format.kind_change state_ok 0 Format.direction_right) (rule_at (built Whole gs) p k a))

-- n places for n + 1: the right marker's is left out
abbrev pub FewReadingsLeading : Type 0
FewReadingsLeading =
    (gs cs notes : List ℕ) → (grammar_refusal gs).number ≡ 0 → Bytes cs → Noted (machine (built Leading gs) cs) notes →
    nonzero (how_many (machine (built Leading gs) cs)) notes ≤ 6 * rules gs * length cs + length cs + 2

-- built with no choice given, rule 0 consumes all
abbrev pub BuiltAcceptedTold : Type 0
BuiltAcceptedTold =
    (grammar capture image image_now notes notes_now work work_now : List ℕ) (returned : ℕ) (counted answer : List ℕ) → Bytes capture →
    JudgeTells (take (get_or counted 2 0) image_now) capture notes notes_now work work_now returned answer → get_or answer 1 0 ≡ 1 →
    (BuildTells default_matching grammar image image_now 0 counted → Parses (expression grammar) capture 0 0 (some (length capture)))
    × (BuildTells Whole grammar image image_now 0 counted → Parses (expression grammar) capture 0 0 (some (length capture)))

-- the same answers by a whole match
abbrev pub LeadingRows : Type 0
LeadingRows = Each RowHolds (leading_table Whole)
