-- LEADING MATCH BY DEFAULT: building takes a choice, whole or leading, and with none given it is leading; a leading image accepts if rule 0 succeeds at all, and differs from a whole one in one row; a whole one is as before; for leading images no cost passes 6 m (n + 1) + n + 2. What is the same by either choice stands in the other files. Assumes nothing: each claim is a type, and proofs/ has its proof.
use Rattle.std.specs.Prelude.{◌≡◌, ◌&&◌, cond, List, ◌↔◌, ℕ, ◌+◌, ◌*◌, ◌<◌, ◌≤◌, ltb, eqb, length, get_or, take, Ok}
use Rattle.std.proofs.Math.Option.{none, some}
use Rattle.codec.specs.Bytes.{Bytes}
use Rattle.machine.specs.declared.Config.{Config}
use Rattle.machine.specs.declared.Verdict.{Verdict}
use Rattle.machine.specs.declared.Verdict.TheVariants.{Accepted, Stuck}
use Rattle.machine.specs.Run.{how_many}
use Rattle.machine.specs.Verdicts.{Says, Noted, nonzero}
use Rattle.image.specs.Format
use Rattle.image.specs.Image.{machine, rule_at}
use Rattle.simulator.specs.Calls.{judgement, JudgeSays}
use Rattle.grammar.specs.Grammar.{rules, expression, grammar_refusal}
use Rattle.grammar.specs.Parsing.{Parses}
use Rattle.builder.specs.declared.Matching.TheVariants.{Whole, Leading}
use Rattle.builder.specs.Matching.{default_matching}
use Rattle.builder.specs.Classes.{class_count}
use Rattle.builder.specs.Table.{state_ok, state_count, rule}
use Rattle.builder.specs.Image.{symbols_of, built}
use Rattle.builder.specs.WholeBefore.{built_before}
use Rattle.sejimakpu.specs.Calls.{JudgeTells, BuildTells}
use Rattle.worked_examples.specs.Examples.{Each, RowHolds}
use Rattle.worked_examples.specs.LeadingExamples.{leading_table}

-- WITH NONE GIVEN IT IS LEADING
abbrev pub DefaultLeading : Type 0
DefaultLeading = default_matching ≡ Leading

-- A LEADING IMAGE ACCEPTS IF RULE 0 SUCCEEDS AT ALL,
abbrev pub LeadingAccepts : Type 0
LeadingAccepts =
    (gs cs : List ℕ) → (grammar_refusal gs).number ≡ 0 → Bytes cs →
    ((d : Config) × Says (machine (built Leading gs) cs) Accepted d) ↔ ((j : ℕ) × Parses (expression gs) cs 0 0 (some j))

-- and is stuck if it fails; where parsing has no result it loops, and it is never ended or halted (`built_loops`, `built_goes_on`, `built_not_ended`, `built_not_halted`)
abbrev pub LeadingStuck : Type 0
LeadingStuck =
    (gs cs : List ℕ) → (grammar_refusal gs).number ≡ 0 → Bytes cs →
    ((d : Config) × Says (machine (built Leading gs) cs) Stuck d) ↔ Parses (expression gs) cs 0 0 none

-- A CAPTURE ACCEPTED WHOLE IS ACCEPTED LEADING: by the two machines,
abbrev pub WholeThenLeading : Type 0
WholeThenLeading =
    (gs cs : List ℕ) → (grammar_refusal gs).number ≡ 0 → Bytes cs → ((d : Config) × Says (machine (built Whole gs) cs) Accepted d) →
    (e : Config) × Says (machine (built Leading gs) cs) Accepted e

-- and by two calls of judging that answer
abbrev pub JudgedWholeLeading : Type 0
JudgedWholeLeading =
    (gs cs a a_now b b_now x x_now y y_now : List ℕ) (v : Verdict) (n m : ℕ) (d e : Config) → (grammar_refusal gs).number ≡ 0 → Bytes cs →
    JudgeSays (built Whole gs) cs (Ok (judgement Accepted n d)) a a_now b b_now →
    JudgeSays (built Leading gs) cs (Ok (judgement v m e)) x x_now y y_now → v ≡ Accepted

-- A WHOLE IMAGE IS AS BEFORE, byte for byte,
abbrev pub WholeAsBefore : Type 0
WholeAsBefore = (gs : List ℕ) → built Whole gs ≡ built_before gs

-- and a leading one differs from it in one row: ok on a byte with symbol 0 changes to itself and moves right; what stands before the rules is the same
abbrev pub LeadingOneRow : Type 0
LeadingOneRow =
    (gs : List ℕ) →
    (take Format.rules_offset (built Leading gs) ≡ take Format.rules_offset (built Whole gs))
    × ((p k a : ℕ) → p < state_count → k < class_count gs + 2 → a < symbols_of gs →
    rule_at (built Leading gs) p k a
    ≡ cond (eqb p state_ok && (ltb k (class_count gs) && eqb a 0)) (rule Format.kind_change state_ok 0 Format.direction_right) (rule_at (built Whole gs) p k a))

-- FOR A GRAMMAR of m rules and n bytes, built to match a leading part, at most 6 m (n + 1) + n + 2 readings
abbrev pub FewReadingsLeading : Type 0
FewReadingsLeading =
    (gs cs notes : List ℕ) → (grammar_refusal gs).number ≡ 0 → Bytes cs → Noted (machine (built Leading gs) cs) notes →
    nonzero (how_many (machine (built Leading gs) cs)) notes ≤ 6 * rules gs * (length cs + 1) + length cs + 2

-- THE LIBRARY FOR C: who builds an image, judges by so many bytes as its answer counts and tests the verdict for 1 is never wrong: built with no choice given, rule 0 succeeds; built whole, it consumes all
abbrev pub BuiltAcceptedTold : Type 0
BuiltAcceptedTold =
    (grammar capture image image_now notes notes_now work work_now : List ℕ) (returned : ℕ) (counted answer : List ℕ) → Bytes capture →
    JudgeTells (take (get_or counted 2 0) image_now) capture notes notes_now work work_now returned answer → get_or answer 1 0 ≡ 1 →
    (BuildTells default_matching grammar image image_now 0 counted → (j : ℕ) × Parses (expression grammar) capture 0 0 (some j))
    × (BuildTells Whole grammar image image_now 0 counted → Parses (expression grammar) capture 0 0 (some (length capture)))

-- WORKED EXAMPLES, computed: the grammars of C1 to C9 by a leading match, and captures that go on after it
abbrev pub LeadingRows : Type 0
LeadingRows = Each RowHolds (leading_table Leading)
