-- LEFT RECURSION FOUND BEFORE THE SHIFT: the check answers 19 with the lowest rule that leads back to itself, after 11 and 12, and a user whose grammar passes never meets the verdict looping, on any capture. Assumes nothing: each claim is a type, and proofs/ has its proof.
use Rattle.std.specs.Prelude.{◌≡◌, Bool, true, ◌↔◌, ℕ, ◌<◌, length, Ok, Err}
use mathlib.Core.List.{List, ◌∷◌, Memᴰ}
use Rattle.std.proofs.Math.Option.{Option, some}
use Rattle.codec.specs.Bytes.{Bytes}
use Rattle.refusal.specs.First.{refusal}
use Rattle.machine.specs.declared.Config.{Config}
use Rattle.machine.specs.declared.Verdict.{Verdict}
use Rattle.machine.specs.declared.Verdict.TheVariants.{Looping}
use Rattle.machine.specs.Verdicts.{GoesOn}
use Rattle.image.specs.Image.{machine}
use Rattle.simulator.specs.Calls.{judgement, JudgeSays}
use Rattle.bundle.specs.declared.Totals.{Totals}
use Rattle.bundle.specs.Answers as answers
use Rattle.bundle.specs.Calls.{BundleSays}
use Rattle.grammar.specs.Grammar.{rules, expression, grammar_refusal}
use Rattle.grammar.specs.Parsing.{Rules, Parses}
use Rattle.builder.specs.declared.Matching.{Matching}
use Rattle.builder.specs.Image.{built}
use Rattle.recursion.specs.LeftRecursion.{SuchSet, MayMatchNothing, LeadsOn, RecursionRow}
use Rattle.recursion.specs.Computed.{nothing_of, leads_on, recursion_refusal}
use Rattle.recursion_theory.specs.NeverLoops.{NeverLoops}
use Rattle.recursion_theory.specs.FirstParts.{TriesOn}
use Rattle.recursion_theory.specs.Harmless.{Harmless, fails_first, never_reached}
use Rattle.grammar_judge.specs.Calls.{Lent}
use Rattle.syntax.specs.Trees.{Tree, Definition, Defines, LegalText}
use Rattle.syntax_theory.specs.Meaning.{Means}
use Rattle.syntax_theory.specs.RuleOf.{LineRules}
use Rattle.syntax.specs.Compile.{grammar_of}
use Rattle.syntax.specs.RuleLines.{NameAt}
use Rattle.typed.specs.declared.left_recursion.RecursionFault.TheVariants.{Recursive}
use Rattle.typed.specs.Calls.{JudgeTextSays}
use Rattle.typed.specs.Recursion.{TextRecursion, TextRecursionSays}
use Rattle.answer_line.specs.Line.{answer_line}
use Rattle.answer.specs.Input.{input_grammar}
use Rattle.answer.specs.Calls.{answer_refusal, InputSays}
use Rattle.worked_examples.specs.Examples.{Each}
use Rattle.worked_examples.specs.RecursionExamples.{RecursionSo, recursion_table}

-- THE CHECK'S REFUSAL IS THAT OF ITS ROW: 11 and 12 as a grammar has them, then 19 at the lowest rule that leads back to itself; 0 at 0, no refusal, exactly if no rule does
abbrev pub RecursionRefused : Type 0
RecursionRefused = (gs : List ℕ) (n p : ℕ) → (recursion_refusal gs ≡ refusal n p) ↔ RecursionRow gs n p

-- THE RULES FOUND ARE THOSE THAT MAY MATCH NOTHING, all of them and no others,
abbrev pub NothingExact : Type 0
NothingExact =
    (gs : List ℕ) (k : ℕ) → (grammar_refusal gs).number ≡ 0 → k < rules gs → (nothing_of gs k ≡ true) ↔ MayMatchNothing (expression gs) k

-- which are in every set that has what the request's words ask for: they are the least such set,
abbrev pub NothingLeast : Type 0
NothingLeast = (E : Rules) (S : ℕ → Bool) → SuchSet E S → (k : ℕ) → MayMatchNothing E k → S k ≡ true

-- and a rule that matches nothing somewhere, in some capture, is among them
abbrev pub NothingMatched : Type 0
NothingMatched = (E : Rules) (cs : List ℕ) (k i : ℕ) → Parses E cs k i (some i) → MayMatchNothing E k

-- A RULE LEADS ON TO THOSE THAT ARE FOUND, all of them and no others
abbrev pub LeadsExact : Type 0
LeadsExact =
    (gs : List ℕ) (k l : ℕ) → (grammar_refusal gs).number ≡ 0 → k < rules gs → (leads_on gs k l ≡ true) ↔ LeadsOn (expression gs) k l

-- A GRAMMAR THAT PASSES: on every capture parsing has a result from every rule at every place, and its machine's run, by either choice of a match, comes to an end and is not looping
abbrev pub NeverLooping : Type 0
NeverLooping = (gs cs : List ℕ) → (recursion_refusal gs).number ≡ 0 → Bytes cs → NeverLoops gs cs

-- judging by it never says looping,
abbrev pub JudgedNotLooping : Type 0
JudgedNotLooping =
    (how : Matching) (gs cs a a_now b b_now : List ℕ) (v : Verdict) (n : ℕ) (d : Config) → (recursion_refusal gs).number ≡ 0 → Bytes cs →
    JudgeSays (built how gs) cs (Ok (judgement v n d)) a a_now b b_now → v ≡ Looping → ⊥

-- nor does the program: its line is one of the other verdicts,
abbrev pub LineNotLooping : Type 0
LineNotLooping =
    (xs : List ℕ) (x y : Lent) (line : List ℕ) → (recursion_refusal (input_grammar xs)).number ≡ 0 → Bytes xs → (answer_refusal xs x).number ≡ 0 →
    InputSays xs x y line → (v : Verdict) × (n : ℕ) × (d : Config) × (line ≡ answer_line v n d) × (v ≡ Looping → ⊥)

-- nor does the report on a bundle: it counts no line that is looping
abbrev pub BundleNotLooping : Type 0
BundleNotLooping =
    (how : Matching) (gs xs : List ℕ) (n : ℕ) (t : Totals) (l m a x b y : List ℕ) → (recursion_refusal gs).number ≡ 0 → Bytes xs →
    BundleSays (built how gs) xs (answers.lines n t) l m a x b y → t.looping ≡ 0

-- THE CHECK OF A TYPED GRAMMAR: what it answers follows from the text,
abbrev pub TextRecursionDetermined : Type 0
TextRecursionDetermined =
    (text : List ℕ) (r s : TextRecursion) → TextRecursionSays text r → TextRecursionSays text s → r ≡ s

-- a rule that has a name is named by it: at the offset the rule's own line begins, and the line's name stands there,
abbrev pub RecursionNamed : Type 0
RecursionNamed =
    (text : List ℕ) (ds : List Definition) (k o : ℕ) → TextRecursionSays text (Err (Recursive k o)) → LegalText text ds → k < length ds →
    NameAt text ds k o

-- any rule by the line that it was made for, itself or as a helper,
abbrev pub RecursionLine : Type 0
RecursionLine =
    (text : List ℕ) (ds : List Definition) (k o : ℕ) → TextRecursionSays text (Err (Recursive k o)) → LegalText text ds →
    (line : ℕ) × (at : NameAt text ds line o) × (helpers : List ℕ) × LineRules (expression (grammar_of ds)) ds at.body line helpers
    × Memᴰ k (line ∷ helpers)

-- in a text that passes the expression of every line has a result, at every place of every capture,
abbrev pub TypedResults : Type 0
TypedResults =
    (text cs : List ℕ) (ds : List Definition) (k i : ℕ) (n : List ℕ) (e : Tree) → TextRecursionSays text (Ok tt) → LegalText text ds →
    Defines ds k n e → (o : Option ℕ) × Means ds cs e i o

-- and judging by it never says looping
abbrev pub TextNotLooping : Type 0
TextNotLooping =
    (text cs : List ℕ) (x y : Lent) (v : Verdict) (n : ℕ) (d : Config) → TextRecursionSays text (Ok tt) → Bytes cs →
    JudgeTextSays text cs (Ok (judgement v n d)) x y → v ≡ Looping → ⊥

-- THE OTHER WAY ROUND, as far as it is true: a rule that leads back to itself by what is tried first alone has no result, at any place of any capture,
abbrev pub TriedFirstFails : Type 0
TriedFirstFails = (E : Rules) (k : ℕ) → TriesOn E k k → (cs : List ℕ) (i : ℕ) (o : Option ℕ) → Parses E cs k i o → ⊥

-- and where it is what rule 0 tries first, the machine goes on for ever on every capture
abbrev pub TriedFirstEndless : Type 0
TriedFirstEndless =
    (how : Matching) (gs cs : List ℕ) (k : ℕ) → (grammar_refusal gs).number ≡ 0 → Bytes cs → TriesOn (expression gs) 0 k → TriesOn (expression gs) k k →
    GoesOn (machine (built how gs) cs)

-- but a grammar that is refused by 19 may judge every capture: the rule may fail before it comes back to itself, or never be met
abbrev pub RecursionHarmless : Type 0
RecursionHarmless = Harmless fails_first 0 × Harmless never_reached 1

-- WORKED EXAMPLES, computed: grammars with their refusals, those of C1 to C9 among them
abbrev pub RecursionExamples : Type 0
RecursionExamples = Each RecursionSo recursion_table
