-- Wrong neighbours of the promises of Recursion.antt, each under its promise's name, with what is wrong in it. Assumes nothing: each is a type, and proofs/ has a proof that nothing is of it.
use Rattle.std.specs.Prelude.{◌≡◌, Bool, true, ◌↔◌, ℕ, suc, ◌*◌, ◌<◌, length, Ok, Err}
use mathlib.Core.List.{List, [], ◌∷◌, Memᴰ}
use Rattle.std.proofs.Math.Option.{Option, some}
use Rattle.codec.specs.Bytes.{Bytes}
use Rattle.refusal.specs.First.{refusal, no_refusal}
use Rattle.machine.specs.declared.Config.{Config}
use Rattle.machine.specs.declared.Verdict.{Verdict}
use Rattle.machine.specs.declared.Verdict.TheVariants.{Looping}
use Rattle.machine.specs.Verdicts.{GoesOn}
use Rattle.image.specs.Image.{machine}
use Rattle.simulator.specs.Calls.{judgement, JudgeSays}
use Rattle.bundle.specs.declared.Totals.{Totals}
use Rattle.bundle.specs.Answers as answers
use Rattle.bundle.specs.Calls.{BundleSays}
use Rattle.grammar.specs.Grammar.{rules, expression, grammar_refusal}
use Rattle.grammar.specs.Parsing.{Rules, Parses}
use Rattle.builder.specs.declared.Matching.{Matching}
use Rattle.builder.specs.Image.{built}
use Rattle.recursion.specs.LeftRecursion.{SuchSet, MayMatchNothing, LeadsOn, RecursionRow}
use Rattle.recursion.specs.Computed.{nothing_after, leads_on, recursion_refusal}
use Rattle.recursion_theory.specs.NeverLoops.{NeverLoops}
use Rattle.recursion_theory.specs.FirstParts.{TriesOn}
use Rattle.recursion_theory.specs.Harmless.{Harmless, fails_first, never_reached}
use Rattle.grammar_judge.specs.Calls.{Lent}
use Rattle.syntax.specs.Trees.{Tree, Definition, Defines, LegalText}
use Rattle.syntax.specs.RuleLines.{NameAt}
use Rattle.syntax_theory.specs.Meaning.{Means}
use Rattle.syntax_theory.specs.RuleOf.{LineRules}
use Rattle.syntax.specs.Compile.{grammar_of}
use Rattle.typed.specs.declared.left_recursion.RecursionFault.TheVariants.{Recursive}
use Rattle.typed.specs.Calls.{JudgeTextSays}
use Rattle.typed.specs.Recursion.{TextRecursionSays}
use Rattle.answer_line.specs.Line.{answer_line}
use Rattle.answer.specs.Input.{input_grammar}
use Rattle.answer.specs.Calls.{answer_refusal, InputSays}
use Rattle.worked_examples.specs.Examples.{Each}
use Rattle.worked_examples.specs.RecursionExamples.{RecursionSo, recursion_table}

-- the place is the rule's offset in the grammar, not its number
abbrev pub RecursionRefused : Type 0
RecursionRefused = (gs : List ℕ) (n p : ℕ) → (recursion_refusal gs ≡ refusal n (4 * p)) ↔ RecursionRow gs n p

-- one round fewer than there are rules
abbrev pub NothingExact : Type 0
NothingExact =
    (gs : List ℕ) (n k : ℕ) → (grammar_refusal gs).number ≡ 0 → rules gs ≡ suc n → k < rules gs →
    (nothing_after (expression gs) n k ≡ true) ↔ MayMatchNothing (expression gs) k

-- the greatest such set, not the least
abbrev pub NothingLeast : Type 0
NothingLeast = (E : Rules) (S : ℕ → Bool) → SuchSet E S → (k : ℕ) → S k ≡ true → MayMatchNothing E k

-- the other way round: what may match nothing does so everywhere
abbrev pub NothingMatched : Type 0
NothingMatched = (E : Rules) (cs : List ℕ) (k i : ℕ) → MayMatchNothing E k → Parses E cs k i (some i)

-- the rule that leads on and the one that it leads to swapped
abbrev pub LeadsExact : Type 0
LeadsExact =
    (gs : List ℕ) (k l : ℕ) → (grammar_refusal gs).number ≡ 0 → k < rules gs → (leads_on gs k l ≡ true) ↔ LeadsOn (expression gs) l k

-- every grammar that 11 and 12 do not refuse, whether 19 does or not
abbrev pub NeverLooping : Type 0
NeverLooping = (gs cs : List ℕ) → (grammar_refusal gs).number ≡ 0 → Bytes cs → NeverLoops gs cs

-- judging by every grammar that 11 and 12 do not refuse
abbrev pub JudgedNotLooping : Type 0
JudgedNotLooping =
    (how : Matching) (gs cs a a_now b b_now : List ℕ) (v : Verdict) (n : ℕ) (d : Config) → (grammar_refusal gs).number ≡ 0 → Bytes cs →
    JudgeSays (built how gs) cs (Ok (judgement v n d)) a a_now b b_now → v ≡ Looping → ⊥

-- the program's line for every grammar that 11 and 12 do not refuse
abbrev pub LineNotLooping : Type 0
LineNotLooping =
    (xs : List ℕ) (x y : Lent) (line : List ℕ) → (grammar_refusal (input_grammar xs)).number ≡ 0 → Bytes xs → (answer_refusal xs x).number ≡ 0 →
    InputSays xs x y line → (v : Verdict) × (n : ℕ) × (d : Config) × (line ≡ answer_line v n d) × (v ≡ Looping → ⊥)

-- the report by every grammar that 11 and 12 do not refuse
abbrev pub BundleNotLooping : Type 0
BundleNotLooping =
    (how : Matching) (gs xs : List ℕ) (n : ℕ) (t : Totals) (l m a x b y : List ℕ) → (grammar_refusal gs).number ≡ 0 → Bytes xs →
    BundleSays (built how gs) xs (answers.lines n t) l m a x b y → t.looping ≡ 0

-- rule and offset swapped
abbrev pub TextRecursionDetermined : Type 0
TextRecursionDetermined =
    (text : List ℕ) (k o l p : ℕ) → TextRecursionSays text (Err (Recursive k o)) → TextRecursionSays text (Err (Recursive l p)) →
    Recursive k o ≡ Recursive p l

-- the line begins at the rule's number, not at the offset
abbrev pub RecursionNamed : Type 0
RecursionNamed =
    (text : List ℕ) (ds : List Definition) (k o : ℕ) → TextRecursionSays text (Err (Recursive k o)) → LegalText text ds → k < length ds →
    NameAt text ds k k

-- the lines of every legal text: the premise that it passes is dropped
abbrev pub TypedResults : Type 0
TypedResults =
    (text cs : List ℕ) (ds : List Definition) (k i : ℕ) (n : List ℕ) (e : Tree) → LegalText text ds →
    Defines ds k n e → (o : Option ℕ) × Means ds cs e i o

-- judging by every text: the premise that it passes is dropped
abbrev pub TextNotLooping : Type 0
TextNotLooping =
    (text cs : List ℕ) (x y : Lent) (v : Verdict) (n : ℕ) (d : Config) → Bytes cs →
    JudgeTextSays text cs (Ok (judgement v n d)) x y → v ≡ Looping → ⊥

-- a rule that leads back to itself as the check has it, not by what is tried first alone
abbrev pub TriedFirstFails : Type 0
TriedFirstFails = (E : Rules) (k : ℕ) → LeadsOn E k k → (cs : List ℕ) (i : ℕ) (o : Option ℕ) → Parses E cs k i o → ⊥

-- wherever the rule stands: the premise that rule 0 tries it is dropped
abbrev pub TriedFirstEndless : Type 0
TriedFirstEndless =
    (how : Matching) (gs cs : List ℕ) (k : ℕ) → (grammar_refusal gs).number ≡ 0 → Bytes cs → TriesOn (expression gs) k k →
    GoesOn (machine (built how gs) cs)

-- the second is refused at its rule 0, which is empty
abbrev pub RecursionHarmless : Type 0
RecursionHarmless = Harmless fails_first 0 × Harmless never_reached 0

-- a row more: not the byte a, then the rule again, passes
abbrev pub RecursionExamples : Type 0
RecursionExamples =
    Each RecursionSo
    (record { grammar = 1 ∷ 1 ∷ 0 ∷ 0 ∷ 3 ∷ 2 ∷ 0 ∷ 0 ∷ 5 ∷ 97 ∷ 97 ∷ 0 ∷ []; refused = no_refusal } ∷ recursion_table)

-- the line begins at the rule's number, not at the offset
abbrev pub RecursionLine : Type 0
RecursionLine =
    (text : List ℕ) (ds : List Definition) (k o : ℕ) → TextRecursionSays text (Err (Recursive k o)) → LegalText text ds →
    (line : ℕ) × (at : NameAt text ds line k) × (helpers : List ℕ) × LineRules (expression (grammar_of ds)) ds at.body line helpers
    × Memᴰ k (line ∷ helpers)
