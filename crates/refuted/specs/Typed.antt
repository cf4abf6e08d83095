-- Wrong neighbours of the promises of Typed.antt, each under its promise's name, with what is wrong in it. Assumes nothing: each is a type, and proofs/ has a proof that nothing is of it.
use Rattle.std.specs.Prelude.{◌≡◌, ◌↔◌, ◌⊎◌, ℕ, suc, ◌*◌, ◌≤◌, length, take, drop, replicate, Result, Ok}
use mathlib.Core.List.{List, [], ◌∷◌, ◌++◌, Memᴰ}
use Rattle.std.proofs.Math.Option.{Option, none, some}
use Rattle.refusal.specs.declared.Refusal.{Refusal}
use Rattle.refusal.specs.First.{refusal}
use Rattle.codec.specs.Bytes.{Bytes}
use Rattle.machine.specs.declared.Config.{Config}
use Rattle.machine.specs.declared.Verdict.TheVariants.{Accepted, Stuck, Looping}
use Rattle.machine.specs.Verdicts.{Says}
use Rattle.machine.specs.Replies.{refusal_reply}
use Rattle.image.specs.Format.{max_capture}
use Rattle.image.specs.Image.{machine}
use Rattle.simulator.specs.Answers.{Judged}
use Rattle.simulator.specs.Replies.{of_judged}
use Rattle.grammar.specs.Grammar.{max_rules, expression}
use Rattle.builder.specs.declared.Matching.TheVariants.{Whole}
use Rattle.builder.specs.Answers.{Built}
use Rattle.builder.specs.Image.{built, built_length}
use Rattle.builder.specs.Calls.{build_refusal}
use Rattle.builder.specs.Replies.{of_built}
use Rattle.syntax.specs.Tokens.{Token}
use Rattle.syntax.specs.Trees.{Tree, Definition, Defines, Reads, LegalText}
use Rattle.syntax.specs.Faults.{fault}
use Rattle.syntax.specs.FaultMeaning.{WrongAt}
use Rattle.syntax_theory.specs.Meaning.{Means}
use Rattle.syntax.specs.Needs.{later_refusal}
use Rattle.syntax.specs.Compile.{grammar_of}
use Rattle.syntax.specs.RuleLines.{LineOfRule}
use Rattle.syntax_theory.specs.RuleOf.{LineRules, TypedRight}
use Rattle.syntax.specs.Reading.{Reading, Refused, Grammar, ReadSays}
use Rattle.reader.specs.declared.GrammarBytes.{GrammarBytes}
use Rattle.reader.specs.Calls.{ReadTells}
use Rattle.grammar_judge.specs.Calls.{Lent, lent, lent_refusal, SameCells}
use Rattle.typed.specs.Calls.{BuildTextSays, JudgeTextSays, BuildTextRefused, JudgeTextRefused}
use Rattle.typed.specs.TypedCalls.{TypedGrammar, TypedGets, EnoughLent}
use Rattle.worked_examples.specs.Examples.{Each}
use Rattle.worked_examples.specs.TextExamples.{ReadSo, read_table, refused_table}

-- no fault is a fault too
abbrev pub FaultsRight : Type 0
FaultsRight =
    (text : List ℕ) →
    ((f : Refusal) → WrongAt text f ↔ (fault text ≡ f)) × (((fault text).number ≡ 0) ↔ ((ds : List Definition) × LegalText text ds))

-- the other way round: lines are of one list of tokens, though brackets leave no trace
abbrev pub Unambiguous : Type 0
Unambiguous = (d : ℕ) (ts us : List Token) (ds : List Definition) → Reads d ts ds → Reads d us ds → ts ≡ us

-- every text has a grammar
abbrev pub ReadingExact : Type 0
ReadingExact = (text : List ℕ) → (gs : List ℕ) × ReadSays text (Grammar gs) × ((s : Reading) → ReadSays text s → s ≡ Grammar gs)

-- also where a name is not defined or too many rules are needed
abbrev pub TypedParses : Type 0
TypedParses = (text : List ℕ) (ds : List Definition) → LegalText text ds → TypedRight ds (grammar_of ds)

-- what holds of a refused text is said of one that is read: no grammar's bytes are a reading of it, or all bytes are 0
abbrev pub ReadDetermined : Type 0
ReadDetermined =
    (text : List ℕ) (r s : Result GrammarBytes Refusal) → ReadTells text r → ReadTells text s →
    (r ≡ s) ×
    ((g : GrammarBytes) → r ≡ Ok g →
    ((gs : List ℕ) → ReadSays text (Grammar gs) → ⊥) ⊎ ((g.length ≡ 0) × (g.bytes ≡ replicate (4 * max_rules) 0)))

-- the zero bytes behind the grammar are taken for rules
abbrev pub ReadGood : Type 0
ReadGood = (text : List ℕ) (r : GrammarBytes) → ReadTells text (Ok r) → TypedGrammar text r.bytes

-- the room taken for one byte less than it is: a buffer that just holds the image is refused
abbrev pub BuildTextRefuses : Type 0
BuildTextRefuses =
    (text : List ℕ) (r : Built) (n : ℕ) (a a_now : List ℕ) (f : Refusal) → length a ≡ suc n → BuildTextSays text r a a_now →
    BuildTextRefused text n f → (of_built r ≡ refusal_reply f) × (a_now ≡ a)

-- notes and work swapped
abbrev pub JudgeTextRefuses : Type 0
JudgeTextRefuses =
    (text cs : List ℕ) (r : Judged) (x y : Lent) (f : Refusal) → JudgeTextSays text cs r x y → JudgeTextRefused text cs x f →
    (of_judged r ≡ refusal_reply f) × (y ≡ lent x.image x.work x.notes)

-- the buffer is as it was
abbrev pub BuildTextDetermined : Type 0
BuildTextDetermined =
    (text a : List ℕ) (r s : Built) (x y : List ℕ) → BuildTextSays text r a x → BuildTextSays text s a y → (r ≡ s) × (x ≡ a)

-- notes and work swapped
abbrev pub JudgeTextDetermined : Type 0
JudgeTextDetermined =
    (text cs : List ℕ) (x : Lent) (r s : Judged) (y z : Lent) → JudgeTextSays text cs r x y → JudgeTextSays text cs s x z →
    (r ≡ s) × (y ≡ lent z.image z.work z.notes)

-- one byte more than the image has
abbrev pub BuildTextIndependent : Type 0
BuildTextIndependent =
    (text : List ℕ) (r s : Built) (a b x y : List ℕ) → length a ≡ length b → BuildTextSays text r a x → BuildTextSays text s b y →
    (r ≡ s)
    × ((gs : List ℕ) → ReadSays text (Grammar gs) → (build_refusal gs (length a)).number ≡ 0 → take (suc (built_length gs)) x ≡ take (suc (built_length gs)) y)

-- however long the two image buffers are
abbrev pub JudgeTextIndependent : Type 0
JudgeTextIndependent =
    (text cs : List ℕ) (x y z w : Lent) (r s : Judged) → length x.notes ≡ length z.notes → length x.work ≡ length z.work →
    JudgeTextSays text cs r x y → JudgeTextSays text cs s z w →
    (r ≡ s) × ((gs : List ℕ) → ReadSays text (Grammar gs) → (lent_refusal gs cs x).number ≡ 0 → SameCells gs cs y w)

-- accepts where the first line's expression consumes a leading part
abbrev pub TypedAccepts : Type 0
TypedAccepts =
    (text cs : List ℕ) (d : Definition) (ds : List Definition) → Bytes cs → LegalText text (d ∷ ds) → (later_refusal text (d ∷ ds)).number ≡ 0 →
    ((c : Config) × Says (machine (built Whole (grammar_of (d ∷ ds))) cs) Accepted c) ↔ ((j : ℕ) × Means (d ∷ ds) cs d.body 0 (some j))

-- is stuck where it has any result
abbrev pub TypedStuck : Type 0
TypedStuck =
    (text cs : List ℕ) (d : Definition) (ds : List Definition) → Bytes cs → LegalText text (d ∷ ds) → (later_refusal text (d ∷ ds)).number ≡ 0 →
    ((c : Config) × Says (machine (built Whole (grammar_of (d ∷ ds))) cs) Stuck c) ↔ ((o : Option ℕ) × Means (d ∷ ds) cs d.body 0 o)

-- loops where it fails
abbrev pub TypedLoops : Type 0
TypedLoops =
    (text cs : List ℕ) (d : Definition) (ds : List Definition) → Bytes cs → LegalText text (d ∷ ds) → (later_refusal text (d ∷ ds)).number ≡ 0 →
    length cs ≤ max_capture →
    ((c : Config) × Says (machine (built Whole (grammar_of (d ∷ ds))) cs) Looping c) ↔ Means (d ∷ ds) cs d.body 0 none

-- with room for an empty capture, whatever the capture
abbrev pub TypedJudged : Type 0
TypedJudged = (text cs : List ℕ) (r : Judged) (x y : Lent) → EnoughLent text [] x → Bytes cs → JudgeTextSays text cs r x y → TypedGets text cs r

-- of a text that is refused too: the premise that it is read is dropped, but for what its rules are
abbrev pub ReadRight : Type 0
ReadRight =
    (text : List ℕ) (r : Result GrammarBytes Refusal) → ReadTells text r →
    (ds : List Definition) × LegalText text ds × ((g : GrammarBytes) → r ≡ Ok g → TypedRight ds (take g.length g.bytes))

-- the line's own rule is left out
abbrev pub RulesOfLines : Type 0
RulesOfLines =
    (text : List ℕ) (ds : List Definition) (line : ℕ) (n : List ℕ) (e : Tree) → LegalText text ds → (later_refusal text ds).number ≡ 0 →
    Defines ds line n e →
    (helpers : List ℕ) × LineRules (expression (grammar_of ds)) ds e line helpers × ((k : ℕ) → LineOfRule ds k line ↔ Memᴰ k helpers)

-- a text with an undefined name is refused there, though another fault comes later
abbrev pub TextExamples : Type 0
TextExamples =
    Each ReadSo read_table
    × Each ReadSo (take 9 refused_table ++ (record { text = "a=b;c"; reading = Refused (refusal 15 2) } ∷ drop 10 refused_table))
