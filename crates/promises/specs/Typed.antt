-- GRAMMARS AS TEXT: the earliest fault is computed, a text has one reading, the grammar read is right, and a capture judged by it is judged as the typed grammar says. Assumes nothing: each claim is a type, and proofs/ has its proof.
use Rattle.std.specs.Prelude.{◌≡◌, ◌↔◌, ℕ, ◌≤◌, length, take, Result, Ok, Err}
use mathlib.Core.List.{List, ◌∷◌, Memᴰ}
use Rattle.std.proofs.Math.Option.{Option, some}
use Rattle.refusal.specs.declared.Refusal.{Refusal}
use Rattle.codec.specs.Bytes.{Bytes}
use Rattle.machine.specs.declared.Config.{Config}
use Rattle.machine.specs.declared.Verdict.TheVariants.{Accepted, Stuck, Looping}
use Rattle.machine.specs.Verdicts.{Says}
use Rattle.machine.specs.Replies.{refusal_reply}
use Rattle.image.specs.Format.{max_capture}
use Rattle.image.specs.Image.{machine}
use Rattle.simulator.specs.Answers.{Judged}
use Rattle.simulator.specs.Replies.{of_judged}
use Rattle.grammar.specs.Grammar.{expression}
use Rattle.builder.specs.declared.Matching.TheVariants.{Whole}
use Rattle.builder.specs.Answers.{Built}
use Rattle.builder.specs.Image.{built, built_length}
use Rattle.builder.specs.Calls.{build_refusal}
use Rattle.builder.specs.Replies.{of_built}
use Rattle.syntax.specs.Tokens.{Token}
use Rattle.syntax.specs.Trees.{Tree, Definition, Defines, Reads, LegalText}
use Rattle.syntax.specs.Faults.{fault}
use Rattle.syntax.specs.FaultMeaning.{WrongAt}
use Rattle.syntax_theory.specs.Meaning.{Means}
use Rattle.syntax.specs.Needs.{later_refusal}
use Rattle.syntax.specs.Compile.{grammar_of}
use Rattle.syntax.specs.RuleLines.{LineOfRule}
use Rattle.syntax_theory.specs.RuleOf.{LineRules, TypedRight}
use Rattle.syntax.specs.Reading.{Reading, Grammar, ReadSays}
use Rattle.reader.specs.declared.GrammarBytes.{GrammarBytes}
use Rattle.reader.specs.Calls.{ReadTells}
use Rattle.grammar_judge.specs.Calls.{Lent, lent_refusal, SameRoom, SameCells}
use Rattle.typed.specs.Calls.{BuildTextSays, JudgeTextSays, BuildTextRefused, JudgeTextRefused}
use Rattle.typed.specs.TypedCalls.{TypedGrammar, TypedGets, EnoughLent}
use Rattle.worked_examples.specs.Examples.{Each}
use Rattle.worked_examples.specs.TextExamples.{ReadSo, read_table, refused_table}

-- THE COMPUTED FAULT IS THE EARLIEST ONE, and there is none exactly in a legal text
abbrev pub FaultsRight : Type 0
FaultsRight =
    (text : List ℕ) →
    ((f : Refusal) → WrongAt text f ↔ ((fault text ≡ f) × (f.number ≡ 0 → ⊥))) ×
    (((fault text).number ≡ 0) ↔ ((ds : List Definition) × LegalText text ds))

-- A TEXT HAS ONE LIST OF LINES at most, each with one syntax tree,
abbrev pub Unambiguous : Type 0
Unambiguous = (d : ℕ) (ts : List Token) (ds es : List Definition) → Reads d ts ds → Reads d ts es → ds ≡ es

-- and every text is answered, and in one way
abbrev pub ReadingExact : Type 0
ReadingExact = (text : List ℕ) → (r : Reading) × ReadSays text r × ((s : Reading) → ReadSays text s → s ≡ r)

-- THE GRAMMAR OF A LEGAL TEXT: never refused, as many rules as the table says, lines first and in order, helpers after them and none shared, and every line's rule parses as its tree means
abbrev pub TypedParses : Type 0
TypedParses = (text : List ℕ) (ds : List Definition) → LegalText text ds → (later_refusal text ds).number ≡ 0 → TypedRight ds (grammar_of ds)

-- THE RULES OF A LINE, own and helpers: those whose numbers are the line's, all of them and no others
abbrev pub RulesOfLines : Type 0
RulesOfLines =
    (text : List ℕ) (ds : List Definition) (line : ℕ) (n : List ℕ) (e : Tree) → LegalText text ds → (later_refusal text ds).number ≡ 0 →
    Defines ds line n e →
    (helpers : List ℕ) × LineRules (expression (grammar_of ds)) ds e line helpers × ((k : ℕ) → LineOfRule ds k line ↔ Memᴰ k (line ∷ helpers))

-- THE CALL `read`: what it answers follows from the text, and a refused text has no grammar
abbrev pub ReadDetermined : Type 0
ReadDetermined =
    (text : List ℕ) (r s : Result GrammarBytes Refusal) → ReadTells text r → ReadTells text s →
    (r ≡ s) × ((f : Refusal) → r ≡ Err f → (gs : List ℕ) → ReadSays text (Grammar gs) → ⊥)

-- a grammar that was read is never refused by 11 or 12, and has as many rules as the lines need
abbrev pub ReadGood : Type 0
ReadGood =
    (text : List ℕ) (r : GrammarBytes) → ReadTells text (Ok r) → TypedGrammar text (take r.length r.bytes)

-- it is that of the text: every line's rule parses as the line's tree means
abbrev pub ReadRight : Type 0
ReadRight =
    (text : List ℕ) (r : GrammarBytes) → ReadTells text (Ok r) →
    (ds : List Definition) × LegalText text ds × TypedRight ds (take r.length r.bytes)

-- A REFUSED CALL TELLS NUMBER AND PLACE AND NO VERDICT, AND CHANGES NO LENT CELL
abbrev pub BuildTextRefuses : Type 0
BuildTextRefuses =
    (text : List ℕ) (r : Built) (a a_now : List ℕ) (f : Refusal) → BuildTextSays text r a a_now → BuildTextRefused text (length a) f →
    (of_built r ≡ refusal_reply f) × (a_now ≡ a)

abbrev pub JudgeTextRefuses : Type 0
JudgeTextRefuses =
    (text cs : List ℕ) (r : Judged) (x y : Lent) (f : Refusal) → JudgeTextSays text cs r x y → JudgeTextRefused text cs x f →
    (of_judged r ≡ refusal_reply f) × (y ≡ x)

-- ANSWER AND LENT CELLS FOLLOW FROM THE INPUT ALONE
abbrev pub BuildTextDetermined : Type 0
BuildTextDetermined =
    (text a : List ℕ) (r s : Built) (x y : List ℕ) → BuildTextSays text r a x → BuildTextSays text s a y → (r ≡ s) × (x ≡ y)

abbrev pub JudgeTextDetermined : Type 0
JudgeTextDetermined =
    (text cs : List ℕ) (x : Lent) (r s : Judged) (y z : Lent) → JudgeTextSays text cs r x y → JudgeTextSays text cs s x z →
    (r ≡ s) × (y ≡ z)

-- EARLIER CONTENTS DON'T MATTER: whatever stood in slices of these lengths, the answer is the same, and so is every cell that the call writes
abbrev pub BuildTextIndependent : Type 0
BuildTextIndependent =
    (text : List ℕ) (r s : Built) (a b x y : List ℕ) → length a ≡ length b → BuildTextSays text r a x → BuildTextSays text s b y →
    (r ≡ s)
    × ((gs : List ℕ) → ReadSays text (Grammar gs) → (build_refusal gs (length a)).number ≡ 0 → take (built_length gs) x ≡ take (built_length gs) y)

abbrev pub JudgeTextIndependent : Type 0
JudgeTextIndependent =
    (text cs : List ℕ) (x y z w : Lent) (r s : Judged) → SameRoom x z → JudgeTextSays text cs r x y → JudgeTextSays text cs s z w →
    (r ≡ s) × ((gs : List ℕ) → ReadSays text (Grammar gs) → (lent_refusal gs cs x).number ≡ 0 → SameCells gs cs y w)

-- THE MACHINE OF A TYPED GRAMMAR, judging a whole capture, accepts where the first line's expression consumes all of it,
abbrev pub TypedAccepts : Type 0
TypedAccepts =
    (text cs : List ℕ) (d : Definition) (ds : List Definition) → Bytes cs → LegalText text (d ∷ ds) → (later_refusal text (d ∷ ds)).number ≡ 0 →
    ((c : Config) × Says (machine (built Whole (grammar_of (d ∷ ds))) cs) Accepted c) ↔ Means (d ∷ ds) cs d.body 0 (some (length cs))

-- is stuck where it has another result,
abbrev pub TypedStuck : Type 0
TypedStuck =
    (text cs : List ℕ) (d : Definition) (ds : List Definition) → Bytes cs → LegalText text (d ∷ ds) → (later_refusal text (d ∷ ds)).number ≡ 0 →
    ((c : Config) × Says (machine (built Whole (grammar_of (d ∷ ds))) cs) Stuck c)
    ↔ ((o : Option ℕ) × Means (d ∷ ds) cs d.body 0 o × (o ≡ some (length cs) → ⊥))

-- and loops where it has none
abbrev pub TypedLoops : Type 0
TypedLoops =
    (text cs : List ℕ) (d : Definition) (ds : List Definition) → Bytes cs → LegalText text (d ∷ ds) → (later_refusal text (d ∷ ds)).number ≡ 0 →
    length cs ≤ max_capture →
    ((c : Config) × Says (machine (built Whole (grammar_of (d ∷ ds))) cs) Looping c) ↔ ((o : Option ℕ) → Means (d ∷ ds) cs d.body 0 o → ⊥)

-- THE CALL `judge_text`, with a text that is read, a capture of bytes that is not too long, and enough room: the answer is what the typed grammar says, with few readings
abbrev pub TypedJudged : Type 0
TypedJudged = (text cs : List ℕ) (r : Judged) (x y : Lent) → EnoughLent text cs x → JudgeTextSays text cs r x y → TypedGets text cs r

-- WORKED EXAMPLES, computed: texts with their grammars, and texts with their refusals
abbrev pub TextExamples : Type 0
TextExamples = Each ReadSo read_table × Each ReadSo refused_table
