-- What a user gets who judges a capture by a grammar as text. Assumes nothing: these are definitions.
use Rattle.std.specs.Prelude.{◌≡◌, List, ◌∷◌, ℕ, ◌+◌, ◌*◌, ◌≤◌, length, Ok}
use Rattle.std.proofs.Math.Option.{Option, none, some}
use Rattle.codec.specs.Bytes.{Bytes}
use Rattle.machine.specs.declared.Config.{Config}
use Rattle.machine.specs.declared.Verdict.{Verdict}
use Rattle.machine.specs.declared.Verdict.TheVariants.{Accepted, Ended, Stuck, Looping, Halted}
use Rattle.machine.specs.Run.{how_many}
use Rattle.image.specs.Format
use Rattle.image.specs.Image.{machine}
use Rattle.simulator.specs.Answers.{Judged}
use Rattle.simulator.specs.Calls.{judgement}
use Rattle.grammar.specs.Grammar.{rules, grammar_refusal}
use Rattle.builder.specs.declared.Matching.{Matching}
use Rattle.builder.specs.declared.Matching.TheVariants.{Whole, Leading}
use Rattle.builder.specs.Image.{built, built_length}
use Rattle.syntax.specs.Trees.{Definition, LegalText}
use Rattle.syntax_theory.specs.Meaning.{Means}
use Rattle.syntax.specs.Needs.{needs}
use Rattle.syntax.specs.Reading.{Grammar, ReadSays}
use Rattle.grammar_judge.specs.Calls.{Lent}

-- a grammar that was read: its text is legal, 11 and 12 don't refuse it, and it has as many rules as the text's lines need
pub record TypedGrammar (text gs : List ℕ) : Type 0 where
  pub lines : List Definition
  pub legal : LegalText text lines
  pub good : (grammar_refusal gs).number ≡ 0
  pub counted : rules gs ≡ needs lines

-- accepted: the first line's expression consumes all, or by a leading match succeeds at all; stuck: it has another result, which by a leading match is failure; looping: it has none; nothing else is said
abbrev pub AsTyped : Matching → (first : Definition) → (rest : List Definition) → (capture : List ℕ) → Verdict → Type 0
AsTyped Whole d ds cs Accepted = Means (d ∷ ds) cs d.body 0 (some (length cs))
AsTyped Leading d ds cs Accepted = (j : ℕ) × Means (d ∷ ds) cs d.body 0 (some j)
AsTyped how d ds cs Ended = ⊥
AsTyped Whole d ds cs Stuck = (o : Option ℕ) × Means (d ∷ ds) cs d.body 0 o × (o ≡ some (length cs) → ⊥)
AsTyped Leading d ds cs Stuck = Means (d ∷ ds) cs d.body 0 none
AsTyped how d ds cs Looping = (o : Option ℕ) → Means (d ∷ ds) cs d.body 0 o → ⊥
AsTyped how d ds cs Halted = ⊥

-- a text is legal, and its lines give a capture this verdict
pub record TextSays (how : Matching) (text cs : List ℕ) (v : Verdict) : Type 0 where
  pub first : Definition
  pub rest : List Definition
  pub legal : LegalText text (first ∷ rest)
  pub meant : AsTyped how first rest cs v

-- an answer, the verdict as the typed grammar says and no other, and few readings
pub record TypedGets (text cs : List ℕ) (r : Judged) : Type 0 where
  pub first : Definition
  pub rest : List Definition
  pub legal : LegalText text (first ∷ rest)
  pub verdict : Verdict
  pub readings : ℕ
  pub end : Config
  pub answers : r ≡ Ok (judgement verdict readings end)
  pub meant : AsTyped Whole first rest cs verdict
  pub only : (v : Verdict) → AsTyped Whole first rest cs v → v ≡ verdict
  pub few : readings ≤ 6 * needs (first ∷ rest) * (length cs + 1) + 2

-- a text that is read, a capture of bytes that is not too long, and enough room
pub record EnoughLent (text cs : List ℕ) (x : Lent) : Type 0 where
  pub grammar : List ℕ
  pub read : ReadSays text (Grammar grammar)
  pub bytes : Bytes cs
  pub short : length cs ≤ Format.max_capture
  pub image_room : built_length grammar ≤ length x.image
  pub notes_room : how_many (machine (built Whole grammar) cs) ≤ length x.notes
  pub work_room : how_many (machine (built Whole grammar) cs) ≤ length x.work
