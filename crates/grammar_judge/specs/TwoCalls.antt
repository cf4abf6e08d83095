-- What a user gets who builds an image of a grammar, by a choice of a match, and judges a capture by it, by the two calls. Assumes nothing: these are definitions.
use Rattle.std.specs.Prelude.{◌≡◌, List, ℕ, ◌+◌, ◌*◌, ◌<◌, ◌≤◌, length, Ok}
use Rattle.std.proofs.Math.Option.{Option, none, some}
use Rattle.machine.specs.declared.Config.{Config}
use Rattle.machine.specs.declared.Verdict.{Verdict}
use Rattle.machine.specs.declared.Verdict.TheVariants.{Accepted, Ended, Stuck, Looping, Halted}
use Rattle.image.specs.Format
use Rattle.machine.specs.Run.{how_many}
use Rattle.codec.specs.Bytes.{byte}
use Rattle.image.specs.Image.{machine}
use Rattle.simulator.specs.Answers.{Judged}
use Rattle.simulator.specs.Calls.{judgement}
use Rattle.grammar.specs.Grammar.{rules, expression, grammar_refusal}
use Rattle.grammar.specs.Parsing.{Parses}
use Rattle.builder.specs.declared.Matching.{Matching}
use Rattle.builder.specs.declared.Matching.TheVariants.{Whole, Leading}
use Rattle.builder.specs.Image.{built, built_length}

-- accepted: parsing from rule 0 consumes all, or by a leading match succeeds at all; stuck: it has another result, which by a leading match is failure; looping: it has none; nothing else is said
abbrev pub AsParsed : Matching → (grammar capture : List ℕ) → Verdict → Type 0
AsParsed Whole gs cs Accepted = Parses (expression gs) cs 0 0 (some (length cs))
AsParsed Leading gs cs Accepted = (j : ℕ) × Parses (expression gs) cs 0 0 (some j)
AsParsed how gs cs Ended = ⊥
AsParsed Whole gs cs Stuck = (o : Option ℕ) × Parses (expression gs) cs 0 0 o × (o ≡ some (length cs) → ⊥)
AsParsed Leading gs cs Stuck = Parses (expression gs) cs 0 0 none
AsParsed how gs cs Looping = (o : Option ℕ) → Parses (expression gs) cs 0 0 o → ⊥
AsParsed how gs cs Halted = ⊥

-- the most readings, for m rules and n bytes: a leading match passes each of the n bytes once more at most
abbrev pub most_readings : Matching → (m n : ℕ) → ℕ
most_readings Whole m n = 6 * m * (n + 1) + 2
most_readings Leading m n = 6 * m * (n + 1) + n + 2

-- an answer, the verdict as parsing says and no other, and few readings
pub record Gets (how : Matching) (gs cs : List ℕ) (r : Judged) : Type 0 where
  pub verdict : Verdict
  pub readings : ℕ
  pub end : Config
  pub answers : r ≡ Ok (judgement verdict readings end)
  pub parsed : AsParsed how gs cs verdict
  pub only : (v : Verdict) → AsParsed how gs cs v → v ≡ verdict
  pub few : readings ≤ most_readings how (rules gs) (length cs)

-- a grammar that is not refused, a capture of bytes that is not too long, and enough room
pub record Enough (how : Matching) (gs cs image notes work : List ℕ) : Type 0 where
  pub good : (grammar_refusal gs).number ≡ 0
  pub bytes : (i : ℕ) → byte cs i < 256
  pub short : length cs ≤ Format.max_capture
  pub image_room : built_length gs ≤ length image
  pub notes_room : how_many (machine (built how gs) cs) ≤ length notes
  pub work_room : how_many (machine (built how gs) cs) ≤ length work
