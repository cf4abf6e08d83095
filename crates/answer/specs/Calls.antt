-- What the call `answer` leaves in the lent buffers, by cases: refusal 14, then 11 to 13, then 7 to 9, then what judging says. A refused call changes none of them. Assumes nothing: these are definitions.
use Rattle.std.specs.Prelude.{◌≡◌, List, ◌++◌, ℕ, zero, suc, drop, Err, Ok}
use Rattle.refusal.specs.declared.Refusal.{Refusal}
use Rattle.simulator.specs.Answers.{Judged}
use Rattle.refusal.specs.First.{or_else}
use Rattle.simulator.specs.Calls.{JudgeSays}
use Rattle.builder.specs.declared.Matching.TheVariants.{Whole}
use Rattle.builder.specs.Image.{built, built_length}
use Rattle.grammar_judge.specs.Calls.{Lent, lent_refusal}
use Rattle.answer_line.specs.Line.{refusal_line, answer_line, Lined}
use Rattle.answer.specs.Input.{input_refusal, input_grammar, input_capture}

-- the line of what judging says
unfoldable pub judged_line : Judged → List ℕ
judged_line (Err f) = refusal_line f
judged_line (Ok j) = answer_line j.verdict j.readings j.end

-- a refused call says so, and changes none of them
pub record Refuses (f : Refusal) (before after : Lent) (line : List ℕ) : Type 0 where
  pub says : line ≡ refusal_line f
  pub kept : after ≡ before

-- the image of the grammar is built, with later bytes as they were, and its judging is told
pub record BuiltAndJudged (gs cs : List ℕ) (before after : Lent) (line : List ℕ) : Type 0 where
  pub judged : Judged
  pub image_now : after.image ≡ built Whole gs ++ drop (built_length gs) before.image
  pub judges : JudgeSays (built Whole gs) cs judged before.notes after.notes before.work after.work
  pub says : line ≡ judged_line judged

unfoldable pub PartsAs : (number : ℕ) → Refusal → (gs cs : List ℕ) → (before after : Lent) → (line : List ℕ) → Type 0
PartsAs zero f gs cs x y l = BuiltAndJudged gs cs x y l
PartsAs (suc n) f gs cs x y l = Refuses f x y l

unfoldable pub PartsSay : (grammar capture : List ℕ) → (before after : Lent) → (line : List ℕ) → Type 0
PartsSay gs cs x y l = PartsAs (lent_refusal gs cs x).number (lent_refusal gs cs x) gs cs x y l

-- the first refusal of an input: 14, then those of its grammar and capture
unfoldable pub answer_refusal : (input : List ℕ) → Lent → Refusal
answer_refusal xs x = or_else (input_refusal xs) (lent_refusal (input_grammar xs) (input_capture xs) x)

-- of an input
unfoldable pub InputAs : (number : ℕ) → Refusal → (input : List ℕ) → (before after : Lent) → (line : List ℕ) → Type 0
InputAs zero f xs x y l = PartsSay (input_grammar xs) (input_capture xs) x y l
InputAs (suc n) f xs x y l = Refuses f x y l

unfoldable pub InputSays : (input : List ℕ) → (before after : Lent) → (line : List ℕ) → Type 0
InputSays xs x y l = InputAs (input_refusal xs).number (input_refusal xs) xs x y l

-- a line that is right is written into the out buffer, and counted; where the buffer is shorter than the line, as far as there is room
pub record Told (LineRight : List ℕ → Type 0) (out out_now : List ℕ) (count : ℕ) : Type 0 where
  pub line : List ℕ
  pub right : LineRight line
  pub lined : Lined line out out_now count

-- THE CALL
unfoldable pub AnswerSays : (input : List ℕ) → (before after : Lent) → (out out_now : List ℕ) → (count : ℕ) → Type 0
AnswerSays xs x y o p n = Told (InputSays xs x y) o p n
