-- What the calls on grammars as text answer and leave, by cases: a text that is not read, a refusal, or what building and judging say. A refused call changes no lent cell. Assumes nothing: these are definitions.
use Rattle.std.specs.Prelude.{◌≡◌, List, ◌++◌, ℕ, drop, Err}
use Rattle.refusal.specs.declared.Refusal.{Refusal}
use Rattle.simulator.specs.Answers.{Judged}
use Rattle.simulator.specs.Calls.{JudgeSays}
use Rattle.builder.specs.Answers.{Built}
use Rattle.builder.specs.declared.Matching.TheVariants.{Whole}
use Rattle.builder.specs.Image.{built, built_length}
use Rattle.builder.specs.Calls.{build_refusal, BuildSays}
use Rattle.syntax.specs.Reading.{Refused, Grammar, ReadSays}
use Rattle.grammar_judge.specs.Calls.{Lent, lent_refusal}

-- BUILDING, from a text
pub data BuildTextSays (text : List ℕ) : Built → (image image_now : List ℕ) → Type 0 where
  unread : {f : Refusal} {image : List ℕ} → ReadSays text (Refused f) → BuildTextSays text (Err f) image image
  read :
      {gs : List ℕ} {r : Built} {image image_now : List ℕ} → ReadSays text (Grammar gs) → BuildSays Whole gs r image image_now →
      BuildTextSays text r image image_now

-- JUDGING a capture, by a text; the grammar's image stands in the lent buffer afterwards, with later bytes as they were
pub data JudgeTextSays (text capture : List ℕ) : Judged → (before after : Lent) → Type 0 where
  unread : {f : Refusal} {x : Lent} → ReadSays text (Refused f) → JudgeTextSays text capture (Err f) x x
  refused :
      {gs : List ℕ} {x : Lent} → ReadSays text (Grammar gs) → ((lent_refusal gs capture x).number ≡ 0 → ⊥) →
      JudgeTextSays text capture (Err (lent_refusal gs capture x)) x x
  judged :
      {gs : List ℕ} {r : Judged} {x y : Lent} → ReadSays text (Grammar gs) → (lent_refusal gs capture x).number ≡ 0 →
      y.image ≡ built Whole gs ++ drop (built_length gs) x.image →
      JudgeSays (built Whole gs) capture r x.notes y.notes x.work y.work → JudgeTextSays text capture r x y

-- WHAT THE CALLS REFUSE: the text, then what is lent, by the grammar that was read
pub data BuildTextRefused (text : List ℕ) (room : ℕ) : Refusal → Type 0 where
  text_refused : {f : Refusal} → ReadSays text (Refused f) → BuildTextRefused text room f
  room_refused :
      {gs : List ℕ} → ReadSays text (Grammar gs) → ((build_refusal gs room).number ≡ 0 → ⊥) → BuildTextRefused text room (build_refusal gs room)

pub data JudgeTextRefused (text capture : List ℕ) (x : Lent) : Refusal → Type 0 where
  text_refused : {f : Refusal} → ReadSays text (Refused f) → JudgeTextRefused text capture x f
  lent_refused :
      {gs : List ℕ} → ReadSays text (Grammar gs) → ((lent_refusal gs capture x).number ≡ 0 → ⊥) →
      JudgeTextRefused text capture x (lent_refusal gs capture x)
