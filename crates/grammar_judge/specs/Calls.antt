-- The buffers that building and judging are lent, the refusals of a grammar and a capture with them, and what two calls have in common that left the same. Assumes nothing: these are definitions.
use Rattle.std.specs.Prelude.{◌≡◌, List, ◌++◌, ℕ, length, take, drop, Ok, Err}
use Rattle.refusal.specs.declared.Refusal.{Refusal}
use Rattle.refusal.specs.First.{or_else}
use Rattle.machine.specs.Run.{how_many}
use Rattle.image.specs.Image.{machine}
use Rattle.simulator.specs.Answers.{Judged}
use Rattle.simulator.specs.declared.Judgement.{Judgement}
use Rattle.simulator.specs.Calls.{judge_refusal, JudgeSays}
use Rattle.builder.specs.declared.Matching.TheVariants.{Whole}
use Rattle.builder.specs.Image.{built, built_length}
use Rattle.builder.specs.Calls.{build_refusal}

-- the image buffer, notes and work cells that a call is lent
pub record Lent : Type 0 where
  pub image : List ℕ
  pub notes : List ℕ
  pub work : List ℕ

abbrev pub lent : (image notes work : List ℕ) → Lent
lent m a b = record { image = m; notes = a; work = b }

-- a grammar and a capture are refused by 11 to 13, then by 7 to 9, before any cell is written
unfoldable pub parts_refusal : (grammar capture : List ℕ) → (image notes work : ℕ) → Refusal
parts_refusal gs cs m a b = or_else (build_refusal gs m) (judge_refusal (built Whole gs) cs a b)

abbrev pub lent_refusal : (grammar capture : List ℕ) → Lent → Refusal
lent_refusal gs cs x = parts_refusal gs cs (length x.image) (length x.notes) (length x.work)

-- two lendings of the same lengths, and what two calls have in common that left the same in all cells that a call writes
pub record SameRoom (x z : Lent) : Type 0 where
  pub image : length x.image ≡ length z.image
  pub notes : length x.notes ≡ length z.notes
  pub work : length x.work ≡ length z.work

pub record SameCells (gs cs : List ℕ) (y w : Lent) : Type 0 where
  pub image : take (built_length gs) y.image ≡ take (built_length gs) w.image
  pub notes : take (how_many (machine (built Whole gs) cs)) y.notes ≡ take (how_many (machine (built Whole gs) cs)) w.notes
  pub work : take (how_many (machine (built Whole gs) cs)) y.work ≡ take (how_many (machine (built Whole gs) cs)) w.work

-- the image of the grammar is built, with later bytes as they were, and the judgement is the call's answer
pub record Builds (gs cs : List ℕ) (before after : Lent) (j : Judgement) : Type 0 where
  pub image_now : after.image ≡ built Whole gs ++ drop (built_length gs) before.image
  pub judges : JudgeSays (built Whole gs) cs (Ok j) before.notes after.notes before.work after.work

-- JUDGING by a grammar that 11 and 12 do not refuse: refused by what is lent, with nothing written, or judged
pub data JudgesBy (gs cs : List ℕ) : Judged → (before after : Lent) → Type 0 where
  refused : {x : Lent} → ((lent_refusal gs cs x).number ≡ 0 → ⊥) → JudgesBy gs cs (Err (lent_refusal gs cs x)) x x
  judged : {j : Judgement} {x y : Lent} → (lent_refusal gs cs x).number ≡ 0 → Builds gs cs x y j → JudgesBy gs cs (Ok j) x y
