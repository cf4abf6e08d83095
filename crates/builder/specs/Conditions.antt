-- When building, by either choice, is not refused, condition by condition as the paper's prose has them; and the rows that the paper's table of refusals has for it. Assumes nothing: these are definitions.
use Rattle.std.specs.Prelude.{◌≡◌, List, ℕ, ◌<◌, ◌≤◌, length}
use Rattle.builder.specs.declared.Matching.{Matching}
use Rattle.builder.specs.Image.{built}
use Rattle.grammar.specs.Conditions.{GrammarRight, GrammarRow}

-- BUILDING: a grammar that is right, and room for its image
pub record BuildingRight (how : Matching) (gs : List ℕ) (room : ℕ) : Type 0 where
  pub grammar : GrammarRight gs
  pub image_room : length (built how gs) ≤ room

pub data BuildingRow (how : Matching) (gs : List ℕ) (room : ℕ) : (number place : ℕ) → Type 0 where
  unrefused_building : BuildingRight how gs room → BuildingRow how gs room 0 0
  refused_grammar : {number place : ℕ} → GrammarRow gs number place → (number ≡ 0 → ⊥) → BuildingRow how gs room number place
  short_buffer : GrammarRight gs → room < length (built how gs) → BuildingRow how gs room 13 (length (built how gs))
