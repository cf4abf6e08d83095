-- What the lookups of this crate ask of image, capture, counts and configuration. Assumes nothing: these are definitions.
use Rattle.std.specs.Prelude.{◌≡◌, List, ℕ, ◌+◌, ◌*◌, ◌<◌, ◌≤◌, length}
use Rattle.machine.specs.declared.Config.{Config}
use Rattle.image.specs.declared.Sizes.{Sizes}
use Rattle.image.specs.Format
use Rattle.machine.specs.Run.{ValidConfig}
use Rattle.image.specs.Image.{rule_from, sizes_of, machine}
use Rattle.image.specs.Refusals.{Unrefused}

-- the counts are those of an image and a capture that are not refused
pub record Counted (image capture : List ℕ) (s : Sizes) : Type 0 where
  pub unrefused : Unrefused image capture
  pub counts : s ≡ sizes_of image capture

-- and the configuration is one of their machine's
pub record LookupReady (image capture : List ℕ) (s : Sizes) (c : Config) : Type 0 where
  pub unrefused : Unrefused image capture
  pub counts : s ≡ sizes_of image capture
  pub there : ValidConfig (machine image capture) c

-- a state, a class and a symbol below counts that are few enough for the rule's index to fit 32 bits
pub record RuleFits (s : Sizes) (state class symbol : ℕ) : Type 0 where
  pub rules_are : s.rules ≡ (s.classes + 2) * s.symbols
  pub state_below : state < Format.max_states
  pub class_below : class < s.classes + 2
  pub classes_most : s.classes ≤ Format.max_classes
  pub symbol_below : symbol < s.symbols
  pub symbols_most : s.symbols ≤ Format.max_symbols

-- where the rule for a state, a class and a symbol stands, by the counts that a lookup keeps
abbrev pub offset_by : Sizes → (state class symbol : ℕ) → ℕ
offset_by s p k a = Format.rules_offset + Format.rule_length * ((p * (s.classes + 2) + k) * s.symbols + a)

-- a head that a move keeps on the tape, or one place to its right
pub record HeadMoves (direction head : ℕ) : Type 0 where
  pub head_most : head < Format.max_places
  pub left_room : direction ≡ 2 → 0 < head

-- a rule that is whole in the image and moves the head so
pub record RuleReady (image : List ℕ) (offset head : ℕ) : Type 0 where
  pub whole : offset + Format.rule_length ≤ length image
  pub moves : HeadMoves (rule_from image offset).direction head
