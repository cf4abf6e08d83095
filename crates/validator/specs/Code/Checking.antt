-- What the later checks of an image may rely on, since the earlier ones are passed. Assumes nothing: these are definitions.
use Rattle.std.specs.Prelude.{◌≡◌, List, ℕ, ◌+◌, ◌*◌, ◌<◌, ◌≤◌, length}
use Rattle.image.specs.Format
use Rattle.image.specs.Image.{symbols}
use Rattle.image.specs.Refusals.{rule_count}

-- after the counts: they are there, and there is a symbol
pub record CountsChecked (image : List ℕ) : Type 0 where
  pub header : Format.map_offset ≤ length image
  pub some_symbol : 1 ≤ symbols image

-- after the length: so many rules are there as the counts ask for
pub record LengthChecked (image : List ℕ) : Type 0 where
  pub some_symbol : 1 ≤ symbols image
  pub length_is : length image ≡ Format.rules_offset + Format.rule_length * rule_count image

-- a rule that is whole in the image
pub record RuleInside (image : List ℕ) (at : ℕ) : Type 0 where
  pub header : Format.map_offset ≤ length image
  pub whole : at + 3 < length image
