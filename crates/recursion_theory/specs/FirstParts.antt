-- What a rule tries first, whatever the capture; a rule that comes back to itself so has no result anywhere. Assumes nothing: these are definitions.
use Rattle.std.specs.Prelude.{◌≡◌, ℕ}
use Rattle.grammar.specs.declared.Expression.TheVariants.{Sequence, Choice, Not}
use Rattle.grammar.specs.Parsing.{Rules}

-- what a rule tries first, at its own place, whatever the capture: the first part of a sequence or a choice, the one of a not
pub data TriesFirst (E : Rules) : (from into : ℕ) → Type 0 where
  first_part : {k b c : ℕ} → E k ≡ Sequence b c → TriesFirst E k b
  one : {k b c : ℕ} → E k ≡ Choice b c → TriesFirst E k b
  its_own : {k b : ℕ} → E k ≡ Not b → TriesFirst E k b

-- in one step or more
pub data TriesOn (E : Rules) : (from into : ℕ) → Type 0 where
  last : {k l : ℕ} → TriesFirst E k l → TriesOn E k l
  more : {k l n : ℕ} → TriesFirst E k l → TriesOn E l n → TriesOn E k n
