-- Parsing, as paper 004 has it: a rule at a place of the capture gives the place after what it consumed, or fails; some have no result. Assumes nothing: these are definitions.
use Rattle.std.specs.Prelude.{◌≡◌, Bool, true, false, ◌&&◌, List, ℕ, suc, ◌<◌, ltb, leb, length}
use Rattle.std.proofs.Math.Option.{Option, none, some}
use Rattle.codec.specs.Bytes.{byte}
use Rattle.grammar.specs.declared.Expression.{Expression}
use Rattle.grammar.specs.declared.Expression.TheVariants.{Sequence, Choice, Not, Empty, Range}

-- a grammar, for parsing: what each rule is
abbrev pub Rules : Type 0
Rules = ℕ → Expression

unfoldable pub in_range : (low high value : ℕ) → Bool
in_range b c v = leb b v && leb v c

pub data Parses (E : Rules) (cs : List ℕ) : (k i : ℕ) → Option ℕ → Type 0 where
  sequence : {k i j b c : ℕ} {o : Option ℕ} → E k ≡ Sequence b c → Parses E cs b i (some j) → Parses E cs c j o → Parses E cs k i o
  sequence_fails : {k i b c : ℕ} → E k ≡ Sequence b c → Parses E cs b i none → Parses E cs k i none
  choice : {k i j b c : ℕ} → E k ≡ Choice b c → Parses E cs b i (some j) → Parses E cs k i (some j)
  choice_other : {k i b c : ℕ} {o : Option ℕ} → E k ≡ Choice b c → Parses E cs b i none → Parses E cs c i o → Parses E cs k i o
  not_there : {k i b : ℕ} → E k ≡ Not b → Parses E cs b i none → Parses E cs k i (some i)
  not_fails : {k i j b : ℕ} → E k ≡ Not b → Parses E cs b i (some j) → Parses E cs k i none
  empty : {k i : ℕ} → E k ≡ Empty → Parses E cs k i (some i)
  range : {k i b c : ℕ} → E k ≡ Range b c → i < length cs → in_range b c (byte cs i) ≡ true → Parses E cs k i (some (suc i))
  range_fails : {k i b c : ℕ} → E k ≡ Range b c → (ltb i (length cs) && in_range b c (byte cs i)) ≡ false → Parses E cs k i none
