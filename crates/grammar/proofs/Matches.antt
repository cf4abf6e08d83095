-- Whether a rule is a range that has a byte of the capture. Assumes nothing: these are definitions.
use mathlib.Core.Bool.{Bool, false, ◌&&◌}
use mathlib.Core.List.{List}
use Prim.Native.Nat.{ℕ}
use lib.Dec.{ltb}
use lib.ListN.{length}
use Rattle.codec.specs.Bytes.{byte}
use Rattle.grammar.specs.declared.ByteRange.{ByteRange}
use Rattle.std.specs.Prelude.{Option, Some, None}
use Rattle.grammar.specs.Grammar.{range_of}
use Rattle.grammar.specs.Parsing.{Rules, in_range}

-- the range of two bytes
abbrev pub between : (low high : ℕ) → Option ByteRange
between b c = Some (record { low = b; high = c })

-- whether a range has the value
unfoldable pub matches : Option ByteRange → (value : ℕ) → Bool
matches None v = false
matches (Some r) v = in_range r.low r.high v

-- whether rule k is a range that has the byte at capture place i
abbrev pub passes : Rules → List ℕ → (k i : ℕ) → Bool
passes E cs k i = ltb i (length cs) && matches (range_of (E k)) (byte cs i)
