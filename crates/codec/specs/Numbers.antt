-- Little-endian numbers of any width, and pairs of offset and length: read at a place, and as bytes. Assumes nothing: these are definitions.
use Rattle.std.specs.Prelude.{List, [], ◌∷◌, ◌++◌, ℕ, zero, suc, ◌+◌, ◌*◌, ◌/◌, ◌%◌}
use Rattle.codec.specs.declared.Pair.{Pair}
use Rattle.codec.specs.Bytes.{byte}

-- so many bytes, the lowest first, as one number
unfoldable pub number_at : (count : ℕ) → List ℕ → (at : ℕ) → ℕ
number_at zero bs i = 0
number_at (suc n) bs i = byte bs i + 256 * number_at n bs (suc i)

-- a number as so many bytes
unfoldable pub little_endian : (count value : ℕ) → List ℕ
little_endian zero v = []
little_endian (suc n) v = v % 256 ∷ little_endian n (v / 256)

-- the widths, in bytes
abbrev pub u32_width : ℕ
u32_width = 4

abbrev pub u64_width : ℕ
u64_width = 8

abbrev pub pair_width : ℕ
pair_width = 8

abbrev pub u32_at : List ℕ → (at : ℕ) → ℕ
u32_at bs i = number_at u32_width bs i

abbrev pub u64_at : List ℕ → (at : ℕ) → ℕ
u64_at bs i = number_at u64_width bs i

-- A PAIR: an offset and a length, each a number of 32 bits
abbrev pub pair : (offset long : ℕ) → Pair
pair o l = record { offset = o; long = l }

abbrev pub pair_at : List ℕ → (at : ℕ) → Pair
pair_at bs i = pair (u32_at bs i) (u32_at bs (i + u32_width))

unfoldable pub pair_bytes : Pair → List ℕ
pair_bytes p = little_endian u32_width p.offset ++ little_endian u32_width p.long
