-- An image as a value: its parts, their bytes, and what it is for bytes to read back as parts. Assumes nothing: these are definitions.
use Rattle.std.specs.Prelude.{◌≡◌, List, [], ◌∷◌, ◌++◌, ℕ, zero, suc, ◌+◌, ◌*◌, ◌^◌, ◌<◌, length}
use Rattle.codec.specs.Bytes.{byte}
use Rattle.codec.specs.Numbers.{little_endian, u32_width, u32_at, pair, pair_bytes}
use Rattle.image.specs.Format
use Rattle.image.specs.Image.{states, classes, symbols, Rule, rule_at}
use Rattle.image.specs.Conditions.{DirectoryRight, LengthRight}

-- THE PARTS: counts, the finals with a bit for each state, a class for each byte value, and the rules in the order of their indices
pub record Parts : Type 0 where
  pub states : ℕ
  pub classes : ℕ
  pub symbols : ℕ
  pub finals : ℕ
  pub class_map : List ℕ
  pub rules : List Rule

-- THEIR BYTES. The directory's three pairs, the counts and a byte that is 0, the finals
unfoldable pub header : (states classes symbols finals rule_count : ℕ) → List ℕ
header q k g f n =
    pair_bytes (pair Format.counts_offset Format.counts_length)
    ++ pair_bytes (pair Format.map_offset Format.map_length)
    ++ pair_bytes (pair Format.rules_offset (Format.rule_length * n))
    ++ (q ∷ k ∷ g ∷ 0 ∷ [])
    ++ little_endian Format.finals_length f

unfoldable pub rule_bytes : Rule → List ℕ
rule_bytes r = r.kind ∷ r.state ∷ r.symbol ∷ r.direction ∷ []

unfoldable pub rules_bytes : List Rule → List ℕ
rules_bytes [] = []
rules_bytes (r ∷ rs) = rule_bytes r ++ rules_bytes rs

-- the whole image
unfoldable pub encode : Parts → List ℕ
encode ps =
    header ps.states ps.classes ps.symbols ps.finals (length ps.rules) ++ (ps.class_map ++ rules_bytes ps.rules)

-- PARTS THAT CAN BE READ BACK: a class for each byte value, a rule for each state, class and symbol, finals that fit their bytes
pub record Encodable (ps : Parts) : Type 0 where
  pub map_full : length ps.class_map ≡ Format.map_length
  pub rules_full : length ps.rules ≡ ps.states * (ps.classes + 2) * ps.symbols
  pub finals_fit : ps.finals < 256 ^ Format.finals_length

-- the rule with an index; past the last one there is none, and its bytes are 0
unfoldable pub rule_in : List Rule → (i : ℕ) → Rule
rule_in [] i = record { kind = 0; state = 0; symbol = 0; direction = 0 }
rule_in (r ∷ rs) zero = r
rule_in (r ∷ rs) (suc i) = rule_in rs i

-- BYTES READ BACK AS PARTS; the directory is right where the length of the rules fits its bytes
pub record ReadsBack (bs : List ℕ) (ps : Parts) : Type 0 where
  pub states_are : states bs ≡ ps.states
  pub classes_are : classes bs ≡ ps.classes
  pub symbols_are : symbols bs ≡ ps.symbols
  pub zero_is : byte bs Format.zero_offset ≡ 0
  pub finals_are : u32_at bs Format.finals_offset ≡ ps.finals
  pub map_is : (v : ℕ) → v < Format.map_length → byte bs (Format.map_offset + v) ≡ byte ps.class_map v
  pub rules_are :
      (p k a : ℕ) → p < ps.states → k < ps.classes + 2 → a < ps.symbols →
      rule_at bs p k a ≡ rule_in ps.rules ((p * (ps.classes + 2) + k) * ps.symbols + a)
  pub length_right : LengthRight bs
  pub directory_right : Format.rule_length * length ps.rules < 256 ^ u32_width → DirectoryRight bs
