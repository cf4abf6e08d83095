-- What is encoded reads back: header, class map and rules, each by itself, then the image; and which refusals are left of an image with its directory and length right. Assumes nothing.
use mathlib.Core.Path.{◌≡◌, refl, ◌∙◌}
use mathlib.Core.List.{List, [], ◌∷◌, ◌++◌}
use Prim.Native.Nat.{ℕ, zero, suc, ◌+◌, ◌*◌, ◌-◌, ◌^◌, ◌<◌, ◌≤◌}
use native.Mathlib.Omega.{arith}
use lib.ListN.{length, length-append}
use Rattle.codec.specs.Bytes.{byte}
use Rattle.codec.specs.Numbers.{number_at, little_endian, u32_at, pair_bytes}
use Rattle.codec.proofs.Reading.{byte_past, byte_within}
use Rattle.image.specs.Format
use Rattle.image.specs.Image.{states, classes, symbols, Rule, rule_from, rule_offset, rule_at}
use Rattle.image.specs.Conditions.{DirectoryRight, LengthRight}
use Rattle.image.specs.Encoding.{Parts, header, rule_bytes, rules_bytes, encode, Encodable, rule_in, ReadsBack}
use Rattle.machine.proofs.Digits.{digits_below}

-- RULES
rule_past : (xs ys : List ℕ) (n o : ℕ) → n ≡ length xs + o → rule_from (xs ++ ys) n ≡ rule_from ys o
unfolding rule_from
rule_past xs ys n o e =
    let p = byte_past xs ys n o e in
    let q = byte_past xs ys (n + 1) (o + 1) (omega arith) in
    let r = byte_past xs ys (n + 2) (o + 2) (omega arith) in
    let s = byte_past xs ys (n + 3) (o + 3) (omega arith) in
    λ i. record { kind = p i; state = q i; symbol = r i; direction = s i }

rule_bytes_length : (r : Rule) → length (rule_bytes r) ≡ Format.rule_length
unfolding rule_bytes
rule_bytes_length r = refl

rule_bytes_read : (r : Rule) (rest : List ℕ) → rule_from (rule_bytes r ++ rest) 0 ≡ r
unfolding rule_bytes rule_from
rule_bytes_read r rest = refl

rules_bytes_cons : (r : Rule) (rs : List Rule) → rules_bytes (r ∷ rs) ≡ rule_bytes r ++ rules_bytes rs
unfolding rules_bytes
rules_bytes_cons r rs = refl

pub rules_bytes_length : (rs : List Rule) → length (rules_bytes rs) ≡ Format.rule_length * length rs
unfolding rules_bytes
rules_bytes_length [] = refl
rules_bytes_length (r ∷ rs) =
    length-append (rule_bytes r) (rules_bytes rs) ∙ omega (arith, rule_bytes_length r, rules_bytes_length rs)

rules_bytes_read : (rs : List Rule) (i : ℕ) → i < length rs → rule_from (rules_bytes rs) (Format.rule_length * i) ≡ rule_in rs i
unfolding rule_in
rules_bytes_read [] i h = absurd (omega arith)
rules_bytes_read (r ∷ rs) zero h = rw (rules_bytes_cons r rs) (rule_bytes_read r (rules_bytes rs))
rules_bytes_read (r ∷ rs) (suc i) h =
    rw (rules_bytes_cons r rs)
    (rule_past (rule_bytes r) (rules_bytes rs) (Format.rule_length * suc i) (Format.rule_length * i) (omega (arith, rule_bytes_length r))
    ∙ rules_bytes_read rs i (omega arith))

-- THE HEADER, whatever stands behind it
pub header_length : (q k g f n : ℕ) → length (header q k g f n) ≡ Format.map_offset
unfolding header pair_bytes little_endian
header_length q k g f n = refl

module _ (q k g f n : ℕ) (rest : List ℕ) where
  abbrev image : List ℕ
  image = header q k g f n ++ rest

  counts_there : (states image ≡ q) × (classes image ≡ k) × (symbols image ≡ g) × (byte image Format.zero_offset ≡ 0)
  unfolding header pair_bytes little_endian states classes symbols
  counts_there = (refl, refl, refl, refl)

  finals_there : f < 256 ^ Format.finals_length → u32_at image Format.finals_offset ≡ f
  unfolding header pair_bytes little_endian number_at
  finals_there h = omega arith

  directory_there :
      Format.rules_offset ≤ length image → length image - Format.rules_offset ≡ Format.rule_length * n → Format.rule_length * n < 256 ^ 4 →
      DirectoryRight image
  unfolding header pair_bytes little_endian number_at
  directory_there least long fits =
      record {
        counts_pair = record { offset_is = refl; length_is = refl };
        map_pair = record { offset_is = refl; length_is = refl };
        rules_pair = record { long_enough = least; pair = record { offset_is = refl; length_is = omega (arith, long) } };
      }

-- THE IMAGE
module _ (ps : Parts) (fit : Encodable ps) where
  abbrev head : List ℕ
  head = header ps.states ps.classes ps.symbols ps.finals (length ps.rules)

  abbrev rest : List ℕ
  rest = ps.class_map ++ rules_bytes ps.rules

  abbrev bytes : List ℕ
  bytes = head ++ rest

  head_length : length head ≡ Format.map_offset
  head_length = header_length ps.states ps.classes ps.symbols ps.finals (length ps.rules)

  bytes_length : length bytes ≡ Format.rules_offset + Format.rule_length * length ps.rules
  bytes_length =
      length-append head rest
      ∙ omega (arith, head_length, length-append ps.class_map (rules_bytes ps.rules), fit.map_full, rules_bytes_length ps.rules)

  map_there : (v : ℕ) → v < Format.map_length → byte bytes (Format.map_offset + v) ≡ byte ps.class_map v
  map_there v h =
      byte_past head rest (Format.map_offset + v) v (omega (arith, head_length))
      ∙ byte_within ps.class_map (rules_bytes ps.rules) v (omega (arith, fit.map_full))

  rule_there : (i : ℕ) → i < length ps.rules → rule_from bytes (Format.rules_offset + Format.rule_length * i) ≡ rule_in ps.rules i
  rule_there i h =
      rule_past head rest (Format.rules_offset + 4 * i) (Format.map_length + 4 * i) (omega (arith, head_length))
      ∙ rule_past ps.class_map (rules_bytes ps.rules) (Format.map_length + 4 * i) (4 * i) (omega (arith, fit.map_full))
      ∙ rules_bytes_read ps.rules i h

  counted : (states bytes ≡ ps.states) × (classes bytes ≡ ps.classes) × (symbols bytes ≡ ps.symbols) × (byte bytes Format.zero_offset ≡ 0)
  counted = counts_there ps.states ps.classes ps.symbols ps.finals (length ps.rules) rest

  length_there : LengthRight bytes
  length_there =
      rw (counted.0, counted.1, counted.2)
      (bytes_length ∙ rw fit.rules_full (omega arith))

  rules_there :
      (p k a : ℕ) → p < ps.states → k < ps.classes + 2 → a < ps.symbols →
      rule_at bytes p k a ≡ rule_in ps.rules ((p * (ps.classes + 2) + k) * ps.symbols + a)
  unfolding rule_at rule_offset
  rules_there p k a hp hk ha =
      rw (counted.1, counted.2)
      (rule_there ((p * (ps.classes + 2) + k) * ps.symbols + a) (rw fit.rules_full (digits_below hp hk ha)))

  pub encoded_reads : ReadsBack (encode ps) ps
  unfolding encode
  encoded_reads =
      record {
        states_are = counted.0;
        classes_are = counted.1;
        symbols_are = counted.2;
        zero_is = counted.3;
        finals_are = finals_there ps.states ps.classes ps.symbols ps.finals (length ps.rules) rest fit.finals_fit;
        map_is = map_there;
        rules_are = rules_there;
        length_right = length_there;
        directory_right =
            directory_there ps.states ps.classes ps.symbols ps.finals (length ps.rules) rest (omega (arith, bytes_length))
            (omega (arith, bytes_length));
      }

  pub encoded_length : length (encode ps) ≡ Format.rules_offset + Format.rule_length * length ps.rules
  unfolding encode
  encoded_length = bytes_length
