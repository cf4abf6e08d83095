-- The image of a grammar reads back: its counts, finals, class map and rules are those that were put in, and its directory and length are right. Assumes nothing.
use mathlib.Core.Path.{◌≡◌, ap, ◌∙◌}
use mathlib.Core.List.{List}
use Prim.Native.Nat.{ℕ, ◌+◌, ◌*◌, ◌^◌, ◌<◌}
use native.Mathlib.Nat.{zero-add}
use native.Mathlib.Omega.{arith}
use lib.ListN.{length}
use Rattle.codec.specs.Bytes.{byte}
use Rattle.codec.specs.Numbers.{u32_width, u32_at}
use Rattle.image.specs.Format
use Rattle.image.specs.Image.{states, classes, symbols, rule_at}
use Rattle.image.specs.Conditions.{DirectoryRight}
use Rattle.image.specs.Encoding.{Encodable, ReadsBack}
use Rattle.machine.proofs.Digits.{digits_below, low_digit, middle_digit, high_digit}
use Rattle.image.proofs.Encoded.{encoded_reads, encoded_length}
use Rattle.builder.specs.declared.Matching.{Matching}
use Rattle.builder.specs.Classes.{class_of, class_count}
use Rattle.builder.specs.Table.{made}
use Rattle.builder.specs.Image.{symbols_of, built_rules, parts, built, built_length}
use Rattle.builder.proofs.PartsMade.{map_length, map_reads, rules_length, rules_read, made_at}

module _ (how : Matching) (gs : List ℕ) where
  parts_encodable : Encodable (parts (made how gs) gs)
  unfolding parts built_rules
  parts_encodable =
      record { map_full = map_length Format.map_length 0 gs; rules_full = rules_length (made how gs) (built_rules gs) 0 gs; finals_fit = omega arith }

  pub built_reads : ReadsBack (built how gs) (parts (made how gs) gs)
  unfolding built
  built_reads = encoded_reads (parts (made how gs) gs) parts_encodable

  pub built_length_is : length (built how gs) ≡ built_length gs
  unfolding built parts built_length
  built_length_is =
      encoded_length (parts (made how gs) gs) parts_encodable
      ∙ ap (λ (n : ℕ). Format.rules_offset + Format.rule_length * n) (rules_length (made how gs) (built_rules gs) 0 gs)

  pub built_directory : Format.rule_length * built_rules gs < 256 ^ u32_width → DirectoryRight (built how gs)
  unfolding parts
  built_directory h = built_reads.directory_right (rw (rules_length (made how gs) (built_rules gs) 0 gs) h)

  -- COUNTS AND FINALS
  pub built_states : states (built how gs) ≡ 5
  unfolding parts
  built_states = built_reads.states_are

  pub built_classes : classes (built how gs) ≡ class_count gs
  unfolding parts
  built_classes = built_reads.classes_are

  pub built_symbols : symbols (built how gs) ≡ symbols_of gs
  unfolding parts
  built_symbols = built_reads.symbols_are

  pub built_finals : u32_at (built how gs) Format.finals_offset ≡ 16
  unfolding parts
  built_finals = built_reads.finals_are

  -- THE CLASS MAP
  pub built_map : (v : ℕ) → v < Format.map_length → byte (built how gs) (Format.map_offset + v) ≡ class_of gs v
  unfolding parts
  built_map v h = built_reads.map_is v h ∙ map_reads Format.map_length 0 v v gs (zero-add v) h

-- the index of the rule for state p, class k and symbol a
abbrev index : List ℕ → (p k a : ℕ) → ℕ
index gs p k a = (p * (class_count gs + 2) + k) * symbols_of gs + a

-- THE RULES
module _ (how : Matching) (gs : List ℕ) {p k a : ℕ} (state_below : p < 5) (class_below : k < class_count gs + 2) (symbol_below : a < symbols_of gs) where
  index_below : index gs p k a < built_rules gs
  unfolding built_rules
  index_below = digits_below state_below class_below symbol_below

  index_made : made_at (made how gs) gs (index gs p k a) ≡ made how gs p k a
  index_made = rw (high_digit p class_below symbol_below, middle_digit p class_below symbol_below, low_digit p k (class_count gs + 2) symbol_below)

  pub built_rule_at : rule_at (built how gs) p k a ≡ made how gs p k a
  unfolding parts
  built_rule_at =
      (built_reads how gs).rules_are p k a state_below class_below symbol_below
      ∙ rules_read (made how gs) (built_rules gs) 0 (index gs p k a) (index gs p k a) gs (zero-add (index gs p k a)) index_below
      ∙ index_made
