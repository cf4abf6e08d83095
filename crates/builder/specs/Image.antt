-- The image of a grammar, by the choice of a match: its parts, which are encoded as any image's are. Assumes nothing: these are definitions.
use Rattle.std.specs.Prelude.{List, [], ◌∷◌, ℕ, zero, suc, ◌+◌, ◌*◌, ◌/◌, ◌%◌}
use Rattle.image.specs.Format
use Rattle.image.specs.Image.{Rule}
use Rattle.image.specs.Encoding.{Parts, encode}
use Rattle.grammar.specs.Grammar.{rules}
use Rattle.builder.specs.declared.Matching.{Matching}
use Rattle.builder.specs.Classes.{class_of, class_count}
use Rattle.builder.specs.Table.{state_count, finals, made}

-- THE PARTS: two symbols a rule and symbol 0, and a rule for each state, class and symbol
unfoldable pub symbols_of : List ℕ → ℕ
symbols_of gs = suc (2 * rules gs)

unfoldable pub built_rules : List ℕ → ℕ
built_rules gs = state_count * (class_count gs + 2) * symbols_of gs

-- a table: the rule for each state, class and symbol
abbrev pub RuleTable : Type 0
RuleTable = (p class a : ℕ) → Rule

-- so many rules of a table, from the one with index i on
unfoldable pub rules_made : RuleTable → (left i : ℕ) → List ℕ → List Rule
rules_made t zero i gs = []
rules_made t (suc n) i gs =
    let g = symbols_of gs in
    let k = class_count gs + 2 in
    t (i / g / k) (i / g % k) (i % g) ∷ rules_made t n (suc i) gs

-- so many classes, from that of byte value v on
unfoldable pub map_made : (left v : ℕ) → List ℕ → List ℕ
map_made zero v gs = []
map_made (suc n) v gs = class_of gs v ∷ map_made n (suc v) gs

-- done alone is final
unfoldable pub parts : RuleTable → List ℕ → Parts
parts t gs =
    record {
      states = state_count;
      classes = class_count gs;
      symbols = symbols_of gs;
      finals = finals;
      class_map = map_made Format.map_length 0 gs;
      rules = rules_made t (built_rules gs) 0 gs;
    }

-- THE IMAGE
unfoldable pub built : Matching → List ℕ → List ℕ
built how gs = encode (parts (made how gs) gs)

-- its length, by either choice
unfoldable pub built_length : List ℕ → ℕ
built_length gs = Format.rules_offset + Format.rule_length * built_rules gs
