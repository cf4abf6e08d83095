-- What the parts of building answer and write: the four bytes of a rule as a rule, and what each part may assume. Assumes nothing: these are definitions.
use Rattle.std.specs.Prelude.{◌≡◌, Bool, true, false, ◌&&◌, List, [], ◌∷◌, ◌++◌, ℕ, ◌+◌, ◌*◌, ◌<◌, ◌≤◌, ltb, leb, length, take, Option, Some, None}
use Rattle.image.specs.Format
use Rattle.codec.specs.Bytes.{byte, written}
use Rattle.image.specs.Image.{Rule}
use Rattle.image.specs.Encoding.{rules_bytes}
use Rattle.grammar.specs.declared.Expression.{Expression}
use Rattle.grammar.specs.declared.ByteRange.{ByteRange}
use Rattle.builder.specs.declared.Matching.{Matching}
use Rattle.builder.specs.declared.ImageRule.{ImageRule}
use Rattle.builder.specs.declared.RulePair.{RulePair}
use Rattle.grammar.specs.Grammar.{max_rules, rules, PartsBelow}
use Rattle.builder.specs.Classes.{class_of, class_count}
use Rattle.builder.specs.Image.{built_rules, rules_made}
use Rattle.builder.specs.Table.{symbol, rule, Rows, select, made}

abbrev pub rule_of : ImageRule → Rule
rule_of r = rule r.kind r.state r.symbol r.direction

-- rule k and what it is: k and the rules that it names have symbols that are bytes
pub record Few (k : ℕ) (e : Expression) : Type 0 where
  pub number_below : k < max_rules
  pub parts_below : PartsBelow max_rules e

-- whether a class is in a range, by the class map of an image
unfoldable pub class_between : (image : List ℕ) → (low high class : ℕ) → Bool
class_between bs b c k = leb b c && (leb (byte bs (Format.map_offset + b)) k && leb k (byte bs (Format.map_offset + c)))

unfoldable pub inside_by : (image : List ℕ) → (classes : ℕ) → Option ByteRange → (class : ℕ) → Bool
inside_by bs n None k = false
inside_by bs n (Some r) k = ltb k n && class_between bs r.low r.high k

-- an image with its class map
pub record RowsReady (gs image : List ℕ) (classes : ℕ) : Type 0 where
  pub long : Format.rules_offset ≤ length image
  pub classes_are : classes ≡ class_count gs
  pub map : (v : ℕ) → v < Format.map_length → byte image (Format.map_offset + v) ≡ class_of gs v

-- the same, and a rule of the grammar
pub record RuleReady (gs image : List ℕ) (classes k : ℕ) : Type 0 where
  pub rows : RowsReady gs image classes
  pub rule_there : k < rules gs

-- THE RULES OF TWO SYMBOLS: those that a state picks of a rule's six; the table's, for state, class and rule k, by either choice
pub record Picks (six : Rows) (p : ℕ) (r : RulePair) : Type 0 where
  pub first : rule_of r.first ≡ select six false p
  pub second : rule_of r.second ≡ select six true p

pub record MadePair (gs : List ℕ) (p class k : ℕ) (r : RulePair) : Type 0 where
  pub first : (how : Matching) → rule_of r.first ≡ made how gs p class (symbol false k)
  pub second : (how : Matching) → rule_of r.second ≡ made how gs p class (symbol true k)

-- the image with one rule written at its index
abbrev pub with_rule : (image : List ℕ) → (i : ℕ) → ImageRule → List ℕ
with_rule image i r = written image (Format.rules_offset + Format.rule_length * i) (r.kind ∷ r.state ∷ r.symbol ∷ r.direction ∷ [])

-- the image with its rules, after what stands before them
abbrev pub with_rules : Matching → (gs image : List ℕ) → List ℕ
with_rules how gs image = take Format.rules_offset image ++ rules_bytes (rules_made (made how gs) (built_rules gs) 0 gs)
