-- A grammar's bytes: four a rule, kind, b, c and 0; and when they are refused, by 11 or 12. Assumes nothing: these are definitions.
use Rattle.std.specs.Prelude.{Option, Some, None, Bool, ◌&&◌, ◌||◌, not, cond, List, [], ◌∷◌, ◌≡◌, ℕ, zero, suc, ◌+◌, ◌*◌, ◌/◌, ◌%◌, ◌<◌, ltb, eqb, length}
use Rattle.refusal.specs.declared.Refusal.{Refusal}
use Rattle.codec.specs.Bytes.{byte}
use Rattle.refusal.specs.First.{refusal, no_refusal}
use Rattle.grammar.specs.declared.ByteRange.{ByteRange}
use Rattle.grammar.specs.declared.Expression.{Expression}
use Rattle.grammar.specs.declared.Expression.TheVariants.{Sequence, Choice, Not, Empty, Range}

abbrev pub max_rules : ℕ
max_rules = 31

-- the kinds of a rule
abbrev pub kind_sequence : ℕ
kind_sequence = 1

abbrev pub kind_choice : ℕ
kind_choice = 2

abbrev pub kind_not : ℕ
kind_not = 3

abbrev pub kind_empty : ℕ
kind_empty = 4

abbrev pub kind_range : ℕ
kind_range = 5

-- m, the count of rules
unfoldable pub rules : List ℕ → ℕ
rules gs = length gs / 4

unfoldable pub kind_of : List ℕ → (k : ℕ) → ℕ
kind_of gs k = byte gs (4 * k)

unfoldable pub b_of : List ℕ → (k : ℕ) → ℕ
b_of gs k = byte gs (4 * k + 1)

unfoldable pub c_of : List ℕ → (k : ℕ) → ℕ
c_of gs k = byte gs (4 * k + 2)

-- the four bytes of a range
abbrev pub range_bytes : (low high : ℕ) → List ℕ
range_bytes b c = kind_range ∷ b ∷ c ∷ 0 ∷ []

-- what rule k of a grammar that is not refused is
unfoldable pub expression_by : (kind b c : ℕ) → Expression
expression_by d b c =
    cond (eqb d kind_sequence) (Sequence b c)
    (cond (eqb d kind_choice) (Choice b c) (cond (eqb d kind_not) (Not b) (cond (eqb d kind_empty) Empty (Range b c))))

unfoldable pub expression : List ℕ → (k : ℕ) → Expression
expression gs k = expression_by (kind_of gs k) (b_of gs k) (c_of gs k)

-- the bytes that a rule is a range of, if it is a range
unfoldable pub range_of : Expression → Option ByteRange
range_of (Sequence b c) = None
range_of (Choice b c) = None
range_of (Not b) = None
range_of Empty = None
range_of (Range b c) = Some (record { low = b; high = c })

-- A RANGE THAT MATCHES NOTHING: rule k is a range with its low byte above its high byte. Generators write it for 004's failure, F = !ε
pub record Inverted (gs : List ℕ) (k : ℕ) : Type 0 where
  pub is_range : kind_of gs k ≡ kind_range
  pub low_above : c_of gs k < b_of gs k

-- the rules that a rule names are below m
unfoldable pub PartsBelow : (m : ℕ) → Expression → Type 0
PartsBelow m (Sequence b c) = (b < m) × (c < m)
PartsBelow m (Choice b c) = (b < m) × (c < m)
PartsBelow m (Not b) = b < m
PartsBelow m Empty = Unit {0}
PartsBelow m (Range b c) = Unit {0}

-- a rule's four bytes are right in a grammar of m rules
unfoldable pub rule_right : (m kind b c last : ℕ) → Bool
rule_right m d b c z =
    eqb z 0
    && cond (eqb d kind_sequence || eqb d kind_choice) (ltb b m && ltb c m)
    (cond (eqb d kind_not) (ltb b m && eqb c 0)
    (cond (eqb d kind_empty) (eqb b 0 && eqb c 0) (eqb d kind_range)))

unfoldable pub grammar_rules_from : (left k : ℕ) → List ℕ → Refusal
grammar_rules_from zero k gs = no_refusal
grammar_rules_from (suc n) k gs =
    cond (rule_right (rules gs) (kind_of gs k) (b_of gs k) (c_of gs k) (byte gs (4 * k + 3))) (grammar_rules_from n (suc k) gs) (refusal 12 (4 * k))

-- 11: the length; 12: the first rule that is not right
unfoldable pub grammar_refusal : List ℕ → Refusal
grammar_refusal gs =
    cond (eqb (length gs) 0 || (ltb (4 * max_rules) (length gs) || not (eqb (length gs % 4) 0))) (refusal 11 (length gs)) (grammar_rules_from (rules gs) 0 gs)
