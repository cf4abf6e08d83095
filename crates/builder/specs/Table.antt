-- The table of a grammar's machine: its states and symbols, the six rules of each grammar rule, and the rule that a state, a class and a symbol select. Assumes nothing: these are definitions.
use Rattle.std.specs.Prelude.{Bool, false, ◌&&◌, ◌||◌, cond, List, ℕ, zero, suc, ◌+◌, ◌*◌, ◌/◌, ◌%◌, ◌^◌, ltb, eqb, Option, Some, None}
use Rattle.image.specs.Format
use Rattle.image.specs.Image.{Rule}
use Rattle.grammar.specs.declared.ByteRange.{ByteRange}
use Rattle.grammar.specs.declared.Expression.{Expression}
use Rattle.grammar.specs.declared.Expression.TheVariants.{Sequence, Choice, Not, Empty, Range}
use Rattle.grammar.specs.Grammar.{expression, range_of}
use Rattle.builder.specs.declared.Matching.{Matching}
use Rattle.builder.specs.declared.Matching.TheVariants.{Whole, Leading}
use Rattle.builder.specs.Classes.{class_count, class_in}

-- THE STATES
abbrev pub state_start : ℕ
state_start = 0

abbrev pub state_work : ℕ
state_work = 1

abbrev pub state_ok : ℕ
state_ok = 2

abbrev pub state_fail : ℕ
state_fail = 3

abbrev pub state_done : ℕ
state_done = 4

abbrev pub state_count : ℕ
state_count = 5

-- done alone is final
abbrev pub finals : ℕ
finals = 2 ^ state_done

-- THE SYMBOLS: 0, and a first and a second one for each rule
abbrev pub first : (k : ℕ) → ℕ
first k = suc (2 * k)

abbrev pub second : (k : ℕ) → ℕ
second k = suc (suc (2 * k))

abbrev pub symbol : (is_second : Bool) → (k : ℕ) → ℕ
symbol s k = cond s (second k) (first k)

-- THE RULES that stand in the table
abbrev pub rule : (kind state symbol direction : ℕ) → Rule
rule k p a m = record { kind = k; state = p; symbol = a; direction = m }

abbrev pub no_rule : Rule
no_rule = rule Format.kind_none 0 0 0

-- push a rule's first symbol, and work
abbrev pub push_first : (k : ℕ) → Rule
push_first k = rule Format.kind_push state_work (first k) Format.direction_stay

-- change to a rule's second symbol, and work
abbrev pub to_second : (k : ℕ) → Rule
to_second k = rule Format.kind_change state_work (second k) Format.direction_stay

-- pass the byte under the head: the symbol stays, the head moves right, ok
abbrev pub pass_byte : (k : ℕ) → Rule
pass_byte k = rule Format.kind_change state_ok (first k) Format.direction_right

-- pop, the head staying or returning
abbrev pub pop_ok : Rule
pop_ok = rule Format.kind_pop state_ok 0 Format.pop_stay

abbrev pub pop_fail : Rule
pop_fail = rule Format.kind_pop state_fail 0 Format.pop_stay

abbrev pub back_ok : Rule
back_ok = rule Format.kind_pop state_ok 0 Format.pop_return

abbrev pub back_fail : Rule
back_fail = rule Format.kind_pop state_fail 0 Format.pop_return

-- THE SIX RULES of a grammar rule: its first symbol in work, ok and fail, then its second one
pub record Row : Type 0 where
  pub work : Rule
  pub ok : Rule
  pub fail : Rule

pub record Rows : Type 0 where
  pub first : Row
  pub second : Row

abbrev pub row : (work ok fail : Rule) → Row
row w o f = record { work = w; ok = o; fail = f }

abbrev pub six : (work_first ok_first fail_first work_second ok_second fail_second : Rule) → Rows
six a b c x y z = record { first = row a b c; second = row x y z }

-- rule k's; for a range, whether the class is in it
unfoldable pub rows : Expression → (k : ℕ) → (inside : Bool) → Rows
rows (Sequence b c) k t = six (push_first b) (to_second k) back_fail (push_first c) pop_ok back_fail
rows (Choice b c) k t = six (push_first b) pop_ok (to_second k) (push_first c) pop_ok pop_fail
rows (Not b) k t = six (push_first b) back_fail back_ok no_rule no_rule no_rule
rows Empty k t = six pop_ok no_rule no_rule no_rule no_rule no_rule
rows (Range b c) k t = six (cond t (pass_byte k) pop_fail) pop_ok no_rule no_rule no_rule no_rule

-- the states without them: start and done
unfoldable pub unruled : (p : ℕ) → Bool
unruled p = ltb p state_work || ltb state_fail p

-- the one of a symbol and a state: no rule in start and done
unfoldable pub by_state : (p : ℕ) → Row → Rule
by_state p r = cond (eqb p state_work) r.work (cond (eqb p state_ok) r.ok (cond (eqb p state_fail) r.fail no_rule))

unfoldable pub select : Rows → (is_second : Bool) → (p : ℕ) → Rule
select r s p = by_state p (cond s r.second r.first)

-- THE CHOICE, ok on a byte with symbol 0, where rule 0 has succeeded before the capture's end: a whole match has no rule there; a leading one changes to itself and moves right
unfoldable pub on_byte : Matching → Rule
on_byte Whole = no_rule
on_byte Leading = rule Format.kind_change state_ok 0 Format.direction_right

-- THE RULES OF SYMBOL 0: start on the left marker, ok on the right one, ok on a byte
unfoldable pub row_zero : Matching → (class_count p class : ℕ) → Rule
row_zero how n p k =
    cond (eqb p state_start && eqb k n) (rule Format.kind_push state_work (first 0) Format.direction_right)
    (cond (eqb p state_ok && eqb k (n + 1)) (rule Format.kind_pop state_done 0 Format.pop_stay)
    (cond (eqb p state_ok && ltb k n) (on_byte how) no_rule))

-- whether a byte class, and no marker, is in a range
unfoldable pub class_inside : List ℕ → Option ByteRange → (class : ℕ) → Bool
class_inside gs None k = false
class_inside gs (Some r) k = ltb k (class_count gs) && class_in gs r.low r.high k

-- the six rules of rule k for a class
unfoldable pub rows_at : List ℕ → (k class : ℕ) → Rows
rows_at gs k x = rows (expression gs k) k (class_inside gs (range_of (expression gs k)) x)

-- THE RULE for state p, class x and symbol a
unfoldable pub made : Matching → List ℕ → (p class a : ℕ) → Rule
made how gs p x zero = row_zero how (class_count gs) p x
made how gs p x (suc a) = select (rows_at gs (a / 2) x) (eqb (a % 2) 1) p
