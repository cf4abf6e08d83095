-- No rule of the table is bad: over any image with five states and the symbols of m rules. Assumes nothing.
use mathlib.Core.Path.{◌≡◌, refl}
use mathlib.Core.Bool.{Bool, true, false, ◌&&◌, cond, and-false}
use mathlib.Core.List.{List}
use Prim.Native.Nat.{ℕ, suc, ◌+◌, ◌*◌, ◌<◌, ◌≤◌}
use native.Mathlib.Omega.{arith}
use lib.Dec.{ltb, eqb}
use borrow.Author.Tests.{eqb-true, ltb-true, lt-leb, le-ltb, ne_eqb}
use Rattle.image.specs.Format
use Rattle.image.specs.Image.{states, classes, symbols, Rule}
use Rattle.image.specs.Refusals.{move_off, rule_bad}
use Rattle.grammar.specs.declared.Expression.{Expression}
use Rattle.grammar.specs.declared.Expression.TheVariants.{Sequence, Choice, Not, Empty, Range}
use Rattle.grammar.specs.Grammar.{PartsBelow}
use Rattle.builder.specs.declared.Matching.{Matching}
use Rattle.builder.specs.declared.Matching.TheVariants.{Whole, Leading}
use Rattle.builder.specs.Table.{state_start, state_work, state_ok, state_fail, state_done, state_count, first, second, rule, no_rule, push_first, to_second, pass_byte, pop_ok, pop_fail, back_ok, back_fail, rows, select, on_byte, row_zero}
use Rattle.grammar.proofs.Bools.{both_true}
use Rattle.builder.proofs.EachRow.{Each, each, each_select}

-- a property of both outcomes of a test; where it passes, that is known
pub by_cond : (P : Rule → Type 0) (t : Bool) (x y : Rule) → (t ≡ true → P x) → P y → P (cond t x y)
by_cond P true x y f g = f refl
by_cond P false x y f g = g

-- a rule for the class that is not bad
pub record RulePasses (bs : List ℕ) (class : ℕ) (r : Rule) : Type 0 where
  pub not_bad : rule_bad bs class r ≡ false

module _ (bs : List ℕ) (class : ℕ) where
  -- each kind of rule
  none_right : RulePasses bs class no_rule
  unfolding rule_bad
  none_right = record { not_bad = refl }

  pop_right : (p m : ℕ) → p < states bs → m ≤ Format.pop_return → RulePasses bs class (rule Format.kind_pop p 0 m)
  unfolding rule_bad
  pop_right p m h l = record { not_bad = rw (lt-leb (states bs) p h) (le-ltb Format.pop_return m l) }

  still_on : move_off bs class Format.direction_stay ≡ false
  unfolding move_off
  still_on = rw (and-false (eqb class (classes bs)), and-false (eqb class (classes bs + 1)))

  right_on : (class ≡ classes bs + 1 → ⊥) → move_off bs class Format.direction_right ≡ false
  unfolding move_off
  right_on h = rw (and-false (eqb class (classes bs)), ne_eqb class (classes bs + 1) h)

  change_right :
      (p a m : ℕ) → p < states bs → a < symbols bs → m ≤ Format.direction_left → move_off bs class m ≡ false →
      RulePasses bs class (rule Format.kind_change p a m)
  unfolding rule_bad
  change_right p a m h k l o =
      record { not_bad = rw (lt-leb (states bs) p h, lt-leb (symbols bs) a k, le-ltb Format.direction_left m l) o }

  push_right :
      (p a m : ℕ) → p < states bs → a < symbols bs → m ≤ Format.direction_left → move_off bs class m ≡ false →
      RulePasses bs class (rule Format.kind_push p a m)
  unfolding rule_bad
  push_right p a m h k l o =
      record { not_bad = rw (lt-leb (states bs) p h, lt-leb (symbols bs) a k, le-ltb Format.direction_left m l) o }

  module _ (m : ℕ) (states_are : states bs ≡ state_count) (symbols_are : symbols bs ≡ suc (2 * m)) where
    pop : (p n : ℕ) → p < state_count → n ≤ Format.pop_return → RulePasses bs class (rule Format.kind_pop p 0 n)
    pop p n h l = pop_right p n (omega arith) l

    stay_ok : RulePasses bs class pop_ok
    stay_ok = pop state_ok Format.pop_stay (omega arith) (omega arith)

    stay_fail : RulePasses bs class pop_fail
    stay_fail = pop state_fail Format.pop_stay (omega arith) (omega arith)

    return_ok : RulePasses bs class back_ok
    return_ok = pop state_ok Format.pop_return (omega arith) (omega arith)

    return_fail : RulePasses bs class back_fail
    return_fail = pop state_fail Format.pop_return (omega arith) (omega arith)

    push_part : (b : ℕ) → b < m → RulePasses bs class (push_first b)
    push_part b h = push_right state_work (first b) Format.direction_stay (omega arith) (omega arith) (omega arith) still_on

    change_part : (k : ℕ) → k < m → RulePasses bs class (to_second k)
    change_part k h = change_right state_work (second k) Format.direction_stay (omega arith) (omega arith) (omega arith) still_on

    pass_part : (k : ℕ) → k < m → (class ≡ classes bs + 1 → ⊥) → RulePasses bs class (pass_byte k)
    pass_part k h o = change_right state_ok (first k) Format.direction_right (omega arith) (omega arith) (omega arith) (right_on o)

    -- the six rules of a grammar rule; a byte is passed on no marker
    rows_right :
        (x : Expression) (k : ℕ) (t : Bool) → k < m → PartsBelow m x → (t ≡ true → class ≡ classes bs + 1 → ⊥) →
        Each (RulePasses bs class) (rows x k t)
    unfolding rows PartsBelow
    rows_right (Sequence b c) k t h l o = each (push_part b l.0) (change_part k h) return_fail (push_part c l.1) stay_ok return_fail
    rows_right (Choice b c) k t h l o = each (push_part b l.0) stay_ok (change_part k h) (push_part c l.1) stay_ok stay_fail
    rows_right (Not b) k t h l o = each (push_part b l) return_fail return_ok none_right none_right none_right
    rows_right Empty k t h l o = each stay_ok none_right none_right none_right none_right none_right
    rows_right (Range b c) k t h l o =
        each (by_cond (RulePasses bs class) t (pass_byte k) pop_fail (λ e. pass_part k h (o e)) stay_fail) stay_ok none_right none_right none_right none_right

    pub select_right :
        (x : Expression) (s : Bool) (p k : ℕ) (t : Bool) → k < m → PartsBelow m x → (t ≡ true → class ≡ classes bs + 1 → ⊥) →
        RulePasses bs class (select (rows x k t) s p)
    select_right x s p k t h l o = each_select (RulePasses bs class) none_right (rows x k t) (rows_right x k t h l o) s p

    -- the rules of symbol 0: the push moves right, but only on the left marker; leading moves right on a byte
    on_byte_right : (how : Matching) → (class ≡ classes bs + 1 → ⊥) → RulePasses bs class (on_byte how)
    unfolding on_byte
    on_byte_right Whole o = none_right
    on_byte_right Leading o = change_right state_ok 0 Format.direction_right (omega arith) (omega arith) (omega arith) (right_on o)

    pub row_zero_right : (how : Matching) (n p : ℕ) → classes bs ≡ n → 0 < m → RulePasses bs class (row_zero how n p class)
    unfolding row_zero
    row_zero_right how n p e h =
        by_cond (RulePasses bs class) (eqb p state_start && eqb class n) _ _
        (λ t.
        let q : class ≡ n = eqb-true _ _ (both_true (eqb p state_start) _ t).1 in
        push_right state_work (first 0) Format.direction_right (omega arith) (omega arith) (omega arith) (right_on (λ z. omega arith)))
        (by_cond (RulePasses bs class) (eqb p state_ok && eqb class (n + 1)) _ _
        (λ t. pop state_done Format.pop_stay (omega arith) (omega arith))
        (by_cond (RulePasses bs class) (eqb p state_ok && ltb class n) _ _
        (λ t. on_byte_right how (λ z. omega (arith, ltb-true class n (both_true (eqb p state_ok) _ t).1)))
        none_right))
