-- The rules of a grammar rule's two symbols are the table's; and the place of a rule among all, by its state, class and symbol. Assumes nothing.
use mathlib.Core.Path.{◌≡◌, refl, sym, ap, ◌∙◌}
use mathlib.Core.Bool.{true, false}
use mathlib.Core.List.{List}
use Prim.Native.Nat.{ℕ, suc, ◌+◌, ◌*◌, ◌/◌, ◌%◌, ◌<◌, ◌≤◌}
use native.Mathlib.Nat.{mul-le-mul, suc-mul}
use native.Mathlib.Omega.{arith}
use lib.Dec.{eqb}
use Rattle.image.specs.Code.Counting.{selector, Selects}
use Rattle.grammar.specs.Grammar.{rules}
use Rattle.builder.specs.declared.RulePair.{RulePair}
use Rattle.builder.specs.Classes.{class_count}
use Rattle.builder.specs.Table.{state_count, no_rule, rows_at, unruled, select, symbol}
use Rattle.builder.specs.Image.{symbols_of, built_rules}
use Rattle.builder.specs.Code.Writing.{rule_of, Picks, MadePair}
use Rattle.builder.proofs.CodeRows.{unruled_is, made_suc}

-- THE TABLE'S RULES, from those that were picked of rule k's six
pub pair_is : (gs : List ℕ) (p x k : ℕ) (r : RulePair) → Picks (rows_at gs k x) p r → MadePair gs p x k r
pair_is gs p x k r w =
    let first_half : k ≡ 2 * k / 2 = omega arith in
    let first_rest : 0 ≡ 2 * k % 2 = omega arith in
    let second_half : k ≡ suc (2 * k) / 2 = omega arith in
    let second_rest : 1 ≡ suc (2 * k) % 2 = omega arith in
    record {
      first =
          λ how.
          w.first ∙ ap (λ (n : ℕ). select (rows_at gs n x) false p) first_half
          ∙ ap (λ (t : ℕ). select (rows_at gs (2 * k / 2) x) (eqb t 1) p) first_rest ∙ made_suc how gs p x (2 * k);
      second =
          λ how.
          w.second ∙ ap (λ (n : ℕ). select (rows_at gs n x) true p) second_half
          ∙ ap (λ (t : ℕ). select (rows_at gs (suc (2 * k) / 2) x) (eqb t 1) p) second_rest ∙ made_suc how gs p x (suc (2 * k));
    }

-- none in a state without rules
pub pair_none :
    (gs : List ℕ) (p x k : ℕ) (r : RulePair) → unruled p ≡ true → rule_of r.first ≡ no_rule → rule_of r.second ≡ no_rule → MadePair gs p x k r
pair_none gs p x k r h a b =
    record {
      first = λ how. unruled_is how gs p x (symbol false k) _ true (λ z. omega arith) (sym h) refl a;
      second = λ how. unruled_is how gs p x (symbol true k) _ true (λ z. omega arith) (sym h) refl b;
    }

-- THE PLACE OF A RULE: symbols fastest, then classes, then states
abbrev pub place : List ℕ → (p x a : ℕ) → ℕ
place gs p x a = (p * (class_count gs + 2) + x) * symbols_of gs + a

-- rule k's two symbols are there
pub first_there : (gs : List ℕ) (k : ℕ) → k < rules gs → 1 + 2 * k < symbols_of gs
unfolding symbols_of
first_there gs k h = omega arith

pub second_there : (gs : List ℕ) (k : ℕ) → k < rules gs → 1 + 2 * k + 1 < symbols_of gs
unfolding symbols_of
second_there gs k h = omega arith

-- after rule k's two symbols comes the next rule's first, or the next class
pub class_done : (gs : List ℕ) (p x k : ℕ) → rules gs ≤ k → k ≤ rules gs → place gs p x (1 + 2 * k) ≡ place gs p (x + 1) 0
unfolding symbols_of
class_done gs p x k most least =
    let n : ℕ = p * (class_count gs + 2) + x in
    let one : p * (class_count gs + 2) + (x + 1) ≡ suc n = omega arith in
    let last : n * suc (2 * rules gs) + (1 + 2 * k) ≡ suc n * suc (2 * rules gs) + 0 = omega (arith, suc-mul n (suc (2 * rules gs))) in
    last ∙ ap (λ (m : ℕ). m * suc (2 * rules gs) + 0) (sym one)

pub all_done : (gs : List ℕ) (p : ℕ) → p ≡ state_count → place gs p 0 0 ≡ built_rules gs
unfolding built_rules
all_done gs p last = rw last (omega arith)

-- it is one of the rules'
module _ (gs : List ℕ) (p x a : ℕ) (state : p < state_count) (class : x < class_count gs + 2) (symbol-there : a < symbols_of gs) where
  pub place_below : place gs p x a < built_rules gs
  unfolding built_rules
  place_below =
      let k : ℕ = class_count gs + 2 in
      let g : ℕ = symbols_of gs in
      let row : suc p * k ≤ state_count * k = mul-le-mul (omega arith) (omega arith) in
      let column : suc (p * k + x) * g ≤ state_count * k * g = mul-le-mul (omega (arith, row, suc-mul p k)) (omega arith) in
      omega (arith, column, suc-mul (p * k + x) g)

  pub place_selects : Selects (selector p x a) (class_count gs + 2) (symbols_of gs) (place gs p x a)
  place_selects =
      let k : ℕ = class_count gs + 2 in
      let g : ℕ = symbols_of gs in
      let state-most : p * 1 ≤ p * k = mul-le-mul (omega arith) (omega arith) in
      let row-most : (p * k + x) * 1 ≤ (p * k + x) * g = mul-le-mul (omega arith) (omega arith) in
      record { index_is = refl; class_below = class; symbol_below = symbol-there; state_most = omega (arith, state-most, row-most) }
