-- The pass over the marks of the byte values: the class of the next value, and bounds on classes and on the image's rules. Assumes nothing.
use mathlib.Core.Path.{◌≡◌, refl, ap, subst, ◌∙◌}
use mathlib.Core.Bool.{Bool, true, false, cond}
use mathlib.Core.List.{List}
use Prim.Native.Nat.{ℕ, zero, suc, ◌+◌, ◌-◌, ◌*◌, ◌<◌, ◌≤◌}
use native.Mathlib.Nat.{mul-le-mul}
use native.Mathlib.Numerals.{add-one}
use native.Mathlib.Omega.{arith}
use lib.ListN.{length}
use Rattle.codec.specs.Bytes.{byte}
use Rattle.machine.specs.Run.{how_many}
use Rattle.image.specs.Image.{machine}
use Rattle.grammar.specs.Grammar.{max_rules, grammar_refusal}
use Rattle.builder.specs.Classes.{cut, class_of, class_count}
use Rattle.builder.specs.Table.{state_count}
use Rattle.builder.specs.Image.{symbols_of, built_rules}
use Rattle.builder.specs.Code.Building.{CellsAre}
use Rattle.builder.specs.Code.Marking.{MarksCuts}
use Rattle.grammar.proofs.GrammarGood.{good_grammar}
use Rattle.builder.proofs.ClassesFew.{class_count_most}
use Rattle.builder.proofs.BuiltImage.{built_states, built_symbols}

one_or_none : (t : Bool) → cond t 1 0 ≤ 1
one_or_none true = omega arith
one_or_none false = omega arith

class_step : (gs : List ℕ) (v : ℕ) → class_of gs (v + 1) ≡ class_of gs v + cond (cut gs (v + 1)) 1 0
unfolding class_of
class_step gs v = rw (add-one v)

pub class_zero : (gs : List ℕ) → class_of gs 0 ≡ 0
unfolding class_of
class_zero gs = refl

pub class_within : (gs : List ℕ) (v : ℕ) → class_of gs v ≤ v
unfolding class_of
class_within gs zero = omega arith
class_within gs (suc v) = omega (arith, class_within gs v, one_or_none (cut gs (suc v)))

-- the count with value v's mark; it is a byte
module _ (gs ms : List ℕ) (marks : MarksCuts gs ms) (class v : ℕ) (is : class ≡ class_of gs (v - 1)) (least : 1 ≤ v) (more : v < 256) where
  pub class_next : class + byte ms v ≡ class_of gs v
  class_next =
      let one : v - 1 + 1 ≡ v = omega arith in
      let step : class_of gs v ≡ class_of gs (v - 1) + cond (cut gs v) 1 0 =
      subst (λ (u : ℕ). class_of gs u ≡ class_of gs (v - 1) + cond (cut gs u) 1 0) one (class_step gs (v - 1))
      in
      omega (arith, marks.mark v more, step)

  pub next_fits : class + byte ms v < 256
  next_fits = omega (arith, class_next, class_within gs v)

pub classes_are : (gs : List ℕ) (class v : ℕ) → class ≡ class_of gs (v - 1) → v ≡ 256 → class + 1 ≡ class_count gs
unfolding class_count
classes_are gs class v e h =
    let last : v - 1 ≡ 255 = omega arith in
    ap (λ (n : ℕ). n + 1) (e ∙ ap (class_of gs) last)

pub symbols_some : (gs : List ℕ) → 0 < symbols_of gs
unfolding symbols_of
symbols_some gs = omega arith

-- AN IMAGE IS SHORT: K is at most 63, and so is G
module _ (gs : List ℕ) (good : (grammar_refusal gs).number ≡ 0) where
  pub grammar_short : length gs ≤ 4 * max_rules
  grammar_short = let w = good_grammar gs good in omega (arith, w.length_is, w.rules_most)

  pub classes_most : class_count gs ≤ 63
  classes_most = class_count_most gs (good_grammar gs good).rules_most

  pub symbols_most : symbols_of gs ≤ 63
  unfolding symbols_of
  symbols_most = omega (arith, (good_grammar gs good).rules_most)

  pub columns_most : (n : ℕ) → n ≡ class_count gs → state_count * (n + 2) ≤ 325
  columns_most n e = omega (arith, classes_most)

  pub product_most : (n g : ℕ) → n ≡ class_count gs → g ≡ symbols_of gs → state_count * (n + 2) * g ≤ 20475
  product_most n g e f =
      let symbols : g ≤ 63 = omega (arith, symbols_most) in
      mul-le-mul (columns_most n e) symbols

pub count_is : (gs : List ℕ) (n g : ℕ) → n ≡ class_count gs → g ≡ symbols_of gs → state_count * (n + 2) * g ≡ built_rules gs
unfolding built_rules
count_is gs n g e f = simp (e, f)

pub count_most : (gs : List ℕ) → (grammar_refusal gs).number ≡ 0 → built_rules gs ≤ 20475
unfolding built_rules
count_most gs good = product_most gs good (class_count gs) (symbols_of gs) refl refl

-- THE CELLS of the grammar's machine
pub cells_told : (gs : List ℕ) (n g : ℕ) → g ≡ symbols_of gs → CellsAre gs n (state_count * (n + 2) * g)
unfolding how_many machine
cells_told gs n g e how cs l = rw (built_states how gs, built_symbols how gs, e, l)
