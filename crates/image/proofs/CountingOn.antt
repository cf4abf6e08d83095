-- Counting on selects the rule with the next index; an index gives back what selects it. Assumes nothing.
use mathlib.Core.Path.{◌≡◌, refl, ap, ◌∙◌}
use mathlib.Core.Bool.{Bool, true, false, cond}
use Prim.Native.Nat.{ℕ, suc, ◌+◌, ◌*◌, ◌/◌, ◌%◌, ◌<◌}
use native.Mathlib.Nat.{suc-mul, zero-mul}
use native.Mathlib.Omega.{arith}
use lib.Dec.{ltb}
use lib.Arith.{digits_div, digits_mod}
use borrow.Author.Tests.{ltb-true, ltb-false}
use Rattle.image.specs.declared.Selector.{Selector}
use Rattle.image.specs.Code.Counting.{selector, first_selector, next_selector, Selects, CountsOn}

pub selects_first : (k g : ℕ) → 0 < k → 0 < g → Selects first_selector k g 0
selects_first k g hk hg =
    record { index_is = simp (zero-mul); class_below = hk; symbol_below = hg; state_most = omega arith }

module _ (s : Selector) (k g i : ℕ) (w : Selects s k g i) where
  -- the rule has this state, class and symbol
  pub symbol_of : i % g ≡ s.symbol
  symbol_of = ap (λ (n : ℕ). n % g) w.index_is ∙ digits_mod (s.state * k + s.class) w.symbol_below

  row_of : i / g ≡ s.state * k + s.class
  row_of = ap (λ (n : ℕ). n / g) w.index_is ∙ digits_div (s.state * k + s.class) w.symbol_below

  pub class_of : i / g % k ≡ s.class
  class_of = ap (λ (n : ℕ). n % k) row_of ∙ digits_mod s.state w.class_below

  pub state_of : i / g / k ≡ s.state
  state_of = ap (λ (n : ℕ). n / k) row_of ∙ digits_div s.state w.class_below

  pub counts_on : i < 4294967295 → CountsOn s k g
  counts_on h = record { state_room = omega (arith, w.state_most); class_below = w.class_below; symbol_below = w.symbol_below }

  -- all symbols of a class are through
  row_through : s.symbol + 1 ≡ g → i + 1 ≡ suc (s.state * k + s.class) * g
  row_through e = rw suc-mul (omega (arith, w.index_is))

  next_row : s.symbol + 1 ≡ g → (t : Bool) → ltb (s.class + 1) k ≡ t → Selects (cond t (selector s.state (s.class + 1) 0) (selector (s.state + 1) 0 0)) k g (i + 1)
  next_row e true q =
      let further : suc (s.state * k + s.class) ≡ s.state * k + (s.class + 1) = omega arith in
      record {
        index_is = row_through e ∙ ap (λ (n : ℕ). n * g) further ∙ omega arith;
        class_below = ltb-true _ _ q;
        symbol_below = omega (arith, w.symbol_below);
        state_most = omega (arith, w.state_most);
      }
  next_row e false q =
      let last : s.class + 1 ≡ k = omega (arith, ltb-false (s.class + 1) k q, w.class_below) in
      let one_more : s.state + 1 ≡ suc s.state = omega arith in
      let further : suc (s.state * k + s.class) ≡ (s.state + 1) * k + 0 = rw (one_more, suc-mul) (omega arith) in
      record {
        index_is = row_through e ∙ ap (λ (n : ℕ). n * g) further ∙ omega arith;
        class_below = omega (arith, w.class_below);
        symbol_below = omega (arith, w.symbol_below);
        state_most = omega (arith, w.state_most);
      }

  pub selects_next : Selects (next_selector s k g) k g (i + 1)
  unfolding next_selector
  selects_next = go (ltb (s.symbol + 1) g) refl
    where
      further : Selector
      further = cond (ltb (s.class + 1) k) (selector s.state (s.class + 1) 0) (selector (s.state + 1) 0 0)

      go : (t : Bool) → ltb (s.symbol + 1) g ≡ t → Selects (cond t (selector s.state s.class (s.symbol + 1)) further) k g (i + 1)
      go true q =
          record {
            index_is = omega (arith, w.index_is);
            class_below = w.class_below;
            symbol_below = ltb-true _ _ q;
            state_most = omega (arith, w.state_most);
          }
      go false q = next_row (omega (arith, ltb-false (s.symbol + 1) g q, w.symbol_below)) (ltb (s.class + 1) k) refl
