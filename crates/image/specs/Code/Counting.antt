-- What selects a rule, state, class and symbol, and the next one in the order of indices. Assumes nothing: these are definitions.
use Rattle.std.specs.Prelude.{◌≡◌, cond, ℕ, ◌+◌, ◌*◌, ◌<◌, ◌≤◌, ltb}
use Rattle.image.specs.declared.Selector.{Selector}

abbrev pub selector : (state class symbol : ℕ) → Selector
selector p k a = record { state = p; class = k; symbol = a }

abbrev pub first_selector : Selector
first_selector = selector 0 0 0

-- symbols go fastest, then classes (the markers too), then states
unfoldable pub next_selector : Selector → (columns symbols : ℕ) → Selector
next_selector s k g =
    cond (ltb (s.symbol + 1) g) (selector s.state s.class (s.symbol + 1))
    (cond (ltb (s.class + 1) k) (selector s.state (s.class + 1) 0) (selector (s.state + 1) 0 0))

-- the counts fit 32 bits
pub record CountsOn (s : Selector) (columns symbols : ℕ) : Type 0 where
  pub state_room : s.state < 4294967295
  pub class_below : s.class < columns
  pub symbol_below : s.symbol < symbols

-- what selects the rule with an index
pub record Selects (s : Selector) (columns symbols index : ℕ) : Type 0 where
  pub index_is : index ≡ (s.state * columns + s.class) * symbols + s.symbol
  pub class_below : s.class < columns
  pub symbol_below : s.symbol < symbols
  pub state_most : s.state ≤ index
