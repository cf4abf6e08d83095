-- Of the number kept: its three shares, that it fits, and what a move or a pop adds and takes away. Assumes nothing.
use mathlib.Core.Path.{◌≡◌, refl, sym, ap, ◌∙◌}
use Prim.Native.Nat.{ℕ, ◌+◌, ◌*◌, ◌-◌, ◌/◌, ◌<◌, ◌≤◌}
use mir.Val.{Fits}
use mir.Syntax.{w32, w64}
use native.Mathlib.Nat.{mul-le-mul, mul-le-mul_right, add-mul, mul_assoc, mul_comm, mul-pos, div-div-eq-div-mul, mod-eq-sub-div-mul, div-mul-le_self, div-le_self}
use native.Mathlib.Omega.{arith}
use Rattle.image.specs.Format
use Rattle.machine.specs.declared.Config.{Config}
use Rattle.machine.specs.Run.{config, number_by, config_by}
use Rattle.machine.proofs.Digits.{digits_apart, digits_below}
use Rattle.chain.specs.declared.Environment.{Environment}
use Rattle.chain.specs.Step.{number_in, config_in}
use Rattle.chain.specs.Chain.{symbols_scale, stride_scale}
use Rattle.chain.specs.Code.NumberParts.{u32_end, Constants, ConfigBelow, Numbered, Moves, Apart}
use Rattle.chain.proofs.Dividing.{one_more_times, divides, product_few}

-- more than any number
abbrev pub numbers_end : ℕ
numbers_end = Format.max_states * Format.max_places * Format.max_symbols

module _ {e : Environment} (k : Constants e) where
  -- the state's share, the head's and the symbol's
  pub shares : (c : Config) → number_in e c ≡ c.state * e.stride + c.head * e.sizes.symbols + c.symbol
  unfolding number_by
  shares c = rw k.stride_is (digits_apart c.state c.head c.symbol e.sizes.places e.sizes.symbols)

  pub number_few : {c : Config} → ConfigBelow e c → number_in e c < numbers_end
  unfolding number_by
  number_few {c} b =
      let h : (c.state * e.sizes.places + c.head) * e.sizes.symbols + c.symbol < Format.max_states * e.sizes.places * e.sizes.symbols =
      digits_below b.state_low b.head_below b.symbol_below in
      let f : Format.max_states * e.sizes.places * e.sizes.symbols ≤ numbers_end =
      mul-le-mul {n₂ = Format.max_states * Format.max_places} {m₂ = Format.max_symbols}
      (mul-le-mul {n₂ = Format.max_states} {m₂ = Format.max_places} (omega arith) k.places_most)
      k.symbols_most in
      omega arith

  -- the number of a configuration by its row
  pub by_row :
      (p i a : ℕ) {row : ℕ} → row ≡ i * e.sizes.symbols → p * e.stride + row + a ≡ number_in e (config p i a)
  by_row p i a f = rw f (sym (shares (config p i a)))

  -- a move to the right, none, and a move to the left, by how far back the head goes from the place to the right
  pub moved_row :
      (i j : ℕ) → j ≤ i + 1 → i * e.sizes.symbols + e.sizes.symbols - (i + 1 - j) * e.sizes.symbols ≡ j * e.sizes.symbols
  moved_row i j right =
      let a : (i + 1) * e.sizes.symbols ≡ i * e.sizes.symbols + e.sizes.symbols = one_more_times i e.sizes.symbols in
      let b : (j + (i + 1 - j)) * e.sizes.symbols ≡ j * e.sizes.symbols + (i + 1 - j) * e.sizes.symbols = add-mul j (i + 1 - j) e.sizes.symbols in
      let c : j + (i + 1 - j) ≡ i + 1 = omega arith in
      let d : (j + (i + 1 - j)) * e.sizes.symbols ≡ (i + 1) * e.sizes.symbols = ap (λ (x : ℕ). x * e.sizes.symbols) c in
      omega arith

-- THE ROW of a configuration that has its number beside it
module _ {e : Environment} {c : Config} {k : ℕ} (y : Numbered e c k) where
  apart : k ≡ c.state * e.stride + c.head * e.sizes.symbols + c.symbol
  apart = y.is ∙ shares y.constants c

  pub kept_few : k < numbers_end
  kept_few = omega (arith, y.is, number_few y.constants y.below)

  pub share_fits : Fits w32 (c.state * e.stride)
  share_fits = omega (arith, apart, kept_few)

  pub share_least : c.state * e.stride ≤ k
  share_least = omega (arith, apart)

  pub symbol_least : c.symbol ≤ k - c.state * e.stride
  symbol_least = omega (arith, apart)

  pub row_is : k - c.state * e.stride - c.symbol ≡ c.head * e.sizes.symbols
  row_is = omega (arith, apart)

  pub row_few : c.head * e.sizes.symbols ≤ k
  row_few = omega (arith, apart)

-- A MOVE, from a row
module _ {e : Environment} {k : ℕ} {at c : Config} (y : Moves e k at c) {row : ℕ} (f : row ≡ at.head * e.sizes.symbols) where
  constants : Constants e
  constants = y.from.constants

  moved : row + e.sizes.symbols - (at.head + 1 - c.head) * e.sizes.symbols ≡ c.head * e.sizes.symbols
  moved = rw f (moved_row constants at.head c.head (omega (arith, y.leads.right_most)))

  pub row_room : Fits w32 (row + e.sizes.symbols)
  row_room = omega (arith, f, row_few y.from, kept_few y.from, constants.symbols_most)

  pub back_least : (at.head + 1 - c.head) * e.sizes.symbols ≤ row + e.sizes.symbols
  back_least =
      let a : (at.head + 1 - c.head) * e.sizes.symbols ≤ (at.head + 1) * e.sizes.symbols = mul-le-mul_right e.sizes.symbols (omega arith) in
      omega (arith, f, a, one_more_times at.head e.sizes.symbols)

  pub back_fits : Fits w32 ((at.head + 1 - c.head) * e.sizes.symbols)
  back_fits = omega (arith, back_least, row_room)

  now_is : {r : ℕ} → r ≡ row + e.sizes.symbols - (at.head + 1 - c.head) * e.sizes.symbols → c.state * e.stride + r + c.symbol ≡ number_in e c
  now_is g = by_row constants c.state c.head c.symbol (g ∙ moved)

  pub moved_fits : c.state * e.stride + (row + e.sizes.symbols - (at.head + 1 - c.head) * e.sizes.symbols) + c.symbol < u32_end
  moved_fits = omega (arith, now_is refl, number_few constants y.leads.below)

  pub moved_is :
      {x : ℕ} → x ≡ c.state * e.stride + (row + e.sizes.symbols - (at.head + 1 - c.head) * e.sizes.symbols) + c.symbol → x ≡ number_in e c
  moved_is h = h ∙ now_is refl

-- TAKEN APART, by the reciprocals
module _ {e : Environment} {k : ℕ} (y : Apart e k) where
  abbrev g : ℕ
  g = e.sizes.symbols

  abbrev m : ℕ
  m = e.sizes.places

  below_most : k < numbers_end
  below_most =
      let f : Format.max_states * m * g ≤ numbers_end =
      mul-le-mul {n₂ = Format.max_states * Format.max_places} {m₂ = Format.max_symbols}
      (mul-le-mul {n₂ = Format.max_states} {m₂ = Format.max_places} (omega arith) y.constants.places_most)
      y.constants.symbols_most in
      omega (arith, y.below)

  stride_few : m * g ≤ Format.max_places * Format.max_symbols
  stride_few = mul-le-mul {n₂ = Format.max_places} {m₂ = Format.max_symbols} y.constants.places_most y.constants.symbols_most

  stride_some : 0 < m * g
  stride_some = mul-pos y.constants.places_some y.constants.symbols_some

  pub upper_is : k * e.reciprocals.symbols / symbols_scale ≡ k / e.sizes.symbols
  upper_is =
      let f : k * g ≤ numbers_end * Format.max_symbols = mul-le-mul {n₂ = numbers_end} {m₂ = Format.max_symbols} (omega (arith, below_most)) y.constants.symbols_most in
      rw y.constants.reciprocals_are (divides k g symbols_scale y.constants.symbols_some (omega arith))

  pub state_is : k * e.reciprocals.stride / stride_scale ≡ k / e.stride
  state_is =
      let f : k * (m * g) ≤ numbers_end * (Format.max_places * Format.max_symbols) =
      mul-le-mul {n₂ = numbers_end} {m₂ = Format.max_places * Format.max_symbols} (omega (arith, below_most)) stride_few in
      rw (y.constants.reciprocals_are, y.constants.stride_is) (divides k (m * g) stride_scale stride_some (omega arith))

  pub symbols_product_fits : Fits w64 (k * e.reciprocals.symbols)
  symbols_product_fits =
      let q : Format.max_states * m * symbols_scale ≤ Format.max_states * Format.max_places * symbols_scale =
      mul-le-mul_right symbols_scale (mul-le-mul {n₂ = Format.max_states} {m₂ = Format.max_places} (omega arith) y.constants.places_most) in
      rw y.constants.reciprocals_are (omega (arith, q, product_few k g symbols_scale (Format.max_states * m) (omega (arith, y.below)), below_most))

  pub stride_product_fits : Fits w64 (k * e.reciprocals.stride)
  stride_product_fits =
      rw y.constants.reciprocals_are
      (omega (arith, product_few k (m * g) stride_scale Format.max_states (omega (arith, y.below, mul_assoc Format.max_states m g)), below_most))

  -- the state by the stride is the state by places and symbols
  pub by_stride : k / e.stride ≡ k / g / m
  by_stride = rw (y.constants.stride_is, mul_comm m g) (sym (div-div-eq-div-mul k g m))

  pub upper_least : {u : ℕ} → u ≡ k / g → u * g ≤ k
  upper_least f = rw f (div-mul-le_self k g)

  pub state_least : {u p : ℕ} → u ≡ k / g → p ≡ k / e.stride → p * m ≤ u
  state_least f h = rw (h, f, by_stride) (div-mul-le_self (k / g) m)

  pub upper_product_fits : {u : ℕ} → u ≡ k / g → Fits w32 (u * g)
  upper_product_fits f = omega (arith, upper_least f, below_most)

  pub state_product_fits : {u p : ℕ} → u ≡ k / g → p ≡ k / e.stride → Fits w32 (p * m)
  state_product_fits f h = omega (arith, state_least f h, f, div-le_self k g, below_most)

  pub apart_is :
      {u p : ℕ} → u ≡ k / g → p ≡ k / e.stride → config p (u - p * m) (k - u * g) ≡ config_in e k
  unfolding config_by
  apart_is f h = rw (h, f, by_stride, sym (mod-eq-sub-div-mul (k / g) m), sym (mod-eq-sub-div-mul k g)) refl
