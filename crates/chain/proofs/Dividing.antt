-- A product with a reciprocal, rounded up, divides: k / d is k · (u / d + 1) / u where k · d is below the scale u. Assumes nothing.
use mathlib.Core.Path.{◌≡◌, sym, ◌∙◌, ap}
use Prim.Native.Nat.{ℕ, ◌+◌, ◌*◌, ◌/◌, ◌<◌, ◌≤◌}
use native.Mathlib.Nat.{mul_assoc, mul_comm, mul-add, add-mul, mul-one, mul-le-mul_left, mul-le-mul_right, le_of_mul-le-mul_right, lt_of_mul-lt-mul_right, div-mul-le_self, mul-div-le, lt-div-mul-add, div-eq_of_lt-le}
use native.Mathlib.Omega.{arith}
use Rattle.chain.specs.Chain.{reciprocal}

-- one more times d
pub one_more_times : (n d : ℕ) → (n + 1) * d ≡ n * d + d
one_more_times n d = add-mul n 1 d ∙ ap (λ (x : ℕ). n * d + x) (mul_comm 1 d ∙ mul-one d)

module _ (k d u : ℕ) (some : 0 < d) (few : k * d < u) where
  abbrev q : ℕ
  q = k / d

  abbrev over : ℕ
  over = reciprocal u d

  -- over · d is the scale and at most d more
  over_least : u ≤ over * d
  over_least =
      let h : u < u / d * d + d = lt-div-mul-add some in
      let e : (u / d + 1) * d ≡ u / d * d + d = one_more_times (u / d) d in
      omega arith

  over_most : over * d ≤ u + d
  over_most =
      let h : u / d * d ≤ u = div-mul-le_self u d in
      let e : (u / d + 1) * d ≡ u / d * d + d = one_more_times (u / d) d in
      omega arith

  swapped : k * over * d ≡ k * (over * d)
  swapped = mul_assoc k over d

  low : q * u ≤ k * over
  low = le_of_mul-le-mul_right {k = d} (omega (arith, a, b, c, swapped)) some
    where
      a : q * d * u ≤ k * u
      a = mul-le-mul_right u (div-mul-le_self k d)

      b : k * u ≤ k * (over * d)
      b = mul-le-mul_left k over_least

      c : q * u * d ≡ q * d * u
      c = mul_assoc q u d ∙ ap (λ (x : ℕ). q * x) (mul_comm u d) ∙ sym (mul_assoc q d u)

  high : k * over < (q + 1) * u
  high = lt_of_mul-lt-mul_right d (omega (arith, a, b, c, e, swapped, few))
    where
      a : k * (over * d) ≤ k * (u + d)
      a = mul-le-mul_left k over_most

      b : k * (u + d) ≡ k * u + k * d
      b = mul-add k u d

      more : k + 1 ≤ (q + 1) * d
      more =
          let h : k < q * d + d = lt-div-mul-add some in
          let f : (q + 1) * d ≡ q * d + d = one_more_times q d in
          omega arith

      c : (k + 1) * u ≤ (q + 1) * u * d
      c = omega (arith, mul-le-mul_right u more, mul_assoc (q + 1) u d ∙ ap (λ (x : ℕ). (q + 1) * x) (mul_comm u d) ∙ sym (mul_assoc (q + 1) d u))

      e : (k + 1) * u ≡ k * u + u
      e = one_more_times k u

  pub divides : k * reciprocal u d / u ≡ k / d
  divides = div-eq_of_lt-le u low high

-- how great such a product is, of a number k with a quotient of at most q
pub product_few : (k d u q : ℕ) → k ≤ q * d → k * reciprocal u d ≤ q * u + k
product_few k d u q few =
    let a : k * (u / d + 1) ≡ k * (u / d) + k = mul-add k (u / d) 1 ∙ ap (λ (x : ℕ). k * (u / d) + x) (mul-one k) in
    let b : k * (u / d) ≤ q * d * (u / d) = mul-le-mul_right (u / d) few in
    let c : q * d * (u / d) ≡ q * (d * (u / d)) = mul_assoc q d (u / d) in
    let f : q * (d * (u / d)) ≤ q * u = mul-le-mul_left q (mul-div-le u d) in
    omega arith
