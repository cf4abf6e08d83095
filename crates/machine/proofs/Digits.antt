-- A number by three digits, (p m + i) g + a: its bound, its digits, and the number of its digits. Rule indices and configuration numbers are such numbers. Assumes nothing.
use mathlib.Core.Path.{◌≡◌, ap, ◌∙◌}
use Prim.Native.Nat.{ℕ, zero, suc, ◌+◌, ◌*◌, ◌/◌, ◌%◌, ◌<◌}
use native.Mathlib.Nat.{mod-lt, div-add-mod', div-lt_iff_lt-mul, mul-zero, zero-mul, zero-lt-suc, add-mul, mul_assoc}
use native.Mathlib.Omega.{arith}
use lib.Arith.{digits_lt, digits_div, digits_mod}

pub digits_below : {p i a q m g : ℕ} → p < q → i < m → a < g → (p * m + i) * g + a < q * m * g
digits_below hp hi ha = digits_lt (digits_lt hp hi) ha

pub low_digit : (p i : ℕ) {a : ℕ} (m : ℕ) {g : ℕ} → a < g → ((p * m + i) * g + a) % g ≡ a
low_digit p i m ha = digits_mod (p * m + i) ha

pub upper_digits : (p i : ℕ) {a : ℕ} (m : ℕ) {g : ℕ} → a < g → ((p * m + i) * g + a) / g ≡ p * m + i
upper_digits p i m ha = digits_div (p * m + i) ha

pub middle_digit : (p : ℕ) {i a m g : ℕ} → i < m → a < g → ((p * m + i) * g + a) / g % m ≡ i
middle_digit p {i} {a} {m} {g} hi ha = ap (λ (x : ℕ). x % m) (upper_digits p i m ha) ∙ digits_mod p hi

pub high_digit : (p : ℕ) {i a m g : ℕ} → i < m → a < g → ((p * m + i) * g + a) / g / m ≡ p
high_digit p {i} {a} {m} {g} hi ha = ap (λ (x : ℕ). x / m) (upper_digits p i m ha) ∙ digits_div p hi

-- the three digits, each with what it counts for
pub digits_apart : (p i a m g : ℕ) → (p * m + i) * g + a ≡ p * (m * g) + i * g + a
digits_apart p i a m g = ap (λ (x : ℕ). x + a) (add-mul (p * m) i g ∙ ap (λ (x : ℕ). x + i * g) (mul_assoc p m g))

-- back: of a number k below q m g
pub high_below : {q m g : ℕ} (k : ℕ) → 0 < m → 0 < g → k < q * m * g → k / g / m < q
high_below {q} {m} {g} k hm hg hk = (div-lt_iff_lt-mul hm).1 ((div-lt_iff_lt-mul hg).1 hk)

pub middle_below : {m : ℕ} (g k : ℕ) → 0 < m → k / g % m < m
middle_below g k hm = mod-lt (k / g) hm

pub low_below : {g : ℕ} (k : ℕ) → 0 < g → k % g < g
low_below k hg = mod-lt k hg

pub number_of_digits : (m g k : ℕ) → (k / g / m * m + k / g % m) * g + k % g ≡ k
number_of_digits m g k = ap (λ (x : ℕ). x * g + k % g) (div-add-mod' (k / g) m) ∙ div-add-mod' k g

-- a product that has something below it has positive factors
none_below : {k n : ℕ} → k < n → n ≡ 0 → ⊥
none_below h e = omega arith

pub second_positive : (q m g : ℕ) {k : ℕ} → k < q * m * g → 0 < m
second_positive q zero g h = absurd (none_below h (ap (λ (x : ℕ). x * g) (mul-zero q) ∙ zero-mul g))
second_positive q (suc m) g h = zero-lt-suc m

pub third_positive : (q m g : ℕ) {k : ℕ} → k < q * m * g → 0 < g
third_positive q m zero h = absurd (none_below h (mul-zero (q * m)))
third_positive q m (suc g) h = zero-lt-suc g
