-- How many of the numbers below n a set has: more in a larger set, and n only where it has all. Assumes nothing.
use mathlib.Core.Path.{◌≡◌, refl, ap}
use mathlib.Core.Bool.{Bool, true, false, cond, false≢true}
use Prim.Native.Nat.{ℕ, zero, suc, ◌+◌, ◌<◌, ◌≤◌}
use native.Mathlib.Decide.{ℕ_discrete}
use native.Mathlib.Omega.{arith}

abbrev one_if : Bool → ℕ
one_if t = cond t 1 0

-- how many of the numbers below n a set has
pub how_many_in : (set : ℕ → Bool) → (n : ℕ) → ℕ
how_many_in s zero = 0
how_many_in s (suc n) = how_many_in s n + one_if (s n)

one_if_le : (a b : Bool) → (a ≡ true → b ≡ true) → one_if a ≤ one_if b
one_if_le true true h = omega arith
one_if_le true false h = absurd (false≢true (h refl))
one_if_le false b h = omega arith

-- a set inside another has no more
pub inside_most : (s t : ℕ → Bool) (n : ℕ) → ((k : ℕ) → k < n → s k ≡ true → t k ≡ true) → how_many_in s n ≤ how_many_in t n
unfolding how_many_in
inside_most s t zero h = omega arith
inside_most s t (suc n) h =
    omega (arith, inside_most s t n (λ k l. h k (omega arith)), one_if_le (s n) (t n) (h n (omega arith)))

-- and fewer, if it lacks one of the other's
pub inside_fewer :
    (s t : ℕ → Bool) (n l : ℕ) → ((k : ℕ) → k < n → s k ≡ true → t k ≡ true) → l < n → s l ≡ false → t l ≡ true →
    how_many_in s n < how_many_in t n
unfolding how_many_in
inside_fewer s t zero l h below out there = absurd (omega arith)
inside_fewer s t (suc n) l h below out there = go (λ b. inside_fewer s t n l (λ k c. h k (omega arith)) b out there) (ℕ_discrete l n)
  where
    go : (l < n → how_many_in s n < how_many_in t n) → Dec (l ≡ n) → how_many_in s n + one_if (s n) < how_many_in t n + one_if (t n)
    go rest (yes e) =
        let zero_here : one_if (s n) ≡ 0 = rw (← e) (ap one_if out) in
        let one_here : one_if (t n) ≡ 1 = rw (← e) (ap one_if there) in
        omega (arith, inside_most s t n (λ k c. h k (omega arith)))
    go rest (no e) = omega (arith, rest (omega arith), one_if_le (s n) (t n) (h n (omega arith)))

pub not_true_false : (b : Bool) → (b ≡ true → ⊥) → b ≡ false
not_true_false true h = absurd (h refl)
not_true_false false h = refl

-- there are no more than n numbers below n, and if as many are in the set, all are
pub most_below : (s : ℕ → Bool) (n : ℕ) → how_many_in s n ≤ n
unfolding how_many_in
most_below s zero = omega arith
most_below s (suc n) = omega (arith, most_below s n, one_if_le (s n) true (λ e. refl))

pub all_below : (s : ℕ → Bool) (n : ℕ) → n ≤ how_many_in s n → (k : ℕ) → k < n → s k ≡ true
unfolding how_many_in
all_below s zero h k b = absurd (omega arith)
all_below s (suc n) h k b = go (all_below s n) (s n) refl (ℕ_discrete k n)
  where
    go : (n ≤ how_many_in s n → (k : ℕ) → k < n → s k ≡ true) → (t : Bool) → s n ≡ t → Dec (k ≡ n) → s k ≡ true
    go rest true e (yes here) = rw here e
    go rest true e (no other) =
        let one : one_if (s n) ≡ 1 = ap one_if e in
        rest (omega arith) k (omega arith)
    go rest false e d =
        let none : one_if (s n) ≡ 0 = ap one_if e in
        absurd (omega (arith, most_below s n))
