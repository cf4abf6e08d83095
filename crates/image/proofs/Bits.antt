-- A number is below 2 ^ q just if its bits from q up are zero. Assumes nothing.
use mathlib.Core.Path.{◌≡◌, ap}
use Prim.Native.Nat.{ℕ, zero, suc, ◌+◌, ◌/◌, ◌%◌, ◌^◌, ◌<◌, ◌≤◌}
use native.Mathlib.Nat.{add-zero, add-suc, pow-le-pow_right, one-le-pow, two-pow-succ, div-eq_of_lt, div-lt_iff_lt-mul}
use native.Mathlib.Omega.{arith}
use lib.Dec.{ltb}
use Rattle.refusal.proofs.Reflects.{Reflects, restated, less}

abbrev pub ClearFrom : (n q : ℕ) → Type 0
ClearFrom n q = (s : ℕ) → q ≤ s → n / 2 ^ s % 2 ≡ 0

below_clear : (n q : ℕ) → n < 2 ^ q → ClearFrom n q
below_clear n q h s more =
    let most : 2 ^ q ≤ 2 ^ s = pow-le-pow_right (omega arith) more in
    ap (λ (k : ℕ). k % 2) (div-eq_of_lt (omega arith))

below_power : (n : ℕ) → n < 2 ^ n
below_power zero = omega arith
below_power (suc n) = omega (arith, below_power n, two-pow-succ n)

-- one bit fewer
bit_less : (n k : ℕ) → n < 2 ^ suc k → n / 2 ^ k % 2 ≡ 0 → n < 2 ^ k
bit_less n k h e =
    let some : 0 < 2 ^ k = one-le-pow k 2 (omega arith) in
    let two : n / 2 ^ k < 2 = (div-lt_iff_lt-mul some).1 (omega (arith, two-pow-succ k)) in
    let none : n / 2 ^ k < 1 = omega arith in
    omega (arith, (div-lt_iff_lt-mul some).0 none)

clear_below : (n q d : ℕ) → ClearFrom n q → n < 2 ^ (q + d) → n < 2 ^ q
clear_below n q zero c h = rw add-zero at h
clear_below n q (suc d) c h = clear_below n q d c (bit_less n (q + d) (rw add-suc at h) (c (q + d) (omega arith)))

pub bits_test : (n q : ℕ) → Reflects (ClearFrom n q) (ltb n (2 ^ q))
bits_test n q =
    restated (below_clear n q)
    (λ c. clear_below n q n c (omega (arith, below_power n, pow-le-pow_right {n = 2} (omega arith) {i = n} {j = q + n} (omega arith))))
    (less n (2 ^ q))
