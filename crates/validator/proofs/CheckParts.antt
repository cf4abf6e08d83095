-- Facts on tests that the image's check uses. Assumes nothing.
use mathlib.Core.Path.{◌≡◌, refl, sym, subst}
use mathlib.Core.Bool.{Bool, true, false}
use Prim.Native.Nat.{ℕ, ◌+◌, ◌*◌, ◌/◌, ◌<◌, ◌≤◌}
use native.Mathlib.Nat.{not-le_of_lt, mul-le-mul, div-eq_of_lt, div-lt_iff_lt-mul}
use native.Mathlib.Omega.{arith}
use lib.Dec.{ltb, eqb}
use borrow.Author.Tests.{ltb-true, ltb-false, eq-eqb, ne_eqb}

-- nothing is left of a number over a larger one, and only then
pub no_quotient : (n m : ℕ) → 0 < m → eqb (n / m) 0 ≡ ltb n m
no_quotient n m h = go (ltb n m) refl
  where
    none_left : n / m ≡ 0 → n < m
    none_left e =
        let below : n / m < 1 = subst (λ (k : ℕ). k < 1) (sym e) (omega arith) in
        omega (arith, (div-lt_iff_lt-mul h).0 below)

    go : (t : Bool) → ltb n m ≡ t → eqb (n / m) 0 ≡ t
    go true q = eq-eqb _ _ (div-eq_of_lt (ltb-true n m q))
    go false q =
        ne_eqb _ _
        (λ e. not-le_of_lt (none_left e) (ltb-false n m q))

-- a product of three counts that are bytes
pub two_counts : (q k : ℕ) → q < 256 → k < 256 → q * (k + 2) ≤ 255 * 257
two_counts q k hq hk =
    let least : q ≤ 255 = omega arith in
    let most : k + 2 ≤ 257 = omega arith in
    mul-le-mul least most

pub three_counts : (q k g : ℕ) → q < 256 → k < 256 → g < 256 → q * (k + 2) * g ≤ 255 * 257 * 255
three_counts q k g hq hk hg =
    let most : g ≤ 255 = omega arith in
    mul-le-mul (two_counts q k hq hk) most
