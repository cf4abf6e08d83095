-- The members of sets that are numbers: of a union, of one rule alone, and of none. Assumes nothing.
use mathlib.Core.Path.{◌≡◌, refl, sym, ap, ◌∙◌}
use mathlib.Core.Bool.{Bool, true, false, ◌||◌, ◌&&◌}
use Prim.Native.Nat.{ℕ, zero, suc, ◌*◌, ◌/◌, ◌%◌, ◌^◌, ◌<◌, ◌≤◌, max}
use native.Mathlib.Nat.{mod-lt, div-one, div-div-eq-div-mul, pow-succ', pow-suc, zero-div, mul-div_cancel_left, zero-lt-suc, one-mul}
use native.Mathlib.Omega.{arith}
use native.Mathlib.Decide.{ℕ_discrete}
use lib.Arith.{digits_div, digits_mod}
use lib.Bits.{bit_or, or_step, or_add_and, and_le_r}
use lib.Dec.{eqb}
use lib.Pow.{shl_exact}
use borrow.Author.Tests.{eq-eqb, ne_eqb}
use Rattle.recursion.specs.Code.Sets.{member}

-- ONE PLACE LOWER: half the number
half_place : (n k : ℕ) → n / 2 ^ suc k ≡ n / 2 / 2 ^ k
half_place n k = ap (λ (d : ℕ). n / d) (pow-succ' 2 k) ∙ sym (div-div-eq-div-mul n 2 (2 ^ k))

member_half : (n k : ℕ) → member n (suc k) ≡ member (n / 2) k
unfolding member
member_half n k = ap (λ (d : ℕ). eqb (d % 2) 1) (half_place n k)

member_first : (n : ℕ) → member n 0 ≡ eqb (n % 2) 1
unfolding member
member_first n = ap (λ (d : ℕ). eqb (d % 2) 1) (div-one n)

-- A UNION
max_digit : (x y : ℕ) → x < 2 → y < 2 → (max x y < 2) × (eqb (max x y) 1 ≡ (eqb x 1 || eqb y 1))
max_digit zero zero h g = (omega arith, refl)
max_digit zero (suc zero) h g = (omega arith, refl)
max_digit (suc zero) zero h g = (omega arith, refl)
max_digit (suc zero) (suc zero) h g = (omega arith, refl)
max_digit (suc (suc x)) y h g = absurd (omega arith)
max_digit zero (suc (suc y)) h g = absurd (omega arith)
max_digit (suc zero) (suc (suc y)) h g = absurd (omega arith)

module _ (a b : ℕ) where
  last_digit : (max (a % 2) (b % 2) < 2) × (eqb (max (a % 2) (b % 2)) 1 ≡ (eqb (a % 2) 1 || eqb (b % 2) 1))
  last_digit = max_digit (a % 2) (b % 2) (mod-lt a (zero-lt-suc 1)) (mod-lt b (zero-lt-suc 1))

  union_half : bit_or a b / 2 ≡ bit_or (a / 2) (b / 2)
  union_half = ap (λ (n : ℕ). n / 2) (or_step a b) ∙ digits_div (bit_or (a / 2) (b / 2)) last_digit.0

  union_odd : bit_or a b % 2 ≡ max (a % 2) (b % 2)
  union_odd = ap (λ (n : ℕ). n % 2) (or_step a b) ∙ digits_mod (bit_or (a / 2) (b / 2)) last_digit.0

pub or_false : (b : Bool) → (b || false) ≡ b
or_false true = refl
or_false false = refl

pub and_false : (b : Bool) → (b && false) ≡ false
and_false true = refl
and_false false = refl

both_or : {p q r s : Bool} → p ≡ q → r ≡ s → (p || r) ≡ (q || s)
both_or {p} {q} {r} {s} e f = ap (λ (x : Bool). x || r) e ∙ ap (λ (x : Bool). q || x) f

pub union_members : (a b l : ℕ) → member (bit_or a b) l ≡ (member a l || member b l)
union_members a b zero =
    member_first (bit_or a b) ∙ ap (λ (n : ℕ). eqb n 1) (union_odd a b) ∙ (last_digit a b).1
    ∙ both_or (sym (member_first a)) (sym (member_first b))
union_members a b (suc l) =
    member_half (bit_or a b) l ∙ ap (λ (n : ℕ). member n l) (union_half a b) ∙ union_members (a / 2) (b / 2) l
    ∙ both_or (sym (member_half a l)) (sym (member_half b l))

pub union_more : (a b : ℕ) → a ≤ bit_or a b
union_more a b = omega (arith, or_add_and a b, and_le_r a b)

-- what a union has
pub ruleset union_laws = (union_members, union_more)

-- NONE
pub no_members : (l : ℕ) → member 0 l ≡ false
unfolding member
no_members l = ap (λ (d : ℕ). eqb (d % 2) 1) (zero-div (2 ^ l))

-- ONE RULE ALONE
same_after : (k l : ℕ) → eqb l k ≡ eqb (suc l) (suc k)
same_after k l = go (ℕ_discrete l k)
  where
    go : Dec (l ≡ k) → eqb l k ≡ eqb (suc l) (suc k)
    go (yes e) = eq-eqb l k e ∙ sym (eq-eqb (suc l) (suc k) (ap suc e))
    go (no n) = ne_eqb l k n ∙ sym (ne_eqb (suc l) (suc k) (λ e. n (omega (arith, e))))

power_members : (k l : ℕ) → member (2 ^ k) l ≡ eqb l k
power_members zero zero = member_first 1
power_members zero (suc l) = member_half 1 l ∙ no_members l ∙ sym (ne_eqb (suc l) 0 (omega arith))
power_members (suc k) zero =
    member_first (2 ^ suc k) ∙ ap (λ (n : ℕ). eqb (n % 2) 1) (pow-suc 2 k) ∙ ap (λ (n : ℕ). eqb n 1) (even (2 ^ k)) ∙ sym (ne_eqb 0 (suc k) (omega arith))
  where
    even : (n : ℕ) → n * 2 % 2 ≡ 0
    even n = omega arith
power_members (suc k) (suc l) =
    member_half (2 ^ suc k) l
    ∙ ap (λ (n : ℕ). member n l) (ap (λ (n : ℕ). n / 2) (pow-succ' 2 k) ∙ mul-div_cancel_left (2 ^ k) (zero-lt-suc 1))
    ∙ power_members k l ∙ same_after k l

pub single_members : (k : ℕ) → k < 32 → (l : ℕ) → member (1 * 2 ^ k % 2 ^ 32) l ≡ eqb l k
single_members k h l =
    ap (λ (n : ℕ). member n l) (shl_exact 1 k 32 (omega arith) (omega arith) ∙ one-mul (2 ^ k)) ∙ power_members k l

-- A RULE ADDED, or not
pub adds_one :
    (a k now one : ℕ) {adds : Bool} → ((l : ℕ) → member now l ≡ (member a l || member one l)) → ((l : ℕ) → member one l ≡ eqb l k) → adds ≡ true →
    (l : ℕ) → member now l ≡ (member a l || (adds && eqb l k))
adds_one a k now one both single added l = rw added (both l ∙ ap (λ (x : Bool). member a l || x) (single l))

pub adds_none : (a k : ℕ) {adds : Bool} → adds ≡ false → (l : ℕ) → member a l ≡ (member a l || (adds && eqb l k))
adds_none a k none l = rw none (sym (or_false (member a l)))

-- A ROW PASSED THROUGH A RULE, or not
pub passes_on :
    (a n b now : ℕ) → ((l : ℕ) → member now l ≡ (member a l || member b l)) → member a n ≡ true →
    (l : ℕ) → member now l ≡ (member a l || (member a n && member b l))
passes_on a n b now both has l = rw has (both l)

pub passes_by : (a n b : ℕ) → member a n ≡ false → (l : ℕ) → member a l ≡ (member a l || (member a n && member b l))
passes_by a n b none l = rw none (sym (or_false (member a l)))
