-- A number's digits are those of its tenth and then its last one, and a small number has few. Assumes nothing.
use mathlib.Core.Path.{◌≡◌, refl, sym, ap, ◌∙◌, subst⁻¹}
use mathlib.Core.Bool.{Bool, true, false, cond}
use mathlib.Core.List.{List, [], ◌∷◌, ◌++◌}
use Prim.Native.Nat.{ℕ, zero, suc, ◌+◌, ◌/◌, ◌%◌, ◌^◌, ◌≤◌, ◌<◌}
use native.Mathlib.Nat.{not-suc-le-zero, pow-succ'}
use native.Mathlib.Decide.{dec_lt}
use native.Mathlib.Omega.{arith}
use lib.Dec.{ltb}
use lib.ListN.{length, length-append}
use borrow.Author.Tests.{lt-ltb, le-ltb, ltb-false}
use Rattle.answer_line.specs.Line.{digit, digits, decimal}
use Rattle.answer_line.specs.declared.Line.{Line}
use Rattle.answer_line.specs.Code.Writing.{Writes}
use Rattle.answer_line.proofs.Writing.{write_both}

-- asking for more digits than there are changes nothing
digits_enough : (m k v : ℕ) → v < m → v < k → digits m v ≡ digits k v
unfolding digits
digits_enough zero k v h l = absurd (not-suc-le-zero h)
digits_enough (suc m) zero v h l = absurd (not-suc-le-zero l)
digits_enough (suc m) (suc k) v h l = go (ltb v 10) refl (digits_enough m k (v / 10))
  where
    go :
        (b : Bool) → ltb v 10 ≡ b → (v / 10 < m → v / 10 < k → digits m (v / 10) ≡ digits k (v / 10)) →
        cond b [] (digits m (v / 10)) ++ (digit (v % 10) ∷ []) ≡ cond b [] (digits k (v / 10)) ++ (digit (v % 10) ∷ [])
    go true e same = refl
    go false e same =
        let big : 10 ≤ v = ltb-false v 10 e in
        ap (λ (r : List ℕ). r ++ (digit (v % 10) ∷ [])) (same (omega arith) (omega arith))

pub decimal_last : (n : ℕ) → n < 10 → decimal n ≡ digit (n % 10) ∷ []
unfolding decimal digits
decimal_last n h = simp (lt-ltb n 10 h)

decimal_by : (n : ℕ) → decimal n ≡ digits (suc n) n
unfolding decimal
decimal_by n = refl

digits_more : (k n : ℕ) → 10 ≤ n → digits (suc k) n ≡ digits k (n / 10) ++ (digit (n % 10) ∷ [])
unfolding digits
digits_more k n h = simp (le-ltb n 10 h)

pub decimal_more : (n : ℕ) → 10 ≤ n → decimal n ≡ decimal (n / 10) ++ (digit (n % 10) ∷ [])
decimal_more n h =
    let fewer : digits n (n / 10) ≡ digits (suc (n / 10)) (n / 10) = digits_enough n (suc (n / 10)) (n / 10) (omega arith) (omega arith) in
    decimal_by n ∙ digits_more n n h ∙ ap (λ (r : List ℕ). r ++ (digit (n % 10) ∷ [])) (fewer ∙ sym (decimal_by (n / 10)))

-- how a number is written: its only digit, or all but the last and then the last
pub one_digit : (n : ℕ) {x y : Line} → n < 10 → Writes (digit (n % 10) ∷ []) x y → Writes (decimal n) x y
one_digit n {x} {y} h f = subst⁻¹ (λ (l : List ℕ). Writes l x y) (decimal_last n h) f

pub more_digits : (n : ℕ) {x y z : Line} → 10 ≤ n → Writes (decimal (n / 10)) x y → Writes (digit (n % 10) ∷ []) y z → Writes (decimal n) x z
more_digits n {x} {z = z} h f g = subst⁻¹ (λ (l : List ℕ). Writes l x z) (decimal_more n h) (write_both f g)

-- how many digits a number has at most
decimal_one_long : (n : ℕ) → n < 10 → length (decimal n) ≡ 1
decimal_one_long n h = rw (decimal_last n h) refl

decimal_more_long : (n : ℕ) → 10 ≤ n → length (decimal n) ≡ length (decimal (n / 10)) + 1
decimal_more_long n h = rw (decimal_more n h) (length-append (decimal (n / 10)) (digit (n % 10) ∷ []))

pub decimal_long : (k n : ℕ) → n < 10 ^ suc k → length (decimal n) ≤ suc k
decimal_long zero n h =
    let small : n < 10 = h in
    omega (arith, decimal_one_long n small)
decimal_long (suc k) n h = go (dec_lt n 10) (decimal_long k (n / 10))
  where
    go : Dec (n < 10) → (n / 10 < 10 ^ suc k → length (decimal (n / 10)) ≤ suc k) → length (decimal n) ≤ suc (suc k)
    go (yes small) fewer = omega (arith, decimal_one_long n small)
    go (no big) fewer =
        let tenth : n / 10 < 10 ^ suc k = omega (arith, pow-succ' 10 (suc k)) in
        omega (arith, decimal_more_long n (omega arith), fewer tenth)
