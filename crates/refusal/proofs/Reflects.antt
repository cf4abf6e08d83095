-- A test reflects a statement if it is true where the statement holds and false where it fails. What the tests of a check reflect, part by part; and back, what the test is by the statement. Assumes nothing.
use mathlib.Core.Path.{◌≡◌, refl}
use mathlib.Core.Bool.{Bool, true, false, ◌&&◌, ◌||◌, not, cond}
use mathlib.Core.Logic.{◌⊎◌, inl, inr}
use Prim.Native.Nat.{ℕ, ◌<◌, ◌≤◌}
use native.Mathlib.Nat.{not-le_of_lt}
use native.Mathlib.Omega.{arith}
use lib.Dec.{ltb, leb, eqb}
use borrow.Author.Tests.{ltb-true, ltb-false, leb-true, leb-false, eqb-true, eqb-false}

pub data Reflects (P : Type 0) : Bool → Type 0 where
  it_holds : P → Reflects P true
  it_fails : (P → ⊥) → Reflects P false

-- the test by the statement, and a decision
pub when_holds : {P : Type 0} {b : Bool} → Reflects P b → P → b ≡ true
when_holds (it_holds p) h = refl
when_holds (it_fails n) h = absurd (n h)

pub when_fails : {P : Type 0} {b : Bool} → Reflects P b → (P → ⊥) → b ≡ false
when_fails (it_holds p) h = absurd (h p)
when_fails (it_fails n) h = refl

pub decided : {P : Type 0} {b : Bool} → Reflects P b → Dec P
decided (it_holds p) = yes p
decided (it_fails n) = no n

-- the same test for a statement that says the same
pub restated : {P Q : Type 0} {b : Bool} → (P → Q) → (Q → P) → Reflects P b → Reflects Q b
restated f g (it_holds p) = it_holds (f p)
restated f g (it_fails n) = it_fails (λ q. n (g q))

-- COMPARISONS
pub equal : (m n : ℕ) → Reflects (m ≡ n) (eqb m n)
equal m n = go (eqb m n) refl
  where
    go : (b : Bool) → eqb m n ≡ b → Reflects (m ≡ n) b
    go true e = it_holds (eqb-true m n e)
    go false e = it_fails (eqb-false m n e)

pub less : (m n : ℕ) → Reflects (m < n) (ltb m n)
less m n = go (ltb m n) refl
  where
    go : (b : Bool) → ltb m n ≡ b → Reflects (m < n) b
    go true e = it_holds (ltb-true m n e)
    go false e = it_fails (λ h. not-le_of_lt h (ltb-false m n e))

pub at_most : (m n : ℕ) → Reflects (m ≤ n) (leb m n)
at_most m n = go (leb m n) refl
  where
    go : (b : Bool) → leb m n ≡ b → Reflects (m ≤ n) b
    go true e = it_holds (leb-true m n e)
    go false e = it_fails (λ h. not-le_of_lt (leb-false m n e) h)

-- CONNECTIVES
pub both : {P Q : Type 0} {a b : Bool} → Reflects P a → Reflects Q b → Reflects (P × Q) (a && b)
both (it_holds p) (it_holds q) = it_holds (p, q)
both (it_holds p) (it_fails n) = it_fails (λ r. n r.1)
both (it_fails n) r = it_fails (λ s. n s.0)

pub either : {P Q : Type 0} {a b : Bool} → Reflects P a → Reflects Q b → Reflects (P ⊎ Q) (a || b)
either (it_holds p) r = it_holds (inl p)
either (it_fails n) (it_holds q) = it_holds (inr q)
either (it_fails n) (it_fails m) = it_fails (λ s. elim s [ inl p ↦ n p | inr q ↦ m q ])

pub by_cases :
    {A P Q : Type 0} {a p q : Bool} → Reflects A a → Reflects P p → Reflects Q q →
    Reflects ((A → P) × ((A → ⊥) → Q)) (cond a p q)
by_cases (it_holds x) (it_holds p) r = it_holds (λ y. p, λ n. absurd (n x))
by_cases (it_holds x) (it_fails n) r = it_fails (λ s. n (s.0 x))
by_cases (it_fails y) r (it_holds q) = it_holds (λ x. absurd (y x), λ n. q)
by_cases (it_fails y) r (it_fails n) = it_fails (λ s. n (s.1 y))

-- A TEST THAT REFUSES: it is false where the statement holds and true where it fails
pub data Refuses (P : Type 0) : Bool → Type 0 where
  it_passes : P → Refuses P false
  it_refuses : (P → ⊥) → Refuses P true

pub when_passed : {P : Type 0} {b : Bool} → Refuses P b → P → b ≡ false
when_passed (it_passes p) h = refl
when_passed (it_refuses n) h = absurd (n h)

pub when_refused : {P : Type 0} {b : Bool} → Refuses P b → (P → ⊥) → b ≡ true
when_refused (it_passes p) h = absurd (h p)
when_refused (it_refuses n) h = refl

pub passing : {P : Type 0} {b : Bool} → Refuses P b → Dec P
passing (it_passes p) = yes p
passing (it_refuses n) = no n

pub refuses_as : {P Q : Type 0} {b : Bool} → (P → Q) → (Q → P) → Refuses P b → Refuses Q b
refuses_as f g (it_passes p) = it_passes (f p)
refuses_as f g (it_refuses n) = it_refuses (λ q. n (g q))

pub unless : {P : Type 0} {b : Bool} → Reflects P b → Refuses P (not b)
unless (it_holds p) = it_passes p
unless (it_fails n) = it_refuses n

pub if_so : {P : Type 0} {b : Bool} → Reflects P b → Refuses (P → ⊥) b
if_so (it_holds p) = it_refuses (λ n. n p)
if_so (it_fails n) = it_passes n

pub over : (m n : ℕ) → Refuses (n ≤ m) (ltb m n)
over m n = go (ltb m n) refl
  where
    go : (b : Bool) → ltb m n ≡ b → Refuses (n ≤ m) b
    go true e = it_refuses (λ h. not-le_of_lt (ltb-true m n e) h)
    go false e = it_passes (ltb-false m n e)

pub reaching : (m n : ℕ) → Refuses (n < m) (leb m n)
reaching m n = go (leb m n) refl
  where
    go : (b : Bool) → leb m n ≡ b → Refuses (n < m) b
    go true e = it_refuses (λ h. not-le_of_lt h (leb-true m n e))
    go false e = it_passes (leb-false m n e)

pub any_of : {P Q : Type 0} {a b : Bool} → Refuses P a → Refuses Q b → Refuses (P × Q) (a || b)
any_of (it_passes p) (it_passes q) = it_passes (p, q)
any_of (it_passes p) (it_refuses n) = it_refuses (λ r. n r.1)
any_of (it_refuses n) r = it_refuses (λ s. n s.0)

-- a test after another, and a test in each of two cases
pub first_of : {P Q : Type 0} {a b : Bool} → Refuses P a → Refuses Q b → Refuses (P × Q) (cond a true b)
first_of (it_passes p) (it_passes q) = it_passes (p, q)
first_of (it_passes p) (it_refuses n) = it_refuses (λ r. n r.1)
first_of (it_refuses n) r = it_refuses (λ s. n s.0)

pub in_cases :
    {A P Q : Type 0} {a p q : Bool} → Reflects A a → Refuses P p → Refuses Q q →
    Refuses ((A → P) × ((A → ⊥) → Q)) (cond a p q)
in_cases (it_holds x) (it_passes p) r = it_passes (λ y. p, λ n. absurd (n x))
in_cases (it_holds x) (it_refuses n) r = it_refuses (λ s. n (s.0 x))
in_cases (it_fails y) r (it_passes q) = it_passes (λ x. absurd (y x), λ n. q)
in_cases (it_fails y) r (it_refuses n) = it_refuses (λ s. n (s.1 y))

-- the statement by the outcome of its test
pub by_test : {P : Type 0} {b : Bool} → Reflects P b → b ≡ true → P
by_test (it_holds p) e = p
by_test (it_fails n) e = let y : ◌≡◌ {A = ℕ} 0 1 = cc in absurd (omega arith)

pub by_passing : {P : Type 0} {b : Bool} → Refuses P b → b ≡ false → P
by_passing (it_passes p) e = p
by_passing (it_refuses n) e = let y : ◌≡◌ {A = ℕ} 0 1 = cc in absurd (omega arith)
