-- The least number that lacks a property: it is there or all numbers below a bound have the property; and a search from number to number gives the refusal of the least. Assumes nothing.
use mathlib.Core.Path.{◌≡◌, sym, ap, ◌∙◌, subst}
use mathlib.Core.Bool.{Bool, cond}
use Prim.Native.Nat.{ℕ, zero, suc, ◌+◌, ◌<◌, ◌≤◌}
use native.Mathlib.Decide.{ℕ_discrete}
use native.Mathlib.Omega.{arith}
use Rattle.refusal.specs.declared.Refusal.{Refusal}
use Rattle.refusal.specs.First.{no_refusal}
use Rattle.refusal.proofs.Reflects.{Refuses, when_passed, when_refused}

-- the least number without the property
pub record Least (P : ℕ → Type 0) (n i : ℕ) : Type 0 where
  pub below : i < n
  pub lacks : P i → ⊥
  pub before : (j : ℕ) → j < i → P j

pub data Looked (P : ℕ → Type 0) (n : ℕ) : Type 0 where
  all_have : ((i : ℕ) → i < n → P i) → Looked P n
  lacking : (i : ℕ) → Least P n i → Looked P n

pub look : (P : ℕ → Type 0) → ((i : ℕ) → Dec (P i)) → (n : ℕ) → Looked P n
look P d zero = all_have (λ i h. absurd (omega arith))
look P d (suc n) = go (look P d n) (d n)
  where
    go : Looked P n → Dec (P n) → Looked P (suc n)
    go (lacking i l) e = lacking i (record { below = omega arith; lacks = l.lacks; before = l.before })
    go (all_have f) (no h) = lacking n (record { below = omega arith; lacks = h; before = f })
    go (all_have f) (yes p) =
        all_have (λ i h. elim (ℕ_discrete n i) [ yes e ↦ subst P e p | no d ↦ f i (omega arith) ])

-- A SEARCH: it goes through so many numbers from one on, and stops with a refusal at one that lacks the property, as its test finds
pub record Search (search : (left i : ℕ) → Refusal) (found : ℕ → Refusal) (P : ℕ → Type 0) : Type 0 where
  pub refuses : ℕ → Bool
  pub tests : (i : ℕ) → Refuses (P i) (refuses i)
  pub none_left : (i : ℕ) → search 0 i ≡ no_refusal
  pub one_more : (k i : ℕ) → search (suc k) i ≡ cond (refuses i) (found i) (search k (suc i))

module _ {search : (left i : ℕ) → Refusal} {found : ℕ → Refusal} {P : ℕ → Type 0} (s : Search search found P) where
  goes_on : (k i : ℕ) → P i → search (suc k) i ≡ search k (suc i)
  goes_on k i p =
      s.one_more k i ∙ ap (λ (b : Bool). cond b (found i) (search k (suc i))) (when_passed (s.tests i) p)

  stops : (k i : ℕ) → (P i → ⊥) → search (suc k) i ≡ found i
  stops k i n =
      s.one_more k i ∙ ap (λ (b : Bool). cond b (found i) (search k (suc i))) (when_refused (s.tests i) n)

  pub none_found : (k i : ℕ) → ((j : ℕ) → i ≤ j → j < i + k → P j) → search k i ≡ no_refusal
  none_found zero i h = s.none_left i
  none_found (suc k) i h =
      goes_on k i (h i (omega arith) (omega arith)) ∙ none_found k (suc i) (λ j a b. h j (omega arith) (omega arith))

  pub first_found :
      (k i j : ℕ) → i ≤ j → j < i + k → (P j → ⊥) → ((l : ℕ) → i ≤ l → l < j → P l) → search k i ≡ found j
  first_found zero i j a b n h = absurd (omega arith)
  first_found (suc k) i j a b n h = go (ℕ_discrete i j) (first_found k (suc i) j)
    where
      go :
          Dec (i ≡ j) →
          (suc i ≤ j → j < suc i + k → (P j → ⊥) → ((l : ℕ) → suc i ≤ l → l < j → P l) → search k (suc i) ≡ found j) →
          search (suc k) i ≡ found j
      go (yes e) next = stops k i (subst (λ (l : ℕ). P l → ⊥) (sym e) n) ∙ ap found e
      go (no d) next =
          goes_on k i (h i (omega arith) (omega arith)) ∙ next (omega arith) (omega arith) n (λ l x y. h l (omega arith) y)
