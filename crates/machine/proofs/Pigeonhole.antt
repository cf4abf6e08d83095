-- The pigeonhole principle: a list of different elements that numbers below a bound tell injective is no longer than the bound. Assumes nothing.
use mathlib.Core.Path.{◌≡◌, refl, sym, ap, ◌∙◌}
use mathlib.Core.List.{List, [], ◌∷◌, Memᴰ}
use mathlib.Core.Logic.{◌⊎◌, inl, inr}
use Prim.Native.Nat.{ℕ, zero, suc, ◌<◌, ◌≤◌, zero-le}
use native.Mathlib.Decide.{ℕ_discrete}
use native.Mathlib.Omega.{arith}
use lib.ListN.{length}
use Rattle.machine.specs.Verdicts.{Distinct, nil, cons}

-- a list without one of its members
without : {k : ℕ} {ks : List ℕ} → Memᴰ k ks → List ℕ
without (mathlib.Core.List.Memᴰ.head {xs = ks} e) = ks
without (mathlib.Core.List.Memᴰ.tail {x = j} a) = j ∷ without a

without_length : {k : ℕ} {ks : List ℕ} (a : Memᴰ k ks) → suc (length (without a)) ≡ length ks
unfolding without
without_length (mathlib.Core.List.Memᴰ.head e) = refl
without_length (mathlib.Core.List.Memᴰ.tail a) = ap suc (without_length a)

-- every other member is still there
without_keeps : {j k : ℕ} {ks : List ℕ} (a : Memᴰ k ks) → (j ≡ k → ⊥) → Memᴰ j ks → Memᴰ j (without a)
unfolding without
without_keeps {j} {k} (mathlib.Core.List.Memᴰ.head {x = i} {xs = ks} e) other b = go (mathlib.Core.List.Memᴰ.cases_cons b)
  where
    go : (j ≡ i) ⊎ Memᴰ j ks → Memᴰ j ks
    go (inl f) = absurd (other (f ∙ sym e))
    go (inr c) = c
without_keeps {j} {k} (mathlib.Core.List.Memᴰ.tail {x = i} {xs = ks} a) other b = go (λ c. without_keeps a other c) (mathlib.Core.List.Memᴰ.cases_cons b)
  where
    go : (Memᴰ j ks → Memᴰ j (without a)) → (j ≡ i) ⊎ Memᴰ j ks → Memᴰ j (i ∷ without a)
    go rest (inl f) = mathlib.Core.List.Memᴰ.head f
    go rest (inr c) = mathlib.Core.List.Memᴰ.tail (rest c)

module _ {A : Type 0} (number : A → ℕ) where
  -- different numbers for different elements, all in the list ks
  pub length_at_most :
      (ds : List A) → Distinct ds → (ks : List ℕ) → ((d : A) → Memᴰ d ds → Memᴰ (number d) ks) →
      ((d e : A) → Memᴰ d ds → Memᴰ e ds → number d ≡ number e → d ≡ e) → length ds ≤ length ks
  length_at_most ds nil ks among injective = zero-le
  length_at_most ds (cons {a = a} {rest = rest} fresh distinct) ks among injective =
      let here : Memᴰ (number a) ks = among a (mathlib.Core.List.Memᴰ.head refl) in
      let shorter : length rest ≤ length (without here) =
      length_at_most rest distinct (without here) (λ d b. without_keeps here (λ e. fresh (same d b e)) (among d (mathlib.Core.List.Memᴰ.tail b)))
      (λ d e b c. injective d e (mathlib.Core.List.Memᴰ.tail b) (mathlib.Core.List.Memᴰ.tail c)) in
      omega (arith, without_length here)
    where
      same : (d : A) → Memᴰ d rest → number d ≡ number a → Memᴰ a rest
      same d b e = mathlib.Core.List.Memᴰ.cast (sym (injective d a (mathlib.Core.List.Memᴰ.tail b) (mathlib.Core.List.Memᴰ.head refl) e)) b

-- the numbers below a bound
all_below : ℕ → List ℕ
all_below zero = []
all_below (suc n) = n ∷ all_below n

all_below_length : (n : ℕ) → length (all_below n) ≡ n
unfolding all_below
all_below_length zero = refl
all_below_length (suc n) = ap suc (all_below_length n)

below_there : (n k : ℕ) → k < n → Memᴰ k (all_below n)
unfolding all_below
below_there zero k h = absurd (omega arith)
below_there (suc n) k h = go (λ l. below_there n k l) (ℕ_discrete k n)
  where
    go : (k < n → Memᴰ k (all_below n)) → Dec (k ≡ n) → Memᴰ k (n ∷ all_below n)
    go rest (yes e) = mathlib.Core.List.Memᴰ.head e
    go rest (no f) = mathlib.Core.List.Memᴰ.tail (rest (omega arith))

-- THE PRINCIPLE
pub pigeonhole :
    {A : Type 0} (number : A → ℕ) (bound : ℕ) (ds : List A) → Distinct ds → ((d : A) → Memᴰ d ds → number d < bound) →
    ((d e : A) → Memᴰ d ds → Memᴰ e ds → number d ≡ number e → d ≡ e) → length ds ≤ bound
pigeonhole number bound ds distinct below injective =
    let most = length_at_most number ds distinct (all_below bound) (λ d a. below_there bound (number d) (below d a)) injective in
    omega (arith, all_below_length bound)
