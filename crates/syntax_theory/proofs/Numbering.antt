-- What holds of each element of a list; rules that stand in a row from a number on; and lists of different numbers inside an interval. Assumes nothing.
use mathlib.Core.Path.{◌≡◌, refl, ap, subst, ◌∙◌}
use mathlib.Core.List.Memᴰ
use mathlib.Core.List.{List, [], ◌∷◌, ◌++◌, Memᴰ}
use mathlib.Core.Logic.{◌⊎◌, inl, inr}
use Prim.Native.Nat.{ℕ, zero, suc, ◌+◌, ◌<◌, ◌≤◌}
use native.Mathlib.Omega.{arith}
use lib.ListN.{length, get_or}
use Rattle.machine.specs.Verdicts.{Distinct}
use Rattle.grammar.specs.declared.Expression.{Expression}
use Rattle.grammar.specs.Parsing.{Rules}

-- EACH ELEMENT
pub data Each {A : Type 0} (P : A → Type 0) : List A → Type 0 where
  no_element : Each P []
  an_element : {a : A} {rest : List A} → P a → Each P rest → Each P (a ∷ rest)

module _ {A : Type 0} {P : A → Type 0} where
  pub each_first : {a : A} {rest : List A} → Each P (a ∷ rest) → P a
  each_first (an_element p ps) = p

  pub each_rest : {a : A} {rest : List A} → Each P (a ∷ rest) → Each P rest
  each_rest (an_element p ps) = ps

  pub each_append : {xs ys : List A} → Each P xs → Each P ys → Each P (xs ++ ys)
  each_append no_element qs = qs
  each_append (an_element p ps) qs = an_element p (each_append ps qs)

  pub each_at : {xs : List A} → Each P xs → (k : ℕ) (a : A) → k < length xs → P (get_or xs k a)
  each_at no_element k a h = absurd (omega arith)
  each_at (an_element p ps) zero a h = p
  each_at (an_element p ps) (suc k) a h = each_at ps k a (omega arith)

-- RULES IN A ROW, from number n on
pub data Holds (E : Rules) : (n : ℕ) → List Expression → Type 0 where
  no_rule : {n : ℕ} → Holds E n []
  a_rule : {n : ℕ} {x : Expression} {xs : List Expression} → E n ≡ x → Holds E (suc n) xs → Holds E n (x ∷ xs)

module _ {E : Rules} where
  pub holds_first : {n : ℕ} {x : Expression} {xs : List Expression} → Holds E n (x ∷ xs) → E n ≡ x
  holds_first (a_rule e h) = e

  pub holds_rest : {n : ℕ} {x : Expression} {xs : List Expression} → Holds E n (x ∷ xs) → Holds E (suc n) xs
  holds_rest (a_rule e h) = h

  -- the front of a row, and what follows it
  pub holds_front : {n : ℕ} (xs ys : List Expression) → Holds E n (xs ++ ys) → Holds E n xs
  holds_front [] ys h = no_rule
  holds_front (x ∷ xs) ys h = a_rule (holds_first h) (holds_front xs ys (holds_rest h))

  pub holds_after : {n : ℕ} (xs ys : List Expression) → Holds E n (xs ++ ys) → Holds E (n + length xs) ys
  holds_after {n} [] ys h = subst (λ m. Holds E m ys) (let e : n ≡ n + 0 = omega arith in e) h
  holds_after {n} (x ∷ xs) ys h =
      subst (λ m. Holds E m ys) (let e : suc n + length xs ≡ n + suc (length xs) = omega arith in e) (holds_after xs ys (holds_rest h))

  pub holds_all : (n : ℕ) (xs : List Expression) (d : Expression) → ((k : ℕ) → k < length xs → E (n + k) ≡ get_or xs k d) → Holds E n xs
  holds_all n [] d f = no_rule
  holds_all n (x ∷ xs) d f =
      let now : n ≡ n + 0 = omega arith in
      let later : (k : ℕ) → suc n + k ≡ n + suc k = λ k. omega arith in
      a_rule (ap E now ∙ f 0 (omega arith)) (holds_all (suc n) xs d (λ k h. ap E (later k) ∙ f (suc k) (omega arith)))

-- DIFFERENT NUMBERS, from one on and below another
pub record Block (own : List ℕ) (from below : ℕ) : Type 0 where
  pub distinct : Distinct own
  pub inside : (h : ℕ) → Memᴰ h own → (from ≤ h) × (h < below)

pub block_none : (a b : ℕ) → Block [] a b
block_none a b = record { distinct = Distinct.nil; inside = λ h m. absurd (Memᴰ.not-nil m) }

pub block_one : (k : ℕ) → Block (k ∷ []) k (suc k)
block_one k =
    record {
      distinct = Distinct.cons Memᴰ.not-nil Distinct.nil;
      inside = λ h m. let e : h ≡ k = Memᴰ.eq_of_singleton m in (omega arith, omega arith);
    }

pub block_wider : {xs : List ℕ} {a b c d : ℕ} → Block xs a b → c ≤ a → b ≤ d → Block xs c d
block_wider block f g =
    record {
      distinct = block.distinct;
      inside = λ h m. let i = block.inside h m in (omega (arith, i.0), omega (arith, i.1));
    }

-- two blocks that have no number in common
module _ {xs ys : List ℕ} {a b : ℕ} (one : Block xs a b) (other : Block ys a b) (clear : (h : ℕ) → Memᴰ h xs → Memᴰ h ys → ⊥) where
  apart : {zs : List ℕ} → Distinct zs → ((h : ℕ) → Memᴰ h zs → Memᴰ h ys → ⊥) → Distinct (zs ++ ys)
  apart Distinct.nil f = other.distinct
  apart (Distinct.cons {a = z} {rest = zs} n d) f =
      Distinct.cons (λ m. go (Memᴰ.append_cases zs m)) (apart d (λ h m. f h (Memᴰ.tail m)))
    where
      go : Memᴰ z zs ⊎ Memᴰ z ys → ⊥
      go (inl m) = n m
      go (inr m) = f z (Memᴰ.head refl) m

  block_join : Block (xs ++ ys) a b
  block_join = record { distinct = apart one.distinct clear; inside = λ h m. go h (Memᴰ.append_cases xs m) }
    where
      go : (h : ℕ) → Memᴰ h xs ⊎ Memᴰ h ys → (a ≤ h) × (h < b)
      go h (inl m) = one.inside h m
      go h (inr m) = other.inside h m

-- the second follows the first, or the first follows the second
module _ {a b c : ℕ} (f : a ≤ b) (g : b ≤ c) {xs ys : List ℕ} where
  pub block_append : Block xs a b → Block ys b c → Block (xs ++ ys) a c
  block_append one other =
      block_join (block_wider one (omega arith) g) (block_wider other f (omega arith))
      (λ h m n. omega (arith, (one.inside h m).1, (other.inside h n).0))

  pub block_over : Block xs b c → Block ys a b → Block (xs ++ ys) a c
  block_over one other =
      block_join (block_wider one f (omega arith)) (block_wider other (omega arith) g)
      (λ h m n. omega (arith, (one.inside h m).0, (other.inside h n).1))
