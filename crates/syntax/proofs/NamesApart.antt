-- Names that differ: the test of two names is equality, the test against a list is that the name is no member, and every list of names lacks one. Assumes nothing.
use mathlib.Core.Path.{◌≡◌, refl, sym, ap}
use mathlib.Core.Bool.{Bool, true, false, cond}
use mathlib.Core.List.Memᴰ
use mathlib.Core.List.{List, [], ◌∷◌, ◌++◌, Memᴰ}
use mathlib.Core.Logic.{◌⊎◌, inl, inr}
use Prim.Native.Nat.{ℕ, ◌+◌, ◌<◌, ◌≤◌}
use native.Mathlib.Omega.{arith}
use lib.Dec.{eqb}
use lib.ListN.{length, length-append}
use borrow.Author.Tests.{eqb-true, eq-eqb}
use Rattle.machine.specs.Verdicts.{Distinct, nil, cons}
use Rattle.grammar.proofs.Bools.{both_true, both_hold}
use Rattle.syntax.specs.Tokens.{same}
use Rattle.syntax.specs.Faults.{not_in}

pub same_is : (xs ys : List ℕ) → same xs ys ≡ true → xs ≡ ys
unfolding same
same_is [] [] e = refl
same_is [] (y ∷ ys) e = absurd (let z : ◌≡◌ {A = ℕ} 0 1 = cc in omega arith)
same_is (x ∷ xs) [] e = absurd (let z : ◌≡◌ {A = ℕ} 0 1 = cc in omega arith)
same_is (x ∷ xs) (y ∷ ys) e =
    let both = both_true (eqb x y) (same xs ys) e in
    let first : x ≡ y = eqb-true x y both.0 in
    let rest : xs ≡ ys = same_is xs ys both.1 in
    cc

pub same_itself : (xs : List ℕ) → same xs xs ≡ true
unfolding same
same_itself [] = refl
same_itself (x ∷ xs) = both_hold (eqb x x) (same xs xs) (eq-eqb x x refl) (same_itself xs)

-- NO MEMBER
pub not_in_lacks : (n : List ℕ) (ms : List (List ℕ)) → not_in n ms ≡ true → Memᴰ n ms → ⊥
unfolding not_in
not_in_lacks n [] e a = Memᴰ.not-nil a
not_in_lacks n (m ∷ ms) e a = go (same n m) refl e (Memᴰ.cases_cons a) (λ f. not_in_lacks n ms f)
  where
    go : (b : Bool) → same n m ≡ b → cond b false (not_in n ms) ≡ true → (n ≡ m) ⊎ Memᴰ n ms → (not_in n ms ≡ true → Memᴰ n ms → ⊥) → ⊥
    go true t f c rest = let z : ◌≡◌ {A = ℕ} 0 1 = cc in omega arith
    go false t f (inl g) rest = let s : same n m ≡ true = rw g (same_itself m) in let z : ◌≡◌ {A = ℕ} 0 1 = cc in omega arith
    go false t f (inr c) rest = rest f c

pub lacks_not_in : (n : List ℕ) (ms : List (List ℕ)) → (Memᴰ n ms → ⊥) → not_in n ms ≡ true
unfolding not_in
lacks_not_in n [] h = refl
lacks_not_in n (m ∷ ms) h = go (same n m) refl (lacks_not_in n ms (λ a. h (Memᴰ.tail a)))
  where
    go : (b : Bool) → same n m ≡ b → not_in n ms ≡ true → cond b false (not_in n ms) ≡ true
    go true t rest = absurd (h (Memᴰ.head (same_is n m t)))
    go false t rest = rest

-- one more element, that was not there
pub one_more : {A : Type 0} {xs : List A} {a : A} → Distinct xs → (Memᴰ a xs → ⊥) → Distinct (xs ++ (a ∷ []))
one_more nil fresh = cons Memᴰ.not-nil nil
one_more {a = a} (cons {a = b} {rest = xs} new apart) fresh =
    cons (λ m. go (Memᴰ.append_cases xs m)) (one_more apart (λ m. fresh (Memᴰ.tail m)))
  where
    go : Memᴰ b xs ⊎ Memᴰ b (a ∷ []) → ⊥
    go (inl m) = new m
    go (inr m) = fresh (Memᴰ.head (sym (Memᴰ.eq_of_singleton m)))

-- an element is not among those before it
pub not_before : {A : Type 0} (xs : List A) (a : A) (ys : List A) → Distinct (xs ++ (a ∷ ys)) → Memᴰ a xs → ⊥
not_before [] a ys apart m = Memᴰ.not-nil m
not_before (x ∷ xs) a ys (cons new apart) m = go (Memᴰ.cases_cons m) (not_before xs a ys apart)
  where
    go : (a ≡ x) ⊎ Memᴰ a xs → (Memᴰ a xs → ⊥) → ⊥
    go (inl e) rest = new (Memᴰ.append_right xs (Memᴰ.head (sym e)))
    go (inr c) rest = rest c

-- A NAME THAT IS NOT THERE, longer than all that are
pub new_name : List (List ℕ) → List ℕ
new_name [] = 0 ∷ []
new_name (m ∷ ms) = m ++ new_name ms

new_name_long : (ms : List (List ℕ)) → 0 < length (new_name ms)
unfolding new_name
new_name_long [] = omega arith
new_name_long (m ∷ ms) = rw length-append (omega (arith, new_name_long ms))

longer : (ms : List (List ℕ)) (n : List ℕ) → length (new_name ms) ≤ length n → Memᴰ n ms → ⊥
unfolding new_name
longer [] n h a = Memᴰ.not-nil a
longer (m ∷ ms) n h a = go (Memᴰ.cases_cons a) (longer ms n)
  where
    long : length m + length (new_name ms) ≤ length n
    long = rw length-append at h

    go : (n ≡ m) ⊎ Memᴰ n ms → (length (new_name ms) ≤ length n → Memᴰ n ms → ⊥) → ⊥
    go (inl e) rest = omega (arith, long, new_name_long ms, ap length e)
    go (inr c) rest = rest (omega (arith, long)) c

pub new_name_new : (ms : List (List ℕ)) → not_in (new_name ms) ms ≡ true
new_name_new ms = lacks_not_in (new_name ms) ms (longer ms (new_name ms) (omega arith))
