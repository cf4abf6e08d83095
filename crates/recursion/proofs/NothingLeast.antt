-- The rules that the rounds find are those that may match nothing, and no others: the least set, in both directions. Assumes nothing.
use mathlib.Core.Path.{◌≡◌, refl}
use mathlib.Core.Bool.{Bool, true, false, ◌||◌, false≢true}
use mathlib.Core.Logic.{◌↔◌, ◌⊎◌, inl, inr}
use Prim.Native.Nat.{ℕ, zero, suc, ◌<◌, ◌≤◌}
use native.Mathlib.Omega.{arith}
use Rattle.grammar.specs.declared.Expression.{Expression}
use Rattle.grammar.specs.declared.Expression.TheVariants.{Sequence, Choice, Not, Empty, Range}
use Rattle.grammar.specs.Grammar.{PartsBelow}
use Rattle.grammar.specs.Parsing.{Rules}
use Rattle.grammar.proofs.Bools.{both_true, both_hold, first_holds, second_holds}
use Rattle.recursion.specs.LeftRecursion.{SuchSet, MayMatchNothing, empty, a_not, sequence, choice, choice_other}
use Rattle.recursion.specs.Computed.{Set, nothing_by, nothing_after}
use Rattle.refusal.proofs.Searching.{Looked, all_have, lacking, look}
use Rattle.recursion.proofs.Counting.{how_many_in, inside_fewer, all_below}

-- where one of two holds, the first does or the second
pub one_true : (a b : Bool) → (a || b) ≡ true → (a ≡ true) ⊎ (b ≡ true)
one_true true b e = inl refl
one_true false b e = inr e

-- WHAT THE ROUNDS FIND may match nothing
pub found_may : (E : Rules) (n k : ℕ) → nothing_after E n k ≡ true → MayMatchNothing E k
unfolding nothing_after nothing_by
found_may E zero k h = absurd (false≢true h)
found_may E (suc n) k h = go (λ j. found_may E n j) (E k) refl h
  where
    go : ((j : ℕ) → nothing_after E n j ≡ true → MayMatchNothing E j) → (e : Expression) → E k ≡ e → nothing_by (nothing_after E n) e ≡ true →
        MayMatchNothing E k
    go before (Sequence b c) is t = let (p, q) = both_true (nothing_after E n b) (nothing_after E n c) t in sequence is (before b p) (before c q)
    go before (Choice b c) is t = by_part (one_true (nothing_after E n b) (nothing_after E n c) t)
      where
        by_part : (nothing_after E n b ≡ true) ⊎ (nothing_after E n c ≡ true) → MayMatchNothing E k
        by_part (inl p) = choice is (before b p)
        by_part (inr q) = choice_other is (before c q)
    go before (Not b) is t = a_not is
    go before Empty is t = empty is
    go before (Range b c) is t = absurd (false≢true t)

-- a larger set, as far as the parts go, finds as much
pub nothing_grows :
    (m : ℕ) (s t : Set) → ((k : ℕ) → k < m → s k ≡ true → t k ≡ true) → (e : Expression) → PartsBelow m e → nothing_by s e ≡ true → nothing_by t e ≡ true
unfolding nothing_by PartsBelow
nothing_grows m s t more (Sequence b c) (x, y) h = let (p, q) = both_true (s b) (s c) h in both_hold (t b) (t c) (more b x p) (more c y q)
nothing_grows m s t more (Choice b c) (x, y) h = go (one_true (s b) (s c) h)
  where
    go : (s b ≡ true) ⊎ (s c ≡ true) → (t b || t c) ≡ true
    go (inl p) = first_holds (t b) (t c) (more b x p)
    go (inr q) = second_holds (t b) (t c) (more c y q)
nothing_grows m s t more (Not b) x h = refl
nothing_grows m s t more Empty x h = refl
nothing_grows m s t more (Range b c) x h = h

-- AFTER m ROUNDS no rule below m is new: each round before finds one more, or none ever after
module _ (E : Rules) (m : ℕ) (closed : (k : ℕ) → k < m → PartsBelow m (E k)) where
  -- a round finds what the one before it found
  found_stays : (n k : ℕ) → k < m → nothing_after E n k ≡ true → nothing_after E (suc n) k ≡ true
  unfolding nothing_after
  found_stays zero k h t = absurd (false≢true t)
  found_stays (suc n) k h t = nothing_grows m (nothing_after E n) (nothing_after E (suc n)) (found_stays n) (E k) (closed k h) t

  abbrev Stable : ℕ → Type 0
  Stable n = (k : ℕ) → k < m → nothing_after E (suc n) k ≡ true → nothing_after E n k ≡ true

  new_or_not : (x y : Bool) → Dec (x ≡ true → y ≡ true)
  new_or_not true true = yes (λ e. refl)
  new_or_not true false = no (λ h. false≢true (h refl))
  new_or_not false y = yes (λ e. absurd (false≢true e))

  is_new : (x y : Bool) → ((x ≡ true → y ≡ true) → ⊥) → (x ≡ true) × (y ≡ false)
  is_new true true h = absurd (h (λ e. refl))
  is_new true false h = (refl, refl)
  is_new false y h = absurd (h (λ e. absurd (false≢true e)))

  stable_next : (n : ℕ) → Stable n → Stable (suc n)
  unfolding nothing_after
  stable_next n stable k h t = stays (E k) (closed k h) t
    where
      stays : (e : Expression) → PartsBelow m e → nothing_by (nothing_after E (suc n)) e ≡ true → nothing_by (nothing_after E n) e ≡ true
      stays = nothing_grows m (nothing_after E (suc n)) (nothing_after E n) stable

  stable_or_many : (n : ℕ) → Stable n ⊎ (n ≤ how_many_in (nothing_after E n) m)
  stable_or_many zero = inr (omega arith)
  stable_or_many (suc n) =
      go (stable_or_many n) (look (λ (k : ℕ). nothing_after E (suc n) k ≡ true → nothing_after E n k ≡ true) (λ k. new_or_not (nothing_after E (suc n) k) (nothing_after E n k)) m)
    where
      go : Stable n ⊎ (n ≤ how_many_in (nothing_after E n) m) → Looked (λ (k : ℕ). nothing_after E (suc n) k ≡ true → nothing_after E n k ≡ true) m →
          Stable (suc n) ⊎ (suc n ≤ how_many_in (nothing_after E (suc n)) m)
      go (inl stable) l = inl (stable_next n stable)
      go (inr many) (all_have stable) = inl (stable_next n stable)
      go (inr many) (lacking k f) =
          let (now, before) = is_new (nothing_after E (suc n) k) (nothing_after E n k) f.lacks in
          inr (omega (arith, inside_fewer (nothing_after E n) (nothing_after E (suc n)) m k (found_stays n) f.below before now))

  pub stable_after : Stable m
  stable_after = go (stable_or_many m)
    where
      go : Stable m ⊎ (m ≤ how_many_in (nothing_after E m) m) → Stable m
      go (inl stable) = stable
      go (inr all) = λ k h t. all_below (nothing_after E m) m all k h

  -- A SET THAT GROWS NO MORE has all that may match nothing
  pub closed_has :
      (S : Set) → ((k : ℕ) → k < m → nothing_by S (E k) ≡ true → S k ≡ true) → (k : ℕ) → k < m → MayMatchNothing E k → S k ≡ true
  unfolding nothing_by PartsBelow
  closed_has S no_more k h (empty is) = no_more k h (rw is refl)
  closed_has S no_more k h (a_not is) = no_more k h (rw is refl)
  closed_has S no_more k h (sequence {b = b} {c = c} is x y) =
      let (p, q) = rw is at (closed k h) in no_more k h (rw is (both_hold (S b) (S c) (closed_has S no_more b p x) (closed_has S no_more c q y)))
  closed_has S no_more k h (choice {b = b} {c = c} is x) =
      let (p, q) = rw is at (closed k h) in no_more k h (rw is (first_holds (S b) (S c) (closed_has S no_more b p x)))
  closed_has S no_more k h (choice_other {b = b} {c = c} is y) =
      let (p, q) = rw is at (closed k h) in no_more k h (rw is (second_holds (S b) (S c) (closed_has S no_more c q y)))

  -- WHAT MAY MATCH NOTHING is found
  pub may_found : (k : ℕ) → k < m → MayMatchNothing E k → nothing_after E m k ≡ true
  unfolding nothing_after
  may_found = closed_has (nothing_after E m) stable_after

  pub nothing_exact : (k : ℕ) → k < m → (nothing_after E m k ≡ true) ↔ MayMatchNothing E k
  nothing_exact k h = (found_may E m k, may_found k h)

-- EVERY SUCH SET has the rules that may match nothing: they are the least one
pub nothing_least : (E : Rules) (S : Set) → SuchSet E S → (k : ℕ) → MayMatchNothing E k → S k ≡ true
nothing_least E S such k (empty is) = such.has_empty k is
nothing_least E S such k (a_not {b = b} is) = such.has_not k b is
nothing_least E S such k (sequence {b = b} {c = c} is x y) = such.has_sequence k b c is (nothing_least E S such b x) (nothing_least E S such c y)
nothing_least E S such k (choice {b = b} {c = c} is x) = such.has_choice k b c is (inl (nothing_least E S such b x))
nothing_least E S such k (choice_other {b = b} {c = c} is y) = such.has_choice k b c is (inr (nothing_least E S such c y))
