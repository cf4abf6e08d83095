-- The lowest rule that leads back to itself, as the code finds it, and that the rows found so answer as the definition does. Assumes nothing.
use mathlib.Core.Path.{◌≡◌, refl, sym, ap, ◌∙◌}
use mathlib.Core.Bool.{Bool, true, false}
use mathlib.Core.List.{List}
use Prim.Native.Nat.{ℕ, zero, suc, ◌+◌, ◌-◌, ◌<◌, ◌≤◌}
use native.Mathlib.Omega.{arith}
use lib.ListN.{length, get_or}
use Rattle.std.proofs.lemmas.Grind.{get_or_default_zero}
use Rattle.refusal.specs.First.{refusal, no_refusal}
use Rattle.grammar.specs.Grammar.{rules}
use Rattle.recursion.specs.Computed.{leads_on, recursion_from}
use Rattle.recursion.specs.Code.Sets.{member, AreSets, lowest_from}

found_here : (left k : ℕ) (rows : List ℕ) → member (get_or rows k 0) k ≡ true → lowest_from (suc left) k rows ≡ refusal 19 k
unfolding lowest_from
found_here left k rows e = simp e

passed_here : (left k : ℕ) (rows : List ℕ) → member (get_or rows k 0) k ≡ false → lowest_from (suc left) k rows ≡ lowest_from left (suc k) rows
unfolding lowest_from
passed_here left k rows e = simp e

none_left : (k : ℕ) (rows : List ℕ) → lowest_from 0 k rows ≡ no_refusal
unfolding lowest_from
none_left k rows = refl

-- a row that is there is the same whatever is read where none is
pub in_row :
    (rows : List ℕ) (count k d : ℕ) {b : Bool} → count ≤ 31 → k < count → length rows ≡ 32 → member (get_or rows k d) k ≡ b → member (get_or rows k 0) k ≡ b
in_row rows count k d few below long e = ap (λ (n : ℕ). member n k) (sym (get_or_default_zero rows k d (omega arith))) ∙ e

-- THE SEARCH, with the rows from k on still to be looked at
module _ (count k : ℕ) (rows : List ℕ) (left : lowest_from count 0 rows ≡ lowest_from (count - k) k rows) where
  pub lowest_none : count ≤ k → no_refusal ≡ lowest_from count 0 rows
  lowest_none h =
      let nothing : count - k ≡ 0 = omega arith in
      sym (left ∙ ap (λ (n : ℕ). lowest_from n k rows) nothing ∙ none_left k rows)

  module _ (more : k < count) where
    one_more : count - k ≡ suc (count - (k + 1))
    one_more = omega arith

    pub lowest_found : member (get_or rows k 0) k ≡ true → refusal 19 k ≡ lowest_from count 0 rows
    lowest_found e = sym (left ∙ ap (λ (n : ℕ). lowest_from n k rows) one_more ∙ found_here _ k rows e)

    pub lowest_next : member (get_or rows k 0) k ≡ false → lowest_from count 0 rows ≡ lowest_from (count - (k + 1)) (k + 1) rows
    lowest_next e =
        left ∙ ap (λ (n : ℕ). lowest_from n k rows) one_more ∙ passed_here _ k rows e
        ∙ ap (λ (i : ℕ). lowest_from (count - (k + 1)) i rows) (omega arith)

-- ROWS THAT ARE RIGHT answer as the definition does
pub lowest_right :
    (gs rows : List ℕ) → AreSets (rules gs) rows (leads_on gs) → (left k : ℕ) → k + left ≡ rules gs → lowest_from left k rows ≡ recursion_from left k gs
unfolding lowest_from recursion_from
lowest_right gs rows are zero k e = refl
lowest_right gs rows are (suc n) k e =
    simp (are k (omega arith) k (omega arith), lowest_right gs rows are n (suc k) (omega arith))
