-- When an input is refused, and what the parts of one that is not are. Assumes nothing.
use mathlib.Core.Path.{◌≡◌, refl, sym, ap, ◌∙◌}
use mathlib.Core.Bool.{Bool, true, false, ◌&&◌, ◌||◌, cond}
use mathlib.Core.List.{List}
use Prim.Native.Nat.{ℕ, ◌-◌, ◌≤◌}
use native.Mathlib.Omega.{arith}
use lib.Dec.{ltb, eqb}
use lib.ListN.{length, take, drop, length-drop}
use lib.Seq.{take_all}
use borrow.Author.Tests.{le-ltb, ltb-false, leb-true}
use Rattle.codec.specs.Numbers.{pair_at}
use Rattle.refusal.specs.First.{refusal, no_refusal}
use Rattle.refusal.specs.Checking.{checked}
use Rattle.refusal.proofs.Checked.{checked-passes}
use Rattle.std.specs.Prelude.{Ok}
use Rattle.answer.specs.Input.{pairs_length, grammar_pair, capture_pair, max_input, capture_offset, first_pair_right, second_pair_right, input_refusal, input_grammar, input_capture}

module _ (xs : List ℕ) where
  module _ (enough : pairs_length ≤ length xs) where
    module _ (few : length xs ≤ max_input) where
      pub first_refused : first_pair_right xs ≡ false → input_refusal xs ≡ refusal 14 0
      unfolding input_refusal
      first_refused p = simp (le-ltb _ _ enough, le-ltb _ _ few, p)

      pub second_refused : first_pair_right xs ≡ true → second_pair_right xs ≡ false → input_refusal xs ≡ refusal 14 capture_pair
      unfolding input_refusal
      second_refused p q = simp (le-ltb _ _ enough, le-ltb _ _ few, p, q)

      pub not_refused : first_pair_right xs ≡ true → second_pair_right xs ≡ true → input_refusal xs ≡ no_refusal
      unfolding input_refusal
      not_refused p q = simp (le-ltb _ _ enough, le-ltb _ _ few, p, q)

-- an input that is not refused has its pairs, and its grammar ends within it, where the capture begins
pub record Parted (xs : List ℕ) : Type 0 where
  pub enough : pairs_length ≤ length xs
  pub least : (middle : ℕ) → middle ≡ capture_offset xs → pairs_length ≤ middle
  pub within : (middle : ℕ) → middle ≡ capture_offset xs → middle ≤ length xs

offset_least : (xs : List ℕ) → pairs_length ≤ capture_offset xs
unfolding capture_offset
offset_least xs = omega arith

and_second : (a b : Bool) → a && b ≡ true → b ≡ true
and_second true b e = e
and_second false b e =
    let z : ◌≡◌ {A = ℕ} 0 1 = cc in
    absurd (omega arith)

first_within : (xs : List ℕ) → first_pair_right xs ≡ true → capture_offset xs ≤ length xs
unfolding first_pair_right
first_within xs e = leb-true _ _ (and_second (eqb (pair_at xs grammar_pair).offset pairs_length) _ e)

parted_as : (xs : List ℕ) → (input_refusal xs).number ≡ 0 → Parted xs
unfolding input_refusal
parted_as xs h = go (ltb (length xs) pairs_length) (ltb max_input (length xs)) (first_pair_right xs) refl refl h
  where
    go :
        (a b p : Bool) → ltb (length xs) pairs_length ≡ a → first_pair_right xs ≡ p →
        (cond (a || b) (refusal 14 0) (cond p (cond (second_pair_right xs) no_refusal (refusal 14 capture_pair)) (refusal 14 0))).number ≡ 0 → Parted xs
    go true b p e f z = absurd (omega arith)
    go false true p e f z = absurd (omega arith)
    go false false false e f z = absurd (omega arith)
    go false false true e f z =
        record {
          enough = ltb-false _ _ e;
          least = λ middle is. omega (arith, is, offset_least xs);
          within = λ middle is. omega (arith, is, first_within xs f);
        }

pub parted : (xs : List ℕ) → Ok tt ≡ checked (input_refusal xs) → Parted xs
parted xs e = parted_as xs (checked-passes _ (sym e))

-- the parts that are lent
pub grammar_part : (xs : List ℕ) (middle : ℕ) → middle ≡ capture_offset xs → take (middle - pairs_length) (drop pairs_length xs) ≡ input_grammar xs
unfolding input_grammar capture_offset
grammar_part xs middle e =
    let long : middle - pairs_length ≡ (pair_at xs grammar_pair).long = omega arith in
    ap (λ (k : ℕ). take k (drop pairs_length xs)) long

pub capture_part : (xs : List ℕ) (middle : ℕ) → middle ≡ capture_offset xs → take (length xs - middle) (drop middle xs) ≡ input_capture xs
unfolding input_capture
capture_part xs middle e =
    take_all (length xs - middle) (drop middle xs) (omega (arith, length-drop middle xs)) ∙ ap (λ (k : ℕ). drop k xs) e
