-- What the bundle's refusal means: each bundle has just one row of the table, and the check's answer is that row's; likewise the call's. And captures lie inside a bundle that is not refused. Assumes nothing.
use mathlib.Core.Path.{◌≡◌, refl, sym}
use mathlib.Core.Bool.{Bool, true, false, ◌&&◌, ◌||◌, not, cond}
use mathlib.Core.List.{List}
use mathlib.Core.Logic.{◌↔◌}
use Prim.Native.Nat.{ℕ, zero, suc, ◌-◌, ◌<◌, ◌≤◌}
use native.Mathlib.Omega.{arith}
use lib.Dec.{ltb, leb, eqb}
use lib.ListN.{length, drop, length-drop}
use lib.Seq.{length-take-le}
use Rattle.refusal.specs.First.{refusal}
use Rattle.bundle.specs.Format.{max_captures, count, pair_place, offset, long, end, capture, pairs_from, bundle_refusal, call_refusal}
use Rattle.bundle.specs.Conditions.{CountRight, PairRight, BundleRight, BundleRow, unrefused_bundle, wrong_count, wrong_pair_at, CallRight, CallRow, unrefused_call, bad_image, bad_bundle}
use Rattle.refusal.proofs.Reflects.{Reflects, restated, decided, at_most, both, equal, Refuses, when_passed, when_refused, passing, refuses_as, unless, if_so, over, any_of}
use Rattle.refusal.proofs.Searching.{Looked, all_have, lacking, look, Search, none_found, first_found}
use Rattle.refusal.proofs.Rows.{SomeRow, exactly, Check, checks, stops, goes_on, then_row}
use Rattle.image.proofs.ConditionsMet.{image_check}

-- where pair i may start: where the pairs end, else where the pair before ends
abbrev pub floor : (bundle : List ℕ) → (i : ℕ) → ℕ
floor xs zero = pair_place (count xs)
floor xs (suc i) = end xs i

turned : {A : Type 0} (b : Bool) (x y : A) → cond b x y ≡ cond (not b) y x
turned true x y = refl
turned false x y = refl

module _ (xs : List ℕ) where
  -- THE COUNT
  count_test :
      Refuses (CountRight xs) (eqb (count xs) 0 || (ltb max_captures (count xs) || ltb (length xs) (pair_place (count xs))))
  count_test =
      refuses_as (λ p. record { some = least p.0; few = p.1.0; room = p.1.1 })
      (λ r. (not_none r.some, (r.few, r.room)))
      (any_of (if_so (equal (count xs) 0)) (any_of (over max_captures (count xs)) (over (length xs) (pair_place (count xs)))))
    where
      least : (count xs ≡ 0 → ⊥) → 1 ≤ count xs
      least n = omega (arith, n)

      not_none : 1 ≤ count xs → count xs ≡ 0 → ⊥
      not_none h e = omega (arith, h, e)

  -- its test decides first
  pub count_refused : (CountRight xs → ⊥) → bundle_refusal xs ≡ refusal 18 0
  unfolding bundle_refusal
  count_refused w = rw (when_refused count_test w) refl

  pub count_passed : CountRight xs → bundle_refusal xs ≡ pairs_from (count xs) 0 (pair_place (count xs)) xs
  unfolding bundle_refusal
  count_passed c = rw (when_passed count_test c) refl

  -- THE PAIRS, one by one
  to_pair : (i : ℕ) → floor xs i ≤ offset xs i → end xs i ≤ length xs → PairRight xs i
  to_pair zero f e = record { first = λ z. f; follows = λ j z. absurd (omega (arith, z)); inside = e }
  to_pair (suc i) f e = record { first = λ z. absurd (omega (arith, z)); follows = λ j z. go j z f; inside = e }
    where
      go : (j : ℕ) → suc i ≡ suc j → end xs i ≤ offset xs (suc i) → end xs j ≤ offset xs (suc i)
      go j z h = let s : i ≡ j = omega (arith, z) in rw (sym s) h

  from_pair : (i : ℕ) → PairRight xs i → floor xs i ≤ offset xs i
  from_pair zero r = r.first refl
  from_pair (suc i) r = r.follows i refl

  pair_test : (i : ℕ) → Reflects (PairRight xs i) (leb (floor xs i) (offset xs i) && leb (end xs i) (length xs))
  pair_test i =
      restated (λ p. to_pair i p.0 p.1) (λ r. (from_pair i r, r.inside))
      (both (at_most (floor xs i) (offset xs i)) (at_most (end xs i) (length xs)))

  pairs_search : Search (λ k i. pairs_from k i (floor xs i) xs) (λ i. refusal 18 (pair_place i)) (PairRight xs)
  unfolding pairs_from
  pairs_search =
      record {
        refuses = λ i. not (leb (floor xs i) (offset xs i) && leb (end xs i) (length xs));
        tests = λ i. unless (pair_test i);
        none_left = λ i. refl;
        one_more = λ k i. turned (leb (floor xs i) (offset xs i) && leb (end xs i) (length xs)) _ _;
      }

  -- EACH BUNDLE HAS A ROW
  some_row : SomeRow (BundleRow xs)
  some_row = go (passing count_test) (look (PairRight xs) (λ i. decided (pair_test i)) (count xs))
    where
      go : Dec (CountRight xs) → Looked (PairRight xs) (count xs) → SomeRow (BundleRow xs)
      go (no n) l = (18, 0, wrong_count n)
      go (yes c) (all_have f) = (0, 0, unrefused_bundle (record { counted = c; pairs = f }))
      go (yes c) (lacking i l) =
          (18, pair_place i, wrong_pair_at c (record { there = l.below; wrong = l.lacks; earlier_right = l.before }))

  -- AND ITS ROW IS THE CHECK'S ANSWER
  row_answers : (n o : ℕ) → BundleRow xs n o → bundle_refusal xs ≡ refusal n o
  row_answers n o (unrefused_bundle r) =
      rw (count_passed r.counted) (none_found pairs_search (count xs) 0 (λ j a b. r.pairs j (omega (arith, b))))
  row_answers n o (wrong_count w) = count_refused w
  row_answers n o (wrong_pair_at {i} c f) =
      rw (count_passed c)
      (first_found pairs_search (count xs) 0 i (omega arith) (omega (arith, f.there)) f.wrong (λ l a b. f.earlier_right l b))

  pub bundle_check : Check (bundle_refusal xs) (BundleRight xs) (BundleRow xs)
  bundle_check = checks (record { row = some_row; answers = row_answers }) right unrefused_bundle
    where
      right : (o : ℕ) → BundleRow xs 0 o → BundleRight xs
      right o (unrefused_bundle r) = r

  pub bundle_right : (bundle_refusal xs).number ≡ 0 → BundleRight xs
  bundle_right = bundle_check.right

-- A NUMBER AND A PLACE ARE THE CHECK'S ANSWER EXACTLY IF THE BUNDLE HAS THEIR ROW
pub bundle_answer : (xs : List ℕ) (n p : ℕ) → (bundle_refusal xs ≡ refusal n p) ↔ BundleRow xs n p
bundle_answer xs = exactly (bundle_check xs).table

-- THE CALL: the image's row, else the bundle's
module _ (bs xs : List ℕ) where
  call_row : SomeRow (CallRow bs xs)
  call_row =
      then_row (image_check bs) (λ n o r some. bad_image r some)
      (λ i. then_row (bundle_check xs) (λ n o r some. bad_bundle i r some)
      (λ b. (0, 0, unrefused_call (record { image = i; bundle = b }))))

  call_answers : (n o : ℕ) → CallRow bs xs n o → call_refusal bs xs ≡ refusal n o
  unfolding call_refusal
  call_answers n o (unrefused_call r) = goes_on (image_check bs) _ r.image ((bundle_check xs).accepted r.bundle)
  call_answers n o (bad_image r some) = stops (image_check bs) _ r some
  call_answers n o (bad_bundle i r some) = goes_on (image_check bs) _ i ((bundle_check xs).table.answers n o r)

  pub call_check : Check (call_refusal bs xs) (CallRight bs xs) (CallRow bs xs)
  call_check = checks (record { row = call_row; answers = call_answers }) right unrefused_call
    where
      right : (o : ℕ) → CallRow bs xs 0 o → CallRight bs xs
      right o (unrefused_call r) = r
      right o (bad_image r some) = absurd (some refl)
      right o (bad_bundle i r some) = absurd (some refl)

pub call_answer : (bs xs : List ℕ) (n p : ℕ) → (call_refusal bs xs ≡ refusal n p) ↔ CallRow bs xs n p
call_answer bs xs = exactly (call_check bs xs).table

-- CAPTURES LIE INSIDE: behind the pairs, one after another
behind_pairs : (xs : List ℕ) → BundleRight xs → (i : ℕ) → i < count xs → pair_place (count xs) ≤ offset xs i
unfolding end
behind_pairs xs r zero h = (r.pairs zero h).first refl
behind_pairs xs r (suc i) h =
    let before : pair_place (count xs) ≤ offset xs i = behind_pairs xs r i (omega (arith, h)) in
    let after : end xs i ≤ offset xs (suc i) = (r.pairs (suc i) h).follows i refl in
    omega (arith, before, after)

capture_long : (xs : List ℕ) (i : ℕ) → end xs i ≤ length xs → length (capture xs i) ≡ long xs i
unfolding capture end
capture_long xs i h =
    let rest : length (drop (offset xs i) xs) ≡ length xs - offset xs i = length-drop (offset xs i) xs in
    length-take-le (long xs i) (drop (offset xs i) xs) (omega (arith, rest, h))

sorted : (xs : List ℕ) (i j : ℕ) → end xs i ≤ offset xs j → offset xs i ≤ offset xs j
unfolding end
sorted xs i j h = omega (arith, h)

pub captures_inside :
    (xs : List ℕ) (i : ℕ) → (bundle_refusal xs).number ≡ 0 → i < count xs →
    (pair_place (count xs) ≤ offset xs i) × (end xs i ≤ length xs) × (length (capture xs i) ≡ long xs i)
    × (suc i < count xs → (end xs i ≤ offset xs (suc i)) × (offset xs i ≤ offset xs (suc i)))
captures_inside xs i e h =
    let r = bundle_right xs e in
    let inside : end xs i ≤ length xs = (r.pairs i h).inside in (
      behind_pairs xs r i h,
      inside,
      capture_long xs i inside,
      λ k. ((r.pairs (suc i) k).follows i refl, sorted xs i (suc i) ((r.pairs (suc i) k).follows i refl)),
    )
