-- What the call says, by the checks that its code makes: of the image first, then of the bundle. Assumes nothing.
use Rattle.std.specs.Prelude.{Result, Err, Ok}
use mathlib.Core.Path.{◌≡◌, refl, sym, ◌∙◌}
use mathlib.Core.List.{List}
use Prim.Native.Nat.{ℕ, zero, suc, ◌≤◌}
use native.Mathlib.Omega.{arith}
use mathlib.Core.Bool.{Bool, true, false, cond}
use lib.Dec.{eqb}
use borrow.Author.Tests.{eqb-true, eqb-false}
use lib.ListN.{length}
use Rattle.refusal.specs.declared.Refusal.{Refusal}
use Rattle.refusal.specs.First.{or_else}
use Rattle.refusal.specs.Checking.{checked}
use Rattle.refusal.proofs.Checked.{checked-passes, checked-refuses, checked-refused, refused-first, passed-first}
use Rattle.image.specs.Refusals.{image_refusal}
use Rattle.bundle.specs.Format.{pairs_offset, count, bundle_refusal, bundle_of, call_refusal}
use Rattle.bundle.specs.Answers.{Report}
use Rattle.bundle.specs.Answers as answers
use Rattle.bundle.specs.declared.Totals.{Totals}
use Rattle.bundle.specs.Calls.{BundleJudged, BundleAs, BundleSays}
use Rattle.bundle.specs.Conditions.{BundleRight}
use Rattle.bundle.proofs.BundleConditions.{bundle_right}
use Rattle.bundle.proofs.CountChecked.{past_count}

pub count_there : {xs : List ℕ} → BundleRight xs → pairs_offset ≤ length xs
count_there {xs} right = let room = right.counted.room in let past = past_count (count xs) in omega (arith, room, past)

abbrev Made : Result (List ℕ) Refusal → Result (List ℕ) Refusal → Type 0
Made a b = a ≡ b

abbrev Passed : Result Unit Refusal → Result Unit Refusal → Type 0
Passed a b = a ≡ b

-- a bundle that is made, and one that is not
bundle_there : (xs ys : List ℕ) → bundle_of xs ≡ Ok ys → (ys ≡ xs) × ((bundle_refusal xs).number ≡ 0)
unfolding bundle_of
bundle_there xs ys = go (eqb (bundle_refusal xs).number 0) refl
  where
    go :
        (t : Bool) → eqb (bundle_refusal xs).number 0 ≡ t → Made (cond t (Ok xs) (Err (bundle_refusal xs))) (Ok ys) →
        (ys ≡ xs) × ((bundle_refusal xs).number ≡ 0)
    go true q h = (cc, eqb-true _ _ q)
    go false q h = absurd (let z : ◌≡◌ {A = ℕ} 0 1 = cc in omega arith)

bundle_wrong : (xs : List ℕ) (e : Refusal) → bundle_of xs ≡ Err e → checked (bundle_refusal xs) ≡ Err e
unfolding bundle_of checked
bundle_wrong xs e = go (eqb (bundle_refusal xs).number 0)
  where
    go : (t : Bool) → Made (cond t (Ok xs) (Err (bundle_refusal xs))) (Err e) → Passed (cond t (Ok tt) (Err (bundle_refusal xs))) (Err e)
    go true h = absurd (let z : ◌≡◌ {A = ℕ} 0 1 = cc in omega arith)
    go false h = cc

pub passed_right : (xs : List ℕ) → checked (bundle_refusal xs) ≡ Ok tt → BundleRight xs
passed_right xs h = bundle_right xs (checked-passes _ h)

pub made : (xs : List ℕ) → checked (bundle_refusal xs) ≡ Ok tt → Ok xs ≡ bundle_of xs
unfolding bundle_of
made xs h = rw (checked-passes _ h) refl

pub refused_bundle : (xs : List ℕ) {e : Refusal} → checked (bundle_refusal xs) ≡ Err e → Err e ≡ bundle_of xs
unfolding bundle_of
refused_bundle xs {e} h = rw (checked-refuses _ _ h, checked-refused _ _ h) refl

as_refused :
    (n : ℕ) (f : Refusal) (bs xs : List ℕ) (r : Report) (l a b : List ℕ) → (n ≡ 0 → ⊥) → r ≡ Err f → BundleAs n f bs xs r l l a a b b
unfolding BundleAs
as_refused zero f bs xs r l a b some q = absurd (some refl)
as_refused (suc n) f bs xs r l a b some q = (q, refl, refl, refl)

as_judged :
    (n : ℕ) (f : Refusal) (bs xs : List ℕ) (r : Report) (l m a x b y : List ℕ) → n ≡ 0 → BundleJudged bs xs r l m a x b y →
    BundleAs n f bs xs r l m a x b y
unfolding BundleAs
as_judged zero f bs xs r l m a x b y e j = j
as_judged (suc n) f bs xs r l m a x b y e j = absurd (omega (arith, e))

call_passed : (bs xs : List ℕ) → checked (image_refusal bs) ≡ Ok tt → (bundle_refusal xs).number ≡ 0 → (call_refusal bs xs).number ≡ 0
unfolding call_refusal or_else
call_passed bs xs good h = rw (checked-passes _ good) h

module _ (bs xs l a b : List ℕ) where
  refused_says : {r : Report} {e : Refusal} → r ≡ Err e → checked (call_refusal bs xs) ≡ Err e → BundleSays bs xs r l l a a b b
  unfolding BundleSays
  refused_says {r} {e} q h =
      as_refused (call_refusal bs xs).number (call_refusal bs xs) bs xs r l a b (eqb-false _ _ (checked-refused _ _ h))
      (rw (← checked-refuses _ _ h) q)

  pub image_says : {r : Report} {e : Refusal} → r ≡ Err e → checked (image_refusal bs) ≡ Err e → BundleSays bs xs r l l a a b b
  unfolding call_refusal
  image_says q h = refused_says q (sym (refused-first _ _ _ h))

  module _ (good : checked (image_refusal bs) ≡ Ok tt) where
    pub bundle_says : {r : Report} {e : Refusal} → r ≡ Err e → bundle_of xs ≡ Err e → BundleSays bs xs r l l a a b b
    unfolding call_refusal
    bundle_says q h = refused_says q (sym (passed-first _ _ good) ∙ bundle_wrong xs _ h)

    pub judged_says :
        {m x y ys : List ℕ} {n : ℕ} (t : Totals) → bundle_of xs ≡ Ok ys → n ≡ count ys →
        BundleJudged bs ys (answers.lines (count ys) t) l m a x b y → BundleSays bs xs (answers.lines n t) l m a x b y
    unfolding BundleSays
    judged_says {m} {x} {y} {ys} {n} t e counted j =
        let (same, h) = bundle_there xs ys e in
        let here : BundleJudged bs xs (answers.lines (count xs) t) l m a x b y = rw same at j in
        rw (counted, same) (as_judged (call_refusal bs xs).number (call_refusal bs xs) bs xs (answers.lines (count xs) t) l m a x b y (call_passed bs xs good h) here)
