-- The refusals of an image and a capture one after another: what it means that none is given, and what the check's answer says of the definition. Assumes nothing.
use mathlib.Core.Path.{◌≡◌}
use mathlib.Core.List.{List}
use Prim.Native.Nat.{ℕ, ◌<◌, ◌≤◌}
use lib.Dec.{ltb}
use lib.ListN.{length}
use borrow.Author.Tests.{lt-ltb, le-ltb, ltb-false, eq-eqb, ne_eqb}
use Rattle.refusal.specs.declared.Refusal.{Refusal}
use Rattle.image.specs.Format
use Rattle.codec.specs.Bytes.{byte}
use Rattle.refusal.specs.First.{refusal, no_refusal, or_else, refuse_if}
use Rattle.image.specs.Refusals.{image_refusal, capture_refusal, Unrefused}
use Rattle.refusal.proofs.Refused.{neither, not_refused}

-- with no refusal of 1 to 7 the image is good and the capture short
pub capture_fine : (bs : List ℕ) (n : ℕ) → (capture_refusal bs n).number ≡ 0 → ((image_refusal bs).number ≡ 0) × (n ≤ Format.max_capture)
unfolding capture_refusal
capture_fine bs n e =
    let (good, capture) = neither _ _ (record { none_such = e }) in
    (good.none_such, ltb-false Format.max_capture n (not_refused _ 6 n capture))

pub unrefused_by : (bs cs : List ℕ) → ((i : ℕ) → byte cs i < 256) → (capture_refusal bs (length cs)).number ≡ 0 → Unrefused bs cs
unrefused_by bs cs bytes e =
    let (good, short) = capture_fine bs (length cs) e in
    record { good = good; short = short; bytes = bytes }

-- the tests in their order
module _ (bs : List ℕ) (n : ℕ) (f : Refusal) (e : f ≡ image_refusal bs) where
  pub image_first : (f.number ≡ 0 → ⊥) → f ≡ capture_refusal bs n
  unfolding capture_refusal or_else
  image_first h = simp (← e, ne_eqb _ _ h)

  module _ (good : f.number ≡ 0) where
    pub then_length : {g : Refusal} → g ≡ refuse_if (ltb Format.max_capture n) (refusal 7 n) → g ≡ capture_refusal bs n
    unfolding capture_refusal or_else
    then_length q = simp (← e, eq-eqb _ _ good) q

    pub then_long : Format.max_capture < n → refusal 7 n ≡ capture_refusal bs n
    unfolding capture_refusal or_else refuse_if
    then_long h = simp (← e, eq-eqb _ _ good, lt-ltb _ _ h)

    pub then_fine : n ≤ Format.max_capture → no_refusal ≡ capture_refusal bs n
    unfolding capture_refusal or_else refuse_if
    then_fine h = simp (← e, eq-eqb _ _ good, le-ltb _ _ h)
