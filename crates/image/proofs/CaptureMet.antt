-- An image and a capture's length are refused exactly by the rows 1 to 7 of the paper's table. Assumes nothing.
use mathlib.Core.Path.{◌≡◌, refl}
use mathlib.Core.List.{List}
use mathlib.Core.Logic.{◌↔◌}
use Prim.Native.Nat.{ℕ, ◌<◌}
use native.Mathlib.Decide.{dec_lt}
use native.Mathlib.Omega.{arith}
use borrow.Author.Tests.{lt-ltb, le-ltb}
use Rattle.image.specs.Format
use Rattle.refusal.specs.First.{refusal, refuse_if}
use Rattle.image.specs.Refusals.{capture_refusal}
use Rattle.image.specs.Conditions.{ImageRight, CaptureRight, CaptureRow, unrefused_capture, refused_image, long_capture}
use Rattle.refusal.proofs.Rows.{SomeRow, exactly, Check, checks, stops, goes_on, then_row}
use Rattle.image.proofs.ConditionsMet.{image_check}

module _ (bs : List ℕ) (n : ℕ) where
  some_row : SomeRow (CaptureRow bs n)
  some_row = then_row (image_check bs) (λ m o r some. refused_image r some) (λ i. by_length i (dec_lt Format.max_capture n))
    where
      by_length : ImageRight bs → Dec (Format.max_capture < n) → SomeRow (CaptureRow bs n)
      by_length i (yes h) = (7, n, long_capture i h)
      by_length i (no h) = (0, 0, unrefused_capture (record { image = i; short = omega arith }))

  row_answers : (m o : ℕ) → CaptureRow bs n m o → capture_refusal bs n ≡ refusal m o
  unfolding capture_refusal refuse_if
  row_answers m o (unrefused_capture r) = goes_on (image_check bs) _ r.image (simp (le-ltb _ _ r.short))
  row_answers m o (refused_image r some) = stops (image_check bs) _ r some
  row_answers m o (long_capture i h) = goes_on (image_check bs) _ i (simp (lt-ltb _ _ h))

  pub capture_check : Check (capture_refusal bs n) (CaptureRight bs n) (CaptureRow bs n)
  capture_check = checks (record { row = some_row; answers = row_answers }) right unrefused_capture
    where
      right : (o : ℕ) → CaptureRow bs n 0 o → CaptureRight bs n
      right o (unrefused_capture r) = r
      right o (refused_image r some) = absurd (some refl)

  pub capture_answer : (m o : ℕ) → (capture_refusal bs n ≡ refusal m o) ↔ CaptureRow bs n m o
  capture_answer = exactly capture_check.table
