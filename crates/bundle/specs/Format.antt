-- A BUNDLE as bytes: a count, then as many pairs of offset and length, then captures; and when it is wrong, with the place: refusal 18. Numbers have 32 bits. Assumes nothing: these are definitions.
use Rattle.std.specs.Prelude.{◌&&◌, ◌||◌, cond, List, ℕ, zero, suc, ◌+◌, ◌*◌, ltb, leb, eqb, length, Result, Ok, Err}
use Rattle.refusal.specs.declared.Refusal.{Refusal}
use Rattle.refusal.specs.First.{refusal, no_refusal, or_else}
use Rattle.codec.specs.Bytes.{section}
use Rattle.codec.specs.Numbers.{u32_width, pair_width, u32_at}
use Rattle.image.specs.Refusals.{image_refusal}

-- the limit, and where the pairs begin
abbrev pub max_captures : ℕ
max_captures = 64

abbrev pub pairs_offset : ℕ
pairs_offset = 4

-- how many captures
unfoldable pub count : (bundle : List ℕ) → ℕ
count xs = u32_at xs 0

-- where pair i stands; of the count, where the pairs end
unfoldable pub pair_place : (i : ℕ) → ℕ
pair_place i = pairs_offset + pair_width * i

-- what pair i says: where its capture starts, how long it is, where it ends
unfoldable pub offset : (bundle : List ℕ) → (i : ℕ) → ℕ
offset xs i = u32_at xs (pair_place i)

unfoldable pub long : (bundle : List ℕ) → (i : ℕ) → ℕ
long xs i = u32_at xs (pair_place i + u32_width)

unfoldable pub end : (bundle : List ℕ) → (i : ℕ) → ℕ
end xs i = offset xs i + long xs i

-- CAPTURE i, the bundle's own bytes
unfoldable pub capture : (bundle : List ℕ) → (i : ℕ) → List ℕ
capture xs i = section xs (offset xs i) (long xs i)

-- 18: each pair starts no earlier than a floor, where the one before ends, and ends inside the bundle
unfoldable pub pairs_from : (left i floor : ℕ) → List ℕ → Refusal
pairs_from zero i f xs = no_refusal
pairs_from (suc n) i f xs =
    cond (leb f (offset xs i) && leb (end xs i) (length xs)) (pairs_from n (suc i) (end xs i) xs) (refusal 18 (pair_place i))

unfoldable pub bundle_refusal : (bundle : List ℕ) → Refusal
bundle_refusal xs =
    cond (eqb (count xs) 0 || (ltb max_captures (count xs) || ltb (length xs) (pair_place (count xs)))) (refusal 18 0)
    (pairs_from (count xs) 0 (pair_place (count xs)) xs)

-- a bundle's bytes where it is not refused
unfoldable pub bundle_of : (bundle : List ℕ) → Result (List ℕ) Refusal
bundle_of xs = cond (eqb (bundle_refusal xs).number 0) (Ok xs) (Err (bundle_refusal xs))

-- THE CALL REFUSES by 1 to 6, of the image, then by 18
unfoldable pub call_refusal : (image bundle : List ℕ) → Refusal
call_refusal bs xs = or_else (image_refusal bs) (bundle_refusal xs)
