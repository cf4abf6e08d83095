-- A buffer after a part was written: its front, one part after another, and four bytes, by four stores or put in place of as many. Assumes nothing.
use mathlib.Core.Path.{◌≡◌, refl, sym, ap, ◌∙◌}
use mathlib.Core.List.{List, [], ◌∷◌, ◌++◌, append_assoc}
use Prim.Native.Nat.{ℕ, suc, ◌+◌, ◌*◌, ◌-◌, ◌≤◌}
use native.Mathlib.Omega.{arith}
use borrow.Rule.Slice.PartMut.{put_mid, Post-is}
use Rattle.std.specs.Int.{w32, to_le_bytes}
use Rattle.std.proofs.Math.Nat.{div-div-eq-div-mul}
use lib.ListN.{length, take, drop, set, length-append}
use lib.Seq.{sets-eq, take_at, drop_at, drop-drop, length-take-le}
use Rattle.codec.specs.declared.Pair.{Pair}
use Rattle.codec.specs.Bytes.{written}
use Rattle.codec.specs.Numbers.{little_endian, u32_width, pair_width, pair_bytes}
use Rattle.codec.proofs.RoundTrips.{little_endian_length}

-- four stores
pub four_stored :
    (bs : List ℕ) (i w x y z : ℕ) → i + 4 ≤ length bs →
    set (set (set (set bs i w) (i + 1) x) (i + 2) y) (i + 3) z ≡ written bs i (w ∷ x ∷ y ∷ z ∷ [])
unfolding written
four_stored bs i w x y z h =
    let one : i + 1 ≡ suc i = omega arith in
    let two : i + 2 ≡ suc (suc i) = omega arith in
    let three : i + 3 ≡ suc (suc (suc i)) = omega arith in
    rw (one, two, three) (sets-eq (w ∷ x ∷ y ∷ z ∷ []) bs i h)

-- a number's bytes as the library gives them, in place of as many
given : (v : ℕ) → to_le_bytes w32 v ≡ little_endian u32_width v
unfolding little_endian
given v = rw (div-div-eq-div-mul v 256 256, div-div-eq-div-mul v (256 * 256) 256) refl

pub u32_written :
    (bs b part : List ℕ) (i v : ℕ) → b ≡ to_le_bytes w32 v → part ≡ b → put_mid i (i + 4 - i) bs part ≡ written bs i (little_endian u32_width v)
unfolding written
u32_written bs b part i v e f =
    let digits : part ≡ little_endian 4 v = f ∙ e ∙ given v in
    rw (Post-is i (i + 4) bs (omega arith), digits, little_endian_length 4 v) (sym (append_assoc (take i bs) (little_endian 4 v) (drop (i + 4) bs)))

-- four bytes in place of as many
pub four_written :
    (bs part : List ℕ) (i w x y z : ℕ) → part ≡ w ∷ x ∷ y ∷ z ∷ [] → put_mid i (i + 4 - i) bs part ≡ written bs i (w ∷ x ∷ y ∷ z ∷ [])
unfolding written
four_written bs part i w x y z e =
    rw (Post-is i (i + 4) bs (omega arith), e) (sym (append_assoc (take i bs) (w ∷ x ∷ y ∷ z ∷ []) (drop (i + 4) bs)))

module _ (bs : List ℕ) (i : ℕ) (part : List ℕ) (h : i + length part ≤ length bs) where
  front_length : length (take i bs ++ part) ≡ i + length part
  front_length = length-append (take i bs) part ∙ omega (arith, length-take-le i bs (omega arith))

  -- what stands up to the part's end
  pub written_front : take (i + length part) (written bs i part) ≡ take i bs ++ part
  unfolding written
  written_front = take_at (take i bs ++ part) (drop (i + length part) bs) (i + length part) front_length

-- a part right after another is one part
written_on :
    (bs : List ℕ) (i : ℕ) (p q : List ℕ) → i + length p + length q ≤ length bs →
    written (written bs i p) (i + length p) q ≡ written bs i (p ++ q)
unfolding written
written_on bs i p q h =
    let room : i + length p ≤ length bs = omega arith in
    let w : List ℕ = take i bs ++ p ++ drop (i + length p) bs in
    let place : i + length p + length q ≡ i + length (p ++ q) = omega (arith, length-append p q) in
    let later : drop (i + length p + length q) w ≡ drop (i + length (p ++ q)) bs =
    sym (drop-drop (length q) (i + length p) w) ∙ ap (drop (length q)) (drop_at (take i bs ++ p) (drop (i + length p) bs) (i + length p) (front_length bs i p room))
    ∙ drop-drop (length q) (i + length p) bs
    ∙ ap (λ (n : ℕ). drop n bs) place
    in
    rw (take_at (take i bs ++ p) (drop (i + length p) bs) (i + length p) (front_length bs i p room), later, append_assoc (take i bs) p q)

pub written_next :
    (bs : List ℕ) (i j : ℕ) (p q : List ℕ) → j ≡ i + length p → j + length q ≤ length bs →
    written (written bs i p) j q ≡ written bs i (p ++ q)
written_next bs i j p q e h = ap (λ (k : ℕ). written (written bs i p) k q) e ∙ written_on bs i p q (omega arith)

-- a pair: its two numbers, one after the other
pub pair_written :
    (bs b c : List ℕ) (i : ℕ) (p : Pair) → i + pair_width ≤ length bs → b ≡ written bs i (little_endian u32_width p.offset) →
    c ≡ written b (i + u32_width) (little_endian u32_width p.long) → c ≡ written bs i (pair_bytes p)
unfolding pair_bytes
pair_written bs b c i p h e f =
    let o : List ℕ = little_endian 4 p.offset in
    let l : List ℕ = little_endian 4 p.long in
    let first : length o ≡ 4 = little_endian_length 4 p.offset in
    let second : length l ≡ 4 = little_endian_length 4 p.long in
    f ∙ ap (λ (x : List ℕ). written x (i + 4) l) e ∙ written_next bs i (i + 4) o l (omega arith) (omega arith)
