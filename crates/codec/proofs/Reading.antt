-- Reading a byte or a number past a part, or within one; and a number of two halves. Assumes nothing.
use mathlib.Core.Path.{◌≡◌, refl, ap, ◌∙◌}
use mathlib.Core.List.{List, [], ◌∷◌, ◌++◌}
use Prim.Native.Nat.{ℕ, zero, suc, ◌+◌, ◌*◌, ◌<◌}
use native.Mathlib.Nat.{zero-add, suc-add}
use native.Mathlib.Omega.{arith}
use lib.ListN.{length, drop, get_or-append}
use lib.Seq.{get_or-append-add}
use Rattle.std.specs.Prelude.{slice_index}
use Rattle.std.specs.Int.{w32, w64, from_le_bytes}
use Rattle.std.proofs.lemmas.List.{get_or-take, get_or-drop}
use Rattle.codec.specs.Bytes.{byte, section}
use Rattle.codec.specs.Numbers.{number_at, u32_at, u64_at}

pub byte_past : (xs ys : List ℕ) (n o : ℕ) → n ≡ length xs + o → byte (xs ++ ys) n ≡ byte ys o
byte_past xs ys n o e = rw e (get_or-append-add xs ys o 0)

pub byte_within : (xs ys : List ℕ) (n : ℕ) → n < length xs → byte (xs ++ ys) n ≡ byte xs n
byte_within xs ys n h = get_or-append xs ys 0 n h

-- a number past one byte, and past a part
number_past_one : (n x : ℕ) (ys : List ℕ) (i : ℕ) → number_at n (x ∷ ys) (suc i) ≡ number_at n ys i
unfolding number_at
number_past_one zero x ys i = refl
number_past_one (suc n) x ys i = ap (λ (m : ℕ). byte ys i + 256 * m) (number_past_one n x ys (suc i))

number_past_all : (n : ℕ) (xs ys : List ℕ) (i : ℕ) → number_at n (xs ++ ys) (length xs + i) ≡ number_at n ys i
number_past_all n [] ys i = ap (number_at n ys) (zero-add i)
number_past_all n (x ∷ xs) ys i =
    ap (number_at n (x ∷ xs ++ ys)) (suc-add (length xs) i) ∙ number_past_one n x (xs ++ ys) (length xs + i)
    ∙ number_past_all n xs ys i

pub number_past : (n : ℕ) (xs ys : List ℕ) (i o : ℕ) → i ≡ length xs + o → number_at n (xs ++ ys) i ≡ number_at n ys o
number_past n xs ys i o e = ap (number_at n (xs ++ ys)) e ∙ number_past_all n xs ys o

-- THE NUMBERS THAT THE CODE READS: by their bytes, and by their halves
pub u32_bytes :
    (bs : List ℕ) (i : ℕ) → u32_at bs i ≡ byte bs i + 256 * byte bs (i + 1) + 65536 * byte bs (i + 2) + 16777216 * byte bs (i + 3)
unfolding number_at
u32_bytes bs i =
    let one : suc i ≡ i + 1 = omega arith in
    let two : suc (suc i) ≡ i + 2 = omega arith in
    let three : suc (suc (suc i)) ≡ i + 3 = omega arith in
    rw (three, two, one) (omega arith)

pub u64_halves : (bs : List ℕ) (i : ℕ) → u64_at bs i ≡ u32_at bs i + 4294967296 * u32_at bs (i + 4)
unfolding number_at
u64_halves bs i =
    let four : i + 4 ≡ suc (suc (suc (suc i))) = omega arith in
    rw four (omega arith)

-- AND AS THE LIBRARY READS THEM, from the bytes taken out
section_byte : (bs : List ℕ) (n i k j : ℕ) → k < n → i + k ≡ j → slice_index (section bs i n) k ≡ byte bs j
section_byte bs n i k j h e = get_or-take n (drop i bs) k 0 h ∙ get_or-drop i bs k 0 ∙ ap (byte bs) e

pub u32_section : (bs : List ℕ) (i : ℕ) → from_le_bytes w32 (section bs i 4) ≡ u32_at bs i
u32_section bs i =
    let b = λ (k : ℕ) (j : ℕ) (h : k < 4) (e : i + k ≡ j). section_byte bs 4 i k j h e in
    omega (arith, u32_bytes bs i, b 0 i (omega arith) (omega arith), b 1 (i + 1) (omega arith) refl, b 2 (i + 2) (omega arith) refl, b 3 (i + 3) (omega arith) refl)

pub u64_section : (bs : List ℕ) (i : ℕ) → from_le_bytes w64 (section bs i 8) ≡ u64_at bs i
u64_section bs i =
    let b = λ (k : ℕ) (j : ℕ) (h : k < 8) (e : i + k ≡ j). section_byte bs 8 i k j h e in
    omega (
      arith,
      u64_halves bs i,
      u32_bytes bs i,
      u32_bytes bs (i + 4),
      b 0 i (omega arith) (omega arith),
      b 1 (i + 1) (omega arith) refl,
      b 2 (i + 2) (omega arith) refl,
      b 3 (i + 3) (omega arith) refl,
      b 4 (i + 4) (omega arith) refl,
      b 5 (i + 4 + 1) (omega arith) (omega arith),
      b 6 (i + 4 + 2) (omega arith) (omega arith),
      b 7 (i + 4 + 3) (omega arith) (omega arith),
    )
