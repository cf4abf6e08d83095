-- What was written as bytes reads back, and bytes that were read are written back: numbers of any width, and pairs. Assumes nothing.
use mathlib.Core.Path.{◌≡◌, refl, sym, ap, ◌∙◌}
use mathlib.Core.List.{List, [], ◌∷◌, ◌++◌, append_assoc}
use Prim.Native.Nat.{ℕ, zero, suc, ◌+◌, ◌*◌, ◌/◌, ◌%◌, ◌^◌, ◌<◌, ◌≤◌}
use native.Mathlib.Nat.{mod-add-div, pow-suc, div-lt_iff_lt-mul, zero-lt-suc}
use native.Mathlib.Omega.{arith}
use lib.ListN.{length, drop, length-append}
use lib.Seq.{drop-cons, take-add, drop-drop}
use Rattle.codec.specs.declared.Pair.{Pair}
use Rattle.codec.specs.Bytes.{byte, Bytes, section}
use Rattle.codec.specs.Numbers.{number_at, little_endian, u32_width, pair_at, pair_width, pair_bytes}
use Rattle.codec.proofs.Reading.{number_past}

pub little_endian_length : (n v : ℕ) → length (little_endian n v) ≡ n
unfolding little_endian
little_endian_length zero v = refl
little_endian_length (suc n) v = ap suc (little_endian_length n (v / 256))

-- WRITTEN, THEN READ: at the front, and behind a part
number_front : (n v : ℕ) (ys : List ℕ) → v < 256 ^ n → number_at n (little_endian n v ++ ys) 0 ≡ v
unfolding number_at little_endian
number_front zero v ys h = omega arith
number_front (suc n) v ys h =
    let below : v / 256 < 256 ^ n = (div-lt_iff_lt-mul (zero-lt-suc 255)).1 (rw (← pow-suc 256 n) h) in
    ap (λ (m : ℕ). v % 256 + 256 * m)
    (number_past n (v % 256 ∷ []) (little_endian n (v / 256) ++ ys) 1 0 refl ∙ number_front n (v / 256) ys below)
    ∙ mod-add-div v 256

pub number_back : (n v : ℕ) (xs ys : List ℕ) (i : ℕ) → i ≡ length xs → v < 256 ^ n → number_at n (xs ++ (little_endian n v ++ ys)) i ≡ v
number_back n v xs ys i e h = number_past n xs (little_endian n v ++ ys) i 0 (omega arith) ∙ number_front n v ys h

-- READ, THEN WRITTEN: the bytes themselves
pub bytes_back : (n : ℕ) (bs : List ℕ) (i : ℕ) → Bytes bs → i + n ≤ length bs → little_endian n (number_at n bs i) ≡ section bs i n
unfolding number_at little_endian
bytes_back zero bs i all h = refl
bytes_back (suc n) bs i all h =
    let m : ℕ = number_at n bs (suc i) in
    let low : (byte bs i + 256 * m) % 256 ≡ byte bs i = omega (arith, all i) in
    let high : (byte bs i + 256 * m) / 256 ≡ m = omega (arith, all i) in
    rw (low, high, drop-cons bs i 0 (omega arith)) (ap (λ (l : List ℕ). byte bs i ∷ l) (bytes_back n bs (suc i) all (omega arith)))

-- A PAIR, both ways
pub pair_length : (p : Pair) → length (pair_bytes p) ≡ pair_width
unfolding pair_bytes little_endian
pair_length p = refl

pub record PairFits (p : Pair) : Type 0 where
  pub offset_fits : p.offset < 256 ^ u32_width
  pub long_fits : p.long < 256 ^ u32_width

pub pair_back : (p : Pair) (xs ys : List ℕ) (i : ℕ) → i ≡ length xs → PairFits p → pair_at (xs ++ (pair_bytes p ++ ys)) i ≡ p
unfolding pair_bytes
pair_back p xs ys i e f =
    let a : List ℕ = little_endian 4 p.offset in
    let b : List ℕ = little_endian 4 p.long in
    let near : xs ++ (a ++ b ++ ys) ≡ xs ++ (a ++ (b ++ ys)) = ap (λ (l : List ℕ). xs ++ l) (append_assoc a b ys) in
    let far : xs ++ (a ++ b ++ ys) ≡ (xs ++ a) ++ (b ++ ys) = near ∙ sym (append_assoc xs a (b ++ ys)) in
    let place : i + 4 ≡ length (xs ++ a) = omega (arith, length-append xs a, little_endian_length 4 p.offset) in
    let o = ap (λ (l : List ℕ). number_at 4 l i) near ∙ number_back 4 p.offset xs (b ++ ys) i e f.offset_fits in
    let l = ap (λ (l : List ℕ). number_at 4 l (i + 4)) far ∙ number_back 4 p.long (xs ++ a) ys (i + 4) place f.long_fits in
    λ j. record { offset = o j; long = l j }

pub pair_bytes_back : (bs : List ℕ) (i : ℕ) → Bytes bs → i + pair_width ≤ length bs → pair_bytes (pair_at bs i) ≡ section bs i pair_width
unfolding pair_bytes
pair_bytes_back bs i all h =
    rw (bytes_back 4 bs i all (omega arith), bytes_back 4 bs (i + 4) all (omega arith), ← drop-drop 4 i bs) (sym (take-add 4 4 (drop i bs)))
