-- Where pairs stand, what is read there, and the part of the bundle that a pair names. Assumes nothing.
use mathlib.Core.Path.{◌≡◌, refl}
use mathlib.Core.List.{List}
use Prim.Native.Nat.{ℕ, ◌+◌, ◌-◌, ◌<◌, ◌≤◌}
use native.Mathlib.Omega.{arith}
use lib.ListN.{length, take, drop}
use Rattle.codec.specs.declared.Pair.{Pair}
use Rattle.codec.specs.Numbers.{pair_width, pair_at}
use Rattle.bundle.specs.Format.{max_captures, count, pair_place, offset, long, end, capture}
use Rattle.bundle.specs.Conditions.{BundleRight}
use Rattle.bundle.specs.Code.Judging.{Listed}

-- pair i stands before the pairs' end
place_before : {i n : ℕ} → i < n → pair_place i + pair_width ≤ pair_place n
unfolding pair_place
place_before h = omega (arith, h)

pub pair_room : {m n i at : ℕ} → pair_place n ≤ m → i < n → at ≡ pair_place i → at + pair_width ≤ m
pair_room room h e = let before = place_before h in omega (arith, room, before, e)

-- what is read there
module _ (xs : List ℕ) (i : ℕ) {at : ℕ} {p : Pair} (e : at ≡ pair_place i) (q : p ≡ pair_at xs at) where
  pub offset_is : p.offset ≡ offset xs i
  unfolding offset
  offset_is = rw (q, e) refl

  long_is : p.long ≡ long xs i
  unfolding long
  long_is = rw (q, e) refl

  pub end_is : p.offset + p.long ≡ end xs i
  unfolding end
  end_is = let o = offset_is in let l = long_is in omega (arith, o, l)

  -- THE PART THAT A PAIR NAMES
  pub part_is : take (p.offset + p.long - p.offset) (drop p.offset xs) ≡ capture xs i
  unfolding capture
  part_is =
      let long_part : p.offset + p.long - p.offset ≡ p.long = omega arith in
      rw (long_part, offset_is, long_is) refl

pub listed : {xs : List ℕ} {i : ℕ} → BundleRight xs → i < count xs → Listed xs i
listed right there = record { good = right; there = there }

module _ {xs : List ℕ} {i : ℕ} (l : Listed xs i) where
  pub few_before : i ≤ max_captures
  few_before = let few = l.good.counted.few in let h = l.there in omega (arith, few, h)

  pub pair_inside : {at : ℕ} → at ≡ pair_place i → at + pair_width ≤ length xs
  pair_inside e = pair_room l.good.counted.room l.there e

  pub part_inside : {p : Pair} {at : ℕ} → at ≡ pair_place i → p ≡ pair_at xs at → p.offset + p.long ≤ length xs
  part_inside e q = let z = end_is xs i e q in let h = (l.good.pairs i l.there).inside in omega (arith, z, h)

-- for the function that gives a capture
pub ruleset captures = (few_before, pair_inside, part_inside, part_is)
