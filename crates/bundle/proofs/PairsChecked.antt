-- The pairs of a bundle checked one by one: what is left of the check at each of them. Assumes nothing.
use Rattle.std.specs.Prelude.{Ok, Err}
use mathlib.Core.Path.{◌≡◌, refl, ap, ◌∙◌}
use mathlib.Core.Bool.{◌&&◌, cond}
use mathlib.Core.List.{List}
use Prim.Native.Nat.{ℕ, suc, ◌+◌, ◌-◌, ◌<◌, ◌≤◌}
use native.Mathlib.Omega.{arith}
use lib.Dec.{leb}
use lib.ListN.{length}
use borrow.Author.Tests.{le-leb, lt-leb}
use Rattle.codec.specs.declared.Pair.{Pair}
use Rattle.codec.specs.Numbers.{pair_at}
use Rattle.refusal.specs.declared.Refusal.{Refusal}
use Rattle.refusal.specs.First.{refusal, no_refusal}
use Rattle.refusal.specs.Checking.{checked}
use Rattle.refusal.proofs.Checked.{refuses-made}
use Rattle.bundle.specs.Format.{pair_place, offset, end, pairs_from}
use Rattle.bundle.proofs.PairsRead.{pair_room, offset_is, end_is}

-- the answer of the whole is that of the pairs from i on
pub record PairsLeft (xs : List ℕ) (n floor i : ℕ) : Type 0 where
  pub within : i ≤ n
  pub same : pairs_from n 0 (pair_place n) xs ≡ pairs_from (n - i) i floor xs

pub at_first : {xs : List ℕ} {n floor : ℕ} → floor ≡ pair_place n → PairsLeft xs n floor 0
at_first {xs} {n} e = let all : n - 0 ≡ n = omega arith in record { within = omega arith; same = rw (all, e) refl }

one_more :
    (xs : List ℕ) (n floor i : ℕ) → i < n →
    pairs_from (n - i) i floor xs
    ≡ cond (leb floor (offset xs i) && leb (end xs i) (length xs)) (pairs_from (n - (i + 1)) (i + 1) (end xs i) xs) (refusal 18 (pair_place i))
unfolding pairs_from
one_more xs n floor i h =
    let e : n - i ≡ suc (n - (i + 1)) = omega arith in
    let s : i + 1 ≡ suc i = omega arith in
    rw (e, s) refl

module _ {xs : List ℕ} {n floor i at : ℕ} {p : Pair} (left : PairsLeft xs n floor i) (h : i < n) (e : at ≡ pair_place i) (q : p ≡ pair_at xs at) where
  pub starts_early : {f : Refusal} → p.offset < floor → f ≡ refusal 18 at → Err f ≡ checked (pairs_from n 0 (pair_place n) xs)
  starts_early k r =
      let o = offset_is xs i e q in
      refuses-made _ _ r refl ∙ ap checked (rw (left.same, one_more xs n floor i h, lt-leb floor (offset xs i) (omega (arith, k, o)), e) refl)

  pub ends_late : {f : Refusal} → floor ≤ p.offset → length xs < p.offset + p.long → f ≡ refusal 18 at → Err f ≡ checked (pairs_from n 0 (pair_place n) xs)
  ends_late k m r =
      let o = offset_is xs i e q in
      let z = end_is xs i e q in
      refuses-made _ _ r refl ∙ ap checked (rw (left.same, one_more xs n floor i h, le-leb floor (offset xs i) (omega (arith, k, o)), lt-leb (end xs i) (length xs) (omega (arith, m, z)), e) refl)

  pub next_left : floor ≤ p.offset → p.offset + p.long ≤ length xs → PairsLeft xs n (p.offset + p.long) (i + 1)
  next_left k m =
      let o = offset_is xs i e q in
      let z = end_is xs i e q in
      record {
        within = omega (arith, h);
        same = left.same ∙ (rw (one_more xs n floor i h, le-leb floor (offset xs i) (omega (arith, k, o)), le-leb (end xs i) (length xs) (omega (arith, m, z)), z) refl);
      }

pub none_left : {xs : List ℕ} {n floor i : ℕ} → PairsLeft xs n floor i → n ≤ i → Ok tt ≡ checked (pairs_from n 0 (pair_place n) xs)
unfolding pairs_from checked
none_left {xs} {n} {floor} {i} left h =
    let e : n - i ≡ 0 = omega arith in
    let none : pairs_from n 0 (pair_place n) xs ≡ no_refusal = left.same ∙ (rw e refl) in
    rw none refl

-- for the function that checks the pairs
pub ruleset pairs = (pair_room, at_first, starts_early, ends_late, next_left, none_left)
