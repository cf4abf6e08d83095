-- A bundle's refusal by the tests that the code makes, one after another: its length, its count, room for the pairs. Assumes nothing.
use Rattle.std.specs.Prelude.{Result, Err}
use mathlib.Core.Path.{◌≡◌, refl, sym, ap, ◌∙◌}
use mathlib.Core.List.{List}
use Prim.Native.Nat.{ℕ, ◌<◌, ◌≤◌}
use native.Mathlib.Omega.{arith}
use lib.ListN.{length}
use Rattle.refusal.specs.declared.Refusal.{Refusal}
use Rattle.refusal.specs.First.{refusal}
use Rattle.refusal.specs.Checking.{checked}
use Rattle.refusal.proofs.Checked.{refuses-made}
use Rattle.bundle.specs.Format.{max_captures, pairs_offset, count, pair_place, pairs_from, bundle_refusal}
use Rattle.bundle.specs.Conditions.{CountRight}
use Rattle.bundle.proofs.BundleConditions.{count_refused, count_passed}

-- the pairs begin behind the count, wherever they end
pub past_count : (n : ℕ) → pairs_offset ≤ pair_place n
unfolding pair_place
past_count n = omega arith

module _ (xs : List ℕ) where
  by_count : {f : Refusal} → (CountRight xs → ⊥) → f ≡ refusal 18 0 → Err f ≡ checked (bundle_refusal xs)
  by_count wrong r = refuses-made _ _ r refl ∙ ap checked (sym (count_refused xs wrong))

  pub no_count : {f : Refusal} → length xs < pairs_offset → f ≡ refusal 18 0 → Err f ≡ checked (bundle_refusal xs)
  no_count h = by_count (λ r. let p = past_count (count xs) in let k = r.room in omega (arith, h, p, k))

  module _ {n : ℕ} (e : n ≡ count xs) where
    pub no_capture : {f : Refusal} → n ≡ 0 → f ≡ refusal 18 0 → Err f ≡ checked (bundle_refusal xs)
    no_capture z = by_count (λ r. let k = r.some in omega (arith, e, z, k))

    pub many_captures : {f : Refusal} → max_captures < n → f ≡ refusal 18 0 → Err f ≡ checked (bundle_refusal xs)
    many_captures h = by_count (λ r. let k = r.few in omega (arith, e, h, k))

    module _ {place : ℕ} (p : place ≡ pair_place n) where
      pub no_room : {f : Refusal} → length xs < place → f ≡ refusal 18 0 → Err f ≡ checked (bundle_refusal xs)
      no_room h = by_count (λ r. let k = r.room in let q = p ∙ ap pair_place e in omega (arith, h, k, q))

      pub by_pairs :
          {r : Result Unit Refusal} → (n ≡ 0 → ⊥) → n ≤ max_captures → place ≤ length xs → r ≡ checked (pairs_from n 0 (pair_place n) xs) →
          r ≡ checked (bundle_refusal xs)
      by_pairs some few room r =
          let q = p ∙ ap pair_place e in
          let right : CountRight xs = record { some = omega (arith, e, some); few = omega (arith, e, few); room = omega (arith, q, room) } in
          (rw e at r) ∙ ap checked (sym (count_passed xs right))

-- for the function that checks the count
pub ruleset by_tests = (no_count, no_capture, many_captures, no_room, by_pairs)
