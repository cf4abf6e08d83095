-- Calls on bundles: a refused one, and one empty capture judged by C10's image, on cells enough and on none. Assumes nothing.
use Rattle.std.specs.Prelude.{Err, Ok}
use mathlib.Core.Path.{◌≡◌, refl, subst}
use mathlib.Core.List.{List, [], ◌∷◌, ◌++◌}
use Prim.Native.Nat.{ℕ, ◌<◌, ◌≤◌}
use native.Mathlib.Omega.{arith}
use lib.ListN.{length, drop}
use Rattle.codec.specs.Numbers.{number_at, little_endian, pair_bytes}
use Rattle.refusal.specs.First.{refusal, or_else}
use Rattle.machine.specs.declared.Verdict.TheVariants.{Ended}
use Rattle.machine.specs.Run.{config, how_many}
use Rattle.image.specs.Encoding.{header, encode}
use Rattle.image.specs.Image.{machine, states, symbols}
use Rattle.image.specs.Refusals.{image_refusal}
use Rattle.simulator.specs.Answers.{Judged}
use Rattle.simulator.specs.Calls.{judgement, JudgeSays}
use Rattle.bundle.specs.Answers as answers
use Rattle.bundle.specs.Format.{count, pair_place, offset, long, end, capture, pairs_from, bundle_refusal, call_refusal}
use Rattle.bundle.specs.Report.{lines_cells, totals}
use Rattle.bundle.specs.Calls.{InOrder, done, next, BundleAs, BundleSays}
use Rattle.worked_examples.specs.Examples.{image_of, row_machine, marker_parts, marker_image, popping_image}
use Rattle.refuted.proofs.Witnesses.{row_judged, few_notes_judged}
use Rattle.refuted.proofs.Rows.{c10, c10_holds}

-- A REFUSED CALL: no image, no bundle
pub none_says : (l a b : List ℕ) → BundleSays [] [] (Err (refusal 1 0)) l l a a b b
unfolding BundleSays BundleAs call_refusal image_refusal or_else
none_says l a b = (refl, refl, refl, refl)

-- ONE EMPTY CAPTURE: a count of 1 and the pair 12, 0
abbrev pub one_empty : List ℕ
one_empty = 1 ∷ 0 ∷ 0 ∷ 0 ∷ 12 ∷ 0 ∷ 0 ∷ 0 ∷ 0 ∷ 0 ∷ 0 ∷ 0 ∷ []

pub one_counted : count one_empty ≡ 1
unfolding count number_at
one_counted = refl

pub one_captured : capture one_empty 0 ≡ []
unfolding capture offset long pair_place number_at
one_captured = refl

one_good : (bundle_refusal one_empty).number ≡ 0
unfolding count number_at bundle_refusal pairs_from pair_place offset long end
one_good = refl

pub call_good : (bs : List ℕ) → (image_refusal bs).number ≡ 0 → (call_refusal bs one_empty).number ≡ 0
unfolding call_refusal or_else
call_good bs good = rw good one_good

-- by a good image: whatever judging the capture says, the call reports
pub one_ordered : (bs : List ℕ) (r : Judged) (a x b y : List ℕ) → JudgeSays bs [] r a x b y → InOrder bs one_empty 0 (r ∷ []) a x b y
one_ordered bs r a x b y says =
    let there : 0 < count one_empty = omega (arith, one_counted) in
    let judged : JudgeSays bs (capture one_empty 0) r a x b y = rw one_captured says in
    next there judged (subst (λ (i : ℕ). InOrder bs one_empty i [] x x y y) one_counted done)

pub one_says :
    (bs : List ℕ) (r : Judged) (l a x b y : List ℕ) → (image_refusal bs).number ≡ 0 → JudgeSays bs [] r a x b y →
    BundleSays bs one_empty (answers.lines 1 (totals (r ∷ []))) l (lines_cells (r ∷ []) ++ drop 7 l) a x b y
unfolding BundleSays BundleAs
one_says bs r l a x b y good says =
    rw
    (call_good bs good)
    (record {
      lines = r ∷ [];
      judged = one_ordered bs r a x b y says;
      answers = rw one_counted;
      lines_now = rw one_counted;
    })

-- C10's image: two cells
pub popping_good : (image_refusal popping_image).number ≡ 0
unfolding image_of
popping_good = c10_holds.unrefused.good

pub two_cells : how_many (machine popping_image []) ≡ 2
unfolding how_many machine states symbols marker_image marker_parts encode header little_endian pair_bytes
two_cells = refl

-- what judging an empty capture by it says, with cells enough and with no notes
abbrev pub c10_answer : Judged
c10_answer = Ok (judgement Ended 1 (config 0 0 0))

abbrev pub c10_refused : Judged
c10_refused = Err (refusal 8 2)

-- the bundle on cells enough: the capture ends, after one reading
pub record Reported (l a b : List ℕ) : Type 0 where
  pub a_now : List ℕ
  pub b_now : List ℕ
  pub judged : JudgeSays popping_image [] c10_answer a a_now b b_now
  pub says : BundleSays popping_image one_empty (answers.lines 1 (totals (c10_answer ∷ []))) l (lines_cells (c10_answer ∷ []) ++ drop 7 l) a a_now b b_now

pub reported : (l a b : List ℕ) → 2 ≤ length a → 2 ≤ length b → Reported l a b
unfolding image_of row_machine
reported l a b p q =
    let j = row_judged c10 c10_holds a b (rw two_cells p) (rw two_cells q) in
    record { a_now = j.notes_now; b_now = j.work_now; judged = j.says; says = one_says popping_image c10_answer l a j.notes_now b j.work_now popping_good j.says }

-- the bundle on no notes: the capture is refused, by 8 at 2
pub refused_judged : (b : List ℕ) → JudgeSays popping_image [] c10_refused [] [] b b
unfolding image_of
refused_judged b = rw two_cells at (few_notes_judged popping_image [] [] b c10_holds.unrefused (rw two_cells (omega arith)))

pub refused_says :
    (l b : List ℕ) →
    BundleSays popping_image one_empty (answers.lines 1 (totals (c10_refused ∷ []))) l (lines_cells (c10_refused ∷ []) ++ drop 7 l) [] [] b b
refused_says l b = one_says popping_image c10_refused l [] [] b b popping_good (refused_judged b)
