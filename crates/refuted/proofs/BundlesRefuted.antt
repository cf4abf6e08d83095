-- The wrong neighbours of Bundles.antt refuted: each by a closed example beside the promise. Assumes nothing.
use mathlib.Core.Path.{◌≡◌, refl, sym, ap, ◌∙◌}
use mathlib.Core.List.{List, [], ◌∷◌, ◌++◌}
use Prim.Native.Nat.{ℕ, ◌+◌, ◌<◌, ◌≤◌}
use native.Mathlib.Omega.{arith}
use lib.ListN.{length, get_or, drop, length-append, length-drop}
use lib.Seq.{get_or-drop, get_or-take}
use Rattle.codec.specs.Numbers.{number_at, little_endian, pair_bytes}
use Rattle.refusal.specs.declared.Refusal.{Refusal}
use Rattle.refusal.specs.First.{refusal, or_else}
use Rattle.machine.specs.declared.Reply.{Reply}
use Rattle.machine.specs.declared.Verdict.TheVariants.{Accepted, Ended}
use Rattle.machine.specs.Run.{how_many}
use Rattle.machine.specs.Replies.{verdict_number, count_reply}
use Rattle.image.specs.Image.{machine}
use Rattle.image.specs.Refusals.{image_refusal}
use Rattle.simulator.specs.Calls.{JudgeSays}
use Rattle.simulator.specs.Replies.{of_judged}
use Rattle.simulator.proofs.Answered.{answered_fine}
use Rattle.bundle.specs.declared.Totals.{Totals}
use Rattle.bundle.specs.Format.{count, pair_place, offset, long, end, capture, pairs_from, bundle_refusal, call_refusal}
use Rattle.bundle.specs.Report.{line_cells, lines_cells, totals, sum, gives, is_refused, sum_of_lines}
use Rattle.bundle.specs.Alone.{written_over}
use Rattle.bundle.specs.Replies.{of_report, totals_cells, totals_left}
use Rattle.sejimakpu.specs.Cells.{cells}
use Rattle.sejimakpu.specs.Calls.{JudgeBundleTells}
use Rattle.worked_examples.specs.Examples.{image_of, row_machine, popping_image}
use Rattle.worked_examples.specs.BundleExamples.{two_in_abc, RefusedSo}
use Rattle.promises.proofs.Proved.{promises}
use Rattle.refuted.specs.Bundles as Wrong
use Rattle.refuted.proofs.Rows.{first, c10_holds}
use Rattle.refuted.proofs.BundleCalls.{none_says, one_empty, one_counted, one_captured, call_good, one_ordered, popping_good, two_cells, c10_answer, reported, c10_refused, refused_judged, refused_says}

-- REFUSALS
none_refused : bundle_refusal [] ≡ refusal 18 0
unfolding bundle_refusal count number_at
none_refused = refl

pub bundle_refused : Wrong.BundleRefused → ⊥
bundle_refused wrong =
    let bad = (wrong [] 0 18).1 ((promises.bundle_refused [] 18 0).0 none_refused) in
    omega (arith, ap (λ (f : Refusal). f.number) (sym none_refused ∙ bad))

-- no image and no bundle: 1, not 18
both_refused : (or_else (bundle_refusal []) (image_refusal []) ≡ refusal 18 0) × (call_refusal [] [] ≡ refusal 1 0)
unfolding bundle_refusal count number_at call_refusal image_refusal or_else
both_refused = (refl, refl)

pub bundle_call_refused : Wrong.BundleCallRefused → ⊥
bundle_call_refused wrong =
    let bad = (promises.bundle_call_refused [] [] 18 0).1 ((wrong [] [] 18 0).0 both_refused.0) in
    omega (arith, ap (λ (f : Refusal). f.number) (sym both_refused.1 ∙ bad))

none_unreported : (call_refusal [] []).number ≡ 0 → ⊥
none_unreported e = omega (arith, e, ap (λ (f : Refusal). f.number) both_refused.1)

pub bundle_refuses : Wrong.BundleRefuses → ⊥
unfolding of_report
bundle_refuses wrong =
    let bad = (wrong [] [] _ [] [] [] [] [] [] [] (none_says [] [] []) none_unreported).0 in
    omega (arith, ap (λ (p : Reply). p.refusal) bad, ap (λ (f : Refusal). f.number) none_refused)

-- LINES AND CELLS
call_popping : (call_refusal popping_image one_empty).number ≡ 0
call_popping = call_good popping_image popping_good

-- the same from a place on: the same there
at_from : (n : ℕ) (l k : List ℕ) → drop n l ≡ drop n k → get_or l (n + 0) 0 ≡ get_or k (n + 0) 0
at_from n l k e = sym (get_or-drop n l 0 0) ∙ ap (λ (m : List ℕ). get_or m 0 0) e ∙ get_or-drop n k 0 0

abbrev ones : List ℕ
ones = 1 ∷ 1 ∷ 1 ∷ 1 ∷ 1 ∷ 1 ∷ 1 ∷ 1 ∷ []

abbrev zeros : List ℕ
zeros = 0 ∷ 0 ∷ 0 ∷ 0 ∷ 0 ∷ 0 ∷ 0 ∷ 0 ∷ []

pub bundle_answers : Wrong.BundleAnswers → ⊥
unfolding of_judged line_cells lines_cells
bundle_answers wrong =
    let p = reported ones zeros zeros (omega arith) (omega arith) in
    let kept = (wrong popping_image one_empty _ ones _ zeros p.a_now zeros p.b_now p.says call_popping).1 in
    omega (arith, ap (λ (l : List ℕ). get_or l 0 0) (rw one_counted at kept))

pub bundle_determined : Wrong.BundleDetermined → ⊥
bundle_determined wrong =
    let says = none_says [] ones [] in
    let bad = (wrong [] [] _ _ [] [] [] ones _ _ [] _ _ says says).2 in
    omega (arith, ap length bad)

pub bundle_independent : Wrong.BundleIndependent → ⊥
unfolding of_judged line_cells lines_cells
bundle_independent wrong =
    let p = reported ones zeros zeros (omega arith) (omega arith) in
    let q = reported zeros zeros zeros (omega arith) (omega arith) in
    let same = (wrong popping_image one_empty _ _ ones _ zeros _ zeros _ zeros _ zeros _ zeros _ refl refl p.says q.says).1 call_popping in
    omega (arith, ap (λ (l : List ℕ). get_or l 7 0) (rw one_counted at same))

pub bundle_cells_independent : Wrong.BundleCellsIndependent → ⊥
bundle_cells_independent wrong =
    let p = reported [] ones zeros (omega arith) (omega arith) in
    let q = reported [] zeros zeros (omega arith) (omega arith) in
    let same =
    (wrong popping_image one_empty _ _ [] _ [] _ ones _ zeros _ zeros _ zeros _ refl refl p.says q.says call_popping 0
    (omega (arith, one_counted))
    (rw one_captured (answered_fine popping_image [] ones _ zeros _ Ended 1 _ p.judged))
    2
    (rw (one_captured, two_cells) (omega arith))).0 in
    let kept : drop 2 p.a_now ≡ drop 2 ones = rw two_cells at (promises.judge_later popping_image [] _ ones _ zeros _ p.judged).0 in
    let kept' : drop 2 q.a_now ≡ drop 2 zeros = rw two_cells at (promises.judge_later popping_image [] _ zeros _ zeros _ q.judged).0 in
    omega (arith, same, at_from 2 p.a_now ones kept, at_from 2 q.a_now zeros kept')

-- two empty captures at one offset
pub captures_inside : Wrong.CapturesInside → ⊥
unfolding two_in_abc number_at little_endian pair_bytes count pair_place offset long end pairs_from bundle_refusal
captures_inside wrong = omega (arith, ((wrong (two_in_abc 23 0 23 0) 0 refl (omega arith)).3 (omega arith)).1)

pub line_alone : Wrong.LineAlone → ⊥
unfolding of_judged line_cells lines_cells
line_alone wrong =
    let p = reported [] zeros zeros (omega arith) (omega arith) in
    let alone : JudgeSays popping_image (capture one_empty 0) c10_refused [] [] zeros zeros = rw one_captured (refused_judged zeros) in
    let same = wrong popping_image one_empty _ [] _ zeros _ zeros _ p.says call_popping 0 (omega (arith, one_counted)) c10_refused [] [] zeros zeros refl alone in
    omega (arith, ap (λ (l : List ℕ). get_or l 0 0) same)

-- writing keeps every cell, or writes it
written_long : (ws : List (List ℕ)) (l : List ℕ) → length l ≤ length (written_over ws l)
unfolding written_over
written_long [] l = omega arith
written_long (ns ∷ ws) l =
    let rest = written_long ws (ns ++ drop (length ns) l) in
    omega (arith, rest, length-append ns (drop (length ns) l), length-drop (length ns) l)

pub bundle_as_alone : Wrong.AsAlone → ⊥
bundle_as_alone wrong =
    let (ws, _, same, _, _) = wrong popping_image one_empty [] [] ones ones _ (one_ordered popping_image c10_refused [] [] ones ones (refused_judged ones)) in
    omega (arith, ap length same, written_long ws ones)

pub bundle_later : Wrong.BundleLater → ⊥
bundle_later wrong =
    let p = reported [] zeros ones (omega arith) (omega arith) in
    let few : (i : ℕ) → i < count one_empty → how_many (machine popping_image (capture one_empty i)) ≤ 2 =
    λ i h. (let z : i ≡ 0 = omega (arith, one_counted) in rw (z, one_captured, two_cells) (omega arith)) in
    let kept = (wrong popping_image one_empty _ [] _ zeros _ ones _ p.says 1 few).1 in
    let cleared = rw two_cells at (promises.work_cleared popping_image [] zeros _ ones _ Ended 1 _ c10_holds.unrefused.bytes p.judged) in
    omega (arith, at_from 1 p.b_now ones kept, sym (get_or-take 2 p.b_now 1 0 (omega arith)) ∙ ap (λ (l : List ℕ). get_or l 1 0) cleared)

-- TOTALS
pub totals_sum : Wrong.TotalsSum → ⊥
unfolding totals sum is_refused of_judged line_cells lines_cells sum_of_lines
totals_sum wrong =
    let bad = (wrong popping_image one_empty _ _ [] _ [] [] [] [] (refused_says [] [])).1 in
    omega (arith, rw one_counted at bad)

pub totals_whole : Wrong.TotalsWhole → ⊥
unfolding totals sum gives
totals_whole wrong =
    let bad = (wrong popping_image one_empty _ _ [] _ [] [] [] [] (refused_says [] [])).1 in
    omega (arith, bad, one_counted)

-- THE LIBRARY FOR C: C10's one reading is no verdict
pub line_accepted : Wrong.LineAccepted → ⊥
unfolding of_report totals_left cells of_judged line_cells lines_cells image_of row_machine verdict_number
line_accepted wrong =
    let p = reported [] zeros zeros (omega arith) (omega arith) in
    let lines_now : List ℕ = lines_cells (c10_answer ∷ []) in
    let tells : JudgeBundleTells popping_image one_empty [] lines_now [] (totals_cells (totals (c10_answer ∷ []))) zeros p.a_now zeros p.b_now 0 (cells (count_reply 1)) =
    record { report = _; says = p.says; left = refl; tells = record { number = refl; written = refl } } in
    let says = wrong popping_image one_empty [] _ [] _ zeros _ zeros _ 0 _ tells refl 0 (omega arith) refl in
    omega (arith, ap verdict_number (promises.one_verdict _ Accepted Ended _ _ (rw one_captured at says) c10_holds.says).0)

-- WORKED EXAMPLES
pub bundle_examples : Wrong.BundleExamples → ⊥
unfolding RefusedSo two_in_abc number_at little_endian pair_bytes count pair_place offset long end pairs_from bundle_refusal
bundle_examples wrong = omega (arith, ap (λ (f : Refusal). f.number) (first wrong))

pub capture_example : Wrong.CaptureExample → ⊥
capture_example wrong = omega (arith, ap length (sym promises.capture_example ∙ wrong))

pub totals_example : Wrong.TotalsExample → ⊥
totals_example wrong = omega (arith, ap (λ (t : Totals). t.readings) (sym promises.totals_example ∙ wrong))

pub cells_example : Wrong.CellsExample → ⊥
cells_example wrong = omega (arith, ap (λ (l : List ℕ). get_or l 1 0) (sym promises.cells_example ∙ wrong))
