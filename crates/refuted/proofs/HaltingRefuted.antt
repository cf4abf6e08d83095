-- The wrong neighbours of Halting.antt refuted: each by a closed example beside the promise. Assumes nothing.
use mathlib.Core.Path.{◌≡◌, refl, sym, ap, ◌∙◌}
use mathlib.Core.Bool.{true, false}
use mathlib.Core.List.{[], ◌∷◌}
use mathlib.Core.Option.{some}
use Prim.Native.Nat.{ℕ, zero, suc, ◌≤◌}
use native.Mathlib.Omega.{arith}
use lib.ListN.{length}
use Rattle.refusal.specs.declared.Refusal.{Refusal}
use Rattle.refusal.specs.First.{no_refusal}
use Rattle.machine.specs.declared.Config.{Config}
use Rattle.machine.specs.declared.Reply.{Reply}
use Rattle.machine.specs.declared.Verdict.TheVariants.{Stuck, Halted}
use Rattle.machine.specs.Run.{Description, config, start, after, config_of, top}
use Rattle.machine.specs.Verdicts.{Says, Entered}
use Rattle.machine.proofs.Runs.{after_zero}
use Rattle.image.specs.Image.{rule_of, action_by, machine}
use Rattle.image.specs.Refusals.{image_refusal, rule_bad}
use Rattle.image.specs.Conditions.{halt_right}
use Rattle.image.specs.WithoutHalting.{rule_bad_before}
use Rattle.image.proofs.CaptureRefused.{then_fine}
use Rattle.image.proofs.Rules.{class_below}
use Rattle.interpreter.specs.declared.RunEnd.{RunEnd}
use Rattle.interpreter.specs.PlainRun.{run_on}
use Rattle.interpreter.specs.Calls.{run_refusal, answer}
use Rattle.interpreter.proofs.RefusalLaws.{refused_not, says_answer}
use Rattle.builder.specs.declared.Matching.TheVariants.{Whole}
use Rattle.builder.specs.Table.{rule}
use Rattle.builder.specs.Image.{built}
use Rattle.worked_examples.specs.Examples.{Row, image_of, row_machine, empty_grammar}
use Rattle.worked_examples.specs.HaltingExamples.{halting_image, halting_table, HaltsAfter, halting_budgets, RuleRefusedSo, halting_rules}
use Rattle.promises.proofs.Proved.{promises}
use Rattle.refuted.specs.Halting as Wrong
use Rattle.refuted.proofs.Rows.{first, others, c2_holds, c2_judged}
use Rattle.refuted.proofs.MadeRows.{empty_judged}
use Rattle.refuted.proofs.HaltingRows.{h1, h1_holds, h1_judged, halting_missing}

not_stuck : Halted ≡ Stuck → ⊥
not_stuck e = let z : ◌≡◌ {A = ℕ} 0 1 = cc in omega arith

-- RULES: a halting one, and one of kind 5
pub halting_right : Wrong.HaltingRight → ⊥
halting_right wrong = (wrong [] 0 (rule 4 0 0 0)).1 (omega arith) (halt_right refl refl refl refl)

pub lookup_apart : Wrong.LookupApart → ⊥
unfolding action_by
lookup_apart wrong = let e : ◌≡◌ {A = ℕ} 5 0 = (wrong 0 (rule 5 0 0 0)).1.0 refl in omega arith

pub rule_as_before : Wrong.RuleAsBefore → ⊥
unfolding rule_bad rule_bad_before
rule_as_before wrong =
    let e : false ≡ true = (wrong [] 0 0 (rule 4 0 0 0)).0 in
    let z : ◌≡◌ {A = ℕ} 0 1 = cc in
    omega arith

-- JUDGING: the image that halts at once
h1_says : Says (machine halting_image []) Halted (config 0 0 0)
unfolding image_of row_machine
h1_says = h1_holds.says

h1_stops : Entered (machine halting_image []) (config 0 0 0) × ((rule_of halting_image [] (config 0 0 0)).kind ≡ 4)
unfolding image_of row_machine
h1_stops =
    (promises.halted_exact halting_image [] _ _ _ _ Halted 1 _ h1_holds.unrefused.bytes h1_judged.says (config 0 0 0)).0 (refl, refl)

-- what is entered with such a rule is the end, and the right marker is not
pub halted_exact : Wrong.HaltedExact → ⊥
unfolding image_of row_machine
halted_exact wrong =
    let at_right = (wrong halting_image [] _ _ _ _ Halted 1 _ h1_holds.unrefused.bytes h1_judged.says (config 0 1 0)).0 refl in
    let (same, end) =
    (promises.halted_exact halting_image [] _ _ _ _ Halted 1 _ h1_holds.unrefused.bytes h1_judged.says (config 0 1 0)).1 at_right in
    omega (arith, ap (λ (c : Config). c.head) end)

pub stuck_exact : Wrong.StuckExact → ⊥
unfolding image_of row_machine
stuck_exact wrong =
    not_stuck ((wrong halting_image [] _ _ _ _ Halted 1 _ h1_holds.unrefused.bytes h1_judged.says (config 0 0 0)).1 h1_stops).0

pub halted_like_stuck : Wrong.HaltedLikeStuck → ⊥
halted_like_stuck wrong =
    let M = machine halting_image [] in
    let stuck = (((promises.halted_like_stuck M).halted (config 0 0 0)).0 h1_says).0 in
    let again = (((wrong M).stuck (config 0 0 0)).0 stuck).0 in
    not_stuck (promises.one_verdict M Halted Stuck _ _ h1_says again).0

pub judged_like_stuck : Wrong.JudgedLikeStuck → ⊥
unfolding image_of row_machine
judged_like_stuck wrong =
    not_stuck
    (sym (wrong _ _ [] _ _ _ _ _ _ _ _ Halted Stuck 1 1 _ _ h1_holds.unrefused.bytes halting_missing h1_judged.says empty_judged.says).0)

-- PLAIN RUNS: with one cell it halts after no step
run_fine : (run_refusal halting_image [] 1).number ≡ 0
unfolding image_of
run_fine =
    let u = h1_holds.unrefused in
    let capture = then_fine halting_image 0 (image_refusal halting_image) refl u.good u.short in
    ap (λ (f : Refusal). f.number) (sym (refused_not halting_image [] 1 no_refusal capture refl (λ z. omega (arith, z))))

low : (m : ℕ) (y : Description) → m ≤ 0 → after m (machine halting_image []) start ≡ some y → length y.stack ≤ 1
unfolding after start
low zero y h e = let same : start ≡ y = cc in rw (← same) (omega arith)
low (suc m) y h e = absurd (omega arith)

pub run_stops : Wrong.RunStops → ⊥
unfolding image_of config_of top start
run_stops wrong =
    let ran = answer (run_on 0 (machine halting_image []) 0 1 start) in
    let says = says_answer halting_image [] 0 ran (0 ∷ []) _ run_fine refl refl in
    let four = h1_stops.1 in
    let bad = (wrong halting_image [] 0 0 start ran (0 ∷ []) _ run_fine says (after_zero _ start) (omega arith) low).0 four in
    let good = (promises.run_stops halting_image [] 0 0 start ran (0 ∷ []) _ run_fine says (after_zero _ start) (omega arith) low).0 four in
    omega (arith, ap (λ (r : Reply). r.count) (sym good ∙ bad))

pub image_as_before : Wrong.ImageAsBefore → ⊥
unfolding image_of
image_as_before wrong = (wrong halting_image).never_halted [] (config 0 0 0) h1_holds.unrefused h1_says

-- C2 is stuck: its rule is missing
pub built_without_halting : Wrong.BuiltWithoutHalting → ⊥
unfolding image_of row_machine machine
built_without_halting wrong =
    let (entered, none) =
    (promises.stuck_exact (built Whole empty_grammar) (97 ∷ []) _ _ _ _ Stuck 3 (config 2 1 0) c2_holds.unrefused.bytes c2_judged.says (config 2 1 0)).0
    (refl, refl) in
    let (valid, _) = promises.entered_numbered (built Whole empty_grammar) (97 ∷ []) c2_holds.unrefused (config 2 1 0) entered in
    wrong Whole empty_grammar 2 _ 0 valid.state_below (class_below c2_holds.unrefused 1) valid.symbol_below none

-- THE TABLES
pub halting_rows : Wrong.HaltingRows → ⊥
unfolding halting_table
halting_rows wrong = not_stuck (ap (λ (r : Row). r.verdict) (promises.only_row h1 _ refl refl h1_holds (first wrong)))

pub halting_runs : Wrong.HaltingRuns → ⊥
unfolding HaltsAfter halting_budgets
halting_runs wrong = omega (arith, ap (λ (e : RunEnd). e.steps) (sym (first promises.halting_runs) ∙ first wrong))

pub halting_images : Wrong.HaltingImages → ⊥
unfolding RuleRefusedSo halting_rules
halting_images wrong =
    let refused = first (others (others (others (others promises.halting_images)))) in
    omega (arith, ap (λ (f : Refusal). f.number) (sym (first wrong) ∙ refused))
