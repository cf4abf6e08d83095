-- The wrong neighbours of SecondDemand.antt refuted: each by a closed example beside the promise. Assumes nothing.
use mathlib.Core.Path.{◌≡◌, refl, ap}
use mathlib.Core.Bool.{false}
use mathlib.Core.List.Memᴰ
use mathlib.Core.List.{List, [], ◌∷◌, Memᴰ}
use mathlib.Core.Logic.{inl}
use mathlib.Core.Option.{none, some}
use Prim.Native.Nat.{ℕ, zero, suc}
use native.Mathlib.Omega.{arith}
use lib.ListN.{length, replicate}
use Rattle.refusal.specs.declared.Refusal.{Refusal}
use Rattle.machine.specs.declared.Config.{Config}
use Rattle.machine.specs.declared.Reply.{Reply}
use Rattle.machine.specs.declared.Action.TheVariants.{Push}
use Rattle.machine.specs.declared.Verdict.TheVariants.{Accepted, Stuck}
use Rattle.machine.specs.Run.{Machine, config, Description, start, step, step_on, step_by, after}
use Rattle.machine.specs.Replies.{verdict_number}
use Rattle.simulator.specs.Answers.{Judged}
use Rattle.simulator.specs.Replies.{of_judged}
use Rattle.simulator.proofs.Answered.{answered_fine}
use Rattle.interpreter.specs.PlainRun.{run_on, run_step, last_pop, ExitsAs}
use Rattle.grammar.specs.Grammar.{Inverted, rules, kind_of, b_of, c_of, range_bytes, expression_by, expression, range_of, rule_right, grammar_rules_from, grammar_refusal}
use Rattle.grammar.specs.Parsing.{in_range, not_there, range, range_fails}
use Rattle.builder.specs.declared.Matching.TheVariants.{Whole}
use Rattle.builder.specs.Classes.{cuts_at, cut_from, cut, class_of, class_count}
use Rattle.builder.specs.ClassMeaning.{RangeCut}
use Rattle.builder.specs.Image.{built, built_length}
use Rattle.grammar_judge.specs.TwoCalls.{Enough}
use Rattle.worked_examples.specs.Examples.{image_of, row_machine, empty_grammar, byte_grammar}
use Rattle.worked_examples.specs.HaltingExamples.{halting_table}
use Rattle.promises.proofs.Proved.{promises}
use Rattle.refuted.specs.SecondDemand as Wrong
use Rattle.refuted.proofs.Rows.{first, c10_holds}
use Rattle.refuted.proofs.Witnesses.{same_number}
use Rattle.refuted.proofs.GrammarExamples.{c1_built, c2_built, c2_parses, c2_not_all, c4_built, c2_leading}
use Rattle.refuted.proofs.SmallCalls
use Rattle.refuted.proofs.BuiltFacts.{no_rules_refused, doubled_markers, longer_judged}
use Rattle.refuted.proofs.RunsOff.{runs_off, no_verdict}
use Rattle.refuted.proofs.TwoStates.{two_states, two_go_on, zero_again, one_again, two_configs}

-- VERDICTS
pub verdict_there : Wrong.VerdictThere → ⊥
verdict_there wrong =
    let (v, d, says) = wrong runs_off [] in
    no_verdict v d says

-- C1 is accepted and C2 stuck, by one image
pub one_verdict : Wrong.OneVerdict → ⊥
unfolding verdict_number
one_verdict wrong = omega (arith, ap verdict_number (wrong _ _ _ Accepted Stuck _ _ c1_built.says c2_built.says).0)

pub judge_answers : Wrong.JudgeAnswers → ⊥
unfolding of_judged verdict_number
judge_answers wrong =
    let (v, n, d, answers, told) = wrong _ _ _ _ _ _ _ (answered_fine _ _ _ _ _ _ _ _ _ c1_built.judged) c1_built.judged in
    let three : 3 ≡ n = ap (λ (r : Judged). (of_judged r).count) answers in
    omega (arith, ap (λ (p : Reply). p.verdict) told)

-- C1 ends in state 2, not in 0
pub judge_exact : Wrong.JudgeExact → ⊥
judge_exact wrong =
    let there = (wrong _ _ _ _ _ _ Accepted 3 _ c1_built.unrefused.bytes c1_built.judged Accepted (config 0 0 0)).1 refl in
    omega (arith, ap (λ (c : Config). c.state) (promises.one_verdict _ _ _ _ _ c1_built.says there).1)

-- C2 is stuck
pub looping_endless : Wrong.LoopingEndless → ⊥
unfolding verdict_number
looping_endless wrong =
    let bytes = c2_built.unrefused.bytes in
    let not_accepted : Stuck ≡ Accepted → ⊥ = λ e. omega (arith, ap verdict_number e) in
    let on = (wrong _ _ _ _ _ _ Stuck 3 _ bytes c2_built.judged).0 not_accepted in
    omega (arith, ap verdict_number ((promises.looping_endless _ _ _ _ _ _ Stuck 3 _ bytes c2_built.judged).1 on))

-- A MACHINE BUILT FROM A GRAMMAR
pub built_good : Wrong.BuiltGood → ⊥
built_good wrong = omega (arith, wrong Whole [], no_rules_refused)

pub built_accepts : Wrong.BuiltAccepts → ⊥
unfolding verdict_number
built_accepts wrong =
    let (d, accepted) = (wrong empty_grammar (97 ∷ []) c2_built.good c2_built.unrefused.bytes).1 (0, c2_parses) in
    omega (arith, same_number accepted c2_built.says)

-- C4 fails, and is stuck
pub built_loops : Wrong.BuiltLoops → ⊥
unfolding verdict_number expression expression_by kind_of b_of c_of in_range
built_loops wrong =
    let u = c4_built.unrefused in
    let (d, looping) = (wrong Whole byte_grammar (98 ∷ []) c4_built.good u.bytes u.short).1 (range_fails refl refl) in
    omega (arith, same_number looping c4_built.says)

-- C2 has a result, but not all is consumed
pub built_goes_on : Wrong.BuiltGoesOn → ⊥
built_goes_on wrong =
    let good = c2_built.good in
    let bytes = c2_built.unrefused.bytes in
    let on = (wrong Whole empty_grammar (97 ∷ []) good bytes).1 c2_not_all in
    (promises.built_goes_on Whole empty_grammar (97 ∷ []) good bytes).0 on (some 0) c2_parses

-- by a leading match C2 is accepted
pub built_stuck : Wrong.BuiltStuck → ⊥
unfolding verdict_number
built_stuck wrong =
    let good = c2_built.good in
    let bytes = c2_built.unrefused.bytes in
    let fails = (wrong empty_grammar (97 ∷ []) good bytes).0 (_, c2_built.says) in
    let (d, stuck) = (promises.leading_stuck empty_grammar (97 ∷ []) good bytes).1 fails in
    omega (arith, same_number stuck c2_leading.says)

-- C10
pub built_not_ended : Wrong.BuiltNotEnded → ⊥
unfolding image_of row_machine
built_not_ended wrong = wrong _ _ c10_holds.unrefused _ c10_holds.says

-- the first run to a halting rule
pub built_not_halted : Wrong.BuiltNotHalted → ⊥
unfolding image_of row_machine halting_table
built_not_halted wrong =
    let halts = first promises.halting_rows in
    wrong _ _ halts.unrefused _ halts.says

-- RANGES: of the one byte 61, with which its capture begins
pub inverted_fails : Wrong.InvertedFails → ⊥
unfolding expression expression_by kind_of b_of c_of in_range
inverted_fails wrong =
    let fails = (wrong byte_grammar (97 ∷ []) 0 refl (omega arith) 0 (some 1)).0 (range refl (omega arith) refl) in
    let z : ◌≡◌ {A = ℕ} 0 1 = cc in
    omega arith

-- rule 0 is an inverted range, rule 1 is !0, which succeeds
abbrev not_inverted : List ℕ
not_inverted = 5 ∷ 98 ∷ 97 ∷ 0 ∷ 3 ∷ 0 ∷ 0 ∷ 0 ∷ []

inverted_first : Inverted not_inverted 0
unfolding kind_of b_of c_of
inverted_first = record { is_range = refl; low_above = omega arith }

pub inverted_as_failure : Wrong.InvertedAsFailure → ⊥
unfolding expression expression_by kind_of b_of
inverted_as_failure wrong =
    let only = promises.inverted_fails not_inverted [] 0 inverted_first 0 in
    let there = (wrong not_inverted [] 0 1 0 inverted_first refl 0 (some 0)).1 (not_there refl ((only none).1 refl)) in
    let fails = (only (some 0)).0 there in
    let z : ◌≡◌ {A = ℕ} 0 1 = cc in
    omega arith

not_inverted_good : (grammar_refusal not_inverted).number ≡ 0
unfolding grammar_refusal grammar_rules_from rule_right rules kind_of b_of c_of
not_inverted_good = refl

pub inverted_pops : Wrong.InvertedPops → ⊥
unfolding rules
inverted_pops wrong =
    let bytes = c1_built.unrefused.bytes in
    let pops = promises.inverted_pops Whole not_inverted [] 0 0 not_inverted_good bytes (omega arith) inverted_first (omega arith) in
    let returns = wrong Whole not_inverted [] 0 0 not_inverted_good bytes (omega arith) inverted_first (omega arith) in
    let z : ◌≡◌ {A = ℕ} 0 1 = cc in
    omega arith

-- the byte 61 alone makes three classes of one
pub inverted_adds_none : Wrong.InvertedAddsNone → ⊥
unfolding rules kind_of b_of c_of expression_by expression range_of cuts_at cut_from cut class_of class_count
inverted_adds_none wrong = omega (arith, (wrong [] [] 97 97 refl (omega arith)).0)

-- THE TWO CALLS, with one byte of room too much: refused, since the directory asks for the length that was built
pub build_then_judge : Wrong.BuildThenJudge → ⊥
build_then_judge wrong =
    let enough : Enough Whole empty_grammar [] (replicate 469 0) (replicate 30 0) (replicate 30 0) =
    record {
      good = c1_built.good;
      bytes = c1_built.unrefused.bytes;
      short = c1_built.unrefused.short;
      image_room = omega (arith, promises.image_length Whole empty_grammar, promises.c1_image);
      notes_room = omega (arith, promises.c1_cells);
      work_room = omega (arith, promises.c1_cells);
    } in
    let (image, gets) = wrong Whole empty_grammar [] _ _ _ _ _ _ _ _ enough (SmallCalls.c1_built Whole (replicate 469 0) (omega arith)) longer_judged in
    let answers = gets.answers in
    let z : ◌≡◌ {A = ℕ} 0 1 = cc in
    omega arith

-- THE PLAIN RUN of a machine that pushes at every step: with no cell it is too deep at once, with one entry there
abbrev pushing : Machine
pushing = record { states = 1; places = 1; symbols = 1; action = λ c. Push (config 0 0 0); accepting = λ p i. false }

one_entry : (n : ℕ) (x : Description) → n ≡ 0 → after n pushing start ≡ some x → length x.stack ≡ 1
unfolding after start
one_entry zero x z e =
    let same : x ≡ start = cc in
    ap (λ (y : Description). length y.stack) same
one_entry (suc n) x z e = absurd (omega arith)

pub plain_run_true : Wrong.PlainRunTrue → ⊥
unfolding run_on run_step start step step_on step_by last_pop ExitsAs
plain_run_true wrong =
    let t = wrong pushing 1 0 in
    omega (arith, one_entry t.before t.place (omega (arith, t.counted)) t.comes, t.exits.1)

-- two cells of 1 are 0 after C1's
pub run_answers : Wrong.RunAnswers → ⊥
run_answers wrong =
    let (e, told, true_end, kept) = wrong _ _ _ _ (1 ∷ 1 ∷ []) (0 ∷ 0 ∷ []) (ap (λ (f : Refusal). f.number) (SmallCalls.c1_running 1)) (SmallCalls.c1_ran 3 1 1 SmallCalls.c1_accepted) in
    let z : ◌≡◌ {A = ℕ} 0 1 = cc in
    omega arith

-- LENGTHS AND COUNTS
pub image_length : Wrong.ImageLength → ⊥
unfolding built_length
image_length wrong = omega (arith, wrong Whole empty_grammar, promises.image_length Whole empty_grammar)

pub cells_counted : Wrong.CellsCounted → ⊥
cells_counted wrong = omega (arith, wrong (built Whole empty_grammar) [], promises.c1_cells, doubled_markers)

pub longest_image : Wrong.LongestImage → ⊥
longest_image wrong =
    let (gs, good, long) = promises.longest_there in
    omega (arith, wrong Whole gs good, long Whole)

pub longest_there : Wrong.LongestThere → ⊥
longest_there wrong =
    let (gs, good, long) = wrong in
    omega (arith, promises.longest_image Whole gs good, long Whole)

-- CLASSES: of the range of all bytes, which cuts at 0; and of no range, by which all bytes are of class 0
none_in : {A : Type 0} {a : A} (l : List A) → length l ≡ 0 → Memᴰ a l → ⊥
none_in [] e m = Memᴰ.not-nil m
none_in (x ∷ l) e m = omega arith

pub classes_count : Wrong.ClassesCount → ⊥
unfolding class_of rules expression expression_by kind_of b_of c_of
classes_count wrong =
    let all_bytes : List ℕ = range_bytes 0 255 in
    let cut_there : RangeCut all_bytes 0 =
    record { rule = 0; low = 0; high = 255; there = omega arith; is = refl; in_order = omega arith; at_end = inl refl } in
    let w = wrong all_bytes 0 in
    none_in w.cuts w.counted (w.all 0 (omega arith) cut_there)

pub range_classes : Wrong.RangeClasses → ⊥
unfolding rules cut_from cut class_of
range_classes wrong =
    let v = (wrong [] 2 1 0).0 refl in
    omega arith

-- THE ROWS: a run that comes again to each of two configurations
pub verdict_rows : Wrong.VerdictRows → ⊥
verdict_rows wrong =
    let zero_first = (wrong two_states (config 0 0 0)).1 (two_go_on, 2, zero_again, two_configs.0) in
    let one_first = (wrong two_states (config 1 0 0)).1 (two_go_on, 3, one_again, two_configs.1) in
    omega (arith, ap (λ (c : Config). c.state) (promises.one_verdict _ _ _ _ _ zero_first one_first).1)
