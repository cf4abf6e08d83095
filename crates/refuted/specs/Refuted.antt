-- ALL THAT IS REFUTED, one field a promise, under the promise's name. The function `all` has this record as its contract, so that nothing in it can go without a proof.
use Rattle.refuted.specs.FirstDemand as First
use Rattle.refuted.specs.SecondDemand as Second
use Rattle.refuted.specs.ThirdDemand as Third
use Rattle.refuted.specs.Users as Users
use Rattle.refuted.specs.Typed as Typed
use Rattle.refuted.specs.Bundles as Bundles
use Rattle.refuted.specs.Recursion as Recursion
use Rattle.refuted.specs.Halting as Halting
use Rattle.refuted.specs.Matching as Matching
use Rattle.refuted.specs.Calls as Calls

pub record Refuted : Type 0 where
  -- the first demand
  pub image_refused : First.ImageRefused → ⊥
  pub grammar_refused : First.GrammarRefused → ⊥
  pub capture_refused : First.CaptureRefused → ⊥
  pub judging_refused : First.JudgingRefused → ⊥
  pub running_refused : First.RunningRefused → ⊥
  pub building_refused : First.BuildingRefused → ⊥
  pub input_refused : First.InputRefused → ⊥
  pub answering_refused : First.AnsweringRefused → ⊥
  pub inverted_legal : First.InvertedLegal → ⊥
  pub judge_refuses : First.JudgeRefuses → ⊥
  pub run_refuses : First.RunRefuses → ⊥
  pub build_refuses : First.BuildRefuses → ⊥
  pub answer_refuses : First.AnswerRefuses → ⊥
  pub judge_determined : First.JudgeDetermined → ⊥
  pub run_determined : First.RunDetermined → ⊥
  pub build_determined : First.BuildDetermined → ⊥
  pub answer_determined : First.AnswerDetermined → ⊥
  pub judge_independent : First.JudgeIndependent → ⊥
  pub run_independent : First.RunIndependent → ⊥
  pub build_independent : First.BuildIndependent → ⊥
  pub answer_independent : First.AnswerIndependent → ⊥
  pub judge_later : First.JudgeLater → ⊥
  -- the second demand
  pub verdict_there : Second.VerdictThere → ⊥
  pub one_verdict : Second.OneVerdict → ⊥
  pub verdict_rows : Second.VerdictRows → ⊥
  pub judge_answers : Second.JudgeAnswers → ⊥
  pub judge_exact : Second.JudgeExact → ⊥
  pub looping_endless : Second.LoopingEndless → ⊥
  pub built_good : Second.BuiltGood → ⊥
  pub built_accepts : Second.BuiltAccepts → ⊥
  pub built_loops : Second.BuiltLoops → ⊥
  pub built_goes_on : Second.BuiltGoesOn → ⊥
  pub built_stuck : Second.BuiltStuck → ⊥
  pub built_not_ended : Second.BuiltNotEnded → ⊥
  pub built_not_halted : Second.BuiltNotHalted → ⊥
  pub inverted_fails : Second.InvertedFails → ⊥
  pub inverted_as_failure : Second.InvertedAsFailure → ⊥
  pub inverted_pops : Second.InvertedPops → ⊥
  pub inverted_adds_none : Second.InvertedAddsNone → ⊥
  pub build_then_judge : Second.BuildThenJudge → ⊥
  pub plain_run_true : Second.PlainRunTrue → ⊥
  pub run_answers : Second.RunAnswers → ⊥
  pub image_length : Second.ImageLength → ⊥
  pub cells_counted : Second.CellsCounted → ⊥
  pub longest_image : Second.LongestImage → ⊥
  pub longest_there : Second.LongestThere → ⊥
  pub classes_count : Second.ClassesCount → ⊥
  pub range_classes : Second.RangeClasses → ⊥
  -- the third demand
  pub readings_entered : Third.ReadingsEntered → ⊥
  pub one_count : Third.OneCount → ⊥
  pub readings_noted : Third.ReadingsNoted → ⊥
  pub few_readings : Third.FewReadings → ⊥
  pub entered_numbered : Third.EnteredNumbered → ⊥
  pub notes_left : Third.NotesLeft → ⊥
  pub others_zero : Third.OthersZero → ⊥
  pub notes_tell : Third.NotesTell → ⊥
  pub notes_of_run : Third.NotesOfRun → ⊥
  pub notes_imply : Third.NotesImply → ⊥
  pub one_end : Third.OneEnd → ⊥
  pub terminators_of_run : Third.TerminatorsOfRun → ⊥
  pub same_each_time : Third.SameEachTime → ⊥
  pub chain_judges : Third.ChainJudges → ⊥
  pub start_made : Third.StartMade → ⊥
  pub number_along : Third.NumberAlong → ⊥
  pub judge_by_chain : Third.JudgeByChain → ⊥
  pub few_steps : Third.FewSteps → ⊥
  pub work_cleared : Third.WorkCleared → ⊥
  -- what users get
  pub line_says : Users.LineSays → ⊥
  pub input_is : Users.InputIs → ⊥
  pub line_whole : Users.LineWhole → ⊥
  pub endless_printed : Users.EndlessPrinted → ⊥
  pub unread_refused : Users.UnreadRefused → ⊥
  pub refusals_left : Users.RefusalsLeft → ⊥
  pub examples_hold : Users.ExamplesHold → ⊥
  pub only_row : Users.OnlyRow → ⊥
  pub c1_image : Users.C1Image → ⊥
  pub c1_cells : Users.C1Cells → ⊥
  pub c1_plain_runs : Users.C1PlainRuns → ⊥
  pub accepted_told : Users.AcceptedTold → ⊥
  -- grammars as text
  pub faults_right : Typed.FaultsRight → ⊥
  pub unambiguous : Typed.Unambiguous → ⊥
  pub reading_exact : Typed.ReadingExact → ⊥
  pub typed_right : Typed.TypedParses → ⊥
  pub rules_of_lines : Typed.RulesOfLines → ⊥
  pub read_determined : Typed.ReadDetermined → ⊥
  pub read_good : Typed.ReadGood → ⊥
  pub read_right : Typed.ReadRight → ⊥
  pub build_text_refuses : Typed.BuildTextRefuses → ⊥
  pub judge_text_refuses : Typed.JudgeTextRefuses → ⊥
  pub build_text_determined : Typed.BuildTextDetermined → ⊥
  pub judge_text_determined : Typed.JudgeTextDetermined → ⊥
  pub build_text_independent : Typed.BuildTextIndependent → ⊥
  pub judge_text_independent : Typed.JudgeTextIndependent → ⊥
  pub typed_accepts : Typed.TypedAccepts → ⊥
  pub typed_stuck : Typed.TypedStuck → ⊥
  pub typed_loops : Typed.TypedLoops → ⊥
  pub typed_judged : Typed.TypedJudged → ⊥
  pub text_examples : Typed.TextExamples → ⊥
  -- a shift's captures in one bundle
  pub bundle_refused : Bundles.BundleRefused → ⊥
  pub bundle_call_refused : Bundles.BundleCallRefused → ⊥
  pub bundle_refuses : Bundles.BundleRefuses → ⊥
  pub bundle_answers : Bundles.BundleAnswers → ⊥
  pub bundle_determined : Bundles.BundleDetermined → ⊥
  pub bundle_independent : Bundles.BundleIndependent → ⊥
  pub bundle_cells_independent : Bundles.BundleCellsIndependent → ⊥
  pub captures_inside : Bundles.CapturesInside → ⊥
  pub line_alone : Bundles.LineAlone → ⊥
  pub bundle_as_alone : Bundles.AsAlone → ⊥
  pub bundle_later : Bundles.BundleLater → ⊥
  pub totals_sum : Bundles.TotalsSum → ⊥
  pub totals_whole : Bundles.TotalsWhole → ⊥
  pub line_accepted : Bundles.LineAccepted → ⊥
  pub bundle_examples : Bundles.BundleExamples → ⊥
  pub capture_example : Bundles.CaptureExample → ⊥
  pub totals_example : Bundles.TotalsExample → ⊥
  pub cells_example : Bundles.CellsExample → ⊥
  -- left recursion found before the shift
  pub recursion_refused : Recursion.RecursionRefused → ⊥
  pub nothing_exact : Recursion.NothingExact → ⊥
  pub nothing_least : Recursion.NothingLeast → ⊥
  pub nothing_matched : Recursion.NothingMatched → ⊥
  pub leads_exact : Recursion.LeadsExact → ⊥
  pub never_looping : Recursion.NeverLooping → ⊥
  pub judged_not_looping : Recursion.JudgedNotLooping → ⊥
  pub line_not_looping : Recursion.LineNotLooping → ⊥
  pub bundle_not_looping : Recursion.BundleNotLooping → ⊥
  pub text_recursion_determined : Recursion.TextRecursionDetermined → ⊥
  pub recursion_named : Recursion.RecursionNamed → ⊥
  pub recursion_line : Recursion.RecursionLine → ⊥
  pub typed_results : Recursion.TypedResults → ⊥
  pub text_not_looping : Recursion.TextNotLooping → ⊥
  pub tried_first_fails : Recursion.TriedFirstFails → ⊥
  pub tried_first_endless : Recursion.TriedFirstEndless → ⊥
  pub recursion_harmless : Recursion.RecursionHarmless → ⊥
  pub recursion_examples : Recursion.RecursionExamples → ⊥
  -- a rule that halts on purpose
  pub halting_right : Halting.HaltingRight → ⊥
  pub lookup_apart : Halting.LookupApart → ⊥
  pub halted_exact : Halting.HaltedExact → ⊥
  pub stuck_exact : Halting.StuckExact → ⊥
  pub halted_like_stuck : Halting.HaltedLikeStuck → ⊥
  pub judged_like_stuck : Halting.JudgedLikeStuck → ⊥
  pub run_stops : Halting.RunStops → ⊥
  pub rule_as_before : Halting.RuleAsBefore → ⊥
  pub image_as_before : Halting.ImageAsBefore → ⊥
  pub built_without_halting : Halting.BuiltWithoutHalting → ⊥
  pub halting_rows : Halting.HaltingRows → ⊥
  pub halting_runs : Halting.HaltingRuns → ⊥
  pub halting_images : Halting.HaltingImages → ⊥
  -- leading match by default
  pub default_leading : Matching.DefaultLeading → ⊥
  pub leading_accepts : Matching.LeadingAccepts → ⊥
  pub leading_stuck : Matching.LeadingStuck → ⊥
  pub whole_then_leading : Matching.WholeThenLeading → ⊥
  pub judged_whole_leading : Matching.JudgedWholeLeading → ⊥
  pub whole_as_before : Matching.WholeAsBefore → ⊥
  pub leading_one_row : Matching.LeadingOneRow → ⊥
  pub few_readings_leading : Matching.FewReadingsLeading → ⊥
  pub built_accepted_told : Matching.BuiltAcceptedTold → ⊥
  pub leading_rows : Matching.LeadingRows → ⊥
  -- from what a person types to what the C calls tell
  pub typed_told : Calls.TypedTold → ⊥
  pub built_text_told : Calls.BuiltTextTold → ⊥
  pub text_told : Calls.TextTold → ⊥
  pub check_told : Calls.CheckTold → ⊥
  pub cells_told : Calls.CellsTold → ⊥
  pub recursion_told : Calls.RecursionTold → ⊥
  pub text_recursion_told : Calls.TextRecursionTold → ⊥
  pub calls_determined : Calls.CallsDetermined → ⊥
