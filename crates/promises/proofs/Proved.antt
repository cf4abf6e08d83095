-- Every promise is kept: one record, a field a claim, each by the lemma that proves it. Assumes nothing.
use Rattle.image.specs.Image.{machine}
use Rattle.image.proofs.ConditionsMet.{image_answer}
use Rattle.image.proofs.CaptureMet.{capture_answer}
use Rattle.image.proofs.Inside.{inside}
use Rattle.image.proofs.HaltingRules.{halting_right, lookup_apart, rule_as_before, image_as_before}
use Rattle.machine.proofs.Reach.{entered_there}
use Rattle.machine.proofs.Listing.{one_count}
use Rattle.machine.proofs.OneVerdict.{one_verdict}
use Rattle.machine.proofs.VerdictRows.{says_by_row}
use Rattle.machine.proofs.HaltsLikeStuck.{halts_like_stuck}
use Rattle.machine.proofs.Terminators.{one_end, terminators_of_run}
use Rattle.machine.proofs.NotesOfRun.{same_each_time, notes_of_run}
use Rattle.image.proofs.NotesImplied.{noted_implies}
use Rattle.chain_theory.proofs.ChainJudges.{chain_judges}
use Rattle.chain_theory.proofs.NumberKept.{number_kept}
use Rattle.simulator.proofs.ConditionsMet.{judging_answer}
use Rattle.simulator.proofs.Answered.{later_kept}
use Rattle.simulator.proofs.Determined.{judge_determined, judge_independent}
use Rattle.simulator.proofs.Needing.{cells_are}
use Rattle.simulator.proofs.JudgeLoop.{start_is}
use Rattle.simulator.proofs.JudgingRight.{verdict_there, verdict_exact, looping_exact, readings_entered, readings_noted, entered_numbered, notes_left, unentered_zero, notes_tell, by_the_chain, work_cleared}
use Rattle.simulator.proofs.StopsExact.{halted_exact, stuck_exact}
use Rattle.simulator.proofs.JudgedLikeStuck.{judged_like_stuck}
use Rattle.interpreter.proofs.ConditionsMet.{running_answer}
use Rattle.interpreter.proofs.TrueEnd.{plain_run_true}
use Rattle.interpreter.proofs.RunStops.{run_stops}
use Rattle.interpreter.proofs.Answered.{run_determined, run_independent}
use Rattle.grammar.proofs.ConditionsMet.{grammar_answer}
use Rattle.grammar.proofs.Inverted.{inverted_legal, inverted_fails, inverted_as_failure}
use Rattle.builder.specs.declared.Matching.TheVariants.{Whole, Leading}
use Rattle.builder.proofs.BuildingMet.{building_answer}
use Rattle.builder.proofs.BuiltGood.{built_good}
use Rattle.builder.proofs.BuiltKinds.{built_without_halting}
use Rattle.builder.proofs.BuiltImage.{built_length_is}
use Rattle.builder.proofs.Choice.{whole_as_before, images_beside}
use Rattle.builder.proofs.LongestImage.{longest_image, longest_there}
use Rattle.builder.proofs.RangeClasses.{classes_count, range_classes}
use Rattle.builder.proofs.InvertedRanges.{inverted_adds_none}
use Rattle.parsing_theory.proofs.BuiltParses.{built_parses, few_readings, few_readings_leading, inverted_pops}
use Rattle.builder.proofs.Answered.{build_determined, build_independent}
use Rattle.answer.proofs.ConditionsMet.{input_answer, input_parts}
use Rattle.answer.proofs.AnsweringMet.{answering_answer}
use Rattle.answer.proofs.LineWhole.{line_whole, answer_determined, unread_refused}
use Rattle.grammar_judge.proofs.Refusing.{refusals_left}
use Rattle.answer.proofs.Answered.{line_parsed, answer_independent}
use Rattle.grammar_judge.proofs.TwoCallsHold.{accepts_exact, sticks_exact, loops_exact, build_then_judge}
use Rattle.syntax.proofs.FaultsRight.{faults_right}
use Rattle.syntax.proofs.ReadingExact.{unambiguous, reading_exact}
use Rattle.syntax_theory.proofs.TypedRight.{typed_right}
use Rattle.syntax_theory.proofs.LineRules.{rules_of_lines}
use Rattle.typed.proofs.ReadRight.{good_read}
use Rattle.typed.proofs.Determined.{build_text_determined, build_text_independent, judge_text_determined, judge_text_independent}
use Rattle.typed.proofs.RecursionDetermined.{text_recursion_determined}
use Rattle.typed.proofs.TypedJudged.{typed_accepts, typed_stuck, typed_loops, typed_judged}
use Rattle.bundle.proofs.BundleConditions.{bundle_answer, call_answer, captures_inside}
use Rattle.bundle.proofs.AloneHolds.{as_alone}
use Rattle.bundle.proofs.CellsIndependent.{bundle_cells_independent}
use Rattle.bundle.proofs.LineAlone.{line_alone, bundle_later}
use Rattle.bundle.proofs.Sums.{totals_sum, totals_whole}
use Rattle.bundle.proofs.Reporting.{bundle_refuses, bundle_answers, bundle_determined, bundle_independent}
use Rattle.worked_examples.proofs.ExamplesHold.{examples_hold, c1_image, c1_cells, c1_plain_runs, halting_rows, halting_runs, halting_images, leading_rows}
use Rattle.worked_examples.proofs.OnlyRow.{only_row}
use Rattle.worked_examples.proofs.ProgramPrints.{endless_printed}
use Rattle.worked_examples.proofs.BundlesHold.{bundle_examples, capture_example, totals_example, cells_example}
use Rattle.worked_examples.proofs.RecursionHolds.{recursion_examples}
use Rattle.worked_examples.proofs.TextsHold.{text_examples}
use Rattle.grammar.specs.Grammar.{rules, expression}
use Rattle.grammar.proofs.GrammarGood.{good_grammar}
use Rattle.recursion.proofs.NothingLeast.{nothing_exact, nothing_least}
use Rattle.recursion.proofs.ClosureRight.{leads_on_exact}
use Rattle.recursion.proofs.RecursionRows.{recursion_answer}
use Rattle.recursion_theory.proofs.Consumed.{nothing_matched}
use Rattle.recursion_theory.proofs.FirstParts.{no_result, met_loops}
use Rattle.recursion_theory.proofs.Harmless.{fails_first_harmless, never_reached_harmless}
use Rattle.promises.specs.Promises.{Promises}
use Rattle.promises.proofs.MatchingTold.{default_leading, whole_then_leading, judged_whole_leading, built_accepted_told}
use Rattle.promises.proofs.CallsTold.{read_determined, read_right, typed_told, built_text_told, text_told}
use Rattle.promises.proofs.ChecksTold.{check_told, cells_told, recursion_told}
use Rattle.promises.proofs.CallsDetermined.{calls_determined}
use Rattle.promises.proofs.NotLooping.{never_looping, judged_not_looping, line_not_looping, bundle_not_looping}
use Rattle.promises.proofs.TextNotLooping.{recursion_named, recursion_line, typed_results, text_not_looping, text_recursion_told}
use Rattle.promises.proofs.Told.{judge_refuses, run_refuses, build_refuses, answer_refuses, build_text_refuses, judge_text_refuses, judge_answers, run_answers, accepted_told, line_accepted}

pub promises : Promises
promises =
    record {
      image_refused = image_answer;
      grammar_refused = grammar_answer;
      capture_refused = capture_answer;
      judging_refused = judging_answer;
      running_refused = running_answer;
      building_refused = building_answer;
      input_refused = input_answer;
      answering_refused = answering_answer;
      inverted_legal = inverted_legal;
      judge_refuses = judge_refuses;
      run_refuses = run_refuses;
      build_refuses = build_refuses;
      answer_refuses = answer_refuses;
      judge_determined = judge_determined;
      run_determined = run_determined;
      build_determined = build_determined;
      answer_determined = answer_determined;
      judge_independent = judge_independent;
      run_independent = run_independent;
      build_independent = build_independent;
      answer_independent = answer_independent;
      judge_later = later_kept;
      verdict_there = verdict_there;
      one_verdict = one_verdict;
      verdict_rows = says_by_row;
      judge_answers = judge_answers;
      judge_exact = verdict_exact;
      looping_endless = looping_exact;
      built_good = built_good;
      built_accepts = accepts_exact Whole;
      built_loops = loops_exact;
      built_goes_on = λ how gs cs good bytes. let b = built_parses how gs cs good bytes in (λ on o p. b.parses_terminates o p on, b.no_parse_goes_on);
      built_stuck = sticks_exact Whole;
      built_not_ended = λ how gs cs good bytes. (built_parses how gs cs good bytes).never_ended;
      built_not_halted = λ how gs cs good bytes. (built_parses how gs cs good bytes).never_halted;
      inverted_fails = inverted_fails;
      inverted_as_failure = inverted_as_failure;
      inverted_pops = inverted_pops;
      inverted_adds_none = inverted_adds_none;
      build_then_judge = build_then_judge;
      plain_run_true = plain_run_true;
      run_answers = run_answers;
      image_length = built_length_is;
      cells_counted = cells_are;
      longest_image = longest_image;
      longest_there = longest_there;
      classes_count = classes_count;
      range_classes = range_classes;
      readings_entered = readings_entered;
      one_count = λ bs cs n m u. one_count (machine bs cs) (entered_there (inside bs cs u));
      readings_noted = readings_noted;
      few_readings = few_readings;
      entered_numbered = entered_numbered;
      notes_left = notes_left;
      others_zero = unentered_zero;
      notes_tell = notes_tell;
      notes_of_run = notes_of_run;
      notes_imply = noted_implies;
      one_end = one_end;
      terminators_of_run = terminators_of_run;
      same_each_time = same_each_time;
      chain_judges = chain_judges;
      start_made = start_is;
      number_along = number_kept;
      judge_by_chain = by_the_chain;
      few_steps = λ bs cs a a_now b b_now v n d bytes says. let c = by_the_chain bs cs a a_now b b_now v n d bytes says in (c.steps, c.few, c.verdict_is, c.not_before);
      work_cleared = work_cleared;
      line_says = line_parsed;
      input_is = input_parts;
      line_whole = line_whole;
      endless_printed = endless_printed;
      unread_refused = unread_refused;
      refusals_left = refusals_left;
      examples_hold = examples_hold;
      only_row = only_row;
      c1_image = c1_image;
      c1_cells = c1_cells;
      c1_plain_runs = c1_plain_runs;
      accepted_told = accepted_told;
      faults_right = faults_right;
      unambiguous = unambiguous;
      reading_exact = reading_exact;
      typed_right = typed_right;
      rules_of_lines = rules_of_lines;
      read_determined = read_determined;
      read_good = good_read;
      read_right = read_right;
      build_text_refuses = build_text_refuses;
      judge_text_refuses = judge_text_refuses;
      build_text_determined = build_text_determined;
      judge_text_determined = judge_text_determined;
      build_text_independent = build_text_independent;
      judge_text_independent = judge_text_independent;
      typed_accepts = typed_accepts;
      typed_stuck = typed_stuck;
      typed_loops = typed_loops;
      typed_judged = typed_judged;
      text_examples = text_examples;
      bundle_refused = bundle_answer;
      bundle_call_refused = call_answer;
      bundle_refuses = bundle_refuses;
      bundle_answers = bundle_answers;
      bundle_determined = bundle_determined;
      bundle_independent = bundle_independent;
      bundle_cells_independent = bundle_cells_independent;
      captures_inside = captures_inside;
      line_alone = line_alone;
      bundle_as_alone = as_alone;
      bundle_later = bundle_later;
      totals_sum = totals_sum;
      totals_whole = totals_whole;
      line_accepted = line_accepted;
      bundle_examples = bundle_examples;
      capture_example = capture_example;
      totals_example = totals_example;
      cells_example = cells_example;
      recursion_refused = recursion_answer;
      nothing_exact = λ gs k good h. nothing_exact (expression gs) (rules gs) (good_grammar gs good).parts k h;
      nothing_least = nothing_least;
      nothing_matched = nothing_matched;
      leads_exact = λ gs k l good h. leads_on_exact gs good k l h;
      never_looping = never_looping;
      judged_not_looping = judged_not_looping;
      line_not_looping = line_not_looping;
      bundle_not_looping = bundle_not_looping;
      text_recursion_determined = text_recursion_determined;
      recursion_named = recursion_named;
      recursion_line = recursion_line;
      typed_results = typed_results;
      text_not_looping = text_not_looping;
      tried_first_fails = λ E k back cs i o. no_result back cs i o;
      tried_first_endless = met_loops;
      recursion_harmless = (fails_first_harmless, never_reached_harmless);
      recursion_examples = recursion_examples;
      halting_right = halting_right;
      lookup_apart = lookup_apart;
      halted_exact = halted_exact;
      stuck_exact = stuck_exact;
      halted_like_stuck = halts_like_stuck;
      judged_like_stuck = judged_like_stuck;
      run_stops = run_stops;
      rule_as_before = rule_as_before;
      image_as_before = image_as_before;
      built_without_halting = built_without_halting;
      halting_rows = halting_rows;
      halting_runs = halting_runs;
      halting_images = halting_images;
      default_leading = default_leading;
      leading_accepts = accepts_exact Leading;
      leading_stuck = sticks_exact Leading;
      whole_then_leading = whole_then_leading;
      judged_whole_leading = judged_whole_leading;
      whole_as_before = whole_as_before;
      leading_one_row = images_beside;
      few_readings_leading = few_readings_leading;
      built_accepted_told = built_accepted_told;
      leading_rows = leading_rows;
      typed_told = typed_told;
      built_text_told = built_text_told;
      text_told = text_told;
      check_told = check_told;
      cells_told = cells_told;
      recursion_told = recursion_told;
      text_recursion_told = text_recursion_told;
      calls_determined = calls_determined;
    }
