-- What the C calls tell of C1's image, grammar and text and of calls that are refused, by the numbers that they return and leave. Assumes nothing.
use Rattle.std.specs.Prelude.{Err, Ok}
use mathlib.Core.Path.{◌≡◌, refl, ◌∙◌}
use mathlib.Core.List.{List, [], ◌∷◌, ◌++◌}
use mathlib.Core.Option.{some}
use Prim.Native.Nat.{ℕ, ◌≤◌}
use lib.ListN.{length, take, drop, replicate}
use lib.Seq.{take_at}
use Rattle.refusal.specs.First.{refusal, or_else, refuse_if}
use Rattle.refusal.specs.Checking.{checked}
use Rattle.machine.specs.declared.Config.{Config}
use Rattle.machine.specs.declared.Verdict.{Verdict}
use Rattle.machine.specs.declared.Verdict.TheVariants.{Accepted}
use Rattle.machine.specs.Run.{config, how_many}
use Rattle.machine.specs.Replies.{verdict_number, of_checked}
use Rattle.image.specs.Image.{machine}
use Rattle.image.specs.Refusals.{image_refusal}
use Rattle.simulator.specs.Calls.{needs, judgement, JudgeSays}
use Rattle.simulator.specs.Replies.{of_needs, of_judged}
use Rattle.machine.specs.Terminating.{termination_verdict}
use Rattle.interpreter.specs.Replies.{exit_number, of_ran}
use Rattle.bundle.specs.Format.{call_refusal}
use Rattle.bundle.specs.Calls.{BundleAs, BundleSays}
use Rattle.bundle.specs.Replies.{of_report, totals_left}
use Rattle.grammar.specs.Grammar.{grammar_refusal}
use Rattle.recursion.specs.Computed.{recursion_refusal}
use Rattle.builder.specs.declared.Matching.{Matching}
use Rattle.builder.specs.declared.Matching.TheVariants.{Whole, Leading}
use Rattle.builder.specs.Image.{built}
use Rattle.builder.specs.Replies.{of_built}
use Rattle.syntax.specs.Reading.{Grammar}
use Rattle.reader.specs.Calls.{grammar_answer}
use Rattle.typed.specs.Replies.{of_read, fault_reply, of_text_recursion}
use Rattle.sejimakpu.specs.Cells.{cells}
use Rattle.sejimakpu.specs.Calls.{CheckTells, CellsTells, JudgeTells, RunTells, BuildTells, CheckRecursionTells, CheckTextRecursionTells, ReadGrammarTells, BuildTextTells, JudgeTextTells, JudgeBundleTells}
use Rattle.worked_examples.specs.Examples.{empty_grammar}
use Rattle.recursion_theory.specs.Harmless.{never_reached}
use Rattle.promises.proofs.Proved.{promises}
use Rattle.refuted.proofs.SmallCalls.{none_refused, none_judged, c1_bytes, c1_unrefused, c1_capture, c1_ran, c1_accepted, c1_spent, c1_length, c1_left, c1_built}
use Rattle.refuted.proofs.Rows.{c1_holds}
use Rattle.refuted.proofs.GrammarExamples.{c2_leading}
use Rattle.refuted.proofs.RecursionRefuted.{reached_refused}
use Rattle.refuted.proofs.TypedRefuted.{empty_built, one_note, none_judged_by}
use Rattle.refuted.proofs.TextCalls.{empty_text, empty_read, endless_text, endless_recursive, room, TextJudged, text_judged_in_room}

-- an answer that is a count
abbrev pub count_cells : ℕ → List ℕ
count_cells n = 0 ∷ 0 ∷ n ∷ 0 ∷ 0 ∷ 0 ∷ []

-- a judgement's, told
abbrev pub verdict_cells : Verdict → (readings : ℕ) → (end : Config) → List ℕ
verdict_cells v n d = 0 ∷ verdict_number v ∷ n ∷ d.state ∷ d.head ∷ d.symbol ∷ []

pub judge_told :
    (image capture a a_now b b_now : List ℕ) (v : Verdict) (n : ℕ) (d : Config) → JudgeSays image capture (Ok (judgement v n d)) a a_now b b_now →
    JudgeTells image capture a a_now b b_now 0 (verdict_cells v n d)
unfolding of_judged cells
judge_told image capture a a_now b b_now v n d says = record { judged = _; says = says; tells = record { number = refl; written = refl } }

-- NO IMAGE is refused by 1 at 0
pub none_checked : CheckTells [] 1 (count_cells 0)
unfolding checked of_checked cells
none_checked = rw none_refused (record { number = refl; written = refl })

pub none_judge_told : (a b : List ℕ) → JudgeTells [] [] a a b b 1 (count_cells 0)
unfolding of_judged cells
none_judge_told a b = record { judged = _; says = none_judged a b; tells = record { number = refl; written = refl } }

pub none_bundle_told : (l t : List ℕ) → JudgeBundleTells [] [] l l t t [] [] [] [] 1 (count_cells 0)
unfolding BundleSays BundleAs call_refusal image_refusal or_else of_report totals_left cells
none_bundle_told l t =
    record { report = Err (refusal 1 0); says = (refl, refl, refl, refl); left = refl; tells = record { number = refl; written = refl } }

-- no grammar by 11 at 0, and no text by 15 at 0
pub none_recursion_told : CheckRecursionTells [] 11 (count_cells 0)
unfolding checked of_checked cells recursion_refusal grammar_refusal or_else
none_recursion_told = record { number = refl; written = refl }

pub none_text_told : JudgeTextTells [] [] one_note one_note 15 (count_cells 0)
unfolding of_judged cells
none_text_told = record { judged = _; says = none_judged_by; tells = record { number = refl; written = refl } }

-- C1'S IMAGE is right, and needs 30 cells for no byte; 65536 bytes are too many
pub c1_checked : CheckTells c1_bytes 0 (count_cells 0)
unfolding checked of_checked cells
c1_checked = rw c1_unrefused.good (record { number = refl; written = refl })

pub c1_counted : CellsTells c1_bytes 0 0 (count_cells 30)
unfolding needs of_needs cells refuse_if
c1_counted = rw (c1_capture 0, promises.cells_counted c1_bytes [], promises.c1_cells) (record { number = refl; written = refl })

pub c1_too_long : CellsTells c1_bytes 65536 7 (65536 ∷ 0 ∷ 0 ∷ 0 ∷ 0 ∷ 0 ∷ [])
unfolding needs of_needs cells refuse_if
c1_too_long = rw (c1_capture 65536) (record { number = refl; written = refl })

-- and is run in 3 steps, of which a budget of 2 is spent
pub c1_run_told : RunTells c1_bytes [] 3 (0 ∷ 0 ∷ []) (0 ∷ 0 ∷ []) 0 (0 ∷ 1 ∷ 3 ∷ 2 ∷ 1 ∷ 0 ∷ [])
unfolding of_ran exit_number verdict_number termination_verdict cells
c1_run_told = record { ran = _; says = c1_ran 3 0 0 c1_accepted; tells = record { number = refl; written = refl } }

pub c1_spent_told : RunTells c1_bytes [] 2 (0 ∷ 0 ∷ []) (0 ∷ 0 ∷ []) 0 (0 ∷ 5 ∷ 2 ∷ 2 ∷ 1 ∷ 0 ∷ [])
unfolding of_ran exit_number verdict_number termination_verdict cells
c1_spent_told = record { ran = _; says = c1_ran 2 0 0 c1_spent; tells = record { number = refl; written = refl } }

-- THE TEXT a=empty; is read into any buffer, of 4 bytes,
pub empty_told : (g : List ℕ) → ReadGrammarTells empty_text g (empty_grammar ++ drop 4 g) 0 (count_cells 4)
unfolding grammar_answer of_read cells
empty_told g =
    record {
      read = grammar_answer (Grammar empty_grammar);
      says = record { reading = _; says = empty_read; told = refl };
      left = refl;
      kept = λ not_zero. absurd (not_zero refl);
      tells = record { number = refl; written = refl };
    }

-- built by either choice and by the text into any buffer that is long enough,
pub build_told : (how : Matching) (a : List ℕ) → 468 ≤ length a → BuildTells how empty_grammar a (c1_left how a) 0 (count_cells 468)
unfolding of_built cells
build_told how a h = record { built = Ok 468; says = c1_built how a h; tells = record { number = refl; written = refl } }

pub build_text_told : (a : List ℕ) → 468 ≤ length a → BuildTextTells empty_text a (c1_left Whole a) 0 (count_cells 468)
unfolding of_built cells
build_text_told a h = record { built = Ok 468; says = empty_built a h; tells = record { number = refl; written = refl } }

-- of which so many bytes as are counted are the image,
pub image_taken : (how : Matching) (a : List ℕ) → take 468 (c1_left how a) ≡ built how empty_grammar
image_taken how a = take_at (built how empty_grammar) (drop 468 a) 468 (promises.image_length how empty_grammar ∙ c1_length)

-- by which C2 is accepted where a leading part may match, and C1 by the text
abbrev pub buffer : List ℕ
buffer = replicate 469 0

abbrev pub c2_zeros : List ℕ
c2_zeros = replicate (how_many (machine (built Leading empty_grammar) (97 ∷ []))) 0

pub c2_leading_told :
    JudgeTells (take 468 (c1_left Leading buffer)) (97 ∷ []) c2_zeros c2_leading.notes_now c2_zeros c2_leading.work_now 0
    (verdict_cells Accepted 4 (config 2 2 0))
c2_leading_told = rw (image_taken Leading buffer) (judge_told _ _ _ _ _ _ Accepted 4 (config 2 2 0) c2_leading.judged)

pub c1_by_text : TextJudged empty_text [] Accepted 3 (config 2 1 0) (room empty_grammar [])
c1_by_text = text_judged_in_room empty_text empty_grammar [] Accepted 3 (config 2 1 0) (some 3) empty_read c1_holds

pub judge_text_told : JudgeTextTells empty_text [] (room empty_grammar []) c1_by_text.after 0 (verdict_cells Accepted 3 (config 2 1 0))
unfolding of_judged cells
judge_text_told = record { judged = _; says = c1_by_text.says; tells = record { number = refl; written = refl } }

-- THE TEXT a=a a; after a space: 19, at rule 0, whose name stands at 1
pub endless_told : CheckTextRecursionTells endless_text 19 (count_cells 1)
unfolding of_text_recursion fault_reply cells
endless_told = record { checked = _; says = endless_recursive; tells = record { number = refl; written = refl } }

-- A GRAMMAR whose rule 1 leads back to itself: 19, at rule 1
pub reached_told : CheckRecursionTells never_reached 19 (1 ∷ 0 ∷ 0 ∷ 0 ∷ 0 ∷ 0 ∷ [])
unfolding checked of_checked cells
reached_told = rw reached_refused (record { number = refl; written = refl })
