-- The wrong neighbours of FirstDemand.antt refuted: each by a closed example beside the promise. Assumes nothing.
use mathlib.Core.Path.{◌≡◌, refl, sym, ap, ◌∙◌}
use mathlib.Core.Bool.{true}
use mathlib.Core.List.{List, [], ◌∷◌}
use Prim.Native.Nat.{ℕ, suc}
use native.Mathlib.Omega.{arith}
use lib.ListN.{length, get_or, replicate}
use lib.Seq.{get_or-take, get_or-drop}
use Rattle.refusal.specs.declared.Refusal.{Refusal}
use Rattle.refusal.specs.First.{refusal, or_else, refuse_if}
use Rattle.codec.specs.Numbers.{number_at, little_endian, pair_bytes}
use Rattle.machine.specs.declared.Termination.TheVariants.{Over}
use Rattle.machine.specs.Run.{config}
use Rattle.interpreter.specs.declared.Exit.TheVariants.{Terminated, Spent}
use Rattle.interpreter.specs.declared.RunEnd.{RunEnd}
use Rattle.interpreter.specs.PlainRun.{run_end}
use Rattle.grammar.specs.Grammar.{rules, kind_of, b_of, c_of, rule_right, grammar_rules_from, grammar_refusal}
use Rattle.builder.specs.declared.Matching.TheVariants.{Whole, Leading}
use Rattle.grammar_judge.specs.Calls.{Lent, lent, SameRoom}
use Rattle.answer_line.specs.Line.{digits, decimal, field, refused_word, refusal_line, written}
use Rattle.answer.specs.Input.{capture_offset, first_pair_right, second_pair_right, input_refusal}
use Rattle.worked_examples.specs.Examples.{empty_grammar}
use Rattle.worked_examples.specs.ProgramLine.{endless_input}
use Rattle.promises.proofs.Proved.{promises}
use Rattle.refuted.proofs.SmallCalls
use Rattle.refuted.proofs.AnswerCalls
use Rattle.refuted.specs.FirstDemand as Wrong

-- one refusal with two numbers, or two places
two_numbers : {f : Refusal} {n m p q : ℕ} → f ≡ refusal n p → f ≡ refusal m q → n ≡ m
two_numbers d e = ap (λ (f : Refusal). f.number) (sym d ∙ e)

two_places : {f : Refusal} {n m p q : ℕ} → f ≡ refusal n p → f ≡ refusal m q → p ≡ q
two_places d e = ap (λ (f : Refusal). f.place) (sym d ∙ e)

-- a refusal's number is not 0
numbered : {f : Refusal} {n p : ℕ} → f ≡ refusal (suc n) p → f.number ≡ 0 → ⊥
numbered d e = omega (arith, e, ap (λ (f : Refusal). f.number) d)

-- REFUSALS
pub image_refused : Wrong.ImageRefused → ⊥
image_refused wrong =
    let bad = (wrong [] 0 1).1 ((promises.image_refused [] 1 0).0 SmallCalls.none_refused) in
    omega (arith, two_numbers SmallCalls.none_refused bad)

-- an empty rule, and one of no known kind
abbrev second_wrong : List ℕ
second_wrong = 4 ∷ 0 ∷ 0 ∷ 0 ∷ 9 ∷ 0 ∷ 0 ∷ 0 ∷ []

second_refused : grammar_refusal second_wrong ≡ refusal 12 4
unfolding rules kind_of b_of c_of rule_right grammar_rules_from grammar_refusal
second_refused = refl

pub grammar_refused : Wrong.GrammarRefused → ⊥
grammar_refused wrong =
    let bad = (promises.grammar_refused second_wrong 12 16).1 ((wrong second_wrong 12 4).0 second_refused) in
    omega (arith, two_places second_refused bad)

-- the longest capture, and one byte more
pub capture_refused : Wrong.CaptureRefused → ⊥
unfolding refuse_if
capture_refused wrong =
    let bad = (promises.capture_refused SmallCalls.c1_bytes 65536 0 0).1 ((wrong SmallCalls.c1_bytes 65535 0 0).0 (SmallCalls.c1_capture 65535)) in
    omega (arith, two_numbers (SmallCalls.c1_capture 65536) bad)

pub judging_refused : Wrong.JudgingRefused → ⊥
unfolding or_else refuse_if
judging_refused wrong =
    let bad = (promises.judging_refused SmallCalls.c1_bytes [] 0 30 9 30).1 ((wrong SmallCalls.c1_bytes [] 30 0 9 30).0 (SmallCalls.c1_judging 30 0)) in
    omega (arith, two_numbers (SmallCalls.c1_judging 0 30) bad)

pub running_refused : Wrong.RunningRefused → ⊥
running_refused wrong =
    let bad = (promises.running_refused SmallCalls.c1_bytes [] 0 0 0).1 ((wrong SmallCalls.c1_bytes [] 0 0 0).0 (SmallCalls.c1_running 0)) in
    omega (arith, two_numbers SmallCalls.c1_unran bad)

pub building_refused : Wrong.BuildingRefused → ⊥
unfolding refuse_if
building_refused wrong =
    let bad = (promises.building_refused Whole empty_grammar 468 13 468).1 ((wrong Whole empty_grammar 467 13 468).0 (SmallCalls.c1_building 467)) in
    omega (arith, two_numbers (SmallCalls.c1_building 468) bad)

-- C5's input and one byte more: 14 at the second pair
pub input_refused : Wrong.InputRefused → ⊥
unfolding endless_input input_refusal first_pair_right second_pair_right capture_offset number_at little_endian pair_bytes
input_refused wrong =
    let bad = (wrong endless_input 0 0).1 ((promises.input_refused endless_input 0 0).0 AnswerCalls.endless_fine) in
    omega (arith, ap (λ (f : Refusal). f.number) bad)

-- C5 with N notes and no work cell
abbrev no_work : Lent
no_work = lent (replicate 468 0) (replicate 30 0) []

abbrev no_notes : Lent
no_notes = lent (replicate 468 0) [] (replicate 30 0)

pub answering_refused : Wrong.AnsweringRefused → ⊥
unfolding or_else refuse_if
answering_refused wrong =
    let bad = (promises.answering_refused endless_input no_notes 9 30).1 ((wrong endless_input no_work 9 30).0 (AnswerCalls.endless_answering no_work)) in
    omega (arith, two_numbers (AnswerCalls.endless_answering no_notes) bad)

-- a range from 98 to 97 whose last byte is 1
pub inverted_legal : Wrong.InvertedLegal → ⊥
unfolding rules kind_of b_of c_of rule_right grammar_rules_from grammar_refusal
inverted_legal wrong = (wrong (5 ∷ 98 ∷ 97 ∷ 1 ∷ []) 0 (record { is_range = refl; low_above = omega arith })).1 refl

-- REFUSED CALLS
pub judge_refuses : Wrong.JudgeRefuses → ⊥
judge_refuses wrong =
    let bad = (wrong [] [] _ [] _ (1 ∷ []) _ (SmallCalls.none_judged [] (1 ∷ [])) (numbered (SmallCalls.none_judging 0 1))).2 in
    omega (arith, ap (λ (l : List ℕ). get_or l 0 0) bad)

pub run_refuses : Wrong.RunRefuses → ⊥
run_refuses wrong =
    let bad = (wrong [] [] 0 _ (1 ∷ []) _ (SmallCalls.none_ran 0 (1 ∷ [])) (numbered (SmallCalls.none_running 1))).1 in
    omega (arith, ap (λ (l : List ℕ). get_or l 0 0) bad)

-- one byte of room for C1's image
pub build_refuses : Wrong.BuildRefuses → ⊥
unfolding refuse_if
build_refuses wrong =
    let bad = (wrong Whole empty_grammar _ (0 ∷ []) _ (SmallCalls.c1_unbuilt 0) (numbered (SmallCalls.c1_building 1))).1 in
    omega (arith, ap (λ (l : List ℕ). get_or l 0 0) bad, get_or-take 1 SmallCalls.c1_bytes 0 0 (omega arith), SmallCalls.c1_first)

-- refused 11 0 has a byte more than refused 0 0
pub answer_refuses : Wrong.AnswerRefuses → ⊥
unfolding refusal_line refused_word field decimal digits
answer_refuses wrong =
    let x : Lent = lent [] [] [] in
    let says = AnswerCalls.told AnswerCalls.bare_input x x _ (replicate 64 0) (AnswerCalls.bare_read x) (omega arith) in
    let bad = (wrong AnswerCalls.bare_input x x _ _ _ says (numbered (AnswerCalls.bare_answering x))).1 in
    omega (arith, (rw (AnswerCalls.bare_fine) at bad).holds.counted)

-- DETERMINED
pub judge_determined : Wrong.JudgeDetermined → ⊥
judge_determined wrong =
    let says = SmallCalls.none_judged (1 ∷ []) [] in
    omega (arith, ap length (wrong [] [] (1 ∷ []) [] _ _ _ _ _ _ says says).1)

-- C1 with budget 3 and 2
pub run_determined : Wrong.RunDetermined → ⊥
run_determined wrong =
    let bad = (wrong SmallCalls.c1_bytes [] _ 3 2 _ _ _ _ (SmallCalls.c1_ran 3 0 0 SmallCalls.c1_accepted) (SmallCalls.c1_ran 2 0 0 SmallCalls.c1_spent)).0 in
    let same : run_end (Terminated (Over true)) 3 (config 2 1 0) ≡ run_end Spent 2 (config 2 1 0) = cc in
    omega (arith, ap (λ (e : RunEnd). e.steps) same)

pub build_determined : Wrong.BuildDetermined → ⊥
build_determined wrong =
    let a : List ℕ = replicate 469 0 in
    let bad = (wrong Whole Leading empty_grammar a _ _ _ _ (SmallCalls.c1_built Whole a (omega arith)) (SmallCalls.c1_built Leading a (omega arith))).1 in
    omega (arith, ap (λ (l : List ℕ). get_or l 360 0) bad, SmallCalls.c1_whole a, SmallCalls.c1_leading a)

-- no input, with two out buffers
pub answer_determined : Wrong.AnswerDetermined → ⊥
answer_determined wrong =
    let x : Lent = lent [] [] [] in
    let bad = (wrong [] x x x [] _ (0 ∷ []) _ _ _ (AnswerCalls.unread_told x []) (AnswerCalls.unread_told x (0 ∷ []))).2 in
    omega (arith, bad)

-- INDEPENDENT: C1 with N notes, and a work cell more
pub judge_independent : Wrong.JudgeIndependent → ⊥
unfolding or_else refuse_if
judge_independent wrong =
    let a : List ℕ = replicate 30 0 in
    let j = SmallCalls.c1_judged_on a (replicate 31 0) (omega arith) (omega arith) in
    let k = SmallCalls.c1_judged_on a (replicate 31 1) (omega arith) (omega arith) in
    let fine = ap (λ (f : Refusal). f.number) (SmallCalls.c1_judging 30 31) in
    let bad = ((wrong SmallCalls.c1_bytes [] a _ a _ _ _ _ _ _ _ refl refl j.says k.says).1 fine).1 in
    let same = SmallCalls.same_byte 31 30 (omega arith) j.b_now k.b_now (rw promises.c1_cells at bad) in
    omega (arith, SmallCalls.c1_later j, SmallCalls.c1_later k)

pub run_independent : Wrong.RunIndependent → ⊥
run_independent wrong =
    let bad = (wrong [] [] 0 _ _ (0 ∷ []) (1 ∷ []) _ _ refl (SmallCalls.none_ran 0 (0 ∷ [])) (SmallCalls.none_ran 0 (1 ∷ []))).1 in
    omega (arith, ap (λ (l : List ℕ). get_or l 0 0) bad)

pub build_independent : Wrong.BuildIndependent → ⊥
unfolding refuse_if
build_independent wrong =
    let a : List ℕ = replicate 469 0 in
    let b : List ℕ = replicate 469 1 in
    let fine = ap (λ (f : Refusal). f.number) (SmallCalls.c1_building 469) in
    let bad = (wrong Whole empty_grammar _ _ a b _ _ refl (SmallCalls.c1_built Whole a (omega arith)) (SmallCalls.c1_built Whole b (omega arith))).1 fine in
    let same = SmallCalls.same_byte 469 468 (omega arith) (SmallCalls.c1_left Whole a) (SmallCalls.c1_left Whole b) (rw SmallCalls.c1_length at bad) in
    omega (arith, SmallCalls.c1_after Whole a, SmallCalls.c1_after Whole b)

-- no input, with room for one byte more than the line
pub answer_independent : Wrong.AnswerIndependent → ⊥
unfolding refusal_line refused_word field decimal digits written
answer_independent wrong =
    let x : Lent = lent [] [] [] in
    let same : SameRoom x x = record { image = refl; notes = refl; work = refl } in
    let says = AnswerCalls.unread_told x (replicate 14 0) in
    let others = AnswerCalls.unread_told x (replicate 14 1) in
    let bad = (wrong [] x x x x (replicate 14 0) _ (replicate 14 1) _ _ _ same refl says others).1 in
    omega (arith, ap (λ (l : List ℕ). get_or l 13 0) bad)

-- LATER CELLS: C1 with N work cells that are 1
pub judge_later : Wrong.JudgeLater → ⊥
judge_later wrong =
    let b : List ℕ = replicate 30 1 in
    let j = SmallCalls.c1_judged_on (replicate 30 0) b (omega arith) (omega arith) in
    let bad = (wrong SmallCalls.c1_bytes [] _ _ _ b j.b_now j.says).1 in
    let kept = ap (λ (l : List ℕ). get_or l 0 0) (rw promises.c1_cells at bad) in
    omega (arith, SmallCalls.c1_cleared j, get_or-drop 29 j.b_now 0 0)
