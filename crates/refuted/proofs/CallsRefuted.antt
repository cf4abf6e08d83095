-- The wrong neighbours of Calls.antt refuted: each by a closed call beside the promise. Assumes nothing.
use Rattle.std.specs.Prelude.{Err}
use mathlib.Core.Path.{◌≡◌, refl, sym, ap, subst, ◌∙◌}
use mathlib.Core.List.{List, [], ◌∷◌}
use mathlib.Core.Option.{Option, none, some}
use Prim.Native.Nat.{ℕ}
use native.Mathlib.Omega.{arith}
use lib.ListN.{length, get_or, replicate}
use Rattle.refusal.specs.declared.Refusal.{Refusal}
use Rattle.refusal.specs.First.{or_else, refuse_if}
use Rattle.codec.specs.Bytes.{byte}
use Rattle.machine.specs.declared.Verdict.TheVariants.{Accepted, Stuck}
use Rattle.machine.specs.Run.{config}
use Rattle.machine.specs.Replies.{verdict_number}
use Rattle.builder.specs.declared.Matching.TheVariants.{Whole, Leading}
use Rattle.syntax.specs.declared.Leaf.TheVariants.{EmptyString}
use Rattle.syntax.specs.Trees.{Tree, leaf, Definition, LegalText}
use Rattle.syntax_theory.specs.Meaning.{Means, nothing}
use Rattle.grammar_judge.specs.Calls.{Lent}
use Rattle.typed.specs.declared.left_recursion.RecursionFault.TheVariants.{Recursive}
use Rattle.typed.specs.Recursion.{TextRecursion}
use Rattle.typed.specs.TypedCalls.{TextSays}
use Rattle.recursion_theory.specs.Harmless.{never_reached}
use Rattle.worked_examples.specs.Examples.{empty_grammar}
use Rattle.promises.proofs.Proved.{promises}
use Rattle.refuted.specs.Calls as Wrong
use Rattle.refuted.specs.Calls.{check, cells, judge, plain_run, build, check_recursion, check_text_recursion, read_grammar, build_text, judge_text, judge_bundle}
use Rattle.refuted.proofs.Witnesses.{clash}
use Rattle.refuted.proofs.SmallCalls.{none_refused, c1_bytes, c1_judging, c1_whole, c1_leading, c1_after}
use Rattle.refuted.proofs.GrammarExamples.{c1_built, c2_built, c2_leading}
use Rattle.refuted.proofs.TextCalls.{line_of, empty_text, endless_text, legal_texts, endless_recursive}
use Rattle.refuted.proofs.CallsWitnesses.{buffer, c2_leading_told, judge_told, none_checked, none_judge_told, none_bundle_told, none_text_told, none_recursion_told, c1_checked, c1_counted, c1_too_long, c1_run_told, c1_spent_told, reached_told, empty_told, build_told, build_text_told, image_taken, judge_text_told, endless_told}
use Rattle.refuted.proofs.RecursionRefuted.{reached_refused}
use Rattle.refuted.proofs.TypedRefuted.{one_note}

-- WHAT a=empty; GIVES, at whatever place: success with nothing consumed
empty_body : {d : Definition} {ds : List Definition} → LegalText empty_text (d ∷ ds) → d.body ≡ leaf EmptyString
empty_body {d} {ds} legal =
    let lines : d ∷ ds ≡ line_of (leaf EmptyString) = promises.unambiguous _ _ _ _ legal.reads legal_texts.0.reads in
    let same : d ≡ record { letters = 97 ∷ []; body = leaf EmptyString } = cc in
    ap (λ (e : Definition). e.body) same

empty_result : {ds : List Definition} {cs : List ℕ} {i : ℕ} {o : Option ℕ} → Means ds cs (leaf EmptyString) i o → o ≡ some i
empty_result nothing = refl

empty_means :
    {d : Definition} {ds : List Definition} {cs : List ℕ} {o : Option ℕ} → LegalText empty_text (d ∷ ds) → Means (d ∷ ds) cs d.body 0 o → o ≡ some 0
empty_means {d} {ds} {cs} {o} legal means = empty_result (subst (λ (e : Tree). Means (d ∷ ds) cs e 0 o) (empty_body legal) means)

-- so on one byte a whole match does not accept, nor is a leading one stuck; and on no byte a whole match is not stuck
not_accepted : TextSays Whole empty_text (97 ∷ []) Accepted → ⊥
not_accepted t =
    let consumed : ◌≡◌ {A = Option ℕ} (some 1) (some 0) = empty_means t.legal t.meant in
    clash cc

not_stuck_leading : TextSays Leading empty_text (97 ∷ []) Stuck → ⊥
not_stuck_leading t =
    let failed : ◌≡◌ {A = Option ℕ} none (some 0) = empty_means t.legal t.meant in
    clash cc

not_stuck : TextSays Whole empty_text [] Stuck → ⊥
not_stuck t =
    let (o, means, other) = t.meant in
    other (empty_means t.legal means)

-- FROM A TEXT TO A VERDICT: C2 by a leading match, by a whole one, and C1 with 3 readings, where 3 is the number of stuck
pub typed_told : Wrong.TypedTold → ⊥
unfolding verdict_number
typed_told wrong =
    not_accepted
    ((wrong Leading empty_text (replicate 124 0) _ buffer _ (97 ∷ []) _ _ _ _ 0 _ _ _ Accepted c2_leading.unrefused.bytes (empty_told (replicate 124 0))
    (build_told Leading buffer (omega arith)) c2_leading_told).0 refl).1

pub built_text_told : Wrong.BuiltTextTold → ⊥
unfolding verdict_number
built_text_told wrong =
    let judged = rw (sym (image_taken Whole buffer)) at (judge_told _ _ _ _ _ _ Stuck 3 (config 2 1 0) c2_built.judged) in
    not_stuck_leading
    ((wrong empty_text buffer _ (97 ∷ []) _ _ _ _ 0 _ _ Stuck c2_built.unrefused.bytes (build_text_told buffer (omega arith)) judged).0 refl).1

pub text_told : Wrong.TextTold → ⊥
unfolding verdict_number
text_told wrong = not_stuck ((wrong empty_text [] _ _ 0 _ Stuck c1_built.unrefused.bytes judge_text_told).0 refl).1

-- THE CHECKS. No image is refused by 1 at 0
pub check_told : Wrong.CheckTold → ⊥
check_told wrong =
    let bad = (promises.image_refused [] 0 1).1 (wrong [] 1 _ none_checked) in
    omega (arith, ap (λ (f : Refusal). f.number) (sym none_refused ∙ bad))

-- C1 needs 30 cells of each kind
pub cells_told : Wrong.CellsTold → ⊥
unfolding or_else refuse_if
cells_told wrong =
    let fine = (((wrong c1_bytes [] 0 _ c1_counted).1 refl).1 15 15).1 (omega arith) in
    omega (arith, fine, ap (λ (f : Refusal). f.number) (c1_judging 15 15))

-- rule 1 leads back to itself, rule 0 does not
pub recursion_told : Wrong.RecursionTold → ⊥
recursion_told wrong =
    let bad = (promises.recursion_refused never_reached 19 0).1 (wrong never_reached 19 _ reached_told) in
    omega (arith, ap (λ (f : Refusal). f.place) (sym reached_refused ∙ bad))

pub text_recursion_told : Wrong.TextRecursionTold → ⊥
text_recursion_told wrong =
    let exchanged = (wrong endless_text 19 _ endless_told).1.0 refl in
    let bad : ◌≡◌ {A = TextRecursion} (Err (Recursive 0 1)) (Err (Recursive 1 0)) = promises.text_recursion_determined endless_text _ _ endless_recursive exchanged in
    clash cc

-- WHAT EACH CALL IS DETERMINED BY, call by call
pub calls_determined : Wrong.CallsDetermined → ⊥
calls_determined (check wrong) = omega (arith, (wrong [] c1_bytes _ _ _ _ none_checked c1_checked).0)
calls_determined (cells wrong) = omega (arith, (wrong c1_bytes 0 65536 _ _ _ _ c1_counted c1_too_long).0)
calls_determined (judge wrong) =
    omega (arith, ap (λ (l : List ℕ). length l) (wrong [] [] [] _ _ (0 ∷ []) _ _ _ _ _ _ (none_judge_told [] (0 ∷ [])) (none_judge_told [] (0 ∷ []))).1)
calls_determined (plain_run wrong) = omega (arith, ap (λ (l : List ℕ). get_or l 2 0) (wrong c1_bytes [] 3 2 _ _ _ _ _ _ _ c1_run_told c1_spent_told).0.1)
calls_determined (build wrong) =
    let same = (wrong Whole Leading empty_grammar buffer _ _ _ _ _ _ (build_told Whole buffer (omega arith)) (build_told Leading buffer (omega arith))).1 in
    omega (arith, sym (c1_whole buffer) ∙ ap (λ (l : List ℕ). byte l 360) same ∙ c1_leading buffer)
calls_determined (check_recursion wrong) = omega (arith, (wrong [] never_reached _ _ _ _ none_recursion_told reached_told).0)
calls_determined (check_text_recursion wrong) = omega (arith, (wrong endless_text _ _ _ _ endless_told endless_told).1)
calls_determined (read_grammar wrong) =
    let same = (wrong empty_text (replicate 5 0) (replicate 5 1) _ _ _ _ _ _ (empty_told (replicate 5 0)) (empty_told (replicate 5 1))).1 in
    omega (arith, ap (λ (l : List ℕ). get_or l 4 0) same)
calls_determined (build_text wrong) =
    let ones : List ℕ = replicate 469 1 in
    let same = (wrong empty_text buffer ones _ _ _ _ _ _ (build_text_told buffer (omega arith)) (build_text_told ones (omega arith))).1 in
    omega (arith, sym (c1_after Whole buffer) ∙ ap (λ (l : List ℕ). byte l 468) same ∙ c1_after Whole ones)
calls_determined (judge_text wrong) =
    omega (arith, ap (λ (x : Lent). length x.notes) (wrong [] [] one_note _ _ _ _ _ _ none_text_told none_text_told).1)
calls_determined (judge_bundle wrong) =
    let told = none_bundle_told [] (0 ∷ []) in
    omega (arith, ap (λ (l : List ℕ). length l) (wrong [] [] [] _ _ (0 ∷ []) _ _ [] _ _ [] _ _ _ _ _ _ told told).1)
