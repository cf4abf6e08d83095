-- The wrong neighbours of Matching.antt refuted: most by C2, the empty grammar on one byte, which is stuck by a whole match and accepted by a leading one. Assumes nothing.
use mathlib.Core.Path.{◌≡◌, refl, sym, ap, subst, ◌∙◌}
use mathlib.Core.List.{List, [], ◌∷◌}
use mathlib.Core.Option.{Option, some}
use Prim.Native.Nat.{ℕ}
use native.Mathlib.Omega.{arith}
use Rattle.machine.specs.declared.Verdict.TheVariants.{Accepted, Stuck}
use Rattle.machine.specs.Run.{config}
use Rattle.machine.specs.Verdicts.{Says}
use Rattle.machine.specs.Replies.{verdict_number}
use Rattle.image.specs.Image.{machine, Rule}
use Rattle.chain.specs.Chain.{chain, reached}
use Rattle.grammar.specs.Grammar.{rules, kind_of, b_of, c_of, expression_by, expression, range_of}
use Rattle.grammar.specs.Parsing.{in_range, range}
use Rattle.builder.specs.declared.Matching.TheVariants.{Whole, Leading}
use Rattle.builder.specs.Matching.{default_matching}
use Rattle.builder.specs.Classes.{cuts_at, cut_from, cut, class_of, class_count}
use Rattle.builder.specs.Table.{state_ok}
use Rattle.builder.specs.Image.{symbols_of, built}
use Rattle.worked_examples.specs.Examples.{image_of, row_machine, source_refusal, grammar_rows, empty_grammar, byte_grammar}
use Rattle.worked_examples.specs.LeadingExamples.{leading_table}
use Rattle.promises.proofs.Proved.{promises}
use Rattle.refuted.specs.Matching as Wrong
use Rattle.refuted.proofs.Rows.{first, rows_from}
use Rattle.refuted.proofs.Witnesses.{same_number}
use Rattle.refuted.proofs.GrammarExamples.{c2_built, c2_parses, c2_not_all, c1_leading, c2_leading}
use Rattle.refuted.proofs.BuiltFacts.{marker_unruled}
use Rattle.refuted.proofs.CallsWitnesses.{buffer, build_told, c2_leading_told}

pub default_leading : Wrong.DefaultLeading → ⊥
unfolding default_matching
default_leading wrong =
    let z : ◌≡◌ {A = ℕ} 0 1 = cc in
    omega arith

pub leading_accepts : Wrong.LeadingAccepts → ⊥
leading_accepts wrong = c2_not_all ((wrong empty_grammar (97 ∷ []) c2_built.good c2_built.unrefused.bytes).0 (_, c2_leading.says))

pub leading_stuck : Wrong.LeadingStuck → ⊥
unfolding verdict_number
leading_stuck wrong =
    let none_left : ◌≡◌ {A = Option ℕ} (some 0) (some 1) → ⊥ = λ e. let z : ◌≡◌ {A = ℕ} 0 1 = cc in omega arith in
    let (d, stuck) = (wrong empty_grammar (97 ∷ []) c2_built.good c2_built.unrefused.bytes).1 (some 0, c2_parses, none_left) in
    omega (arith, same_number stuck c2_leading.says)

pub whole_then_leading : Wrong.WholeThenLeading → ⊥
unfolding verdict_number
whole_then_leading wrong =
    let (d, accepted) = wrong empty_grammar (97 ∷ []) c2_built.good c2_built.unrefused.bytes (_, c2_leading.says) in
    omega (arith, same_number accepted c2_built.says)

pub judged_whole_leading : Wrong.JudgedWholeLeading → ⊥
unfolding verdict_number
judged_whole_leading wrong =
    let same = wrong empty_grammar (97 ∷ []) _ _ _ _ _ _ _ _ Stuck 4 3 _ _ c2_built.good c2_built.unrefused.bytes c2_leading.judged c2_built.judged in
    omega (arith, ap verdict_number same)

pub whole_as_before : Wrong.WholeAsBefore → ⊥
unfolding verdict_number
whole_as_before wrong =
    let same : built Leading empty_grammar ≡ built Whole empty_grammar = wrong empty_grammar ∙ sym (promises.whole_as_before empty_grammar) in
    let accepted = subst (λ (bs : List ℕ). Says (machine bs (97 ∷ [])) Accepted (config 2 2 0)) same c2_leading.says in
    omega (arith, same_number accepted c2_built.says)

-- on the left marker ok has no rule by either choice
pub leading_one_row : Wrong.LeadingOneRow → ⊥
unfolding symbols_of rules kind_of b_of c_of expression_by expression range_of cuts_at cut_from cut class_of class_count
leading_one_row wrong =
    let unruled = (promises.leading_one_row empty_grammar).1 state_ok 1 0 (omega arith) (omega arith) (omega arith) in
    let passed = (wrong empty_grammar).1 state_ok 1 0 (omega arith) (omega arith) (omega arith) in
    omega (arith, ap (λ (r : Rule). r.kind) (sym passed ∙ unruled ∙ marker_unruled))

-- C1 has 3 readings
pub few_readings_leading : Wrong.FewReadingsLeading → ⊥
few_readings_leading wrong =
    let u = c1_leading.unrefused in
    let k = promises.chain_judges _ _ u in
    let few = wrong empty_grammar [] (reached chain (built Leading empty_grammar) [] k.steps).notes c1_leading.good u.bytes k.noted in
    let three = promises.one_count _ _ _ 3 u k.entered c1_leading.entered in
    omega (arith, few, three, k.counted k.steps (omega arith))

pub built_accepted_told : Wrong.BuiltAcceptedTold → ⊥
unfolding default_matching verdict_number
built_accepted_told wrong =
    c2_not_all
    ((wrong empty_grammar (97 ∷ []) buffer _ _ _ _ _ 0 _ _ c2_built.unrefused.bytes c2_leading_told refl).0 (build_told Leading buffer (omega arith)))

-- the byte 61 and another after it: parsing consumes one of the two
pub leading_rows : Wrong.LeadingRows → ⊥
unfolding leading_table grammar_rows image_of row_machine source_refusal verdict_number expression expression_by kind_of b_of c_of in_range
leading_rows wrong =
    let h = first (rows_from 9 (leading_table Whole) wrong) in
    let one_left : ◌≡◌ {A = Option ℕ} (some 1) (some 2) → ⊥ = λ e. let z : ◌≡◌ {A = ℕ} 1 2 = cc in omega arith in
    let (d, stuck) = (promises.built_stuck byte_grammar (97 ∷ 98 ∷ []) h.good h.unrefused.bytes).1 (some 1, range refl (omega arith) refl, one_left) in
    omega (arith, same_number stuck h.says)
