-- The wrong neighbours of Recursion.antt refuted: each by a closed example beside the promise. Assumes nothing.
use mathlib.Core.Path.{◌≡◌, refl, sym, ap, ◌∙◌}
use mathlib.Core.Bool.{true, false}
use mathlib.Core.List.{List, [], ◌∷◌}
use mathlib.Core.Option.{none}
use Prim.Native.Nat.{ℕ}
use native.Mathlib.Omega.{arith}
use lib.ListN.{get_or, replicate}
use Rattle.refusal.specs.declared.Refusal.{Refusal}
use Rattle.refusal.specs.First.{refusal, or_else}
use Rattle.machine.specs.declared.Config.{Config}
use Rattle.machine.specs.declared.Verdict.{Verdict}
use Rattle.machine.specs.declared.Verdict.TheVariants.{Accepted, Ended, Stuck, Looping, Halted}
use Rattle.machine.specs.Run.{config}
use Rattle.machine.specs.Verdicts.{Says}
use Rattle.machine.specs.Replies.{verdict_number}
use Rattle.image.specs.Image.{machine}
use Rattle.grammar.specs.declared.Expression.TheVariants.{Sequence, Not, Empty, Range}
use Rattle.grammar.specs.Grammar.{rules, kind_of, b_of, c_of, expression_by, expression, rule_right, grammar_rules_from, grammar_refusal}
use Rattle.grammar.specs.Parsing.{Rules, empty, not_fails}
use Rattle.builder.specs.declared.Matching.TheVariants.{Whole}
use Rattle.builder.specs.Image.{built}
use Rattle.recursion.specs.LeftRecursion.{SuchSet, MayMatchNothing, a_not, sequence, choice, choice_other, last, its_own}
use Rattle.recursion.specs.Computed.{nothing_by, nothing_after, leads_by, leads_through, leads_on, recursion_from, recursion_refusal}
use Rattle.recursion_theory.specs.FirstParts.{TriesOn, first_part}
use Rattle.recursion_theory.specs.Harmless.{fails_first, never_reached}
use Rattle.recursion_theory.proofs.Harmless.{fails_first_recursive, fails_first_fails}
use Rattle.codec.specs.Numbers.{little_endian, pair_bytes}
use Rattle.grammar_judge.specs.Calls.{Lent, lent}
use Rattle.bundle.specs.Report.{totals, sum, gives}
use Rattle.syntax.specs.Tokens as Tokens
use Rattle.syntax.specs.RuleLines.{line_offsets}
use Rattle.syntax.specs.Trees.{Tree, Definition, Defines, here, there}
use Rattle.syntax.specs.Compile.{grammar_of}
use Rattle.typed.specs.declared.left_recursion.RecursionFault.TheVariants.{Recursive}
use Rattle.answer_line.specs.Line.{verdict_word, answer_line}
use Rattle.answer.specs.Input.{input_grammar}
use Rattle.worked_examples.specs.ProgramLine.{endless_input}
use Rattle.worked_examples.specs.Examples.{image_of, row_machine, source_refusal, empty_grammar, endless_grammar}
use Rattle.worked_examples.specs.RecursionExamples.{RecursionSo}
use Rattle.promises.proofs.Proved.{promises}
use Rattle.refuted.specs.Recursion as Wrong
use Rattle.refuted.proofs.SmallBytes.{total, small_bytes}
use Rattle.refuted.proofs.BundleCalls.{one_empty, one_says}
use Rattle.refuted.proofs.TextCalls.{line_of, endless_text, itself_twice, legal_texts, unrefused_texts, grammars_are, endless_read, endless_recursive, text_judged_in_room}
use Rattle.refuted.proofs.AnswerCalls.{EndlessRoom, endless_right, endless_unrefused, endless_line}
use Rattle.refuted.proofs.Witnesses.{clash}
use Rattle.refuted.proofs.Rows.{first, c1_holds, c5_holds, c5_judged}

-- WHAT THE CHECK SAYS. A grammar whose rule 1 is refused by 19
pub reached_refused : recursion_refusal never_reached ≡ refusal 19 1
reached_refused = (promises.recursion_refused never_reached 19 1).1 promises.recursion_harmless.1.refused

pub recursion_refused : Wrong.RecursionRefused → ⊥
recursion_refused wrong =
    let bad = (wrong never_reached 19 1).1 promises.recursion_harmless.1.refused in
    omega (arith, ap (λ (f : Refusal). f.place) (sym reached_refused ∙ bad))

-- C1's grammar, of one rule
pub nothing_exact : Wrong.NothingExact → ⊥
unfolding rules kind_of b_of c_of expression_by expression rule_right grammar_rules_from grammar_refusal nothing_after
nothing_exact wrong =
    let e : false ≡ true = (wrong empty_grammar 0 0 refl refl (omega arith)).1 (MayMatchNothing.empty refl) in
    clash cc

-- rules that are all a range: none may match nothing, and all are such a set
abbrev ranges : Rules
ranges k = Range 97 97

range_some : {E : Rules} {k : ℕ} → MayMatchNothing E k → E k ≡ Range 97 97 → ⊥
range_some (MayMatchNothing.empty e) f = clash cc
range_some (a_not e) f = clash cc
range_some (sequence e p q) f = clash cc
range_some (choice e p) f = clash cc
range_some (choice_other e p) f = clash cc

pub nothing_least : Wrong.NothingLeast → ⊥
nothing_least wrong =
    let all : SuchSet ranges (λ k. true) =
    record { has_empty = λ k e. refl; has_not = λ k b e. refl; has_sequence = λ k b c e p q. refl; has_choice = λ k b c e p. refl } in
    range_some (wrong ranges (λ k. true) all 0 refl) refl

-- not nothing: it may match nothing as far as its kind goes, and fails
abbrev not_empty : List ℕ
not_empty = 3 ∷ 1 ∷ 0 ∷ 0 ∷ 4 ∷ 0 ∷ 0 ∷ 0 ∷ []

not_empty_rules : ((grammar_refusal not_empty).number ≡ 0) × (expression not_empty 0 ≡ Not 1) × (expression not_empty 1 ≡ Empty)
unfolding rules kind_of b_of c_of expression_by expression rule_right grammar_rules_from grammar_refusal
not_empty_rules = (refl, refl, refl)

pub nothing_matched : Wrong.NothingMatched → ⊥
unfolding verdict_number
nothing_matched wrong =
    let (good, zero_is, one_is) = not_empty_rules in
    let bytes = c1_holds.unrefused.bytes in
    let (c, accepted) = (promises.built_accepts not_empty [] good bytes).1 (wrong (expression not_empty) [] 0 0 (a_not zero_is)) in
    let (d, stuck) = (promises.built_stuck not_empty [] good bytes).1 (none, not_fails zero_is (empty one_is), λ e. clash cc) in
    omega (arith, ap verdict_number (promises.one_verdict _ Accepted Stuck _ _ accepted stuck).0)

-- rule 0 leads to rule 1, which is empty
pub leads_exact : Wrong.LeadsExact → ⊥
unfolding rules kind_of b_of c_of expression_by expression rule_right grammar_rules_from grammar_refusal nothing_by nothing_after leads_by leads_through leads_on
leads_exact wrong =
    let e : false ≡ true = (wrong not_empty 1 0 refl (omega arith)).1 (last (its_own refl)) in
    clash cc

-- NO VERDICT LOOPING: C5 loops, and 11 and 12 do not refuse its grammar
endless_good : (grammar_refusal endless_grammar).number ≡ 0
unfolding source_refusal
endless_good = c5_holds.good

pub never_looping : Wrong.NeverLooping → ⊥
unfolding image_of row_machine
never_looping wrong = (wrong endless_grammar [] endless_good c5_holds.unrefused.bytes).not_looping Whole _ c5_holds.says

pub judged_not_looping : Wrong.JudgedNotLooping → ⊥
unfolding image_of row_machine
judged_not_looping wrong = wrong Whole endless_grammar [] _ _ _ _ Looping 2 _ endless_good c5_holds.unrefused.bytes c5_judged.says refl

-- a line that begins with l says looping
looping_line : (v : Verdict) (n : ℕ) (d : Config) → get_or (answer_line v n d) 0 0 ≡ 108 → v ≡ Looping
unfolding answer_line verdict_word
looping_line Accepted n d e = absurd (omega (arith, e))
looping_line Ended n d e = absurd (omega (arith, e))
looping_line Stuck n d e = absurd (omega (arith, e))
looping_line Looping n d e = refl
looping_line Halted n d e = absurd (omega (arith, e))

pub line_not_looping : Wrong.LineNotLooping → ⊥
unfolding answer_line verdict_word total endless_input little_endian pair_bytes
line_not_looping wrong =
    let good : (grammar_refusal (input_grammar endless_input)).number ≡ 0 = rw endless_right endless_good in
    let lends : Lent = lent (replicate 468 0) (replicate 30 0) (replicate 30 0) in
    let enough : EndlessRoom lends = record { image = omega arith; notes = omega arith; work = omega arith } in
    let line = endless_line lends enough in
    let bytes = small_bytes endless_input (omega arith) in
    let (v, n, d, same, other) = wrong endless_input lends line.after _ good bytes (endless_unrefused lends enough) line.says in
    other (looping_line v n d (sym (ap (λ (l : List ℕ). get_or l 0 0) same)))

pub bundle_not_looping : Wrong.BundleNotLooping → ⊥
unfolding image_of row_machine totals sum gives verdict_number total
bundle_not_looping wrong =
    let says = one_says (built Whole endless_grammar) _ [] _ _ _ _ c5_holds.unrefused.good c5_judged.says in
    omega (arith, wrong Whole endless_grammar one_empty 1 _ [] _ _ _ _ _ endless_good (small_bytes one_empty (omega arith)) says)

-- TYPED GRAMMARS: rule 0 of the text a=a a; after a space, named at 1
pub text_recursion_determined : Wrong.TextRecursionDetermined → ⊥
text_recursion_determined wrong =
    let bad : Recursive 0 1 ≡ Recursive 1 0 = wrong endless_text 0 1 0 1 endless_recursive endless_recursive in
    clash cc

only_name : {ds : List Definition} {k : ℕ} {n : List ℕ} {e f : Tree} → Defines ds k n e → ds ≡ line_of f → n ≡ 97 ∷ []
only_name {n = n} {e = g} {f = f} here e =
    let same : ◌≡◌ {A = Definition} (record { letters = n; body = g }) (record { letters = 97 ∷ []; body = f }) = cc in
    ap (λ (d : Definition). d.letters) same
only_name (there (here)) e = absurd (clash cc)
only_name (there (there p)) e = absurd (clash cc)

-- a space stands at 0
pub recursion_named : Wrong.RecursionNamed → ⊥
recursion_named wrong =
    let named = wrong endless_text (line_of itself_twice) 0 1 endless_recursive legal_texts.2 (omega arith) in
    let is : named.name ≡ 97 ∷ [] = only_name named.defined refl in
    omega (arith, ap (λ (l : List ℕ). get_or l 0 0) (rw is at named.there))

pub typed_results : Wrong.TypedResults → ⊥
unfolding image_of row_machine
typed_results wrong =
    let looping : (c : Config) × Says (machine (built Whole (grammar_of (line_of itself_twice))) []) Looping c =
    (config 1 1 1, rw grammars_are.2 c5_holds.says) in
    let without = (promises.typed_loops endless_text [] _ [] c5_holds.unrefused.bytes legal_texts.2 unrefused_texts.2 (omega arith)).0 looping in
    let (o, means) = wrong endless_text [] _ 0 0 _ _ legal_texts.2 here in
    without o means

pub text_not_looping : Wrong.TextNotLooping → ⊥
text_not_looping wrong =
    let j = text_judged_in_room endless_text endless_grammar [] Looping 2 (config 1 1 1) none endless_read c5_holds in
    wrong endless_text [] _ j.after Looping 2 _ c5_holds.unrefused.bytes j.says refl

-- THE OTHER WAY ROUND
pub tried_first_fails : Wrong.TriedFirstFails → ⊥
tried_first_fails wrong = wrong (expression fails_first) 0 fails_first_recursive [] 0 none (fails_first_fails [] 0)

-- rule 1 is rule 1 twice, and rule 0 is empty
reached_rules : ((grammar_refusal never_reached).number ≡ 0) × (expression never_reached 1 ≡ Sequence 1 1)
unfolding never_reached rules kind_of b_of c_of expression_by expression rule_right grammar_rules_from grammar_refusal
reached_rules = (refl, refl)

pub tried_first_endless : Wrong.TriedFirstEndless → ⊥
tried_first_endless wrong =
    let bytes = c5_holds.unrefused.bytes in
    promises.recursion_harmless.1.terminates Whole [] bytes (wrong Whole never_reached [] 1 reached_rules.0 bytes (TriesOn.last (first_part reached_rules.1)))

pub recursion_harmless : Wrong.RecursionHarmless → ⊥
recursion_harmless wrong =
    let bad = (promises.recursion_refused never_reached 19 0).1 wrong.1.refused in
    omega (arith, ap (λ (f : Refusal). f.place) (sym reached_refused ∙ bad))

pub recursion_examples : Wrong.RecursionExamples → ⊥
unfolding RecursionSo or_else rules kind_of b_of c_of expression_by expression rule_right grammar_rules_from grammar_refusal
    nothing_by nothing_after leads_by leads_through leads_on recursion_from recursion_refusal
recursion_examples wrong = omega (arith, ap (λ (f : Refusal). f.number) (first wrong))

only_line : {d : Definition} {k : ℕ} {n : List ℕ} {e : Tree} → Defines (d ∷ []) k n e → k ≡ 0
only_line {d = d} {n = n} {e = e} (there {k = k} x6) = elim x6 [ ]
only_line here = refl

-- the one line begins at 1, its rule is 0
pub recursion_line : Wrong.RecursionLine → ⊥
unfolding line_offsets Tokens.ends_line Tokens.lexemes Tokens.lexemes_from Tokens.skipped Tokens.token_at Tokens.letter Tokens.word Tokens.same Tokens.letters Tokens.width_at
    Tokens.range_there Tokens.sign_of
recursion_line wrong =
    let (line, at, _, _, _) = wrong endless_text (line_of itself_twice) 0 1 endless_recursive legal_texts.2 in
    let begins = at.begins in
    omega (arith, rw (only_line at.defined) at begins)
