-- The wrong neighbours of Typed.antt refuted: each by a closed example beside the promise. Assumes nothing.
use Rattle.std.specs.Prelude.{Result, Err, Ok}
use mathlib.Core.Path.{◌≡◌, refl, sym, ap, subst, ◌∙◌}
use mathlib.Core.Logic.{◌⊎◌, inl, inr}
use mathlib.Core.List.Memᴰ
use mathlib.Core.List.{List, [], ◌∷◌, ◌++◌, Memᴰ}
use mathlib.Core.Option.{some}
use Prim.Native.Nat.{ℕ, ◌≤◌}
use native.Mathlib.Omega.{arith}
use lib.ListN.{length, get_or, take, drop, replicate, length-replicate}
use lib.Seq.{get_or-take, get_or_at}
use Rattle.refusal.specs.declared.Refusal.{Refusal}
use Rattle.refusal.specs.First.{refusal, no_refusal, or_else}
use Rattle.machine.specs.declared.Verdict.TheVariants.{Accepted}
use Rattle.machine.specs.Run.{config, how_many}
use Rattle.machine.specs.Replies.{verdict_number}
use Rattle.machine.specs.declared.Reply.{Reply}
use Rattle.codec.specs.Numbers.{little_endian, pair_bytes}
use Rattle.image.specs.Image.{machine, states, symbols}
use Rattle.image.specs.Encoding.{header, encode}
use Rattle.simulator.specs.Calls.{judgement}
use Rattle.simulator.proofs.Answered.{judged_right}
use Rattle.grammar.specs.Grammar.{rules, kind_of, b_of, c_of, rule_right, grammar_rules_from, grammar_refusal}
use Rattle.grammar.specs.Parsing.{Rules, in_range}
use Rattle.builder.specs.declared.Matching.TheVariants.{Whole}
use Rattle.builder.specs.Image.{built, built_length, parts, symbols_of}
use Rattle.builder.specs.Calls.{build_refusal}
use Rattle.builder.specs.Replies.{of_built}
use Rattle.syntax.specs.declared.Leaf.TheVariants.{EmptyString}
use Rattle.syntax.specs.declared.Sign.TheVariants.{Operand, Opening, Closing, Equals, Semicolon}
use Rattle.syntax.specs.Tokens as Tokens
use Rattle.syntax.specs.Tokens.{Token, name, sign}
use Rattle.syntax.specs.Trees.{leaf, last_choice, last_part, no_prefix, no_suffix, a_leaf, brackets, Definition, here, Reads, last_line}
use Rattle.syntax.specs.Faults.{fault, first_wrong, next, to_if, not_in, is_equals, by_sign, defined_after, name_of, at_end}
use Rattle.syntax_theory.specs.Meaning.{byte_out, nothing}
use Rattle.syntax.specs.Compile.{grammar_of}
use Rattle.syntax.specs.Compile as Compile
use Rattle.syntax.specs.RuleLines.{own}
use Rattle.syntax_theory.specs.RuleOf.{RuleOf, LineRules, own_line, bare_line}
use Rattle.syntax.specs.Reading.{Refused, Grammar, ReadSays, at_fault}
use Rattle.reader.specs.declared.GrammarBytes.{GrammarBytes}
use Rattle.reader.specs.Calls.{grammar_answer, ReadTells}
use Rattle.grammar_judge.specs.Calls.{Lent, lent, parts_refusal, lent_refusal}
use Rattle.typed.specs.TypedCalls.{EnoughLent}
use Rattle.typed.specs.Calls.{BuildTextSays, JudgeTextSays, room_refused, JudgeTextRefused}
use Rattle.worked_examples.specs.Examples.{image_of, row_machine, empty_grammar}
use Rattle.worked_examples.specs.TextExamples.{ReadSo, bytes_of, refused_table}
use Rattle.promises.proofs.Proved.{promises}
use Rattle.refuted.specs.Typed as Wrong
use Rattle.refuted.proofs.Witnesses.{few_notes_judged, same_number, clash}
use Rattle.refuted.proofs.SmallCalls.{c1_good, c1_length, c1_left, c1_built}
use Rattle.refuted.proofs.TextCalls.{line_of, empty_text, byte_text, undefined_text, not_there, legal_texts, unrefused_texts, grammars_are, empty_read, room, room_enough, text_judged_in_room, build_fine, no_room}
use Rattle.refuted.proofs.Rows.{first, rows_from, c1_holds, c2_holds, c4_holds}

-- READING. a=empty; has no fault, and no text one at its end
faults : (fault empty_text ≡ no_refusal) × (fault [] ≡ refusal 15 0)
unfolding fault first_wrong next to_if not_in is_equals by_sign defined_after name_of at_end Tokens.lexemes Tokens.lexemes_from Tokens.skipped
    Tokens.token_at Tokens.letter Tokens.word Tokens.same Tokens.letters Tokens.width_at Tokens.range_there Tokens.sign_of
faults = (refl, refl)

pub faults_right : Wrong.FaultsRight → ⊥
faults_right wrong =
    let bad = ((wrong empty_text).0 no_refusal).1 faults.0 in
    (((promises.faults_right empty_text).0 no_refusal).0 bad).1 refl

-- a=empty; and a=(empty);
empty_tokens : Reads 1 (name (97 ∷ []) ∷ sign Equals ∷ sign (Operand EmptyString) ∷ sign Semicolon ∷ []) (line_of (leaf EmptyString))
empty_tokens = last_line (last_choice (last_part (no_prefix (no_suffix a_leaf))))

bracketed_tokens :
    Reads 1 (name (97 ∷ []) ∷ sign Equals ∷ sign Opening ∷ sign (Operand EmptyString) ∷ sign Closing ∷ sign Semicolon ∷ []) (line_of (leaf EmptyString))
bracketed_tokens =
    last_line (last_choice (last_part (no_prefix (no_suffix (brackets (last_choice (last_part (no_prefix (no_suffix a_leaf)))))))))

pub unambiguous : Wrong.Unambiguous → ⊥
unambiguous wrong = omega (arith, ap (λ (ts : List Token). length ts) (wrong 1 _ _ _ empty_tokens bracketed_tokens))

none_read : ReadSays [] (Refused (refusal 15 0))
none_read =
    let faulty : (fault []).number ≡ 0 → ⊥ = λ z. omega (arith, z, ap (λ (f : Refusal). f.number) faults.1) in
    let says : ReadSays [] (Refused (fault [])) = at_fault faulty in
    rw faults.1 at says

pub reading_exact : Wrong.ReadingExact → ⊥
reading_exact wrong =
    let (gs, _, only) = wrong [] in
    let e : Refused (refusal 15 0) ≡ Grammar gs = only (Refused (refusal 15 0)) none_read in
    clash cc

-- a=!b; has one rule, which names rule 1
pub typed_right : Wrong.TypedParses → ⊥
unfolding Compile.grammar_of Compile.encode Compile.all_rules Compile.named_from Compile.helpers_from Compile.line_rule Compile.line_helpers Compile.top_rule Compile.top_helpers
    Compile.compile Compile.compile_prefix Compile.place Compile.own_rules Compile.own_number Compile.index_of Compile.rule_bytes Tokens.same
    rules kind_of b_of c_of rule_right grammar_rules_from grammar_refusal
typed_right wrong = omega (arith, (wrong undefined_text (line_of not_there) legal_texts.3).good)

empty_tells : ReadTells empty_text (grammar_answer (Grammar empty_grammar))
empty_tells = record { reading = _; says = empty_read; told = refl }

neither : {A B : Type 0} → A ⊎ B → (A → ⊥) → (B → ⊥) → ⊥
neither (inl a) no_left no_right = no_left a
neither (inr b) no_left no_right = no_right b

pub read_determined : Wrong.ReadDetermined → ⊥
unfolding grammar_answer
read_determined wrong =
    neither ((wrong empty_text _ _ empty_tells empty_tells).1 _ refl) (λ unread. unread _ empty_read) (λ zeros. omega (arith, zeros.0))

pub read_good : Wrong.ReadGood → ⊥
unfolding grammar_answer rules kind_of b_of c_of rule_right grammar_rules_from grammar_refusal
read_good wrong = omega (arith, (wrong empty_text _ empty_tells).good)

-- BUILDING. The image of a=empty; is C1's
pub empty_built : (a : List ℕ) → 468 ≤ length a → BuildTextSays empty_text (Ok 468) a (c1_left Whole a)
empty_built a enough = BuildTextSays.read empty_read (c1_built Whole a enough)

abbrev exactly : List ℕ
exactly = replicate 468 0

pub build_text_refuses : Wrong.BuildTextRefuses → ⊥
unfolding of_built
build_text_refuses wrong =
    let few : build_refusal empty_grammar 467 ≡ refusal 13 (built_length empty_grammar) = no_room empty_grammar 467 c1_good (omega (arith, c1_length)) in
    let refused : (build_refusal empty_grammar 467).number ≡ 0 → ⊥ = λ z. omega (arith, z, ap (λ (f : Refusal). f.number) few) in
    let bad = (wrong empty_text _ 467 exactly _ _ refl (empty_built exactly (omega arith)) (room_refused empty_read refused)).0 in
    omega (arith, ap (λ (p : Reply). p.refusal) bad, ap (λ (f : Refusal). f.number) few)

-- its first byte
first_byte : (l : List ℕ) → get_or (built Whole empty_grammar ++ l) 0 0 ≡ 24
unfolding built encode header pair_bytes little_endian
first_byte l = refl

pub build_text_determined : Wrong.BuildTextDetermined → ⊥
build_text_determined wrong =
    let says = empty_built exactly (omega arith) in
    let bad = (wrong empty_text exactly _ _ _ _ says says).1 in
    omega (arith, sym (first_byte (drop 468 exactly)) ∙ ap (λ (l : List ℕ). get_or l 0 0) bad)

-- the byte behind it
byte_after : (b : ℕ) → get_or (take 469 (built Whole empty_grammar ++ (b ∷ []))) 468 0 ≡ b
byte_after b =
    get_or-take 469 (built Whole empty_grammar ++ (b ∷ [])) 468 0 (omega arith) ∙ get_or_at (built Whole empty_grammar) b [] 0 468 promises.c1_image

pub build_text_independent : Wrong.BuildTextIndependent → ⊥
build_text_independent wrong =
    let a : List ℕ = replicate 469 0 in
    let b : List ℕ = replicate 469 1 in
    let fine = build_fine empty_grammar 469 c1_good (omega (arith, c1_length)) in
    let bad = (wrong empty_text _ _ a b _ _ refl (empty_built a (omega arith)) (empty_built b (omega arith))).1 empty_grammar empty_read fine in
    omega (arith, sym (byte_after 0) ∙ ap (λ (k : List ℕ). get_or k 468 0) (rw c1_length at bad) ∙ byte_after 1)

-- JUDGING. A text that is refused, with one note and no work cells
abbrev pub one_note : Lent
one_note = lent [] (0 ∷ []) []

pub none_judged_by : JudgeTextSays [] [] (Err (refusal 15 0)) one_note one_note
none_judged_by = JudgeTextSays.unread none_read

pub judge_text_refuses : Wrong.JudgeTextRefuses → ⊥
judge_text_refuses wrong =
    let bad = (wrong [] [] _ one_note one_note (refusal 15 0) none_judged_by (JudgeTextRefused.text_refused none_read)).1 in
    omega (arith, ap (λ (x : Lent). length x.notes) bad)

pub judge_text_determined : Wrong.JudgeTextDetermined → ⊥
judge_text_determined wrong =
    let bad = (wrong [] [] one_note _ _ one_note one_note none_judged_by none_judged_by).1 in
    omega (arith, ap (λ (x : Lent). length x.notes) bad)

-- C1's answer, and none with no image buffer
pub judge_text_independent : Wrong.JudgeTextIndependent → ⊥
unfolding parts_refusal or_else
judge_text_independent wrong =
    let j = text_judged_in_room empty_text empty_grammar [] Accepted 3 (config 2 1 0) (some 3) empty_read c1_holds in
    let x : Lent = room empty_grammar [] in
    let z : Lent = lent [] x.notes x.work in
    let few : build_refusal empty_grammar 0 ≡ refusal 13 (built_length empty_grammar) = no_room empty_grammar 0 c1_good (omega (arith, c1_length)) in
    let refused : (lent_refusal empty_grammar [] z).number ≡ 0 → ⊥ = λ e. omega (arith, rw few at e) in
    let bad : Ok (judgement Accepted 3 (config 2 1 0)) ≡ Err (lent_refusal empty_grammar [] z) =
    (wrong empty_text [] x j.after z z _ _ refl refl j.says (JudgeTextSays.refused empty_read refused)).0 in
    clash cc

pub typed_accepts : Wrong.TypedAccepts → ⊥
unfolding image_of row_machine verdict_number
typed_accepts wrong =
    let (c, says) = (wrong empty_text (97 ∷ []) _ [] c2_holds.unrefused.bytes legal_texts.0 unrefused_texts.0).1 (0, nothing) in
    omega (arith, same_number (rw grammars_are.0 at says) c2_holds.says)

-- C1 is accepted, and has a result
pub typed_stuck : Wrong.TypedStuck → ⊥
unfolding image_of row_machine verdict_number
typed_stuck wrong =
    let (c, says) = (wrong empty_text [] _ [] c1_holds.unrefused.bytes legal_texts.0 unrefused_texts.0).1 (some 0, nothing) in
    omega (arith, same_number (rw grammars_are.0 at says) c1_holds.says)

-- C4 is stuck, and fails
pub typed_loops : Wrong.TypedLoops → ⊥
unfolding image_of row_machine verdict_number in_range
typed_loops wrong =
    let (c, says) = (wrong byte_text (98 ∷ []) _ [] c4_holds.unrefused.bytes legal_texts.1 unrefused_texts.1 (omega arith)).1 (byte_out refl) in
    omega (arith, same_number (rw grammars_are.1 at says) c4_holds.says)

-- C2 with room for C1
more_cells : how_many (machine (built Whole empty_grammar) (97 ∷ [])) ≡ 45
unfolding how_many machine states symbols built parts encode header pair_bytes little_endian symbols_of rules
more_cells = refl

few_cells : (lent_refusal empty_grammar (97 ∷ []) (room empty_grammar [])).number ≡ 0 → ⊥
unfolding parts_refusal or_else image_of
few_cells e =
    let x : Lent = room empty_grammar [] in
    let cells_lent : length x.notes ≡ 30 = length-replicate {A = ℕ} (how_many (machine (built Whole empty_grammar) [])) 0 ∙ promises.c1_cells in
    let says = few_notes_judged (built Whole empty_grammar) (97 ∷ []) x.notes x.work c2_holds.unrefused (omega (arith, more_cells, cells_lent)) in
    let fine = rw (build_fine empty_grammar _ c1_good (room_enough empty_grammar []).0) at e in
    let bad = (judged_right (built Whole empty_grammar) (97 ∷ []) _ x.notes _ x.work _ fine says).answers in
    clash cc

pub typed_judged : Wrong.TypedJudged → ⊥
unfolding image_of
typed_judged wrong =
    let x : Lent = room empty_grammar [] in
    let (image, cells) = room_enough empty_grammar [] in
    let enough : EnoughLent empty_text [] x =
    record { grammar = empty_grammar; read = empty_read; bytes = c1_holds.unrefused.bytes; short = omega arith; image_room = image; notes_room = cells; work_room = cells } in
    let bad = (wrong empty_text (97 ∷ []) _ x x enough c2_holds.unrefused.bytes (JudgeTextSays.refused empty_read few_cells)).answers in
    clash cc

-- no text is refused, and has no lines
pub read_right : Wrong.ReadRight → ⊥
read_right wrong =
    let (ds, legal, _) = wrong [] _ (record { reading = _; says = none_read; told = refl }) in
    omega (arith, (promises.faults_right []).1.1 (ds, legal), ap (λ (f : Refusal). f.number) faults.1)

-- the rule of a=empty; has no helper
no_others : {E : Rules} {ds : List Definition} {k : ℕ} {own : List ℕ} → RuleOf E ds (leaf EmptyString) k own → own ≡ k ∷ []
no_others (RuleOf.nothing e) = refl

no_helper : {E : Rules} {ds : List Definition} {k : ℕ} {hs : List ℕ} → LineRules E ds (leaf EmptyString) k hs → hs ≡ []
no_helper (own_line r) = let f = no_others r in cc
no_helper (bare_line r s e) = let f = no_others r in cc

pub rules_of_lines : Wrong.RulesOfLines → ⊥
rules_of_lines wrong =
    let (hs, made, only) = wrong empty_text _ 0 _ _ legal_texts.0 unrefused_texts.0 here in
    Memᴰ.not-nil (subst (λ (l : List ℕ). Memᴰ 0 l) (no_helper made) ((only 0).0 (own (omega arith))))

-- a=b;c is refused at its end
pub text_examples : Wrong.TextExamples → ⊥
unfolding refused_table ReadSo grammar_answer
text_examples wrong =
    let (reading, says, _) = promises.reading_exact (bytes_of "a=b;c") in
    let tells : ReadTells (bytes_of "a=b;c") (grammar_answer reading) = record { reading = _; says = says; told = refl } in
    let at_end = first (rows_from 9 refused_table promises.text_examples.1) _ tells in
    let at_name = first (rows_from 9 _ wrong.1) _ tells in
    let bad : ◌≡◌ {A = Result GrammarBytes Refusal} (Err (refusal 15 5)) (Err (refusal 15 2)) = sym at_end ∙ at_name in
    let same : refusal 15 5 ≡ refusal 15 2 = cc in
    omega (arith, ap (λ (f : Refusal). f.place) same)
