-- Texts that are read as the grammars of examples, and judging by them. Assumes nothing.
use Rattle.std.specs.Prelude.{Ok, Err}
use mathlib.Core.Path.{◌≡◌, refl}
use mathlib.Core.List.Memᴰ
use mathlib.Core.List.{List, [], ◌∷◌, ◌++◌}
use mathlib.Core.Option.{Option}
use Prim.Native.Nat.{ℕ, ◌<◌, ◌≤◌}
use native.Mathlib.Omega.{arith}
use lib.ListN.{length, drop, replicate, length-replicate}
use borrow.Author.Tests.{eq-eqb, lt-ltb, le-ltb}
use Rattle.refusal.specs.First.{refusal, or_else, refuse_if}
use Rattle.machine.specs.declared.Config.{Config}
use Rattle.machine.specs.declared.Verdict.{Verdict}
use Rattle.machine.specs.Run.{how_many}
use Rattle.machine.specs.Verdicts.{nil, cons}
use Rattle.image.specs.Image.{machine}
use Rattle.simulator.specs.Calls.{judgement, judge_refusal}
use Rattle.simulator.proofs.Answered.{answered_fine}
use Rattle.grammar.specs.Grammar.{rules, kind_of, b_of, c_of, expression_by, expression, rule_right, grammar_rules_from, grammar_refusal}
use Rattle.recursion.specs.Computed.{nothing_by, nothing_after, leads_by, leads_through, leads_on, recursion_from, recursion_refusal}
use Rattle.builder.specs.declared.Matching.TheVariants.{Whole}
use Rattle.builder.specs.Image.{built, built_length}
use Rattle.builder.specs.Calls.{build_refusal}
use Rattle.syntax.specs.declared.Leaf.TheVariants.{EmptyString}
use Rattle.syntax.specs.declared.Prefix.TheVariants.{NotPredicate}
use Rattle.syntax.specs.Tokens as Tokens
use Rattle.syntax.specs.Trees.{Tree, nonterminal, leaf, bytes, prefixed, sequence, Definition, here, last_choice, last_part, more_parts, no_prefix, a_prefix, no_suffix, a_name, a_leaf, a_range, last_line, LegalText}
use Rattle.syntax.specs.Faults.{first_undefined, undefined_in, not_in}
use Rattle.syntax.specs.Needs.{need, line_need, needs, later_refusal}
use Rattle.syntax.specs.Compile.{grammar_of, encode, all_rules, named_from, helpers_from, line_rule, line_helpers, top_rule, top_helpers, compile, compile_leaf, place, own_rules, own_number, index_of, rule_bytes}
use Rattle.syntax.specs.Reading.{Grammar, ReadSays, read}
use Rattle.syntax.specs.RuleLines.{line_offsets, own}
use Rattle.grammar_judge.specs.Calls.{Lent, lent, parts_refusal, lent_refusal}
use Rattle.typed.specs.Calls.{JudgeTextSays, judged}
use Rattle.typed.specs.declared.left_recursion.RecursionFault.TheVariants.{Recursive}
use Rattle.typed.specs.Recursion.{TextRecursionSays, recursive}
use Rattle.worked_examples.specs.Examples.{row, from_grammar, RowHolds, image_of, row_machine, source_refusal, empty_grammar, byte_grammar, endless_grammar}
use Rattle.refuted.proofs.Witnesses.{row_judged}

-- one line with the name a
abbrev pub line_of : Tree → List Definition
line_of e = record { letters = 97 ∷ []; body = e } ∷ []

-- a=empty; is C1's grammar
abbrev pub empty_text : List ℕ
empty_text = 97 ∷ 61 ∷ 101 ∷ 109 ∷ 112 ∷ 116 ∷ 121 ∷ 59 ∷ []

-- a='a-a'; is C3's
abbrev pub byte_text : List ℕ
byte_text = 97 ∷ 61 ∷ 39 ∷ 97 ∷ 45 ∷ 97 ∷ 39 ∷ 59 ∷ []

-- a=a a; after a space is C5's
abbrev pub endless_text : List ℕ
endless_text = 32 ∷ 97 ∷ 61 ∷ 97 ∷ 32 ∷ 97 ∷ 59 ∷ []

-- a=!b; names a line that is not there
abbrev pub undefined_text : List ℕ
undefined_text = 97 ∷ 61 ∷ 33 ∷ 98 ∷ 59 ∷ []

abbrev pub not_there : Tree
not_there = prefixed NotPredicate (nonterminal (98 ∷ []))

abbrev pub itself_twice : Tree
itself_twice = sequence (nonterminal (97 ∷ [])) (nonterminal (97 ∷ []))

pub legal_texts :
    LegalText empty_text (line_of (leaf EmptyString)) × LegalText byte_text (line_of (bytes 97 97)) × LegalText endless_text (line_of itself_twice)
    × LegalText undefined_text (line_of not_there)
unfolding Tokens.tokens Tokens.lexemes Tokens.lexemes_from Tokens.skipped Tokens.token_at Tokens.letter Tokens.word Tokens.same Tokens.letters Tokens.width_at
    Tokens.range_there Tokens.sign_of
legal_texts = (
  record { reads = last_line (last_choice (last_part (no_prefix (no_suffix a_leaf)))); distinct = cons Memᴰ.not-nil nil },
  record { reads = last_line (last_choice (last_part (no_prefix (no_suffix a_range)))); distinct = cons Memᴰ.not-nil nil },
  record { reads = last_line (last_choice (more_parts (no_prefix (no_suffix a_name)) (last_part (no_prefix (no_suffix a_name))))); distinct = cons Memᴰ.not-nil nil },
  record { reads = last_line (last_choice (last_part (a_prefix (no_prefix (no_suffix a_name))))); distinct = cons Memᴰ.not-nil nil },
)

pub unrefused_texts :
    ((later_refusal empty_text (line_of (leaf EmptyString))).number ≡ 0) × ((later_refusal byte_text (line_of (bytes 97 97))).number ≡ 0)
    × ((later_refusal endless_text (line_of itself_twice)).number ≡ 0)
unfolding Tokens.lexemes Tokens.lexemes_from Tokens.skipped Tokens.token_at Tokens.letter Tokens.word Tokens.same Tokens.letters Tokens.width_at
    Tokens.range_there Tokens.sign_of first_undefined undefined_in not_in need line_need needs later_refusal or_else refuse_if
unrefused_texts = (refl, refl, refl)

pub grammars_are :
    (grammar_of (line_of (leaf EmptyString)) ≡ empty_grammar) × (grammar_of (line_of (bytes 97 97)) ≡ byte_grammar)
    × (grammar_of (line_of itself_twice) ≡ endless_grammar)
unfolding grammar_of encode all_rules named_from helpers_from line_rule line_helpers top_rule top_helpers compile compile_leaf place own_rules own_number index_of rule_bytes Tokens.same
grammars_are = (refl, refl, refl)

pub empty_read : ReadSays empty_text (Grammar empty_grammar)
empty_read = rw grammars_are.0 at (read legal_texts.0 unrefused_texts.0)

pub endless_read : ReadSays endless_text (Grammar endless_grammar)
endless_read = rw grammars_are.2 at (read legal_texts.2 unrefused_texts.2)

-- exactly as much room as a grammar and a capture need
abbrev pub room : (gs cs : List ℕ) → Lent
room gs cs =
    lent (replicate (built_length gs) 0) (replicate (how_many (machine (built Whole gs) cs)) 0) (replicate (how_many (machine (built Whole gs) cs)) 0)

pub room_enough :
    (gs cs : List ℕ) →
    (built_length gs ≤ length (room gs cs).image) × (how_many (machine (built Whole gs) cs) ≤ length (room gs cs).notes)
room_enough gs cs =
    let cells = how_many (machine (built Whole gs) cs) in
    (omega (arith, length-replicate {A = ℕ} (built_length gs) 0), omega (arith, length-replicate {A = ℕ} cells 0))

-- BUILDING, with enough room and with too little
pub build_fine : (gs : List ℕ) (n : ℕ) → (grammar_refusal gs).number ≡ 0 → built_length gs ≤ n → (build_refusal gs n).number ≡ 0
unfolding build_refusal or_else refuse_if
build_fine gs n good enough = rw (eq-eqb _ _ good, le-ltb _ _ enough)

pub no_room : (gs : List ℕ) (n : ℕ) → (grammar_refusal gs).number ≡ 0 → n < built_length gs → build_refusal gs n ≡ refusal 13 (built_length gs)
unfolding build_refusal or_else refuse_if
no_room gs n good few = rw (eq-eqb _ _ good, lt-ltb _ _ few)

-- enough room for image, notes and work: nothing is refused
pub lent_fine :
    (gs cs : List ℕ) (x : Lent) → (grammar_refusal gs).number ≡ 0 → built_length gs ≤ length x.image →
    (judge_refusal (built Whole gs) cs (length x.notes) (length x.work)).number ≡ 0 → (lent_refusal gs cs x).number ≡ 0
unfolding parts_refusal or_else
lent_fine gs cs x good enough fine = rw (build_fine gs (length x.image) good enough) fine

-- JUDGING BY A TEXT whose grammar is that of an example
pub record TextJudged (text cs : List ℕ) (v : Verdict) (n : ℕ) (d : Config) (x : Lent) : Type 0 where
  pub after : Lent
  pub says : JudgeTextSays text cs (Ok (judgement v n d)) x after

pub text_judged :
    (text gs cs : List ℕ) (v : Verdict) (n : ℕ) (d : Config) (s : Option ℕ) (x : Lent) → ReadSays text (Grammar gs) →
    RowHolds (row (from_grammar Whole gs) cs v n d s) → built_length gs ≤ length x.image →
    how_many (machine (built Whole gs) cs) ≤ length x.notes → how_many (machine (built Whole gs) cs) ≤ length x.work →
    TextJudged text cs v n d x
unfolding image_of row_machine source_refusal
text_judged text gs cs v n d s x reads holds m a b =
    let j = row_judged (row (from_grammar Whole gs) cs v n d s) holds x.notes x.work a b in
    let fine = answered_fine (built Whole gs) cs x.notes j.notes_now x.work j.work_now v n d j.says in
    record {
      after = lent (built Whole gs ++ drop (built_length gs) x.image) j.notes_now j.work_now;
      says = judged reads (lent_fine gs cs x holds.good m fine) refl j.says;
    }

-- with exactly the room that it needs
pub text_judged_in_room :
    (text gs cs : List ℕ) (v : Verdict) (n : ℕ) (d : Config) (s : Option ℕ) → ReadSays text (Grammar gs) →
    RowHolds (row (from_grammar Whole gs) cs v n d s) → TextJudged text cs v n d (room gs cs)
text_judged_in_room text gs cs v n d s reads holds =
    let (image, cells) = room_enough gs cs in text_judged text gs cs v n d s (room gs cs) reads holds image cells cells

-- THE CHECK FOR LEFT RECURSION finds rule 0, whose name stands at offset 1
pub endless_recursive : TextRecursionSays endless_text (Err (Recursive 0 1))
unfolding recursion_refusal recursion_from leads_on leads_through leads_by nothing_after nothing_by
    rules kind_of b_of c_of expression_by expression rule_right grammar_rules_from grammar_refusal or_else
    line_offsets Tokens.ends_line Tokens.lexemes Tokens.lexemes_from Tokens.skipped Tokens.token_at Tokens.letter Tokens.word Tokens.same Tokens.letters Tokens.width_at
    Tokens.range_there Tokens.sign_of
endless_recursive =
    recursive legal_texts.2 endless_read refl (own (omega arith))
    (record { name = 97 ∷ []; body = itself_twice; defined = here; there = refl; begins = refl })
