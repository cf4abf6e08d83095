-- Small calls and what they say: with no image, on C1's image, and building it. Assumes nothing.
use Rattle.std.specs.Prelude.{Err, Ok}
use mathlib.Core.Path.{◌≡◌, refl, sym, ap, ◌∙◌}
use mathlib.Core.Bool.{true}
use mathlib.Core.List.{List, [], ◌∷◌, ◌++◌}
use Prim.Native.Nat.{ℕ, suc, ◌<◌, ◌≤◌}
use native.Mathlib.Omega.{arith}
use lib.Dec.{ltb}
use lib.ListN.{length, take, drop, replicate, get_or-append}
use lib.Seq.{get_or-take, get_or-drop, get_or-append-add}
use borrow.Author.Tests.{ne_eqb, le-ltb}
use Rattle.refusal.specs.First.{refusal, or_else, refuse_if}
use Rattle.codec.specs.Bytes.{byte}
use Rattle.codec.specs.Numbers.{little_endian, pair_bytes}
use Rattle.machine.specs.declared.Termination.TheVariants.{Over}
use Rattle.machine.specs.Run.{config, start}
use Rattle.image.specs.Format.{max_capture}
use Rattle.image.specs.Image.{machine}
use Rattle.image.specs.Encoding.{header, rule_bytes, rules_bytes, encode}
use Rattle.image.specs.Refusals.{Unrefused, image_refusal, capture_refusal}
use Rattle.image.proofs.CaptureRefused.{then_length}
use Rattle.simulator.specs.Calls.{judge_refusal, JudgeAs, JudgeSays}
use Rattle.interpreter.specs.declared.Exit.TheVariants.{Terminated, Spent}
use Rattle.interpreter.specs.declared.RunEnd.{RunEnd}
use Rattle.interpreter.specs.PlainRun.{run_end, run_on}
use Rattle.interpreter.specs.Calls.{run_refusal, answer, RunAs, RunSays}
use Rattle.grammar.specs.Grammar as Grammar
use Rattle.builder.specs.declared.Matching.{Matching}
use Rattle.builder.specs.declared.Matching.TheVariants.{Whole, Leading}
use Rattle.builder.specs.Classes.{cuts_at, cut_from, cut, class_of, class_count, class_in}
use Rattle.builder.specs.Table.{rows, by_state, select, on_byte, row_zero, class_inside, rows_at, made}
use Rattle.builder.specs.Image.{symbols_of, built_rules, rules_made, map_made, built, built_length, parts}
use Rattle.builder.specs.Calls.{build_refusal, BuildAs, BuildSays}
use Rattle.worked_examples.specs.Examples.{image_of, source_refusal, empty_grammar, plain_table}
use Rattle.promises.proofs.Proved.{promises}
use Rattle.refuted.proofs.Rows.{first, others, c1_holds}
use Rattle.refuted.proofs.Witnesses.{JudgedThere, judged_there}

-- a byte that two lists have in common with the bytes before it
pub same_byte : (n i : ℕ) → i < n → (x y : List ℕ) → take n x ≡ take n y → byte x i ≡ byte y i
same_byte n i h x y e = sym (get_or-take n x i 0 h) ∙ ap (λ (l : List ℕ). byte l i) e ∙ get_or-take n y i 0 h

-- NO IMAGE: the refusal is 1 at 0, and every cell stays
pub none_refused : image_refusal [] ≡ refusal 1 0
unfolding image_refusal
none_refused = refl

pub none_judging : (a b : ℕ) → judge_refusal [] [] a b ≡ refusal 1 0
unfolding judge_refusal capture_refusal image_refusal or_else
none_judging a b = refl

pub none_judged : (a b : List ℕ) → JudgeSays [] [] (Err (refusal 1 0)) a a b b
unfolding JudgeSays JudgeAs judge_refusal capture_refusal image_refusal or_else
none_judged a b = (refl, refl, refl)

pub none_running : (cells : ℕ) → run_refusal [] [] cells ≡ refusal 1 0
unfolding run_refusal capture_refusal image_refusal or_else
none_running k = refl

pub none_ran : (budget : ℕ) (a : List ℕ) → RunSays [] [] budget (Err (refusal 1 0)) a a
unfolding RunSays RunAs run_refusal capture_refusal image_refusal or_else
none_ran n a = (refl, refl)

-- C1'S IMAGE: captures with it,
abbrev pub c1_bytes : List ℕ
c1_bytes = built Whole empty_grammar

pub c1_good : (Grammar.grammar_refusal empty_grammar).number ≡ 0
unfolding source_refusal
c1_good = c1_holds.good

pub c1_unrefused : Unrefused c1_bytes []
unfolding image_of
c1_unrefused = c1_holds.unrefused

pub c1_capture : (n : ℕ) → capture_refusal c1_bytes n ≡ refuse_if (ltb max_capture n) (refusal 7 n)
c1_capture n = sym (then_length c1_bytes n (image_refusal c1_bytes) refl c1_unrefused.good refl)

-- judging the empty one on any cells,
pub c1_judging : (a b : ℕ) → judge_refusal c1_bytes [] a b ≡ or_else (refuse_if (ltb a 30) (refusal 8 30)) (refuse_if (ltb b 30) (refusal 9 30))
unfolding judge_refusal or_else refuse_if
c1_judging a b = rw (c1_capture 0, promises.c1_cells)

pub c1_judged_on : (a b : List ℕ) → 30 ≤ length a → 30 ≤ length b → JudgedThere c1_bytes [] a b
c1_judged_on a b h k = judged_there c1_bytes [] a b c1_unrefused (omega (arith, promises.c1_cells)) (omega (arith, promises.c1_cells))

-- which leaves the work cell after the 30 as it was, and sets the last of the 30 to 0,
pub c1_later : {a b : List ℕ} (j : JudgedThere c1_bytes [] a b) → byte j.b_now 30 ≡ byte b 30
c1_later {a} {b} j =
    let kept = (promises.judge_later c1_bytes [] _ a j.a_now b j.b_now j.says).1 in
    sym (get_or-drop 30 j.b_now 0 0) ∙ ap (λ (l : List ℕ). byte l 0) (rw promises.c1_cells at kept) ∙ get_or-drop 30 b 0 0

pub c1_cleared : {a b : List ℕ} (j : JudgedThere c1_bytes [] a b) → byte j.b_now 29 ≡ 0
c1_cleared {a} {b} j =
    let zero = promises.work_cleared c1_bytes [] a j.a_now b j.b_now _ _ _ c1_unrefused.bytes j.says in
    same_byte 30 29 (omega arith) j.b_now (replicate 30 0) (rw promises.c1_cells at zero)

-- and running it: one cell is enough
pub c1_running : (more : ℕ) → run_refusal c1_bytes [] (suc more) ≡ refusal 0 0
unfolding run_refusal or_else refuse_if
c1_running n = rw (c1_capture 0, ne_eqb (suc n) 0 (λ e. omega (arith, e)))

pub c1_unran : run_refusal c1_bytes [] 0 ≡ refusal 10 0
unfolding run_refusal or_else refuse_if
c1_unran = rw (c1_capture 0)

pub c1_ran :
    (budget x y : ℕ) {e : RunEnd} → run_on budget (machine c1_bytes []) 0 2 start ≡ e →
    RunSays c1_bytes [] budget (answer e) (x ∷ y ∷ []) (0 ∷ 0 ∷ [])
unfolding RunSays RunAs run_refusal or_else refuse_if
c1_ran n x y q = rw (c1_capture 0) (ap answer (sym q), refl)

-- its plain runs with budgets 3 and 2
pub c1_accepted : run_on 3 (machine c1_bytes []) 0 2 start ≡ run_end (Terminated (Over true)) 3 (config 2 1 0)
unfolding plain_table
c1_accepted = first promises.c1_plain_runs

pub c1_spent : run_on 2 (machine c1_bytes []) 0 2 start ≡ run_end Spent 2 (config 2 1 0)
unfolding plain_table
c1_spent = first (others promises.c1_plain_runs)

-- BUILDING IT: 468 bytes, of which the first is 24, and the choice of a match shows in the one with offset 360
c1_computed :
    ((room : ℕ) → build_refusal empty_grammar room ≡ refuse_if (ltb room 468) (refusal 13 468)) × (built_length empty_grammar ≡ 468)
    × (byte (built Whole empty_grammar) 0 ≡ 24) × (byte (built Whole empty_grammar) 360 ≡ 0) × (byte (built Leading empty_grammar) 360 ≡ 1)
unfolding build_refusal
    little_endian pair_bytes header rule_bytes rules_bytes encode or_else refuse_if
    Grammar.rules Grammar.kind_of Grammar.b_of Grammar.c_of Grammar.expression_by Grammar.expression Grammar.range_of Grammar.rule_right Grammar.grammar_rules_from Grammar.grammar_refusal
    cuts_at cut_from cut class_of class_count class_in
    rows by_state select on_byte row_zero class_inside rows_at made
    symbols_of built_rules rules_made map_made parts built built_length
c1_computed = (λ n. refl, refl, refl, refl, refl)

pub c1_building : (room : ℕ) → build_refusal empty_grammar room ≡ refuse_if (ltb room 468) (refusal 13 468)
c1_building = c1_computed.0

pub c1_length : built_length empty_grammar ≡ 468
c1_length = c1_computed.1

pub c1_first : byte (built Whole empty_grammar) 0 ≡ 24
c1_first = c1_computed.2

-- with one byte of room; and with enough, whatever stood there
pub c1_unbuilt : (b : ℕ) → BuildSays Whole empty_grammar (Err (refusal 13 468)) (b ∷ []) (b ∷ [])
unfolding BuildSays BuildAs refuse_if
c1_unbuilt b = rw (c1_building 1) (refl, refl)

abbrev pub c1_left : Matching → (a : List ℕ) → List ℕ
c1_left how a = built how empty_grammar ++ drop 468 a

pub c1_built : (how : Matching) (a : List ℕ) → 468 ≤ length a → BuildSays how empty_grammar (Ok 468) a (c1_left how a)
unfolding BuildSays BuildAs refuse_if
c1_built how a h = rw (c1_building (length a), le-ltb _ _ h, c1_length) (refl, refl)

c1_long : (how : Matching) → length (built how empty_grammar) ≡ 468
c1_long how = promises.image_length how empty_grammar ∙ c1_length

pub c1_whole : (a : List ℕ) → byte (c1_left Whole a) 360 ≡ 0
c1_whole a = get_or-append (built Whole empty_grammar) (drop 468 a) 0 360 (omega (arith, c1_long Whole)) ∙ c1_computed.3

pub c1_leading : (a : List ℕ) → byte (c1_left Leading a) 360 ≡ 1
c1_leading a = get_or-append (built Leading empty_grammar) (drop 468 a) 0 360 (omega (arith, c1_long Leading)) ∙ c1_computed.4

pub c1_after : (how : Matching) (a : List ℕ) → byte (c1_left how a) 468 ≡ byte a 468
c1_after how a = rw (c1_long how) at (get_or-append-add (built how empty_grammar) (drop 468 a) 0 0) ∙ get_or-drop 468 a 0 0
