-- By a grammar that passes the check for left recursion no call says looping: judging, the program, and the report on a bundle. Assumes nothing.
use Rattle.std.specs.Prelude.{Err, Ok}
use mathlib.Core.Path.{◌≡◌, refl, ap, subst, ◌∙◌}
use mathlib.Core.Bool.{cond}
use mathlib.Core.List.{List, [], ◌∷◌}
use mathlib.Core.Option.{Option}
use Prim.Native.Nat.{ℕ, zero, suc, ◌+◌, ◌<◌}
use native.Mathlib.Omega.{arith}
use lib.Dec.{eqb}
use lib.ListN.{take, drop}
use lib.Seq.{get_or-drop}
use Rattle.codec.specs.Bytes.{Bytes}
use Rattle.machine.specs.declared.Config.{Config}
use Rattle.machine.specs.declared.Verdict.{Verdict}
use Rattle.machine.specs.declared.Verdict.TheVariants.{Accepted, Ended, Stuck, Looping, Halted}
use Rattle.machine.specs.Replies.{verdict_number}
use Rattle.simulator.specs.Answers.{Judged}
use Rattle.simulator.specs.Calls.{judgement, JudgeSays}
use Rattle.simulator.proofs.JudgingRight.{looping_exact}
use Rattle.bundle.specs.declared.Totals.{Totals}
use Rattle.bundle.specs.Answers as answers
use Rattle.bundle.specs.Format.{offset, long, capture}
use Rattle.bundle.specs.Report.{sum, gives, totals}
use Rattle.bundle.specs.Calls.{InOrder, done, next, BundleSays}
use Rattle.bundle.proofs.BundleSaid.{reported, report_parts}
use Rattle.grammar.specs.Grammar.{rules, expression}
use Rattle.grammar.specs.Parsing.{Parses}
use Rattle.grammar.proofs.GrammarGood.{good_grammar}
use Rattle.grammar.proofs.ConditionsMet.{grammar_check}
use Rattle.builder.specs.declared.Matching.{Matching}
use Rattle.builder.specs.declared.Matching.TheVariants.{Whole}
use Rattle.builder.specs.Image.{built}
use Rattle.recursion.specs.Computed.{leads_on, recursion_refusal}
use Rattle.recursion.proofs.ClosureRight.{leads_on_exact}
use Rattle.recursion.proofs.RecursionRows.{passes}
use Rattle.recursion_theory.specs.NeverLoops.{NeverLoops}
use Rattle.recursion_theory.proofs.ParsesAll.{results}
use Rattle.recursion_theory.proofs.NeverLoops.{never_loops}
use Rattle.grammar_judge.specs.Calls.{Lent}
use Rattle.grammar_judge.specs.TwoCalls.{AsParsed}
use Rattle.answer_line.specs.Line.{answer_line}
use Rattle.answer.specs.Input.{input_grammar, input_capture}
use Rattle.answer.specs.Calls.{answer_refusal, InputSays}
use Rattle.answer.proofs.Answered.{line_parsed}

-- A GRAMMAR THAT PASSES
pub never_looping : (gs cs : List ℕ) → (recursion_refusal gs).number ≡ 0 → Bytes cs → NeverLoops gs cs
never_looping gs cs none bytes =
    let p = passes gs none in
    let good = ap (λ f. f.number) ((grammar_check gs).accepted p.right) in
    never_loops gs cs good bytes (leads_on gs) (λ k l h g. leads_on_exact gs good k l h) p.none_back

-- every rule has a result, at every place of any list of numbers
pub all_results :
    (gs : List ℕ) → (recursion_refusal gs).number ≡ 0 → (cs : List ℕ) (k i : ℕ) → k < rules gs → (o : Option ℕ) × Parses (expression gs) cs k i o
all_results gs none =
    let p = passes gs none in
    let good = ap (λ f. f.number) ((grammar_check gs).accepted p.right) in
    results (expression gs) (rules gs) (good_grammar gs good).parts (leads_on gs) (λ k l h g. leads_on_exact gs good k l h) p.none_back

-- it has a rule to start from
first_rule : (gs : List ℕ) → (recursion_refusal gs).number ≡ 0 → 0 < rules gs
first_rule gs none = omega (arith, (good_grammar gs (ap (λ f. f.number) ((grammar_check gs).accepted (passes gs none).right))).rules_least)

pub judged_not_looping :
    (how : Matching) (gs cs a a_now b b_now : List ℕ) (v : Verdict) (n : ℕ) (d : Config) → (recursion_refusal gs).number ≡ 0 → Bytes cs →
    JudgeSays (built how gs) cs (Ok (judgement v n d)) a a_now b b_now → v ≡ Looping → ⊥
judged_not_looping how gs cs a a_now b b_now v n d none bytes says is =
    (never_looping gs cs none bytes).terminates how ((looping_exact (built how gs) cs a a_now b b_now v n d bytes says).0 is)

-- parts of bytes are bytes
bytes_drop : (o : ℕ) (xs : List ℕ) → Bytes xs → Bytes (drop o xs)
bytes_drop o xs bytes i = rw (get_or-drop o xs i 0) (bytes (o + i))

bytes_take : (l : ℕ) (xs : List ℕ) → Bytes xs → Bytes (take l xs)
bytes_take zero xs bytes i = omega arith
bytes_take (suc l) [] bytes i = bytes i
bytes_take (suc l) (x ∷ xs) bytes zero = bytes 0
bytes_take (suc l) (x ∷ xs) bytes (suc i) = bytes_take l xs (λ j. bytes (suc j)) i

capture_bytes : (xs : List ℕ) (i : ℕ) → Bytes xs → Bytes (capture xs i)
unfolding capture
capture_bytes xs i bytes = bytes_take (long xs i) (drop (offset xs i) xs) (bytes_drop (offset xs i) xs bytes)

-- THE PROGRAM'S LINE
pub line_not_looping :
    (xs : List ℕ) (x y : Lent) (line : List ℕ) → (recursion_refusal (input_grammar xs)).number ≡ 0 → Bytes xs → (answer_refusal xs x).number ≡ 0 →
    InputSays xs x y line → (v : Verdict) × (n : ℕ) × (d : Config) × (line ≡ answer_line v n d) × (v ≡ Looping → ⊥)
line_not_looping xs x y line none bytes unrefused says =
    let l = line_parsed xs x y line bytes unrefused says in
    let r = all_results (input_grammar xs) none (input_capture xs) 0 0 (first_rule (input_grammar xs) none) in
    (l.verdict, l.readings, l.end, l.says, λ is. subst (AsParsed Whole (input_grammar xs) (input_capture xs)) is l.parsed r.0 r.1)

-- THE REPORT ON A BUNDLE
module _ (how : Matching) (gs xs : List ℕ) (none : (recursion_refusal gs).number ≡ 0) (bytes : Bytes xs) where
  gives_none : (cs a a_now b b_now : List ℕ) (r : Judged) → Bytes cs → JudgeSays (built how gs) cs r a a_now b b_now → gives Looping r ≡ 0
  unfolding gives verdict_number
  gives_none cs a a_now b b_now (Err f) all says = refl
  gives_none cs a a_now b b_now (Ok j) all says = other j.verdict (judged_not_looping how gs cs a a_now b b_now j.verdict j.readings j.end none all says)
    where
      other : (v : Verdict) → (v ≡ Looping → ⊥) → ◌≡◌ {A = ℕ} (cond (eqb (verdict_number v) (verdict_number Looping)) 1 0) 0
      other Accepted h = refl
      other Ended h = refl
      other Stuck h = refl
      other Looping h = absurd (h refl)
      other Halted h = refl

  sum_none : (i : ℕ) (rs : List Judged) (a a_now b b_now : List ℕ) → InOrder (built how gs) xs i rs a a_now b b_now → sum (gives Looping) rs ≡ 0
  unfolding sum
  sum_none i [] a a_now b b_now done = refl
  sum_none i (r ∷ rs) a a_now b b_now (next {a_then = a_then} {b_then = b_then} below says rest) =
      let first = gives_none (capture xs i) a a_then b b_then r (capture_bytes xs i bytes) says in
      let others = sum_none (suc i) rs a_then a_now b_then b_now rest in
      omega arith

pub bundle_not_looping :
    (how : Matching) (gs xs : List ℕ) (n : ℕ) (t : Totals) (l m a x b y : List ℕ) → (recursion_refusal gs).number ≡ 0 → Bytes xs →
    BundleSays (built how gs) xs (answers.lines n t) l m a x b y → t.looping ≡ 0
unfolding totals
bundle_not_looping how gs xs n t l m a x b y none bytes says =
    let j = reported (built how gs) xs n t l m a x b y says in
    ap (λ (u : Totals). u.looping) (report_parts _ _ t _ j.answers).1 ∙ sum_none how gs xs none bytes 0 j.lines a x b y j.judged
