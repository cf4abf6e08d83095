-- What the call's contract comes to where it refuses and where it answers; and that earlier contents don't matter. Assumes nothing.
use mathlib.Core.Path.{◌≡◌, refl, sym, ap, ◌∙◌}
use mathlib.Core.Bool.{Bool, true, false, cond}
use mathlib.Core.List.{List, [], ◌∷◌}
use Prim.Native.Nat.{ℕ, zero, suc, ◌+◌, ◌<◌, ◌≤◌, min}
use native.Mathlib.Nat.{min-le_left, min-le_right, le_of_suc-le-suc}
use native.Mathlib.Omega.{arith}
use lib.Dec.{eqb}
use lib.ListN.{length, take}
use lib.Seq.{get_or-drop}
use borrow.Author.Tests.{eqb-true, eqb-false}
use Rattle.refusal.specs.declared.Refusal.{Refusal}
use Rattle.codec.specs.Bytes.{byte}
use Rattle.refusal.specs.First.{or_else}
use Rattle.refusal.proofs.Refused.{neither}
use Rattle.simulator.specs.Answers.{Judged}
use Rattle.simulator.specs.Calls.{judge_refusal}
use Rattle.simulator.proofs.Answered.{judged_right}
use Rattle.grammar.specs.Grammar.{grammar_refusal}
use Rattle.builder.specs.declared.Matching.TheVariants.{Whole}
use Rattle.builder.specs.Image.{built}
use Rattle.grammar_judge.specs.Calls.{Lent, lent_refusal, SameRoom, SameCells}
use Rattle.grammar_judge.specs.TwoCalls.{Gets}
use Rattle.grammar_judge.proofs.Refusing.{parts_fine}
use Rattle.grammar_judge.proofs.TwoCallsHold.{gets}
use Rattle.grammar_judge.proofs.Determined.{judged_independent}
use Rattle.answer_line.specs.Line.{refusal_line, answer_line, written, Lined}
use Rattle.answer.specs.Input.{input_refusal, input_grammar, input_capture, capture_offset}
use Rattle.answer.specs.Calls.{judged_line, Refuses, BuiltAndJudged, PartsAs, PartsSay, answer_refusal, InputAs, InputSays, AnswerSays}
use Rattle.answer.specs.LineParsed.{LineParsed}

-- BY CASES of the first refusal: refused, or judged
input_refuses :
    (n : ℕ) (f : Refusal) (xs : List ℕ) (x y : Lent) (l : List ℕ) → (n ≡ 0 → ⊥) → InputAs n f xs x y l → Refuses f x y l
unfolding InputAs
input_refuses zero f xs x y l h s = absurd (h refl)
input_refuses (suc n) f xs x y l h s = s

input_parts :
    (n : ℕ) (f : Refusal) (xs : List ℕ) (x y : Lent) (l : List ℕ) → n ≡ 0 → InputAs n f xs x y l →
    PartsSay (input_grammar xs) (input_capture xs) x y l
unfolding InputAs
input_parts zero f xs x y l h s = s
input_parts (suc n) f xs x y l h s = absurd (omega arith)

parts_refuse :
    (n : ℕ) (f : Refusal) (gs cs : List ℕ) (x y : Lent) (l : List ℕ) → (n ≡ 0 → ⊥) → PartsAs n f gs cs x y l → Refuses f x y l
unfolding PartsAs
parts_refuse zero f gs cs x y l h s = absurd (h refl)
parts_refuse (suc n) f gs cs x y l h s = s

parts_judge : (n : ℕ) (f : Refusal) (gs cs : List ℕ) (x y : Lent) (l : List ℕ) → n ≡ 0 → PartsAs n f gs cs x y l → BuiltAndJudged gs cs x y l
unfolding PartsAs
parts_judge zero f gs cs x y l h s = s
parts_judge (suc n) f gs cs x y l h s = absurd (omega arith)

pub input_refused :
    (xs : List ℕ) (x y : Lent) (l : List ℕ) → ((answer_refusal xs x).number ≡ 0 → ⊥) → InputSays xs x y l → Refuses (answer_refusal xs x) x y l
unfolding InputSays PartsSay answer_refusal or_else
input_refused xs x y l h s = go (eqb (input_refusal xs).number 0) refl h
  where
    rest : Refusal
    rest = lent_refusal (input_grammar xs) (input_capture xs) x

    go :
        (t : Bool) → eqb (input_refusal xs).number 0 ≡ t → ((cond t rest (input_refusal xs)).number ≡ 0 → ⊥) →
        Refuses (cond t rest (input_refusal xs)) x y l
    go true q some =
        parts_refuse _ _ (input_grammar xs) (input_capture xs) x y l some
        (input_parts (input_refusal xs).number (input_refusal xs) xs x y l (eqb-true _ _ q) s)
    go false q some = input_refuses (input_refusal xs).number (input_refusal xs) xs x y l some s

pub input_judged :
    (xs : List ℕ) (x y : Lent) (l : List ℕ) → (answer_refusal xs x).number ≡ 0 → InputSays xs x y l →
    BuiltAndJudged (input_grammar xs) (input_capture xs) x y l
unfolding InputSays PartsSay answer_refusal
input_judged xs x y l h s =
    let (input, parts) = neither (input_refusal xs) _ (record { none_such = h }) in
    parts_judge _ _ (input_grammar xs) (input_capture xs) x y l parts.none_such
    (input_parts (input_refusal xs).number (input_refusal xs) xs x y l input.none_such s)

pub input_fine :
    (xs : List ℕ) (x : Lent) → (answer_refusal xs x).number ≡ 0 →
    ((grammar_refusal (input_grammar xs)).number ≡ 0)
    × ((judge_refusal (built Whole (input_grammar xs)) (input_capture xs) (length x.notes) (length x.work)).number ≡ 0)
unfolding answer_refusal
input_fine xs x e =
    parts_fine (input_grammar xs) (input_capture xs) _ _ _ (neither (input_refusal xs) _ (record { none_such = e })).1.none_such

-- THE LINE IN THE USER'S WORDS
capture_bytes : (xs : List ℕ) → ((i : ℕ) → byte xs i < 256) → (i : ℕ) → byte (input_capture xs) i < 256
unfolding input_capture
capture_bytes xs bytes i = rw (get_or-drop (capture_offset xs) xs i 0) (bytes (capture_offset xs + i))

judged_says : (j : Judged) {gs cs : List ℕ} (g : Gets Whole gs cs j) → judged_line j ≡ answer_line g.verdict g.readings g.end
unfolding judged_line
judged_says j g = rw g.answers

pub line_parsed :
    (xs : List ℕ) (x y : Lent) (l : List ℕ) → ((i : ℕ) → byte xs i < 256) → (answer_refusal xs x).number ≡ 0 → InputSays xs x y l →
    LineParsed (input_grammar xs) (input_capture xs) l
line_parsed xs x y l bytes no_refusal s =
    let j = input_judged xs x y l no_refusal s in
    let (good, judging) = input_fine xs x no_refusal in
    let r = judged_right (built Whole (input_grammar xs)) (input_capture xs) j.judged x.notes y.notes x.work y.work judging j.judges in
    let g = gets Whole (input_grammar xs) (input_capture xs) x.notes y.notes x.work y.work j.judged good (capture_bytes xs bytes) r in
    record {
      verdict = g.verdict;
      readings = g.readings;
      end = g.end;
      says = j.says ∙ judged_says j.judged g;
      parsed = g.parsed;
      only = g.only;
      few = g.few;
    }

-- EARLIER CONTENTS DON'T MATTER
module _ (xs : List ℕ) (x y z w : Lent) (room : SameRoom x z) (l k : List ℕ) (a : InputSays xs x y l) (b : InputSays xs z w k) where
  refusals_same : answer_refusal xs z ≡ answer_refusal xs x
  unfolding answer_refusal
  refusals_same = rw (room.image, room.notes, room.work)

  pub answered_independent : (answer_refusal xs x).number ≡ 0 → (l ≡ k) × SameCells (input_grammar xs) (input_capture xs) y w
  answered_independent no_refusal =
      let j = input_judged xs x y l no_refusal a in
      let i = input_judged xs z w k (ap (λ (f : Refusal). f.number) refusals_same ∙ no_refusal) b in
      let (same, cells) =
      judged_independent (input_grammar xs) (input_capture xs) x y z w room j.judged i.judged j.image_now i.image_now j.judges i.judges
      in
      (j.says ∙ ap judged_line same ∙ sym i.says, cells (input_fine xs x no_refusal).1)

  refused_independent : ((answer_refusal xs x).number ≡ 0 → ⊥) → l ≡ k
  refused_independent some =
      let r = input_refused xs x y l some a in
      let q = input_refused xs z w k (λ e. some (sym (ap (λ (f : Refusal). f.number) refusals_same) ∙ e)) b in
      r.says ∙ ap refusal_line (sym refusals_same) ∙ sym q.says

  pub line_independent : l ≡ k
  line_independent = go (eqb (answer_refusal xs x).number 0) refl
    where
      go : (t : Bool) → eqb (answer_refusal xs x).number 0 ≡ t → l ≡ k
      go true e = (answered_independent (eqb-true _ _ e)).0
      go false e = refused_independent (eqb-false _ _ e)

-- what a buffer holds of a text is the text's first bytes
held_first : (n : ℕ) (text buffer : List ℕ) → n ≤ length text → n ≤ length buffer → take n (written text buffer) ≡ take n text
unfolding written
held_first zero text buffer h l = refl
held_first (suc n) [] buffer h l = absurd (omega arith)
held_first (suc n) (c ∷ text) [] h l = absurd (omega arith)
held_first (suc n) (c ∷ text) (b ∷ buffer) h l =
    ap (λ (r : List ℕ). c ∷ r) (held_first n text buffer (le_of_suc-le-suc h) (le_of_suc-le-suc l))

lined_first : {line out out_now : List ℕ} {n : ℕ} → Lined line out out_now n → take n out_now ≡ take n line
lined_first {line} {out} {n = n} h =
    let text : n ≤ length line = rw h.holds.counted (min-le_left (length line) (length out)) in
    let room : n ≤ length out = rw h.holds.counted (min-le_right (length line) (length out)) in
    ap (take n) h.holds.bytes ∙ held_first n line out text room

pub answer_independent :
    (xs : List ℕ) (x y z w : Lent) (out p out' q : List ℕ) (n m : ℕ) → SameRoom x z → length out ≡ length out' → AnswerSays xs x y out p n →
    AnswerSays xs z w out' q m →
    (n ≡ m) × (take n p ≡ take n q) × ((answer_refusal xs x).number ≡ 0 → SameCells (input_grammar xs) (input_capture xs) y w)
unfolding AnswerSays
answer_independent xs x y z w out p out' q n m room long a b =
    let same = line_independent xs x y z w room a.line b.line a.right b.right in
    let counts : n ≡ m =
    a.lined.holds.counted
    ∙ ap (λ (l : List ℕ). min (length l) (length out)) same
    ∙ ap (min (length b.line)) long
    ∙ sym b.lined.holds.counted
    in
    let lines : take n p ≡ take n q =
    lined_first a.lined ∙ ap (take n) same ∙ ap (λ (k : ℕ). take k b.line) counts ∙ sym (lined_first b.lined)
    ∙ ap (λ (k : ℕ). take k q) (sym counts) in
    (counts, lines, λ no_refusal. (answered_independent xs x y z w room a.line b.line a.right b.right no_refusal).1)
