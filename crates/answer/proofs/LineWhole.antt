-- The answer's line is whole, follows from the input, and for no input is refused 14 0. Assumes nothing.
use mathlib.Core.Path.{◌≡◌, sym, ap, ◌∙◌}
use mathlib.Core.List.{List, [], ◌∷◌, ◌++◌}
use Prim.Native.Nat.{ℕ, zero, suc, ◌≤◌}
use lib.ListN.{length, drop}
use native.Mathlib.Nat.{le_trans}
use Rattle.refusal.specs.declared.Refusal.{Refusal}
use Rattle.grammar_judge.specs.Calls.{Lent}
use Rattle.grammar_judge.proofs.Determined.{judged_determined}
use Rattle.answer_line.specs.Line.{line_feed, field, refused_word, refusal_line, written, max_line, Lined}
use Rattle.answer_line.proofs.Writing.{written_whole}
use Rattle.answer.specs.Input.{input_refusal}
use Rattle.answer.specs.Calls.{judged_line, BuiltAndJudged, PartsAs, PartsSay, InputAs, InputSays, AnswerSays}

pub line_whole :
    (line buffer buffer_now : List ℕ) (count : ℕ) → Lined line buffer buffer_now count → max_line ≤ length buffer →
    (count ≡ length line) × (buffer_now ≡ line ++ drop (length line) buffer)
line_whole line buffer now count h room =
    let w = written_whole h.holds (le_trans h.short room) in
    (w.counted, w.bytes)

-- THE SAME ANSWER, whoever gives it
record Same (y z : Lent) (l k : List ℕ) : Type 0 where
  lent_same : y ≡ z
  line_same : l ≡ k

judges_same : (gs cs : List ℕ) (x y z : Lent) (l k : List ℕ) → BuiltAndJudged gs cs x y l → BuiltAndJudged gs cs x z k → Same y z l k
judges_same gs cs x y z l k a b =
    let (same, left) = judged_determined gs cs x y z a.judged b.judged a.image_now b.image_now a.judges b.judges in
    record { lent_same = left; line_same = a.says ∙ ap judged_line same ∙ sym b.says }

parts_same :
    (n : ℕ) (f : Refusal) (gs cs : List ℕ) (x y z : Lent) (l k : List ℕ) → PartsAs n f gs cs x y l → PartsAs n f gs cs x z k → Same y z l k
unfolding PartsAs
parts_same zero f gs cs x y z l k a b = judges_same gs cs x y z l k a b
parts_same (suc n) f gs cs x y z l k a b = record { lent_same = a.kept ∙ sym b.kept; line_same = a.says ∙ sym b.says }

input_same :
    (n : ℕ) (f : Refusal) (xs : List ℕ) (x y z : Lent) (l k : List ℕ) → InputAs n f xs x y l → InputAs n f xs x z k → Same y z l k
unfolding InputAs PartsSay
input_same zero f xs x y z l k a b = parts_same _ _ _ _ x y z l k a b
input_same (suc n) f xs x y z l k a b = record { lent_same = a.kept ∙ sym b.kept; line_same = a.says ∙ sym b.says }

lined_same : (l k out p q : List ℕ) (n m : ℕ) → Lined l out p n → Lined k out q m → l ≡ k → (p ≡ q) × (n ≡ m)
lined_same l k out p q n m a b e =
    (a.holds.bytes ∙ ap (λ (t : List ℕ). written t out) e ∙ sym b.holds.bytes, cc (a.holds.counted, b.holds.counted))

pub answer_determined :
    (xs : List ℕ) (x y z : Lent) (out p q : List ℕ) (n m : ℕ) → AnswerSays xs x y out p n → AnswerSays xs x z out q m →
    (y ≡ z) × (p ≡ q) × (n ≡ m)
unfolding AnswerSays InputSays
answer_determined xs x y z out p q n m a b =
    let s = input_same _ _ xs x y z a.line b.line a.right b.right in
    let (bytes, count) = lined_same a.line b.line out p q n m a.lined b.lined s.line_same in
    (s.lent_same, bytes, count)

-- with no input at all the line is refused 14 0
pub unread_refused : (x y : Lent) (line : List ℕ) → InputSays [] x y line → line ≡ refused_word ++ field 14 ++ field 0 ++ (line_feed ∷ [])
unfolding InputSays InputAs input_refusal refusal_line
unread_refused x y line r = r.says
