-- THE FIRST DEMAND: every call on every input returns; a bad image, grammar, capture or lent slice is refused by a number and a place; a refused call changes no lent cell. Assumes nothing: each claim is a type, and proofs/ has its proof.
-- That every call returns is part of every function's proof, and no public call has a `requires`. A claim about a call is about all that its contract (JudgeSays, RunSays, BuildSays, AnswerSays) lets it answer and leave.
use Rattle.std.specs.Prelude.{◌≡◌, List, ◌↔◌, ℕ, ◌*◌, length, take, drop}
use Rattle.refusal.specs.First.{refusal}
use Rattle.image.specs.Refusals.{image_refusal, capture_refusal}
use Rattle.image.specs.Conditions.{ImageRow, CaptureRow}
use Rattle.machine.specs.Run.{how_many}
use Rattle.image.specs.Image.{machine}
use Rattle.machine.specs.Replies.{refusal_reply}
use Rattle.simulator.specs.Answers.{Judged}
use Rattle.simulator.specs.Calls.{judge_refusal, JudgeSays}
use Rattle.simulator.specs.Conditions.{JudgingRow}
use Rattle.simulator.specs.Replies.{of_judged}
use Rattle.interpreter.specs.Answers.{Ran}
use Rattle.interpreter.specs.Calls.{run_refusal, RunSays}
use Rattle.interpreter.specs.Conditions.{RunningRow}
use Rattle.interpreter.specs.Replies.{of_ran}
use Rattle.builder.specs.declared.Matching.{Matching}
use Rattle.builder.specs.Answers.{Built}
use Rattle.grammar.specs.Grammar.{Inverted, grammar_refusal}
use Rattle.grammar.specs.Conditions.{last_of, GrammarRuleRight, GrammarRow}
use Rattle.builder.specs.Conditions.{BuildingRow}
use Rattle.builder.specs.Image.{built_length}
use Rattle.builder.specs.Calls.{build_refusal, BuildSays}
use Rattle.builder.specs.Replies.{of_built}
use Rattle.answer_line.specs.Line.{refusal_line, Lined}
use Rattle.answer.specs.Input.{input_refusal, input_grammar, input_capture}
use Rattle.answer.specs.Conditions.{InputRow, AnsweringRow}
use Rattle.grammar_judge.specs.Calls.{Lent, SameRoom, SameCells}
use Rattle.answer.specs.Calls.{answer_refusal, AnswerSays}

-- A BAD IMAGE OR GRAMMAR IS REFUSED BY A NUMBER AND A PLACE, those of the table's row whose conditions it meets; 0 at 0, no refusal, exactly if all that the scope asks holds
abbrev pub ImageRefused : Type 0
ImageRefused = (bs : List ℕ) (n p : ℕ) → (image_refusal bs ≡ refusal n p) ↔ ImageRow bs n p

abbrev pub GrammarRefused : Type 0
GrammarRefused = (gs : List ℕ) (n p : ℕ) → (grammar_refusal gs ≡ refusal n p) ↔ GrammarRow gs n p

-- SO IS A BAD CAPTURE, by its length, after what its image is refused for: by the call `cells`, and by every call that is given both before it looks at what is lent
abbrev pub CaptureRefused : Type 0
CaptureRefused = (bs : List ℕ) (long n p : ℕ) → (capture_refusal bs long ≡ refusal n p) ↔ CaptureRow bs long n p

-- SO IS A BAD LENT SLICE OR INPUT, by the call that is given it: by judging, by the plain run, by building, by the program's function
abbrev pub JudgingRefused : Type 0
JudgingRefused = (bs cs : List ℕ) (notes work n p : ℕ) → (judge_refusal bs cs notes work ≡ refusal n p) ↔ JudgingRow bs cs notes work n p

abbrev pub RunningRefused : Type 0
RunningRefused = (bs cs : List ℕ) (cells n p : ℕ) → (run_refusal bs cs cells ≡ refusal n p) ↔ RunningRow bs cs cells n p

abbrev pub BuildingRefused : Type 0
BuildingRefused =
    (how : Matching) (gs : List ℕ) (room n p : ℕ) → (build_refusal gs room ≡ refusal n p) ↔ BuildingRow how gs room n p

abbrev pub InputRefused : Type 0
InputRefused = (xs : List ℕ) (n p : ℕ) → (input_refusal xs ≡ refusal n p) ↔ InputRow xs n p

abbrev pub AnsweringRefused : Type 0
AnsweringRefused = (xs : List ℕ) (x : Lent) (n p : ℕ) → (answer_refusal xs x ≡ refusal n p) ↔ AnsweringRow xs x n p

-- A RANGE WITH ITS LOW BYTE ABOVE ITS HIGH BYTE IS LEGAL, whatever rules stand beside it: it is right, and never the rule that refusal 12 blames
abbrev pub InvertedLegal : Type 0
InvertedLegal =
    (gs : List ℕ) (k : ℕ) → Inverted gs k → last_of gs k ≡ 0 → GrammarRuleRight gs k × (grammar_refusal gs ≡ refusal 12 (4 * k) → ⊥)

-- A REFUSED CALL TELLS NUMBER AND PLACE AND NO VERDICT, AND CHANGES NO LENT CELL
abbrev pub JudgeRefuses : Type 0
JudgeRefuses =
    (bs cs : List ℕ) (r : Judged) (a a_now b b_now : List ℕ) → JudgeSays bs cs r a a_now b b_now →
    ((judge_refusal bs cs (length a) (length b)).number ≡ 0 → ⊥) →
    (of_judged r ≡ refusal_reply (judge_refusal bs cs (length a) (length b))) × (a_now ≡ a) × (b_now ≡ b)

abbrev pub RunRefuses : Type 0
RunRefuses =
    (bs cs : List ℕ) (budget : ℕ) (r : Ran) (a a_now : List ℕ) → RunSays bs cs budget r a a_now →
    ((run_refusal bs cs (length a)).number ≡ 0 → ⊥) → (of_ran r ≡ refusal_reply (run_refusal bs cs (length a))) × (a_now ≡ a)

abbrev pub BuildRefuses : Type 0
BuildRefuses =
    (how : Matching) (gs : List ℕ) (r : Built) (a a_now : List ℕ) → BuildSays how gs r a a_now → ((build_refusal gs (length a)).number ≡ 0 → ⊥) →
    (of_built r ≡ refusal_reply (build_refusal gs (length a))) × (a_now ≡ a)

abbrev pub AnswerRefuses : Type 0
AnswerRefuses =
    (xs : List ℕ) (x y : Lent) (out out_now : List ℕ) (n : ℕ) → AnswerSays xs x y out out_now n →
    ((answer_refusal xs x).number ≡ 0 → ⊥) → (y ≡ x) × Lined (refusal_line (answer_refusal xs x)) out out_now n

-- ANSWER AND LENT CELLS FOLLOW FROM THE INPUT ALONE
abbrev pub JudgeDetermined : Type 0
JudgeDetermined =
    (bs cs a b : List ℕ) (r s : Judged) (x y x' y' : List ℕ) → JudgeSays bs cs r a x b y → JudgeSays bs cs s a x' b y' →
    (r ≡ s) × (x ≡ x') × (y ≡ y')

abbrev pub RunDetermined : Type 0
RunDetermined =
    (bs cs a : List ℕ) (n : ℕ) (r s : Ran) (x y : List ℕ) → RunSays bs cs n r a x → RunSays bs cs n s a y → (r ≡ s) × (x ≡ y)

abbrev pub BuildDetermined : Type 0
BuildDetermined =
    (how : Matching) (gs a : List ℕ) (r s : Built) (x y : List ℕ) → BuildSays how gs r a x → BuildSays how gs s a y → (r ≡ s) × (x ≡ y)

abbrev pub AnswerDetermined : Type 0
AnswerDetermined =
    (xs : List ℕ) (x y z : Lent) (out p q : List ℕ) (n m : ℕ) → AnswerSays xs x y out p n → AnswerSays xs x z out q m →
    (y ≡ z) × (p ≡ q) × (n ≡ m)

-- EARLIER CONTENTS DON'T MATTER: whatever stood in slices of these lengths, the answer is the same, and so is every cell that the call writes
abbrev pub JudgeIndependent : Type 0
JudgeIndependent =
    (bs cs a b a' b' : List ℕ) (r s : Judged) (x y x' y' : List ℕ) → length a ≡ length a' → length b ≡ length b' →
    JudgeSays bs cs r a x b y → JudgeSays bs cs s a' x' b' y' →
    (r ≡ s)
    × ((judge_refusal bs cs (length a) (length b)).number ≡ 0 →
    (take (how_many (machine bs cs)) x ≡ take (how_many (machine bs cs)) x')
    × (take (how_many (machine bs cs)) y ≡ take (how_many (machine bs cs)) y'))

abbrev pub RunIndependent : Type 0
RunIndependent =
    (bs cs : List ℕ) (n : ℕ) (r s : Ran) (a a' x y : List ℕ) → length a ≡ length a' → RunSays bs cs n r a x → RunSays bs cs n s a' y →
    (r ≡ s) × ((run_refusal bs cs (length a)).number ≡ 0 → x ≡ y)

abbrev pub BuildIndependent : Type 0
BuildIndependent =
    (how : Matching) (gs : List ℕ) (r s : Built) (a a' x y : List ℕ) → length a ≡ length a' → BuildSays how gs r a x → BuildSays how gs s a' y →
    (r ≡ s) × ((build_refusal gs (length a)).number ≡ 0 → take (built_length gs) x ≡ take (built_length gs) y)

abbrev pub AnswerIndependent : Type 0
AnswerIndependent =
    (xs : List ℕ) (x y z w : Lent) (out p out' q : List ℕ) (n m : ℕ) → SameRoom x z → length out ≡ length out' → AnswerSays xs x y out p n →
    AnswerSays xs z w out' q m →
    (n ≡ m) × (take n p ≡ take n q) × ((answer_refusal xs x).number ≡ 0 → SameCells (input_grammar xs) (input_capture xs) y w)

-- LATER CELLS ARE UNCHANGED, whatever the call says
abbrev pub JudgeLater : Type 0
JudgeLater =
    (bs cs : List ℕ) (r : Judged) (a a_now b b_now : List ℕ) → JudgeSays bs cs r a a_now b b_now →
    (drop (how_many (machine bs cs)) a_now ≡ drop (how_many (machine bs cs)) a)
    × (drop (how_many (machine bs cs)) b_now ≡ drop (how_many (machine bs cs)) b)
