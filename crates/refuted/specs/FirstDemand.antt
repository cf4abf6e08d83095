-- Wrong neighbours of the promises of FirstDemand.antt, each under its promise's name, with what is wrong in it. Assumes nothing: each is a type, and proofs/ has a proof that nothing is of it.
use Rattle.std.specs.Prelude.{◌≡◌, List, [], ◌∷◌, ◌++◌, ◌↔◌, ℕ, ◌+◌, ◌-◌, ◌*◌, length, take, drop, replicate}
use Rattle.refusal.specs.First.{refusal}
use Rattle.image.specs.Refusals.{image_refusal, capture_refusal}
use Rattle.image.specs.Conditions.{ImageRow, CaptureRow}
use Rattle.machine.specs.Run.{how_many}
use Rattle.image.specs.Image.{machine}
use Rattle.machine.specs.Replies.{refusal_reply}
use Rattle.simulator.specs.Answers.{Judged}
use Rattle.simulator.specs.Calls.{judge_refusal, JudgeSays}
use Rattle.simulator.specs.Conditions.{JudgingRow}
use Rattle.simulator.specs.Replies.{of_judged}
use Rattle.interpreter.specs.Answers.{Ran}
use Rattle.interpreter.specs.Calls.{run_refusal, RunSays}
use Rattle.interpreter.specs.Conditions.{RunningRow}
use Rattle.interpreter.specs.Replies.{of_ran}
use Rattle.builder.specs.declared.Matching.{Matching}
use Rattle.builder.specs.Answers.{Built}
use Rattle.grammar.specs.Grammar.{Inverted, grammar_refusal}
use Rattle.grammar.specs.Conditions.{GrammarRuleRight, GrammarRow}
use Rattle.builder.specs.Conditions.{BuildingRow}
use Rattle.builder.specs.Image.{built, built_length}
use Rattle.builder.specs.Calls.{build_refusal, BuildSays}
use Rattle.builder.specs.Replies.{of_built}
use Rattle.answer_line.specs.Line.{refusal_line, Lined}
use Rattle.answer.specs.Input.{input_refusal, input_grammar, input_capture}
use Rattle.answer.specs.Conditions.{InputRow, AnsweringRow}
use Rattle.grammar_judge.specs.Calls.{Lent, lent, SameRoom, SameCells}
use Rattle.answer.specs.Calls.{answer_refusal, AnswerSays}

-- number and place swapped
abbrev pub ImageRefused : Type 0
ImageRefused = (bs : List ℕ) (n p : ℕ) → (image_refusal bs ≡ refusal n p) ↔ ImageRow bs p n

-- the place is the rule's number, not its offset
abbrev pub GrammarRefused : Type 0
GrammarRefused = (gs : List ℕ) (n p : ℕ) → (grammar_refusal gs ≡ refusal n p) ↔ GrammarRow gs n (4 * p)

-- the longest capture is refused: the limit is one byte lower
abbrev pub CaptureRefused : Type 0
CaptureRefused = (bs : List ℕ) (long n p : ℕ) → (capture_refusal bs long ≡ refusal n p) ↔ CaptureRow bs (long + 1) n p

-- notes and work cells exchanged
abbrev pub JudgingRefused : Type 0
JudgingRefused = (bs cs : List ℕ) (notes work n p : ℕ) → (judge_refusal bs cs notes work ≡ refusal n p) ↔ JudgingRow bs cs work notes n p

-- one cell is refused, as none is
abbrev pub RunningRefused : Type 0
RunningRefused = (bs cs : List ℕ) (cells n p : ℕ) → (run_refusal bs cs (cells + 1) ≡ refusal n p) ↔ RunningRow bs cs cells n p

-- a buffer that is one byte too short will do
abbrev pub BuildingRefused : Type 0
BuildingRefused =
    (how : Matching) (gs : List ℕ) (room n p : ℕ) → (build_refusal gs room ≡ refusal n p) ↔ BuildingRow how gs (room + 1) n p

-- a byte after the capture is passed over
abbrev pub InputRefused : Type 0
InputRefused = (xs : List ℕ) (n p : ℕ) → (input_refusal (xs ++ (0 ∷ [])) ≡ refusal n p) ↔ InputRow xs n p

-- notes and work cells exchanged
abbrev pub AnsweringRefused : Type 0
AnsweringRefused =
    (xs : List ℕ) (x : Lent) (n p : ℕ) →
    (answer_refusal xs x ≡ refusal n p) ↔ AnsweringRow xs (lent x.image x.work x.notes) n p

-- whatever the rule's last byte is: the premise that it is 0 is dropped
abbrev pub InvertedLegal : Type 0
InvertedLegal =
    (gs : List ℕ) (k : ℕ) → Inverted gs k → GrammarRuleRight gs k × (grammar_refusal gs ≡ refusal 12 (4 * k) → ⊥)

-- the work cells are set to 0, as by a call that answers
abbrev pub JudgeRefuses : Type 0
JudgeRefuses =
    (bs cs : List ℕ) (r : Judged) (a a_now b b_now : List ℕ) → JudgeSays bs cs r a a_now b b_now →
    ((judge_refusal bs cs (length a) (length b)).number ≡ 0 → ⊥) →
    (of_judged r ≡ refusal_reply (judge_refusal bs cs (length a) (length b))) × (a_now ≡ a) × (b_now ≡ replicate (length b) 0)

-- the cells are set to 0, as by a call that answers
abbrev pub RunRefuses : Type 0
RunRefuses =
    (bs cs : List ℕ) (budget : ℕ) (r : Ran) (a a_now : List ℕ) → RunSays bs cs budget r a a_now →
    ((run_refusal bs cs (length a)).number ≡ 0 → ⊥) →
    (of_ran r ≡ refusal_reply (run_refusal bs cs (length a))) × (a_now ≡ replicate (length a) 0)

-- as much of the image as there is room for is written
abbrev pub BuildRefuses : Type 0
BuildRefuses =
    (how : Matching) (gs : List ℕ) (r : Built) (a a_now : List ℕ) → BuildSays how gs r a a_now → ((build_refusal gs (length a)).number ≡ 0 → ⊥) →
    (of_built r ≡ refusal_reply (build_refusal gs (length a))) × (a_now ≡ take (length a) (built how gs))

-- the line tells the input's refusal, not that of its grammar or of a buffer
abbrev pub AnswerRefuses : Type 0
AnswerRefuses =
    (xs : List ℕ) (x y : Lent) (out out_now : List ℕ) (n : ℕ) → AnswerSays xs x y out out_now n →
    ((answer_refusal xs x).number ≡ 0 → ⊥) → (y ≡ x) × Lined (refusal_line (input_refusal xs)) out out_now n

-- notes and work cells exchanged
abbrev pub JudgeDetermined : Type 0
JudgeDetermined =
    (bs cs a b : List ℕ) (r s : Judged) (x y x' y' : List ℕ) → JudgeSays bs cs r a x b y → JudgeSays bs cs s a x' b y' →
    (r ≡ s) × (x ≡ y') × (y ≡ x')

-- whatever the budget: the premise that it is the same is dropped
abbrev pub RunDetermined : Type 0
RunDetermined =
    (bs cs a : List ℕ) (n m : ℕ) (r s : Ran) (x y : List ℕ) → RunSays bs cs n r a x → RunSays bs cs m s a y → (r ≡ s) × (x ≡ y)

-- by either choice of a match: the premise that it is the same is dropped
abbrev pub BuildDetermined : Type 0
BuildDetermined =
    (how other : Matching) (gs a : List ℕ) (r s : Built) (x y : List ℕ) → BuildSays how gs r a x → BuildSays other gs s a y →
    (r ≡ s) × (x ≡ y)

-- whatever the out buffer is: the premise that it is the same is dropped
abbrev pub AnswerDetermined : Type 0
AnswerDetermined =
    (xs : List ℕ) (x y z : Lent) (out p out' q : List ℕ) (n m : ℕ) → AnswerSays xs x y out p n → AnswerSays xs x z out' q m →
    (y ≡ z) × (p ≡ q) × (n ≡ m)

-- one work cell more than the call writes
abbrev pub JudgeIndependent : Type 0
JudgeIndependent =
    (bs cs a b a' b' : List ℕ) (r s : Judged) (x y x' y' : List ℕ) → length a ≡ length a' → length b ≡ length b' →
    JudgeSays bs cs r a x b y → JudgeSays bs cs s a' x' b' y' →
    (r ≡ s)
    × ((judge_refusal bs cs (length a) (length b)).number ≡ 0 →
    (take (how_many (machine bs cs)) x ≡ take (how_many (machine bs cs)) x')
    × (take (how_many (machine bs cs) + 1) y ≡ take (how_many (machine bs cs) + 1) y'))

-- also where the call is refused
abbrev pub RunIndependent : Type 0
RunIndependent =
    (bs cs : List ℕ) (n : ℕ) (r s : Ran) (a a' x y : List ℕ) → length a ≡ length a' → RunSays bs cs n r a x → RunSays bs cs n s a' y →
    (r ≡ s) × (x ≡ y)

-- one byte more than the image has
abbrev pub BuildIndependent : Type 0
BuildIndependent =
    (how : Matching) (gs : List ℕ) (r s : Built) (a a' x y : List ℕ) → length a ≡ length a' → BuildSays how gs r a x → BuildSays how gs s a' y →
    (r ≡ s) × ((build_refusal gs (length a)).number ≡ 0 → take (built_length gs + 1) x ≡ take (built_length gs + 1) y)

-- one byte after the line too
abbrev pub AnswerIndependent : Type 0
AnswerIndependent =
    (xs : List ℕ) (x y z w : Lent) (out p out' q : List ℕ) (n m : ℕ) → SameRoom x z → length out ≡ length out' → AnswerSays xs x y out p n →
    AnswerSays xs z w out' q m →
    (n ≡ m) × (take (n + 1) p ≡ take (n + 1) q) × ((answer_refusal xs x).number ≡ 0 → SameCells (input_grammar xs) (input_capture xs) y w)

-- the last work cell that the call writes is unchanged too
abbrev pub JudgeLater : Type 0
JudgeLater =
    (bs cs : List ℕ) (r : Judged) (a a_now b b_now : List ℕ) → JudgeSays bs cs r a a_now b b_now →
    (drop (how_many (machine bs cs)) a_now ≡ drop (how_many (machine bs cs)) a)
    × (drop (how_many (machine bs cs) - 1) b_now ≡ drop (how_many (machine bs cs) - 1) b)
