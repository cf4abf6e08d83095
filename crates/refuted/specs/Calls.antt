-- Wrong neighbours of the promises of Calls.antt, each under its promise's name, with what is wrong in it. Assumes nothing: each is a type, and proofs/ has a proof that nothing is of it.
use Rattle.std.specs.Prelude.{◌≡◌, List, ◌↔◌, ℕ, ◌+◌, ◌≤◌, length, get_or, take, Ok, Err}
use Rattle.codec.specs.Bytes.{Bytes}
use Rattle.refusal.specs.First.{refusal}
use Rattle.machine.specs.declared.Verdict.{Verdict}
use Rattle.machine.specs.Run.{how_many}
use Rattle.machine.specs.Replies.{verdict_number}
use Rattle.image.specs.Image.{machine}
use Rattle.image.specs.Conditions.{ImageRow, CaptureRow}
use Rattle.simulator.specs.Calls.{judge_refusal}
use Rattle.recursion.specs.LeftRecursion.{RecursionRow}
use Rattle.builder.specs.declared.Matching.{Matching}
use Rattle.builder.specs.declared.Matching.TheVariants.{Whole, Leading}
use Rattle.syntax.specs.Reading.{Refused as Unread, ReadSays}
use Rattle.grammar_judge.specs.Calls.{Lent, lent}
use Rattle.typed.specs.declared.left_recursion.RecursionFault.TheVariants.{Recursive}
use Rattle.typed.specs.Recursion.{TextRecursionSays}
use Rattle.typed.specs.TypedCalls.{TextSays}
use Rattle.sejimakpu.specs.Calls.{CheckTells, CellsTells, JudgeTells, RunTells, BuildTells, CheckRecursionTells, CheckTextRecursionTells, ReadGrammarTells, BuildTextTells, JudgeTextTells, JudgeBundleTells}

-- the verdict by a whole match, whatever the choice by which the image was built
abbrev pub TypedTold : Type 0
TypedTold =
    (how : Matching) (text grammar grammar_now image image_now capture notes notes_now work work_now : List ℕ) (returned : ℕ)
    (read counted answer : List ℕ) (v : Verdict) → Bytes capture → ReadGrammarTells text grammar grammar_now 0 read →
    BuildTells how (take (get_or read 2 0) grammar_now) image image_now 0 counted →
    JudgeTells (take (get_or counted 2 0) image_now) capture notes notes_now work work_now returned answer →
    (get_or answer 1 0 ≡ verdict_number v) ↔ ((returned ≡ 0) × TextSays Whole text capture v)

-- by a leading match, which is the default of building from a grammar's bytes
abbrev pub BuiltTextTold : Type 0
BuiltTextTold =
    (text image image_now capture notes notes_now work work_now : List ℕ) (returned : ℕ) (counted answer : List ℕ) (v : Verdict) →
    Bytes capture → BuildTextTells text image image_now 0 counted →
    JudgeTells (take (get_or counted 2 0) image_now) capture notes notes_now work work_now returned answer →
    (get_or answer 1 0 ≡ verdict_number v) ↔ ((returned ≡ 0) × TextSays Leading text capture v)

-- the verdict's number sought in cell 2, where the readings are
abbrev pub TextTold : Type 0
TextTold =
    (text capture : List ℕ) (before after : Lent) (returned : ℕ) (answer : List ℕ) (v : Verdict) → Bytes capture →
    JudgeTextTells text capture before after returned answer →
    (get_or answer 2 0 ≡ verdict_number v) ↔ ((returned ≡ 0) × TextSays Whole text capture v)

-- number and place exchanged
abbrev pub CheckTold : Type 0
CheckTold = (image : List ℕ) (returned : ℕ) (answer : List ℕ) → CheckTells image returned answer → ImageRow image (get_or answer 0 0) returned

-- so many cells in all, notes and work together
abbrev pub CellsTold : Type 0
CellsTold =
    (image capture : List ℕ) (returned : ℕ) (answer : List ℕ) → CellsTells image (length capture) returned answer →
    CaptureRow image (length capture) returned (get_or answer 0 0)
    × (returned ≡ 0 →
    (get_or answer 2 0 ≡ how_many (machine image capture))
    × ((notes work : ℕ) → ((judge_refusal image capture notes work).number ≡ 0) ↔ (get_or answer 2 0 ≤ notes + work)))

-- the rule sought in cell 2, where the check of a text has the offset
abbrev pub RecursionTold : Type 0
RecursionTold =
    (grammar : List ℕ) (returned : ℕ) (answer : List ℕ) → CheckRecursionTells grammar returned answer → RecursionRow grammar returned (get_or answer 2 0)

-- the rule's number and its name's offset exchanged
abbrev pub TextRecursionTold : Type 0
TextRecursionTold =
    (text : List ℕ) (returned : ℕ) (answer : List ℕ) → CheckTextRecursionTells text returned answer →
    ((returned ≡ 0) ↔ TextRecursionSays text (Ok tt))
    × ((returned ≡ 19) ↔ TextRecursionSays text (Err (Recursive (get_or answer 2 0) (get_or answer 0 0))))
    × ((returned ≡ 0 → ⊥) → (returned ≡ 19 → ⊥) → ReadSays text (Unread (refusal returned (get_or answer 0 0))))

-- a wrong claim for each function of the archive, of which each is refuted
pub data AnyUndetermined : Type 0 where
  -- whatever the image
  check : ((i j : List ℕ) (r s : ℕ) (x y : List ℕ) → CheckTells i r x → CheckTells j s y → (r ≡ s) × (x ≡ y)) → AnyUndetermined
  -- however long the capture
  cells : ((i : List ℕ) (n m r s : ℕ) (x y : List ℕ) → CellsTells i n r x → CellsTells i m s y → (r ≡ s) × (x ≡ y)) → AnyUndetermined
  -- notes and work exchanged
  judge :
      ((i c n n₁ n₂ w w₁ w₂ : List ℕ) (r s : ℕ) (x y : List ℕ) → JudgeTells i c n n₁ w w₁ r x → JudgeTells i c n n₂ w w₂ s y →
      ((r ≡ s) × (x ≡ y)) × (n₁ ≡ w₂) × (w₁ ≡ n₂)) → AnyUndetermined
  -- whatever the budget
  plain_run :
      ((i c : List ℕ) (a b : ℕ) (k k₁ k₂ : List ℕ) (r s : ℕ) (x y : List ℕ) → RunTells i c a k k₁ r x → RunTells i c b k k₂ s y →
      ((r ≡ s) × (x ≡ y)) × (k₁ ≡ k₂)) → AnyUndetermined
  -- whatever the choice of a match
  build :
      ((how so : Matching) (g i i₁ i₂ : List ℕ) (r s : ℕ) (x y : List ℕ) → BuildTells how g i i₁ r x → BuildTells so g i i₂ s y →
      ((r ≡ s) × (x ≡ y)) × (i₁ ≡ i₂)) → AnyUndetermined
  -- whatever the grammar
  check_recursion :
      ((g h : List ℕ) (r s : ℕ) (x y : List ℕ) → CheckRecursionTells g r x → CheckRecursionTells h s y → (r ≡ s) × (x ≡ y)) → AnyUndetermined
  -- the rule's number is its name's offset
  check_text_recursion :
      ((t : List ℕ) (r s : ℕ) (x y : List ℕ) → CheckTextRecursionTells t r x → CheckTextRecursionTells t s y →
      (r ≡ s) × (get_or x 0 0 ≡ get_or y 2 0)) → AnyUndetermined
  -- whatever stood in the buffer
  read_grammar :
      ((t g h g₁ g₂ : List ℕ) (r s : ℕ) (x y : List ℕ) → ReadGrammarTells t g g₁ r x → ReadGrammarTells t h g₂ s y →
      ((r ≡ s) × (x ≡ y)) × (g₁ ≡ g₂)) → AnyUndetermined
  -- whatever stood in the buffer
  build_text :
      ((t i j i₁ i₂ : List ℕ) (r s : ℕ) (x y : List ℕ) → BuildTextTells t i i₁ r x → BuildTextTells t j i₂ s y →
      ((r ≡ s) × (x ≡ y)) × (i₁ ≡ i₂)) → AnyUndetermined
  -- notes and work exchanged
  judge_text :
      ((t c : List ℕ) (l l₁ l₂ : Lent) (r s : ℕ) (x y : List ℕ) → JudgeTextTells t c l l₁ r x → JudgeTextTells t c l l₂ s y →
      ((r ≡ s) × (x ≡ y)) × (l₁ ≡ lent l₂.image l₂.work l₂.notes)) → AnyUndetermined
  -- lines and totals exchanged
  judge_bundle :
      ((i b l l₁ l₂ t t₁ t₂ n n₁ n₂ w w₁ w₂ : List ℕ) (r s : ℕ) (x y : List ℕ) →
      JudgeBundleTells i b l l₁ t t₁ n n₁ w w₁ r x → JudgeBundleTells i b l l₂ t t₂ n n₂ w w₂ s y →
      ((r ≡ s) × (x ≡ y)) × (l₁ ≡ t₂) × (t₁ ≡ l₂) × (n₁ ≡ n₂) × (w₁ ≡ w₂)) → AnyUndetermined

-- any of these
abbrev pub CallsDetermined : Type 0
CallsDetermined = AnyUndetermined
