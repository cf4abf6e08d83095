-- FROM WHAT A PERSON TYPES TO WHAT THE C CALLS TELL: reading a text, building, judging and testing the answer's verdict, joined; each check's number and place are those of its row; and what a call returns and leaves follows from what it is given. Assumes nothing: each claim is a type, and proofs/ has its proof.
use Rattle.std.specs.Prelude.{◌≡◌, List, ◌↔◌, ℕ, ◌≤◌, length, get_or, take, Ok, Err}
use Rattle.codec.specs.Bytes.{Bytes}
use Rattle.refusal.specs.First.{refusal}
use Rattle.machine.specs.declared.Verdict.{Verdict}
use Rattle.machine.specs.Run.{how_many}
use Rattle.machine.specs.Replies.{verdict_number}
use Rattle.image.specs.Image.{machine}
use Rattle.image.specs.Conditions.{ImageRow, CaptureRow}
use Rattle.simulator.specs.Calls.{judge_refusal}
use Rattle.recursion.specs.LeftRecursion.{RecursionRow}
use Rattle.builder.specs.declared.Matching.{Matching}
use Rattle.builder.specs.declared.Matching.TheVariants.{Whole}
use Rattle.syntax.specs.Reading.{Refused as Unread, ReadSays}
use Rattle.grammar_judge.specs.Calls.{Lent}
use Rattle.typed.specs.declared.left_recursion.RecursionFault.TheVariants.{Recursive}
use Rattle.typed.specs.Recursion.{TextRecursionSays}
use Rattle.typed.specs.TypedCalls.{TextSays}
use Rattle.sejimakpu.specs.Calls.{CheckTells, CellsTells, JudgeTells, RunTells, BuildTells, CheckRecursionTells, CheckTextRecursionTells, ReadGrammarTells, BuildTextTells, JudgeTextTells, JudgeBundleTells}

-- READ, BUILD, JUDGE: who reads a typed grammar, builds of so many bytes as reading counts, by either choice of a match, and judges by so many bytes as building counts finds a verdict's number in the answer (1: accepted) exactly if judging returns 0 and, by that choice, the text's first line gives the capture this verdict
abbrev pub TypedTold : Type 0
TypedTold =
    (how : Matching) (text grammar grammar_now image image_now capture notes notes_now work work_now : List ℕ) (returned : ℕ)
    (read counted answer : List ℕ) (v : Verdict) → Bytes capture → ReadGrammarTells text grammar grammar_now 0 read →
    BuildTells how (take (get_or read 2 0) grammar_now) image image_now 0 counted →
    JudgeTells (take (get_or counted 2 0) image_now) capture notes notes_now work work_now returned answer →
    (get_or answer 1 0 ≡ verdict_number v) ↔ ((returned ≡ 0) × TextSays how text capture v)

-- BUILD FROM A TEXT, JUDGE: the same of who builds by the text, which is for whole matching
abbrev pub BuiltTextTold : Type 0
BuiltTextTold =
    (text image image_now capture notes notes_now work work_now : List ℕ) (returned : ℕ) (counted answer : List ℕ) (v : Verdict) →
    Bytes capture → BuildTextTells text image image_now 0 counted →
    JudgeTells (take (get_or counted 2 0) image_now) capture notes notes_now work work_now returned answer →
    (get_or answer 1 0 ≡ verdict_number v) ↔ ((returned ≡ 0) × TextSays Whole text capture v)

-- JUDGE BY A TEXT, in one call
abbrev pub TextTold : Type 0
TextTold =
    (text capture : List ℕ) (before after : Lent) (returned : ℕ) (answer : List ℕ) (v : Verdict) → Bytes capture →
    JudgeTextTells text capture before after returned answer →
    (get_or answer 1 0 ≡ verdict_number v) ↔ ((returned ≡ 0) × TextSays Whole text capture v)

-- THE CHECK OF AN IMAGE returns the number and leaves the place of the table's row that the image has: 0 exactly if it is right
abbrev pub CheckTold : Type 0
CheckTold = (image : List ℕ) (returned : ℕ) (answer : List ℕ) → CheckTells image returned answer → ImageRow image returned (get_or answer 0 0)

-- THE CELLS NEEDED: so is a capture's; and who is returned 0 has N as the count, with which, and with no fewer, judging is not refused
abbrev pub CellsTold : Type 0
CellsTold =
    (image capture : List ℕ) (returned : ℕ) (answer : List ℕ) → CellsTells image (length capture) returned answer →
    CaptureRow image (length capture) returned (get_or answer 0 0)
    × (returned ≡ 0 →
    (get_or answer 2 0 ≡ how_many (machine image capture))
    × ((notes work : ℕ) → ((judge_refusal image capture notes work).number ≡ 0) ↔ ((get_or answer 2 0 ≤ notes) × (get_or answer 2 0 ≤ work))))

-- THE CHECK FOR LEFT RECURSION: so is a grammar's, 19 with the lowest rule that leads back to itself
abbrev pub RecursionTold : Type 0
RecursionTold =
    (grammar : List ℕ) (returned : ℕ) (answer : List ℕ) → CheckRecursionTells grammar returned answer → RecursionRow grammar returned (get_or answer 0 0)

-- and a typed one: 0 exactly if the text passes, 19 exactly if the rule at the answer's place leads back to itself, its line's name at the answer's count; any other number is the text's own refusal
abbrev pub TextRecursionTold : Type 0
TextRecursionTold =
    (text : List ℕ) (returned : ℕ) (answer : List ℕ) → CheckTextRecursionTells text returned answer →
    ((returned ≡ 0) ↔ TextRecursionSays text (Ok tt))
    × ((returned ≡ 19) ↔ TextRecursionSays text (Err (Recursive (get_or answer 0 0) (get_or answer 2 0))))
    × ((returned ≡ 0 → ⊥) → (returned ≡ 19 → ⊥) → ReadSays text (Unread (refusal returned (get_or answer 0 0))))

-- WHAT A CALL RETURNS AND LEAVES FOLLOWS FROM WHAT IT IS GIVEN: the number returned, the answer's cells and every lent one, of each function of the archive
pub record Determined : Type 0 where
  pub check : (i : List ℕ) (r s : ℕ) (x y : List ℕ) → CheckTells i r x → CheckTells i s y → (r ≡ s) × (x ≡ y)
  pub cells : (i : List ℕ) (n r s : ℕ) (x y : List ℕ) → CellsTells i n r x → CellsTells i n s y → (r ≡ s) × (x ≡ y)
  pub judge :
      (i c n n₁ n₂ w w₁ w₂ : List ℕ) (r s : ℕ) (x y : List ℕ) → JudgeTells i c n n₁ w w₁ r x → JudgeTells i c n n₂ w w₂ s y →
      ((r ≡ s) × (x ≡ y)) × (n₁ ≡ n₂) × (w₁ ≡ w₂)
  pub plain_run :
      (i c : List ℕ) (b : ℕ) (k k₁ k₂ : List ℕ) (r s : ℕ) (x y : List ℕ) → RunTells i c b k k₁ r x → RunTells i c b k k₂ s y →
      ((r ≡ s) × (x ≡ y)) × (k₁ ≡ k₂)
  pub build :
      (how : Matching) (g i i₁ i₂ : List ℕ) (r s : ℕ) (x y : List ℕ) → BuildTells how g i i₁ r x → BuildTells how g i i₂ s y →
      ((r ≡ s) × (x ≡ y)) × (i₁ ≡ i₂)
  pub check_recursion : (g : List ℕ) (r s : ℕ) (x y : List ℕ) → CheckRecursionTells g r x → CheckRecursionTells g s y → (r ≡ s) × (x ≡ y)
  pub check_text_recursion :
      (t : List ℕ) (r s : ℕ) (x y : List ℕ) → CheckTextRecursionTells t r x → CheckTextRecursionTells t s y → (r ≡ s) × (x ≡ y)
  pub read_grammar :
      (t g g₁ g₂ : List ℕ) (r s : ℕ) (x y : List ℕ) → ReadGrammarTells t g g₁ r x → ReadGrammarTells t g g₂ s y →
      ((r ≡ s) × (x ≡ y)) × (g₁ ≡ g₂)
  pub build_text :
      (t i i₁ i₂ : List ℕ) (r s : ℕ) (x y : List ℕ) → BuildTextTells t i i₁ r x → BuildTextTells t i i₂ s y →
      ((r ≡ s) × (x ≡ y)) × (i₁ ≡ i₂)
  pub judge_text :
      (t c : List ℕ) (l l₁ l₂ : Lent) (r s : ℕ) (x y : List ℕ) → JudgeTextTells t c l l₁ r x → JudgeTextTells t c l l₂ s y →
      ((r ≡ s) × (x ≡ y)) × (l₁ ≡ l₂)
  pub judge_bundle :
      (i b l l₁ l₂ t t₁ t₂ n n₁ n₂ w w₁ w₂ : List ℕ) (r s : ℕ) (x y : List ℕ) →
      JudgeBundleTells i b l l₁ t t₁ n n₁ w w₁ r x → JudgeBundleTells i b l l₂ t t₂ n n₂ w w₂ s y →
      ((r ≡ s) × (x ≡ y)) × (l₁ ≡ l₂) × (t₁ ≡ t₂) × (n₁ ≡ n₂) × (w₁ ≡ w₂)

abbrev pub CallsDetermined : Type 0
CallsDetermined = Determined
