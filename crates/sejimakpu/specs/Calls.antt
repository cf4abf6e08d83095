-- What each call of the library returns and leaves: its contract in Rattle, told by numbers. Assumes nothing: these are definitions.
use Rattle.std.specs.Prelude.{◌≡◌, List, ℕ}
use Rattle.simulator.specs.Answers.{Judged}
use Rattle.interpreter.specs.Answers.{Ran}
use Rattle.builder.specs.declared.Matching.{Matching}
use Rattle.builder.specs.Answers.{Built}
use Rattle.image.specs.Refusals.{image_refusal, capture_refusal}
use Rattle.refusal.specs.Checking.{checked}
use Rattle.machine.specs.Replies.{of_checked}
use Rattle.simulator.specs.Calls.{cells_needed, needs, JudgeSays}
use Rattle.interpreter.specs.Calls.{RunSays}
use Rattle.builder.specs.Calls.{BuildSays}
use Rattle.simulator.specs.Replies.{of_needs, of_judged}
use Rattle.interpreter.specs.Replies.{of_ran}
use Rattle.builder.specs.Replies.{of_built}
use Rattle.recursion.specs.Computed.{recursion_refusal}
use Rattle.std.specs.Prelude.{Result}
use Rattle.refusal.specs.declared.Refusal.{Refusal}
use Rattle.reader.specs.declared.GrammarBytes.{GrammarBytes}
use Rattle.reader.specs.Calls.{ReadTells}
use Rattle.grammar_judge.specs.Calls.{Lent}
use Rattle.typed.specs.Calls.{BuildTextSays, JudgeTextSays}
use Rattle.typed.specs.Recursion.{TextRecursion, TextRecursionSays}
use Rattle.typed.specs.Replies.{of_read, grammar_left, of_text_recursion}
use Rattle.bundle.specs.Answers.{Report}
use Rattle.bundle.specs.Calls.{BundleSays}
use Rattle.bundle.specs.Replies.{of_report, totals_left}
use Rattle.sejimakpu.specs.Cells.{ReplyWritten}

-- the check of an image
abbrev pub CheckTells : (image : List ℕ) → (returned : ℕ) → (answer : List ℕ) → Type 0
CheckTells image = ReplyWritten (of_checked (checked (image_refusal image)))

-- the cells that the judging of a capture of n bytes needs
abbrev pub CellsTells : (image : List ℕ) → (n returned : ℕ) → (answer : List ℕ) → Type 0
CellsTells image n = ReplyWritten (of_needs (needs (capture_refusal image n) (cells_needed image n)))

-- judging
pub record JudgeTells (image capture notes notes_now work work_now : List ℕ) (returned : ℕ) (answer : List ℕ) : Type 0 where
  pub judged : Judged
  pub says : JudgeSays image capture judged notes notes_now work work_now
  pub tells : ReplyWritten (of_judged judged) returned answer

-- the plain run
pub record RunTells (image capture : List ℕ) (budget : ℕ) (stack stack_now : List ℕ) (returned : ℕ) (answer : List ℕ) : Type 0 where
  pub ran : Ran
  pub says : RunSays image capture budget ran stack stack_now
  pub tells : ReplyWritten (of_ran ran) returned answer

-- building, by a choice of a match
pub record BuildTells (how : Matching) (grammar image image_now : List ℕ) (returned : ℕ) (answer : List ℕ) : Type 0 where
  pub built : Built
  pub says : BuildSays how grammar built image image_now
  pub tells : ReplyWritten (of_built built) returned answer

-- the check of a grammar for left recursion
abbrev pub CheckRecursionTells : (grammar : List ℕ) → (returned : ℕ) → (answer : List ℕ) → Type 0
CheckRecursionTells grammar = ReplyWritten (of_checked (checked (recursion_refusal grammar)))

-- the same of a typed grammar
pub record CheckTextRecursionTells (text : List ℕ) (returned : ℕ) (answer : List ℕ) : Type 0 where
  pub checked : TextRecursion
  pub says : TextRecursionSays text checked
  pub tells : ReplyWritten (of_text_recursion checked) returned answer

-- reading a text: the grammar's bytes at the start of the buffer, later ones as they were; refused, none changes
pub record ReadGrammarTells (text grammar grammar_now : List ℕ) (returned : ℕ) (answer : List ℕ) : Type 0 where
  pub read : Result GrammarBytes Refusal
  pub says : ReadTells text read
  pub left : grammar_now ≡ grammar_left read grammar
  pub kept : (returned ≡ 0 → ⊥) → grammar_now ≡ grammar
  pub tells : ReplyWritten (of_read read) returned answer

-- building, from a text
pub record BuildTextTells (text image image_now : List ℕ) (returned : ℕ) (answer : List ℕ) : Type 0 where
  pub built : Built
  pub says : BuildTextSays text built image image_now
  pub tells : ReplyWritten (of_built built) returned answer

-- judging, by a text
pub record JudgeTextTells (text capture : List ℕ) (before after : Lent) (returned : ℕ) (answer : List ℕ) : Type 0 where
  pub judged : Judged
  pub says : JudgeTextSays text capture judged before after
  pub tells : ReplyWritten (of_judged judged) returned answer

-- judging a bundle: the answer's count is that of its captures; lines, totals and cells are as the report says, and refused none changes
pub record JudgeBundleTells
    (image bundle lines lines_now totals totals_now notes notes_now work work_now : List ℕ) (returned : ℕ) (answer : List ℕ) : Type 0 where
  pub report : Report
  pub says : BundleSays image bundle report lines lines_now notes notes_now work work_now
  pub left : totals_now ≡ totals_left report totals
  pub tells : ReplyWritten (of_report report) returned answer
