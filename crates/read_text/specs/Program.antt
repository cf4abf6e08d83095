-- What the program that reads a text, or checks it for left recursion, writes for an input. Assumes nothing: these are definitions.
use Rattle.std.specs.Prelude.{◌≡◌, Bool, true, false, List, ℕ, ◌+◌, ◌≤◌, ◌<◌, length, take, Ok, Err}
use Rattle.refusal.specs.declared.Refusal.{Refusal}
use Rattle.refusal.specs.First.{refusal}
use Rattle.answer_line.specs.Line.{refusal_line, recursion_line, passes_line}
use Rattle.syntax.specs.Reading.{Refused, Grammar, ReadSays}
use Rattle.typed.specs.declared.left_recursion.RecursionFault.TheVariants.{Refused as Unread, Recursive}
use Rattle.typed.specs.Recursion.{TextRecursion, TextRecursionSays}
use Rattle.transfer.specs.declared.Stop.{Stop}
use Rattle.transfer.specs.Transfers.{Outcome, has_failed, Stopped}
use Rattle.read_text.specs.declared.Output.{Output}

-- the longest text, in bytes
abbrev pub max_text : ℕ
max_text = 65536

-- the line of what the check for left recursion answers
unfoldable pub check_line : TextRecursion → List ℕ
check_line (Ok _) = passes_line
check_line (Err (Unread f)) = refusal_line f
check_line (Err (Recursive k o)) = recursion_line k o

-- of a text: where it is read, its refusal's line or the grammar's bytes; where it is checked, the check's line
pub data TextOutput (xs : List ℕ) : (checks : Bool) → (output : List ℕ) → Type 0 where
  refuses : {f : Refusal} → ReadSays xs (Refused f) → TextOutput xs false (refusal_line f)
  gives : {gs : List ℕ} → ReadSays xs (Grammar gs) → TextOutput xs false gs
  checked : {r : TextRecursion} → TextRecursionSays xs r → TextOutput xs true (check_line r)

-- THE OUTPUT for an input: a line where it is too long, else that of a text
pub data OutputSays (checks : Bool) (xs : List ℕ) : (output : List ℕ) → Type 0 where
  too_long : max_text < length xs → OutputSays checks xs (refusal_line (refusal 14 0))
  fits : {output : List ℕ} → length xs ≤ max_text → TextOutput xs checks output → OutputSays checks xs output

-- what was read where a read failed is no text, and not an empty one either
pub data StopSays (checks : Bool) (last : Outcome) (xs : List ℕ) : (output : List ℕ) → Type 0 where
  unread : has_failed last ≡ true → StopSays checks last xs (refusal_line (refusal 14 0))
  whole : {output : List ℕ} → has_failed last ≡ false → OutputSays checks xs output → StopSays checks last xs output

-- the input's buffer has room for one byte more than the longest text, and reading stopped there
pub record Buffer (input : List ℕ) (stop : Stop) : Type 0 where
  pub long : length input ≡ max_text + 1
  pub stopped : Stopped stop.last stop.count (length input)

-- the first so many bytes are these, and all of them are there
pub record Holds (r : Output) (output : List ℕ) : Type 0 where
  pub is : take r.length r.bytes ≡ output
  pub within : r.length ≤ length r.bytes

pub record TextSays (checks : Bool) (xs : List ℕ) (r : Output) : Type 0 where
  pub output : List ℕ
  pub right : TextOutput xs checks output
  pub held : Holds r output

pub record Writes (checks : Bool) (last : Outcome) (xs : List ℕ) (r : Output) : Type 0 where
  pub output : List ℕ
  pub right : StopSays checks last xs output
  pub held : Holds r output
