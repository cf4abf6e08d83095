-- The check of a text as the code does it: what its spots and steps stand for, and what it answers. Assumes nothing: these are definitions.
use Rattle.std.specs.Prelude.{Result, Ok, Err, ◌≡◌, Bool, true, false, cond, List, ℕ, ◌+◌, length, take, drop}
use Rattle.refusal.specs.declared.Kind.{Kind}
use Rattle.refusal.specs.declared.Refusal.{Refusal}
use Rattle.refusal.specs.Kinds.{number_of}
use Rattle.refusal.specs.Checking.{checked}
use Rattle.syntax.specs.Tokens.{token_at, width_at}
use Rattle.syntax.specs.Faults.{Spot, at_line, at_equals, inside, Next, to, wrong, next, fault}
use Rattle.syntax.specs.Code.Heads.{heads}
use Rattle.scanner.specs.declared.Spot as Code
use Rattle.scanner.specs.declared.Spot.TheVariants.{AtLine, AtEquals, Inside}
use Rattle.scanner.specs.declared.faults.Moved.{Moved}

-- the spot that the code's spot stands for, and what its step does
unfoldable pub spot_of : Code.Spot → Spot
spot_of AtLine = at_line
spot_of AtEquals = at_equals
spot_of (Inside c k) = inside c k

unfoldable pub next_of : Result Code.Spot Kind → Next
next_of (Ok s) = to (spot_of s)
next_of (Err k) = wrong (number_of k)

-- whether a line begins at a spot, and how many lines then begin
unfoldable pub begins : Spot → Bool
begins at_line = true
begins at_equals = false
begins (inside c k) = false

unfoldable pub lines_begun : Spot → ℕ
lines_begun s = cond (begins s) 1 0

-- the step that the token at a place leads to, after so many lines, and the place after the token
abbrev pub Led : (text : List ℕ) → (lines : ℕ) → Spot → (offset : ℕ) → Result Code.Spot Kind → Type 0
Led text lines s o r = next_of r ≡ next (take lines (heads text)) s (token_at (drop o text))

abbrev pub Moves : (text : List ℕ) → (lines : ℕ) → Spot → (offset : ℕ) → Result Moved Kind → Type 0
Moves text lines s o (Ok m) = Led text lines s o (Ok m.spot) × (m.next ≡ o + width_at (drop o text))
Moves text lines s o (Err k) = Led text lines s o (Err k)

-- THE ANSWER: the earliest fault of a text, and where there is none the count of its lines
abbrev pub TextChecked : (text : List ℕ) → Result ℕ Refusal → Type 0
TextChecked text (Ok n) = (checked (fault text) ≡ Ok tt) × (n ≡ length (heads text))
TextChecked text (Err f) = checked (fault text) ≡ Err f
