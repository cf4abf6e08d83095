-- Refusals 15 and 17, computed token by token: the earliest fault of a text, and where there is none the first name that no line defines. Assumes nothing: these are definitions.
use Rattle.std.specs.Prelude.{Bool, true, false, ◌&&◌, cond, List, [], ◌∷◌, ◌++◌, ℕ, suc, ◌-◌, eqb, ltb, length}
use Rattle.refusal.specs.declared.Refusal.{Refusal}
use Rattle.refusal.specs.First.{refusal, no_refusal}
use Rattle.syntax.specs.declared.Sign.{Sign}
use Rattle.syntax.specs.declared.Sign.TheVariants.{Operand, Before, After, Slash, Opening, Closing, Equals, Semicolon}
use Rattle.syntax.specs.Tokens.{Token, name, sign, range, unknown, Lexeme, same, lexemes}
use Rattle.syntax.specs.Trees.{max_depth}

-- WHERE IN A TEXT: a line begins, its = must come, or an expression goes on, whose last operand is complete or not, with so many brackets open
pub data Spot : Type 0 where
  at_line at_equals : Spot
  inside : (complete : Bool) → (opened : ℕ) → Spot

pub data Next : Type 0 where
  to : Spot → Next
  wrong : (number : ℕ) → Next

unfoldable pub to_if : Bool → Spot → Next
to_if b s = cond b (to s) (wrong 15)

-- a sign inside an expression
unfoldable pub by_sign : Sign → (complete : Bool) → (opened : ℕ) → Next
by_sign (Operand a) c k = to (inside true k)
by_sign (Before p) c k = to (inside false k)
by_sign (After x) c k = to_if c (inside true k)
by_sign Slash c k = to_if c (inside false k)
by_sign Opening c k = cond (ltb k max_depth) (to (inside false (suc k))) (wrong 17)
by_sign Closing c k = to_if (c && ltb 0 k) (inside true (k - 1))
by_sign Equals c k = wrong 15
by_sign Semicolon c k = to_if (c && eqb k 0) at_line

unfoldable pub is_equals : Sign → Bool
is_equals (Operand a) = false
is_equals (Before p) = false
is_equals (After x) = false
is_equals Slash = false
is_equals Opening = false
is_equals Closing = false
is_equals Equals = true
is_equals Semicolon = false

unfoldable pub not_in : List ℕ → List (List ℕ) → Bool
not_in n [] = true
not_in n (m ∷ ms) = cond (same n m) false (not_in n ms)

-- what a token leads to, with the names of the lines so far
unfoldable pub next : (defined : List (List ℕ)) → Spot → Token → Next
next ns at_line (name n) = to_if (not_in n ns) at_equals
next ns at_line (sign s) = wrong 15
next ns at_line (range l h) = wrong 15
next ns at_line unknown = wrong 15
next ns at_equals (name n) = wrong 15
next ns at_equals (sign s) = to_if (is_equals s) (inside false 0)
next ns at_equals (range l h) = wrong 15
next ns at_equals unknown = wrong 15
next ns (inside c k) (name n) = to (inside true k)
next ns (inside c k) (sign s) = by_sign s c k
next ns (inside c k) (range l h) = to (inside true k)
next ns (inside c k) unknown = wrong 15

unfoldable pub name_of : Token → List (List ℕ)
name_of (name n) = n ∷ []
name_of (sign s) = []
name_of (range l h) = []
name_of unknown = []

-- a name at a line's start is defined from then on
unfoldable pub defined_after : (defined : List (List ℕ)) → Spot → Token → List (List ℕ)
defined_after ns at_line t = ns ++ name_of t
defined_after ns at_equals t = ns
defined_after ns (inside c k) t = ns

-- the text may end after a line, and has at least one
unfoldable pub at_end : (defined : List (List ℕ)) → Spot → (length : ℕ) → Refusal
at_end ns at_line n = cond (ltb 0 (length ns)) no_refusal (refusal 15 n)
at_end ns at_equals n = refusal 15 n
at_end ns (inside c k) n = refusal 15 n

unfoldable pub first_wrong : (defined : List (List ℕ)) → Spot → List Lexeme → (length : ℕ) → Refusal
first_wrong ns s [] n = at_end ns s n
first_wrong ns s (l ∷ ls) n =
    elim (next ns s l.token) [ to t ↦ first_wrong (defined_after ns s l.token) t ls n | wrong m ↦ refusal m l.offset ]

-- THE EARLIEST FAULT OF A TEXT, or number 0
unfoldable pub fault : (text : List ℕ) → Refusal
fault text = first_wrong [] at_line (lexemes text) (length text)

-- where nothing else is wrong: the first name that is not among those defined
unfoldable pub undefined_in : (defined : List (List ℕ)) → Token → Bool
undefined_in ms (name n) = not_in n ms
undefined_in ms (sign s) = false
undefined_in ms (range l h) = false
undefined_in ms unknown = false

unfoldable pub first_undefined : (defined : List (List ℕ)) → List Lexeme → Refusal
first_undefined ms [] = no_refusal
first_undefined ms (l ∷ ls) = cond (undefined_in ms l.token) (refusal 15 l.offset) (first_undefined ms ls)
