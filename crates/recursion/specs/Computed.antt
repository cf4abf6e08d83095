-- Left recursion, as the check computes it: which rules may match nothing, by rounds over all rules; which rules a rule leads on to, by the rules passed through. LeftRecursion.antt says the same in the request's words. Assumes nothing: these are definitions.
use Rattle.std.specs.Prelude.{Bool, true, false, ◌&&◌, ◌||◌, cond, List, ℕ, zero, suc, eqb}
use Rattle.refusal.specs.declared.Refusal.{Refusal}
use Rattle.refusal.specs.First.{refusal, no_refusal, or_else}
use Rattle.grammar.specs.declared.Expression.{Expression}
use Rattle.grammar.specs.declared.Expression.TheVariants.{Sequence, Choice, Not, Empty, Range}
use Rattle.grammar.specs.Grammar.{rules, expression, grammar_refusal}
use Rattle.grammar.specs.Parsing.{Rules}

-- a set of rules
abbrev pub Set : Type 0
Set = ℕ → Bool

-- whether an expression may match nothing, by the rules of which that is known
unfoldable pub nothing_by : (known : Set) → Expression → Bool
nothing_by s (Sequence b c) = s b && s c
nothing_by s (Choice b c) = s b || s c
nothing_by s (Not b) = true
nothing_by s Empty = true
nothing_by s (Range b c) = false

-- after so many rounds: a round looks at every rule, by what the one before it knew
unfoldable pub nothing_after : (E : Rules) → (rounds : ℕ) → Set
nothing_after E zero k = false
nothing_after E (suc n) k = nothing_by (nothing_after E n) (E k)

-- whether an expression leads to rule l, by the rules that may match nothing
unfoldable pub leads_by : (nothing : Set) → Expression → (l : ℕ) → Bool
leads_by s (Sequence b c) l = eqb l b || (s b && eqb l c)
leads_by s (Choice b c) l = eqb l b || eqb l c
leads_by s (Not b) l = eqb l b
leads_by s Empty l = false
leads_by s (Range b c) l = false

-- whether rule k leads on to rule l with only rules below n between them (Warshall's transitive closure)
unfoldable pub leads_through : (E : Rules) → (nothing : Set) → (n k l : ℕ) → Bool
leads_through E s zero k l = leads_by s (E k) l
leads_through E s (suc n) k l = leads_through E s n k l || (leads_through E s n k n && leads_through E s n n l)

-- of a grammar of m rules m rounds are enough, and all rules below m may stand between
abbrev pub nothing_of : List ℕ → Set
nothing_of gs = nothing_after (expression gs) (rules gs)

unfoldable pub leads_on : List ℕ → (k l : ℕ) → Bool
leads_on gs k l = leads_through (expression gs) (nothing_of gs) (rules gs) k l

-- the first rule from k on, of so many, that leads back to itself
unfoldable pub recursion_from : (left k : ℕ) → List ℕ → Refusal
recursion_from zero k gs = no_refusal
recursion_from (suc n) k gs = cond (leads_on gs k k) (refusal 19 k) (recursion_from n (suc k) gs)

-- THE CHECK: 11 and 12, then 19 with the lowest rule that leads back to itself
unfoldable pub recursion_refusal : List ℕ → Refusal
recursion_refusal gs = or_else (grammar_refusal gs) (recursion_from (rules gs) 0 gs)
