-- The rules that a typed grammar needs, by the request's table; and the refusals of a text that is legal: an undefined name, then 16. Assumes nothing: these are definitions.
use Rattle.std.specs.Prelude.{cond, List, [], ◌∷◌, ℕ, ◌+◌, eqb, ltb, length}
use Rattle.refusal.specs.declared.Refusal.{Refusal}
use Rattle.refusal.specs.First.{refusal, or_else, refuse_if}
use Rattle.grammar.specs.Grammar.{max_rules}
use Rattle.syntax.specs.declared.Prefix.{Prefix}
use Rattle.syntax.specs.declared.Prefix.TheVariants.{NotPredicate, AndPredicate}
use Rattle.syntax.specs.declared.Suffix.{Suffix}
use Rattle.syntax.specs.declared.Suffix.TheVariants.{ZeroOrMore, OneOrMore, Optional}
use Rattle.syntax.specs.Tokens.{lexemes}
use Rattle.syntax.specs.Trees.{Tree, nonterminal, leaf, bytes, prefixed, suffixed, sequence, choice, Definition, names}
use Rattle.syntax.specs.Faults.{first_undefined}

unfoldable pub prefix_need : Prefix → ℕ
prefix_need NotPredicate = 1
prefix_need AndPredicate = 2

unfoldable pub suffix_need : Suffix → ℕ
suffix_need ZeroOrMore = 3
suffix_need OneOrMore = 4
suffix_need Optional = 2

-- of an expression; a sequence or choice of k parts is k - 1 of two parts
unfoldable pub need : Tree → ℕ
need (nonterminal n) = 0
need (leaf a) = 1
need (bytes l h) = 1
need (prefixed p e) = prefix_need p + need e
need (suffixed s e) = suffix_need s + need e
need (sequence e f) = 1 + need e + need f
need (choice e f) = 1 + need e + need f

-- of a line: only a bare name needs none by itself, and as a line it needs 2
unfoldable pub line_need : Tree → ℕ
line_need e = cond (eqb (need e) 0) 2 (need e)

unfoldable pub needs : List Definition → ℕ
needs [] = 0
needs (d ∷ ds) = line_need d.body + needs ds

-- OF A TEXT THAT IS LEGAL: a name that no line defines is 15; after that, a need for over 31 rules is 16
unfoldable pub later_refusal : (text : List ℕ) → List Definition → Refusal
later_refusal text ds =
    or_else (first_undefined (names ds) (lexemes text)) (refuse_if (ltb max_rules (needs ds)) (refusal 16 (length text)))
