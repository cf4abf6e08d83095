-- The grammar built of the lines of a text, and how its rules are numbered: the lines first, in their order, each line's top operator at the line's own number; then the helper rules of the first line, of the second, and so on. Inside a line parts stand before what they are parts of, the first part first. Assumes nothing: these are definitions.
use Rattle.std.specs.Prelude.{cond, List, [], ◌∷◌, ◌++◌, ℕ, suc, ◌+◌, length}
use Rattle.grammar.specs.Grammar.{kind_sequence, kind_choice, kind_not, kind_empty, kind_range}
use Rattle.grammar.specs.declared.Expression.{Expression}
use Rattle.grammar.specs.declared.Expression.TheVariants.{Sequence, Choice, Not, Empty, Range}
use Rattle.syntax.specs.declared.Leaf.{Leaf}
use Rattle.syntax.specs.declared.Leaf.TheVariants.{AnyByte, EmptyString, Failure}
use Rattle.syntax.specs.declared.Prefix.{Prefix}
use Rattle.syntax.specs.declared.Prefix.TheVariants.{NotPredicate, AndPredicate}
use Rattle.syntax.specs.declared.Suffix.{Suffix}
use Rattle.syntax.specs.declared.Suffix.TheVariants.{ZeroOrMore, OneOrMore, Optional}
use Rattle.syntax.specs.declared.Node.{Node}
use Rattle.syntax.specs.declared.Node.TheVariants.{Numbered, Operator, Repetition}
use Rattle.syntax.specs.Tokens.{same}
use Rattle.syntax.specs.Trees.{Tree, nonterminal, leaf, bytes, prefixed, suffixed, sequence, choice, Definition, names}

-- which line a name is, or the count of lines where it is none
unfoldable pub index_of : List ℕ → List (List ℕ) → ℕ
index_of n [] = 0
index_of n (m ∷ ms) = cond (same n m) 0 (suc (index_of n ms))

-- e*, from number n on: A ← eA / ε
abbrev pub repetition_rules : (operand n : ℕ) → List Expression
repetition_rules i n = Choice (suc n) (suc (suc n)) ∷ Sequence i n ∷ Empty ∷ []

-- WHAT STANDS FOR AN EXPRESSION, once its own rule is put at number n: the rules put there, and its number
unfoldable pub own_rules : Node → (n : ℕ) → List Expression
own_rules (Numbered k) n = []
own_rules (Operator x) n = x ∷ []
own_rules (Repetition i) n = repetition_rules i n

unfoldable pub own_number : Node → (n : ℕ) → ℕ
own_number (Numbered k) n = k
own_number (Operator x) n = n
own_number (Repetition i) n = n

-- how many rules that are
unfoldable pub owed : Node → ℕ
owed (Numbered k) = 0
owed (Operator x) = 1
owed (Repetition i) = 3

-- an expression with the rules made for its parts, from some number on
pub record Compiled : Type 0 where
  pub helpers : List Expression
  pub node : Node

-- the same with its own rule
pub record Placed : Type 0 where
  pub helpers : List Expression
  pub number : ℕ

unfoldable pub place : Compiled → (n : ℕ) → Placed
place c n =
    record {
      helpers = c.helpers ++ own_rules c.node (n + length c.helpers);
      number = own_number c.node (n + length c.helpers);
    }

unfoldable pub compile_leaf : Leaf → Expression
compile_leaf AnyByte = Range 0 255
compile_leaf EmptyString = Empty
compile_leaf Failure = Range 1 0

-- an operator over an operand that is placed from n on
unfoldable pub compile_prefix : Prefix → Placed → (n : ℕ) → Compiled
compile_prefix NotPredicate p n = record { helpers = p.helpers; node = Operator (Not p.number) }
compile_prefix AndPredicate p n =
    record { helpers = p.helpers ++ (Not p.number ∷ []); node = Operator (Not (n + length p.helpers)) }

unfoldable pub compile_suffix : Suffix → Placed → (n : ℕ) → Compiled
compile_suffix ZeroOrMore p n = record { helpers = p.helpers; node = Repetition p.number }
compile_suffix OneOrMore p n =
    record {
      helpers = p.helpers ++ repetition_rules p.number (n + length p.helpers);
      node = Operator (Sequence p.number (n + length p.helpers));
    }
compile_suffix Optional p n =
    record { helpers = p.helpers ++ (Empty ∷ []); node = Operator (Choice p.number (n + length p.helpers)) }

-- AN EXPRESSION, with the rules of its parts from number n on
unfoldable pub compile : (defined : List (List ℕ)) → Tree → (n : ℕ) → Compiled
compile ns (nonterminal x) n = record { helpers = []; node = Numbered (index_of x ns) }
compile ns (leaf a) n = record { helpers = []; node = Operator (compile_leaf a) }
compile ns (bytes l h) n = record { helpers = []; node = Operator (Range l h) }
compile ns (prefixed p e) n = compile_prefix p (place (compile ns e n) n) n
compile ns (suffixed s e) n = compile_suffix s (place (compile ns e n) n) n
compile ns (sequence e f) n =
    let p = place (compile ns e n) n in
    let q = place (compile ns f (n + length p.helpers)) (n + length p.helpers) in
    record { helpers = p.helpers ++ q.helpers; node = Operator (Sequence p.number q.number) }
compile ns (choice e f) n =
    let p = place (compile ns e n) n in
    let q = place (compile ns f (n + length p.helpers)) (n + length p.helpers) in
    record { helpers = p.helpers ++ q.helpers; node = Operator (Choice p.number q.number) }

-- A LINE: its top operator is rule k, and what that needs besides stands from n on. A bare name is the named rule, then nothing
unfoldable pub top_rule : Node → (n : ℕ) → Expression
top_rule (Numbered i) n = Sequence i n
top_rule (Operator x) n = x
top_rule (Repetition i) n = Choice n (suc n)

unfoldable pub top_helpers : Node → (k : ℕ) → List Expression
top_helpers (Numbered i) k = Empty ∷ []
top_helpers (Operator x) k = []
top_helpers (Repetition i) k = Sequence i k ∷ Empty ∷ []

unfoldable pub line_rule : Compiled → (n : ℕ) → Expression
line_rule c n = top_rule c.node (n + length c.helpers)

unfoldable pub line_helpers : Compiled → (k : ℕ) → List Expression
line_helpers c k = c.helpers ++ top_helpers c.node k

-- THE LINES FROM LINE k ON, with helper rules from n on
unfoldable pub named_from : (defined : List (List ℕ)) → (k n : ℕ) → List Definition → List Expression
named_from ns k n [] = []
named_from ns k n (d ∷ ds) =
    let c = compile ns d.body n in
    line_rule c n ∷ named_from ns (suc k) (n + length (line_helpers c k)) ds

unfoldable pub helpers_from : (defined : List (List ℕ)) → (k n : ℕ) → List Definition → List Expression
helpers_from ns k n [] = []
helpers_from ns k n (d ∷ ds) =
    let c = compile ns d.body n in
    line_helpers c k ++ helpers_from ns (suc k) (n + length (line_helpers c k)) ds

-- the rules of a grammar, by number
unfoldable pub all_rules : List Definition → List Expression
all_rules ds = named_from (names ds) 0 (length ds) ds ++ helpers_from (names ds) 0 (length ds) ds

-- a rule's four bytes
unfoldable pub rule_bytes : Expression → List ℕ
rule_bytes (Sequence b c) = kind_sequence ∷ b ∷ c ∷ 0 ∷ []
rule_bytes (Choice b c) = kind_choice ∷ b ∷ c ∷ 0 ∷ []
rule_bytes (Not b) = kind_not ∷ b ∷ 0 ∷ 0 ∷ []
rule_bytes Empty = kind_empty ∷ 0 ∷ 0 ∷ 0 ∷ []
rule_bytes (Range b c) = kind_range ∷ b ∷ c ∷ 0 ∷ []

unfoldable pub encode : List Expression → List ℕ
encode [] = []
encode (x ∷ xs) = rule_bytes x ++ encode xs

-- THE GRAMMAR
unfoldable pub grammar_of : List Definition → List ℕ
grammar_of ds = encode (all_rules ds)
