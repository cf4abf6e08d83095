-- Operators over an expression that was read, on the code's own structs. Assumes nothing: these are definitions.
use Rattle.std.specs.Prelude.{Bool, true, false, cond, [], ◌∷◌, ℕ, suc, ◌+◌, ◌≤◌, eqb, ltb, Result, Ok, Err}
use Rattle.grammar.specs.Grammar.{max_rules}
use Rattle.grammar.specs.declared.Expression.TheVariants.{Sequence, Choice, Not, Empty}
use Rattle.syntax.specs.declared.Node.{Node}
use Rattle.syntax.specs.declared.Node.TheVariants.{Numbered, Operator, Repetition}
use Rattle.syntax.specs.declared.Prefix.{Prefix}
use Rattle.syntax.specs.declared.Prefix.TheVariants.{NotPredicate, AndPredicate}
use Rattle.syntax.specs.declared.Suffix.{Suffix}
use Rattle.syntax.specs.declared.Suffix.TheVariants.{ZeroOrMore, OneOrMore, Optional}
use Rattle.syntax.specs.Needs.{prefix_need, suffix_need}
use Rattle.syntax.specs.Compile.{repetition_rules, own_rules, own_number, owed}
use Rattle.expressions.specs.declared.Rules.{Rules}
use Rattle.expressions.specs.declared.Part as Code
use Rattle.expressions.specs.declared.Unfit.{Unfit}
use Rattle.expressions.specs.Code.Building.{advanced}

-- an expression that was read: what stands for it, and the rules with those of its parts
pub record Part : Type 0 where
  pub fits : Bool
  pub at : ℕ
  pub node : Node
  pub rules : Rules

-- the first part of a sequence or choice, with its number
pub record Begun : Type 0 where
  pub fits : Bool
  pub number : ℕ
  pub rules : Rules

-- no expression, or one for which no rules are left
abbrev pub over : Rules → (at : ℕ) → Part
over r i = record { fits = false; at = i; node = Numbered 0; rules = r }

abbrev pub part : (at : ℕ) → Node → Rules → Part
part i x r = record { fits = true; at = i; node = x; rules = r }

-- the code's, over the rules that were lent: one that was read, and what reading answers
abbrev pub read_of : Code.Part → Rules → Part
read_of p r = part p.at p.node r

abbrev pub part_of : Result Code.Part Unfit → Rules → Part
part_of (Ok p) r = read_of p r
part_of (Err e) r = over r e.at

abbrev pub begun_with : Result ℕ Unfit → Rules → Begun
begun_with (Ok k) r = record { fits = true; number = k; rules = r }
begun_with (Err e) r = record { fits = false; number = 0; rules = r }

-- an expression's own rule and what it may still take have room: of 31 rules, and the line's own, which is numbered already
abbrev pub PartRoom : Part → Type 0
PartRoom x = x.rules.next + x.rules.left + owed x.node ≤ suc max_rules

abbrev pub PrefixRoom : Prefix → Part → Type 0
PrefixRoom p x = x.rules.next + owed x.node + prefix_need p ≤ suc max_rules

-- the expression with its own rule
abbrev pub placed_rules : Node → Rules → Rules
placed_rules x r = advanced r (own_rules x r.next) 0

abbrev pub placed_number : Node → Rules → ℕ
placed_number x r = own_number x r.next

-- a prefix
unfoldable pub prefix_by : Prefix → (number : ℕ) → Rules → (at : ℕ) → Part
prefix_by NotPredicate k r i = part i (Operator (Not k)) r
prefix_by AndPredicate k r i = part i (Operator (Not r.next)) (advanced r (Not k ∷ []) 0)

unfoldable pub prefix_made : Prefix → Part → Part
prefix_made p x = prefix_by p (placed_number x.node x.rules) (placed_rules x.node x.rules) x.at

-- a suffix
unfoldable pub suffix_done : Suffix → (number : ℕ) → Rules → (at : ℕ) → Part
suffix_done ZeroOrMore k r i = part i (Repetition k) r
suffix_done OneOrMore k r i = part i (Operator (Sequence k r.next)) (advanced r (repetition_rules k r.next) 0)
suffix_done Optional k r i = part i (Operator (Choice k r.next)) (advanced r (Empty ∷ []) 0)

unfoldable pub suffix_made : Suffix → Part → (at : ℕ) → Part
suffix_made s x i =
    cond (ltb x.rules.left (suffix_need s)) (over x.rules i)
    (suffix_done s (placed_number x.node (advanced x.rules [] (suffix_need s)))
    (placed_rules x.node (advanced x.rules [] (suffix_need s))) i)

-- the first part of a sequence or choice
unfoldable pub begun_of : Part → Begun
begun_of x =
    cond (eqb x.rules.left 0) (record { fits = false; number = 0; rules = x.rules })
    (record {
      fits = true;
      number = placed_number x.node (advanced x.rules [] 1);
      rules = placed_rules x.node (advanced x.rules [] 1);
    })
