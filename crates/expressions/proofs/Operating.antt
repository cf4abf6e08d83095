-- Operators over an expression that was read: the room that each needs, and what the code makes is what the definitions say. Assumes nothing.
use mathlib.Core.Path.{◌≡◌, refl, ap, ◌∙◌}
use mathlib.Core.Bool.{true}
use mathlib.Core.List.{[], ◌∷◌}
use Prim.Native.Nat.{ℕ, suc, ◌+◌, ◌≤◌, ◌<◌}
use native.Mathlib.Omega.{arith}
use borrow.Author.Tests.{eq-eqb, ne_eqb, lt-ltb, le-ltb}
use Rattle.grammar.specs.Grammar.{max_rules}
use Rattle.grammar.specs.declared.Expression.TheVariants.{Not}
use Rattle.syntax.specs.declared.Node.{Node}
use Rattle.syntax.specs.declared.Node.TheVariants.{Operator}
use Rattle.syntax.specs.declared.Prefix.{Prefix}
use Rattle.syntax.specs.declared.Prefix.TheVariants.{NotPredicate, AndPredicate}
use Rattle.syntax.specs.declared.Suffix.{Suffix}
use Rattle.syntax.specs.declared.Suffix.TheVariants.{ZeroOrMore, OneOrMore, Optional}
use Rattle.syntax.specs.Needs.{prefix_need, suffix_need}
use Rattle.syntax.specs.Compile.{own_rules, own_number, owed}
use Rattle.syntax.proofs.Counting.{own_counted}
use Rattle.expressions.specs.declared.Rules.{Rules}
use Rattle.expressions.specs.declared.Part as Code
use Rattle.expressions.specs.declared.Unfit.{Unfit}
use Rattle.std.specs.Prelude.{Result, Err}
use Rattle.expressions.specs.Code.Building.{advanced}
use Rattle.expressions.specs.Code.Operators.{Begun, Part, over, part, part_of, begun_with, PartRoom, PrefixRoom, prefix_by, prefix_made, suffix_made, suffix_done, begun_of}
use Rattle.expressions.proofs.Emitting.{advanced_next}

-- ROOM for an expression's own rule, once so many are taken
pub room_taken :
    (x : Part) (k : ℕ) (t : Rules) → PartRoom x → 0 < k → k ≤ x.rules.left → t ≡ advanced x.rules [] k →
    t.next + owed x.node ≤ max_rules
room_taken x k t room some left e = omega (arith, advanced_next _ _ _ _ e)

-- and after it
pub next_placed :
    (x : Node) (t r : Rules) → r ≡ advanced t (own_rules x t.next) 0 → r.next ≡ t.next + owed x
next_placed x t r e = advanced_next _ _ _ _ e ∙ ap (λ (m : ℕ). t.next + m) (own_counted x t.next)

pub room_after :
    (x : Part) (k : ℕ) (t r : Rules) → PartRoom x → k ≤ x.rules.left → t ≡ advanced x.rules [] k →
    r ≡ advanced t (own_rules x.node t.next) 0 → r.next + k ≤ suc max_rules
room_after x k t r room left e f = omega (arith, advanced_next _ _ _ _ e, next_placed _ _ _ f)

pub prefix_some : (p : Prefix) → 0 < prefix_need p
unfolding prefix_need
prefix_some NotPredicate = omega arith
prefix_some AndPredicate = omega arith

pub suffix_some : (s : Suffix) → 1 < suffix_need s
unfolding suffix_need
suffix_some ZeroOrMore = omega arith
suffix_some OneOrMore = omega arith
suffix_some Optional = omega arith

-- THE FIRST PART OF TWO
pub begun_none : (x : Part) (r : Result ℕ Unfit) (e : Unfit) (s : Rules) → r ≡ Err e → x.rules.left < 1 → s ≡ x.rules → begun_with r s ≡ begun_of x
unfolding begun_of
begun_none x r e s is h same = rw (is, same) (simp (eq-eqb x.rules.left 0 (omega arith)))

pub begun_some :
    (x : Part) (t r : Rules) (k : ℕ) → 1 ≤ x.rules.left → t ≡ advanced x.rules [] 1 → k ≡ own_number x.node t.next →
    r ≡ advanced t (own_rules x.node t.next) 0 → ◌≡◌ {A = Begun} (record { fits = true; number = k; rules = r }) (begun_of x)
unfolding begun_of
begun_some x t r k some e f g = simp (ne_eqb x.rules.left 0 (λ z. omega arith)) (cc)

-- A SUFFIX
pub suffix_over_is :
    (s : Suffix) (x : Part) (at k : ℕ) (p : Result Code.Part Unfit) (e : Unfit) (r : Rules) → k ≡ suffix_need s → p ≡ Err e → e.at ≡ at →
    x.rules.left < k → r ≡ x.rules → part_of p r ≡ suffix_made s x at
unfolding suffix_made
suffix_over_is s x at k p e r need is there h same =
    rw (is, same) (ap (over x.rules) there ∙ simp (lt-ltb x.rules.left (suffix_need s) (omega arith)))

pub suffix_done_is :
    (s : Suffix) (x : Part) (at k m : ℕ) (t r : Rules) → k ≡ suffix_need s → k ≤ x.rules.left → t ≡ advanced x.rules [] k →
    m ≡ own_number x.node t.next → r ≡ advanced t (own_rules x.node t.next) 0 → suffix_done s m r at ≡ suffix_made s x at
unfolding suffix_made
suffix_done_is s x at k m t r e h f g i = simp (le-ltb x.rules.left (suffix_need s) (omega arith)) (cc)

-- the same expression with the same rules
pub part_with : (at : ℕ) (x : Node) (r s : Rules) (p : Part) → p ≡ part at x r → r ≡ s → p ≡ part at x s
part_with at x r s p e f = e ∙ ap (λ (q : Rules). part at x q) f

-- A PREFIX
pub prefix_operand : (p : Prefix) (x : Part) → PrefixRoom p x → x.rules.next + owed x.node ≤ max_rules
prefix_operand p x room = omega (arith, prefix_some p)

and_need : prefix_need AndPredicate ≡ 2
unfolding prefix_need
and_need = refl

pub prefix_and :
    (p : Prefix) (x : Part) (r : Rules) → PrefixRoom p x → p ≡ AndPredicate → r ≡ advanced x.rules (own_rules x.node x.rules.next) 0 →
    r.next < max_rules
prefix_and p x r room e f =
    let two : prefix_need p ≡ 2 = ap prefix_need e ∙ and_need in
    omega (arith, next_placed _ _ _ f)

pub prefix_not_is :
    (p : Prefix) (x : Part) (m : ℕ) (r : Rules) (q : Part) → p ≡ NotPredicate → m ≡ own_number x.node x.rules.next →
    r ≡ advanced x.rules (own_rules x.node x.rules.next) 0 → q ≡ part x.at (Operator (Not m)) r → q ≡ prefix_made p x
unfolding prefix_made prefix_by
prefix_not_is p x m r q e f g h = simp e (cc)

pub prefix_and_is :
    (p : Prefix) (x : Part) (m : ℕ) (r s : Rules) (q : Part) → p ≡ AndPredicate → m ≡ own_number x.node x.rules.next →
    r ≡ advanced x.rules (own_rules x.node x.rules.next) 0 → s ≡ advanced r (Not m ∷ []) 0 →
    q ≡ part x.at (Operator (Not r.next)) s → q ≡ prefix_made p x
unfolding prefix_made prefix_by
prefix_and_is p x m r s q e f g i h = simp e (cc)
