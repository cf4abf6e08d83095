-- The functions of the descent meet their contracts, and end: from an expression to a part, an operand, and inside brackets an expression again. Assumes nothing.
use mathlib.Core.Path.{refl, sym, ap, ◌∙◌}
use Prim.Native.Nat.{ℕ}
use native.Mathlib.Omega.{arith}
use Rattle.expressions.specs.Code.Operators.{over, read_of, begun_with}
use Rattle.expressions.specs.declared.Rules.{Rules}
use Rattle.expressions.specs.Code.Levels.{follows}
use Rattle.std.specs.Prelude.{Ok}
use Rattle.expressions.proofs.Emitting.{handed_on}
use Rattle.expressions.proofs.Lookings.{prefix_here, prefix_not_here}
use Rattle.expressions.proofs.Leaves.{nothing_spent}
use Rattle.expressions.proofs.Operands.{part_over, part_suffixed, part_spent}
use Rattle.expressions.proofs.Ways.{named_operand, ranged_operand, leaf_operand, bracket_over, bracket_unread, bracket_operand, no_operand, prefix_over_read, prefix_taken, prefix_fits_room, prefix_read, prefix_inner_over}
use Rattle.expressions.proofs.Joining.{Due, joining, joined_over, joined_alone, joined_none, rest_room, joined_rest_over, last_fits, joined_both}
use Rattle.expressions.proofs.descent.+descent.Goals as goal
use Rattle.expressions.proofs.descent.+descent.Goals.{expression-In_ok-head}

-- parts of one level, joined to the right
pub expression-returns-in_err-first : goal.expression-returns-in_err-first
expression-returns-in_err-first t c =
    rw (handed_on _ _ c.from_residual.ensures.1) (joined_over _ _ (joining _ _) _ _ _ _ c.in_err-first.ensures refl)

pub expression-returns-then-not-goes_on : goal.expression-returns-then-not-goes_on
expression-returns-then-not-goes_on t c =
    joined_alone _ _ (joining _ _) _ _ _ (read_of c.in_ok-first.first c.first_part.new.rules) c.in_ok-first.ensures refl _ c.peek-l.ensures
    (ap (follows c.args.level) (sym c.role_of.ensures) ∙ sym c.goes_on.ensures ∙ c.if-not-goes_on.true)

pub expression-returns-in_err-head : goal.expression-returns-in_err-head
expression-returns-in_err-head t c =
    rw (handed_on _ _ c.from_residual-in_err-head.ensures.1)
    (joined_none _ _ (joining _ _) _ _ _ (read_of c.in_ok-first.first c.first_part.new.rules) c.in_ok-first.ensures refl _ c.peek-l.ensures
    (ap (follows c.args.level) (sym c.role_of.ensures) ∙ sym c.goes_on.ensures ∙ c.if-not-goes_on.false) _ c.in_err-head.ensures refl _ refl)

-- what is known where the rest is due
abbrev due : (t : ℕ) (c : expression-In_ok-head t) → Due c.args.text.now c.args.level c.args.at c.args.depth c.args.rules.now
due t c = record {
  joining = joining _ _;
  first = read_of c.in_ok-first.first c.first_part.new.rules;
  read = c.in_ok-first.ensures;
  fits = refl;
  ahead = _;
  looks = c.peek-l.ensures;
  goes_on = ap (follows c.args.level) (sym c.role_of.ensures) ∙ sym c.goes_on.ensures ∙ c.if-not-goes_on.false;
  begun = begun_with (Ok c.in_ok-head.head) c.begun.new.rules;
  begins = c.in_ok-head.ensures;
  room = c.requires;
  some = refl;
}

pub expression-expression-requires : goal.expression-expression-requires
expression-expression-requires t c =
    let (room, less) = rest_room _ _ _ _ _ (due t (goal.at.expression-expression-requires t c).In_ok-head) in
    (omega (arith, less, c.decreases), room)

pub expression-returns-in_err-rest : goal.expression-returns-in_err-rest
expression-returns-in_err-rest t c =
    rw (handed_on _ _ c.from_residual-in_err-rest.ensures.1)
    (joined_rest_over _ _ _ _ _ (due t (goal.at.expression-returns-in_err-rest t c).In_ok-head) _ c.rest_at-from.ensures _ c.in_err-rest.ensures refl)

pub expression-number-last-requires : goal.expression-number-last-requires
expression-number-last-requires t c =
    last_fits _ _ _ _ _ (due t (goal.at.expression-number-last-requires t c).In_ok-head) _ c.rest_at-from.ensures
    (read_of c.in_ok-rest.rest c.expression.new.rules) c.in_ok-rest.ensures refl

pub expression-returns : goal.expression-returns
expression-returns t c =
    rw c.operator.ensures
    (joined_both _ _ _ _ _ (due t (goal.at.expression-returns t c).In_ok-head) _ c.rest_at-from.ensures (read_of c.in_ok-rest.rest c.expression.new.rules)
    c.in_ok-rest.ensures refl _ _ _ c.number-last.ensures.own c.number-last.ensures.made c.pair.ensures)

-- a name, a range, a leaf, brackets, or none
pub operand-returns-then-depth-eq0 : goal.operand-returns-then-depth-eq0
operand-returns-then-depth-eq0 t c = bracket_over _ _ _ _ _ c.requires.0 _ _ (sym c.role_of.ensures ∙ c.in-Opening.is) c.if-depth-eq0.true refl

pub operand-returns-in-Name : goal.operand-returns-in-Name
operand-returns-in-Name t c = named_operand _ _ _ _ _ c.requires.0 _ _ (sym c.role_of.ensures ∙ c.in-Name.is) (c.named.ensures _)

pub operand-returns-in-Range : goal.operand-returns-in-Range
operand-returns-in-Range t c = ranged_operand _ _ _ _ _ c.requires.0 _ _ (sym c.role_of.ensures ∙ c.in-Range.is) c.leaf.ensures

pub operand-returns-in-Leaf : goal.operand-returns-in-Leaf
operand-returns-in-Leaf t c =
    leaf_operand _ _ _ _ _ c.requires.0 _ _ _ (sym c.role_of.ensures ∙ c.in-Leaf.is) c.leaf_rule.ensures c.leaf-in-Leaf.ensures

pub operand-returns-in_err-inner-in-Opening : goal.operand-returns-in_err-inner-in-Opening
operand-returns-in_err-inner-in-Opening t c =
    rw (handed_on _ _ c.from_residual.ensures.1)
    (bracket_unread _ _ _ _ _ c.requires.0 _ (sym c.role_of.ensures ∙ c.in-Opening.is) c.if-depth-eq0.false c.in_err-inner-in-Opening.ensures refl)

pub operand-returns-in_ok-inner-in-Opening : goal.operand-returns-in_ok-inner-in-Opening
operand-returns-in_ok-inner-in-Opening t c =
    bracket_operand _ _ _ _ _ c.requires.0 (read_of c.in_ok-inner-in-Opening.inner c.expression.new.rules) _ (sym c.role_of.ensures ∙ c.in-Opening.is)
    c.if-depth-eq0.false c.in_ok-inner-in-Opening.ensures c.after.ensures

pub operand-returns-in_default : goal.operand-returns-in_default
operand-returns-in_default t c =
    no_operand _ _ _ _ _ c.requires.0 _ _ (λ k e. c.in_default.not-Name k (c.role_of.ensures ∙ e)) (λ b e. c.in_default.not-Range b (c.role_of.ensures ∙ e))
    (λ z e. c.in_default.not-Leaf z (c.role_of.ensures ∙ e)) (λ e. c.in_default.not-Opening (c.role_of.ensures ∙ e)) refl

-- prefixes, an operand, suffixes
pub part-returns-in_err-take : goal.part-returns-in_err-take
part-returns-in_err-take t c =
    let none = c.in_err-take.ensures in
    rw (handed_on _ _ c.from_residual.ensures.1)
    (prefix_over_read _ _ _ _ _ _ (prefix_here _ _ _ c.peek-l.ensures _ (sym c.role_of.ensures ∙ c.in-Prefix.is)) _
    c.prefix_need.ensures none.err.0 _ _ (ap (λ (r : Rules). over r c.in_err-take.field-0.0.at) none.err.1))

pub part-part-requires : goal.part-part-requires
part-part-requires t c =
    let took = c.in_ok-take.ensures.ok in
    let (room, less) = prefix_taken _ _ _ _ _ c.prefix_need.ensures took.1 took.0 c.requires in
    (omega (arith, less, c.decreases), room)

pub part-with_prefix-requires : goal.part-with_prefix-requires
part-with_prefix-requires t c =
    let took = c.in_ok-take.ensures.ok in
    prefix_fits_room _ _ _ _ _ (read_of c.in_ok-x.x c.part.new.rules) c.prefix_need.ensures took.1 took.0 c.requires (c.in_ok-x.ensures.spent refl)

pub part-returns-in_err-x : goal.part-returns-in_err-x
part-returns-in_err-x t c =
    let took = c.in_ok-take.ensures.ok in
    rw (handed_on _ _ c.from_residual-in_err-x.ensures.1)
    (prefix_inner_over _ _ _ _ _ _ (prefix_here _ _ _ c.peek-l.ensures _ (sym c.role_of.ensures ∙ c.in-Prefix.is)) _
    c.prefix_need.ensures _ took.1 took.0 _ c.in_err-x.ensures refl)

pub part-returns-in-Prefix : goal.part-returns-in-Prefix
part-returns-in-Prefix t c =
    let took = c.in_ok-take.ensures.ok in
    prefix_read _ _ _ _ _ _ (prefix_here _ _ _ c.peek-l.ensures _ (sym c.role_of.ensures ∙ c.in-Prefix.is)) _
    c.prefix_need.ensures _ took.1 took.0 (read_of c.in_ok-x.x c.part.new.rules) c.in_ok-x.ensures refl _ c.with_prefix.ensures

pub part-returns-in_err-x-2 : goal.part-returns-in_err-x-2
part-returns-in_err-x-2 t c =
    rw (handed_on _ _ c.from_residual-in_err-x-2.ensures.1)
    (record {
      right = part_over _ _ _ _ (prefix_not_here _ _ _ c.peek-l.ensures (λ p e. c.in_default.not-Prefix p (c.role_of.ensures ∙ e))) _
          c.in_err-x-2.ensures.right refl;
      spent = nothing_spent _ _ _ refl;
    })

pub part-returns : goal.part-returns
part-returns t c =
    let x = read_of c.in_ok-x-2.x c.operand.new.rules in
    let read = c.in_ok-x-2.ensures in
    record {
      right =
          part_suffixed _ _ _ _ (prefix_not_here _ _ _ c.peek-l.ensures (λ p e. c.in_default.not-Prefix p (c.role_of.ensures ∙ e))) x read.right refl _
          c.suffixes.ensures.right;
      spent = λ f. part_spent _ x _ (read.spent refl) (c.suffixes.ensures.spent f);
    }
