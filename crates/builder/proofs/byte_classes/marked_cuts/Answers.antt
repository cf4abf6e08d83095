-- `builder::byte_classes::marked_cuts` meets its contract: each turn of the loop marks one rule's cuts. Assumes nothing.
use mathlib.Core.Path.{ap, ◌∙◌}
use native.Mathlib.Omega.{arith}
use Rattle.grammar.specs.Grammar.{rules, range_of}
use Rattle.builder.proofs.CodeMarks.{marking_start, marking_next, marking_end}
use Rattle.builder.proofs.byte_classes.marked_cuts.Goals as goal

pub loop-k-init : goal.loop-k-init
loop-k-init c = marking_start _

pub expression_of-requires : goal.expression_of-requires
unfolding rules
expression_of-requires c = c.loop-k-test.true

pub loop-k-preserved : goal.loop-k-preserved
unfolding rules
loop-k-preserved c =
    marking_next _ _ _ c.loop-k.invariant _ _ c.loop-k-test.true
    (c.range_of.ensures ∙ ap range_of c.expression_of.ensures) c.mark_range.ensures (omega (arith, c.mark_range.array_long, c.loop-k.invariant.long))

pub returns : goal.returns
unfolding rules
returns c = marking_end _ _ _ c.loop-k.invariant c.loop-k-test.false
