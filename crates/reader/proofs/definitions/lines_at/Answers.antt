-- `reader::definitions::lines_at` meets its contract: each turn of the loop reads one line. Assumes nothing.
use mathlib.Core.Path.{refl}
use lib.ListN.{replicate}
use Rattle.grammar.specs.Grammar.{max_rules}
use Rattle.expressions.proofs.Emitting.{handed_on}
use Rattle.reader.proofs.AllLines.{lines_start, line_needs, lines_over, lines_next, lines_end}
use Rattle.reader.proofs.definitions.lines_at.Goals as goal

pub loop-k-init : goal.loop-k-init
loop-k-init c = lines_start _ _ _ _ _ (replicate max_rules 0) c.requires refl refl

pub line-requires : goal.line-requires
line-requires c = line_needs _ c.args.at _ _ _ _ c.loop-k.ends c.requires c.loop-k.invariant c.loop-k-test.true

pub returns-in_err-place : goal.returns-in_err-place
returns-in_err-place c =
    rw (handed_on _ _ c.from_residual.ensures.1)
    (lines_over _ c.args.at _ _ _ _ c.loop-k.ends c.loop-k.invariant c.loop-k-test.true _ c.in_err-place.ensures refl c.in_err-place.field-0.0)

pub loop-k-preserved : goal.loop-k-preserved
loop-k-preserved c =
    lines_next _ c.args.at _ _ _ _ c.loop-k.ends c.loop-k.invariant c.requires.few c.loop-k-test.true _ c.in_ok-place.ensures refl

pub returns : goal.returns
returns c = lines_end _ c.args.at _ _ _ _ c.loop-k.ends c.loop-k.invariant c.loop-k-test.false
