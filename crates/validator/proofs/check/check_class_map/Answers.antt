-- `validator::check::check_class_map` meets its contract: the loop's invariant says that what is left of the map decides. Assumes nothing.
use mathlib.Core.Path.{refl, ap, ◌∙◌}
use Rattle.refusal.specs.Checking.{checked}
use Rattle.refusal.proofs.Checked.{refuses-made}
use Rattle.image.specs.Image.{classes}
use Rattle.validator.proofs.CheckLoops.{map_stop, map_next, map_end}
use Rattle.validator.proofs.check.check_class_map.Goals as goal

pub returns-then-classes-image : goal.returns-then-classes-image
unfolding classes
returns-then-classes-image c =
    refuses-made _ _ c.new.ensures refl
    ∙ ap checked (map_stop _ _ c.loop-at.invariant c.loop-at-test.true c.if-classes-image.true)

pub loop-at-preserved : goal.loop-at-preserved
unfolding classes
loop-at-preserved c =
    map_next _ _ c.loop-at.invariant c.loop-at-test.true c.if-classes-image.false

pub returns : goal.returns
unfolding checked
returns c = ap checked (map_end _ _ c.loop-at.invariant c.loop-at-test.false)
