-- `validator::check::rule_count` meets its contract: counts that are bytes, so the product fits. Assumes nothing.
use mathlib.Core.Path.{refl}
use Rattle.image.specs.Refusals.{rule_count}
use Rattle.image.specs.Image.{states, classes, symbols}
use Rattle.validator.proofs.check.rule_count.Goals as goal

pub returns : goal.returns
unfolding rule_count states classes symbols
returns c = rw (c.from-states.ensures, c.from-classes.ensures, c.from-symbols.ensures) refl
