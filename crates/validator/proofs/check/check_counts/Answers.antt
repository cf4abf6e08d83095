-- `validator::check::check_counts` meets its contract: the states are few enough to be shifted by. Assumes nothing.
use mathlib.Core.Path.{sym, ◌∙◌}
use Rattle.image.specs.Format
use Rattle.image.proofs.CheckGood.{count_right}
use Rattle.validator.proofs.check.check_counts.Goals as goal

pub within-requires : goal.within-requires
within-requires c =
    (count_right _ Format.max_states (sym c.count_wrong.ensures ∙ c.if-count_wrong.false)).1
