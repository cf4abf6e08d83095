-- `validator::check::check_image` meets its contract: where the counts pass there is some symbol. Assumes nothing.
use mathlib.Core.Path.{sym, ◌∙◌}
use native.Mathlib.Omega.{arith}
use Rattle.image.proofs.CheckGood.{some_symbol}
use Rattle.refusal.proofs.Checked.{checked-passes}
use Rattle.validator.proofs.check.check_image.Goals as goal

pub check_body-requires : goal.check_body-requires
check_body-requires c =
    record {
      header = omega arith;
      some_symbol = some_symbol _ (checked-passes _ (sym c.check_counts.ensures ∙ c.in_ok-check_counts.was));
    }
