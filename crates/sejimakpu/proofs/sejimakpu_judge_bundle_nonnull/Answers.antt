-- `sejimakpu::sejimakpu_judge_bundle_nonnull` meets its contract. Assumes nothing.
use mathlib.Core.Path.{◌∙◌}
use Rattle.sejimakpu.proofs.Told.{told_as, report_told}
use Rattle.sejimakpu.proofs.sejimakpu_judge_bundle_nonnull.Goals as goal

pub returns : goal.returns
returns c =
    record {
      report = _;
      says = c.judge_bundle-report.ensures;
      left = c.write_totals.ensures;
      tells = told_as (c.reply.ensures ∙ report_told _) c.write_reply.ensures;
    }
