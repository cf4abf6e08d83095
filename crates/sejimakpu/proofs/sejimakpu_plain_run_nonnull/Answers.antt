-- `sejimakpu::sejimakpu_plain_run_nonnull` meets its contract. Assumes nothing.
use mathlib.Core.Path.{◌∙◌}
use Rattle.sejimakpu.proofs.Told.{told_as, ran_told}
use Rattle.sejimakpu.proofs.sejimakpu_plain_run_nonnull.Goals as goal

pub returns : goal.returns
returns c =
    record {
      ran = _;
      says = c.plain_run-ran.ensures;
      tells = told_as (c.reply.ensures ∙ ran_told _) c.write_reply.ensures;
    }
