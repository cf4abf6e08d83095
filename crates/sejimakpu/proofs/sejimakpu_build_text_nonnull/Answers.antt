-- `sejimakpu::sejimakpu_build_text_nonnull` meets its contract. Assumes nothing.
use mathlib.Core.Path.{◌∙◌}
use Rattle.sejimakpu.proofs.Told.{told_as, built_told}
use Rattle.sejimakpu.proofs.sejimakpu_build_text_nonnull.Goals as goal

pub returns : goal.returns
returns c =
    record {
      built = _;
      says = c.build_text-written.ensures;
      tells = told_as (c.reply.ensures ∙ built_told _) c.write_reply.ensures;
    }
