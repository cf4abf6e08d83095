-- `sejimakpu::sejimakpu_build_nonnull` meets its contract. Assumes nothing.
use mathlib.Core.Path.{◌∙◌}
use Rattle.sejimakpu.proofs.Told.{told_as, built_told}
use Rattle.sejimakpu.proofs.sejimakpu_build_nonnull.Goals as goal

pub returns : goal.returns
returns c =
    record {
      built = _;
      says = rw (← c.default_matching.ensures) c.build_image-built.ensures;
      tells = told_as (c.reply.ensures ∙ built_told _) c.write_reply.ensures;
    }
