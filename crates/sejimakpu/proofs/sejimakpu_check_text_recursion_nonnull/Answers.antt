-- `sejimakpu::sejimakpu_check_text_recursion_nonnull` meets its contract. Assumes nothing.
use mathlib.Core.Path.{◌∙◌}
use Rattle.sejimakpu.proofs.Told.{told_as, text_recursion_told}
use Rattle.sejimakpu.proofs.sejimakpu_check_text_recursion_nonnull.Goals as goal

pub returns : goal.returns
returns c =
    record {
      checked = _;
      says = c.check_text_recursion.ensures;
      tells = told_as (c.reply.ensures ∙ text_recursion_told _) c.write_reply.ensures;
    }
