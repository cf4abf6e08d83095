-- `sejimakpu::sejimakpu_check_recursion_nonnull` meets its contract. Assumes nothing.
use mathlib.Core.Path.{ap, ◌∙◌}
use Rattle.machine.proofs.RepliesAlike.{checked_told}
use Rattle.machine.specs.Replies.{of_checked}
use Rattle.sejimakpu.proofs.Told.{told_as}
use Rattle.sejimakpu.proofs.sejimakpu_check_recursion_nonnull.Goals as goal

pub returns : goal.returns
returns c = told_as (c.reply.ensures ∙ checked_told _ ∙ ap of_checked c.check_recursion.ensures) c.write_reply.ensures
