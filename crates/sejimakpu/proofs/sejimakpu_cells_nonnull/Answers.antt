-- `sejimakpu::sejimakpu_cells_nonnull` meets its contract. Assumes nothing.
use mathlib.Core.Path.{ap, ◌∙◌}
use Rattle.simulator.proofs.Replying.{needs_told}
use Rattle.simulator.specs.Replies.{of_needs}
use Rattle.sejimakpu.proofs.Told.{told_as}
use Rattle.sejimakpu.proofs.sejimakpu_cells_nonnull.Goals as goal

pub returns : goal.returns
returns c = told_as (c.reply.ensures ∙ needs_told _ ∙ ap of_needs c.cells.ensures) c.write_reply.ensures
