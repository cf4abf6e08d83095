-- `sejimakpu::sejimakpu_judge_nonnull` meets its contract. Assumes nothing.
use mathlib.Core.Path.{◌∙◌}
use Rattle.simulator.proofs.Replying.{judged_told}
use Rattle.sejimakpu.proofs.Told.{told_as}
use Rattle.sejimakpu.proofs.sejimakpu_judge_nonnull.Goals as goal

pub returns : goal.returns
returns c =
    record {
      judged = _;
      says = c.judge-judged.ensures;
      tells = told_as (c.reply.ensures ∙ judged_told _) c.write_reply.ensures;
    }
