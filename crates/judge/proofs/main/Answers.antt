-- The program's buffers have the sizes that its specification says, and what was read lies in the first. Assumes nothing.
use Rattle.std.proofs.Common.{ℕ, ◌∙◌}
use Rattle.std.proofs.Math.ListN.{length-replicate}
use Rattle.judge.proofs.main.Goals as goal

pub line_of-long-requires : goal.line_of-long-requires
line_of-long-requires c =
    record {
      input_long = c.read_whole-read.auto.input ∙ length-replicate {A = ℕ} 65537 0;
      input_read = c.read_whole-read.ensures.whole.within;
      image_long = length-replicate {A = ℕ} 65536 0;
      notes_long = length-replicate {A = ℕ} 16384 0;
      work_long = length-replicate {A = ℕ} 16384 0;
      line_long = length-replicate {A = ℕ} 64 0;
    }
