-- `answer_line::Line::config` meets its contract. Assumes nothing.
use Rattle.std.proofs.Common.{arith}
use Rattle.answer_line.proofs.Writing.{write_both}
use Rattle.answer_line.proofs.LineLength.{config_short}
use Rattle.answer_line.proofs.Line.config.Goals as goal

pub returns : goal.returns
returns c =
    record {
      writes = rw (c.from.ensures, c.from-2.ensures, c.from-3.ensures) at (write_both (write_both c.field.ensures c.field-2.ensures) c.field-3.ensures);
      short = config_short _ (omega arith) (omega arith) (omega arith);
    }
