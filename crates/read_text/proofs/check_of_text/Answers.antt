-- There is room for every line.
use Rattle.std.proofs.Common.{arith}
use Rattle.read_text.proofs.Outputs.{line_held}
use Rattle.read_text.specs.Program.{checked}
use Rattle.read_text.proofs.check_of_text.Goals as goal

pub returns : goal.returns
returns c = record {
  output = _;
  right = checked c.check_text_recursion-checked.ensures;
  held = line_held _ _ _ c.put_check-length.ensures (omega arith) c.put_check-length.auto.out;
}
