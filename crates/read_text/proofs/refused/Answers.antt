-- There is room for every line.
use Rattle.std.proofs.Common.{arith}
use Rattle.read_text.proofs.Outputs.{line_held}
use Rattle.read_text.proofs.refused.Goals as goal

pub returns : goal.returns
returns c = line_held _ _ _ (rw (c.number.ensures, c.place.ensures) at c.put_refusal-length.ensures) (omega arith) c.put_refusal-length.auto.out
