-- `codec::write_four` meets its contract: the four bytes are put in place of as many. Assumes nothing.
use Rattle.codec.proofs.Writes.{four_written}
use Rattle.codec.proofs.write_four.Goals as goal

pub returns : goal.returns
returns c = four_written _ _ c.args.at _ _ _ _ c.copy_from_slice.ensures.after
