-- `codec::write_u32` meets its contract: the four bytes are the number's digits to the base 256. Assumes nothing.
use Rattle.codec.proofs.Writes.{u32_written}
use Rattle.codec.proofs.write_u32.Goals as goal

pub returns : goal.returns
returns c = u32_written _ _ _ c.args.at _ c.to_le_bytes.ensures c.copy_from_slice.ensures.after
