-- `codec::write_pair` meets its contract: two numbers, one after the other. Assumes nothing.
use Rattle.codec.proofs.Writes.{pair_written}
use Rattle.codec.proofs.write_pair.Goals as goal

pub returns : goal.returns
returns c =
    pair_written c.args.bytes.now c.write_u32.new.bytes _ _ c.args.pair c.requires c.write_u32.ensures c.write_u32-2.ensures
