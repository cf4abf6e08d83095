-- `codec::read_u64` meets its contract: the library reads the bytes taken out as the number that is defined. Assumes nothing.
use Rattle.codec.proofs.Reading.{u64_section}
use Rattle.codec.proofs.read_u64.Goals as goal

pub returns : goal.returns
returns c = rw (c.from_le_bytes.ensures, c.bytes_at.ensures) (u64_section _ _)
