-- `codec::read_u32` meets its contract: the library reads the bytes taken out as the number that is defined. Assumes nothing.
use Rattle.codec.proofs.Reading.{u32_section}
use Rattle.codec.proofs.read_u32.Goals as goal

pub returns : goal.returns
returns c = rw (c.from_le_bytes.ensures, c.bytes_at.ensures) (u32_section _ _)
