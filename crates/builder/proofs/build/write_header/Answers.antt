-- `builder::build::write_header` meets its contract: three pairs, the counts and the finals, each after the one before. Assumes nothing.
use mathlib.Core.Path.{refl}
use Rattle.builder.proofs.CodeWriting.{header_written}
use Rattle.builder.proofs.build.write_header.Goals as goal

pub returns : goal.returns
returns c =
    header_written c.args.image.now c.write_pair.new.bytes c.write_pair-2.new.bytes c.write_pair-3.new.bytes
    c.write_four.new.bytes c.write_u32.new.bytes
    _ _ c.args.count _ refl c.requires.0 c.write_pair.ensures c.write_pair-2.ensures c.write_pair-3.ensures
    c.write_four.ensures c.write_u32.ensures
