-- What the functions on an open note ask: only the code needs these. Assumes nothing: these are definitions.
use Rattle.std.specs.Prelude.{◌<◌}
use Rattle.machine.specs.declared.Config.{Config}
use Rattle.image.specs.Format

-- head and symbol have room in a note
pub record NoteFits (c : Config) : Type 0 where
  pub head_low : c.head < Format.max_places
  pub symbol_low : c.symbol < Format.max_symbols
