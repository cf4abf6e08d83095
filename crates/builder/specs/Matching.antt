-- The choice of a match where none is given. Assumes nothing: this is a definition.
use Rattle.builder.specs.declared.Matching.{Matching}
use Rattle.builder.specs.declared.Matching.TheVariants.{Leading}

-- with none given it is leading
unfoldable pub default_matching : Matching
default_matching = Leading
