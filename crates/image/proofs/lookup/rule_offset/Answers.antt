-- `image::lookup::rule_offset` meets its contract: the index has three digits. Assumes nothing.
use mathlib.Core.Path.{ap}
use Prim.Native.Nat.{ℕ, ◌+◌, ◌*◌}
use Rattle.image.specs.Format
use Rattle.image.proofs.Lookups.{index_is}
use Rattle.image.proofs.lookup.rule_offset.Goals as goal

pub returns : goal.returns
returns c = ap (λ (i : ℕ). Format.rules_offset + Format.rule_length * i) (index_is c.requires)
