-- `recursion::nothing::nothing_of` meets its contract: at first none is known. Assumes nothing.
use Rattle.recursion.proofs.Sweeps.{sweep_from_none}
use Rattle.recursion.proofs.nothing.nothing_of.Goals as goal

pub sweep_down-known-requires : goal.sweep_down-known-requires
sweep_down-known-requires c = rw c.empty.ensures (sweep_from_none _ c.args.grammar.right)
