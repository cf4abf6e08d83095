-- `recursion::sets::RuleSet::added` meets its contract: one bit more, or none. Assumes nothing.
use native.Mathlib.Omega.{arith}
use Rattle.recursion.proofs.Members.{adds_one, adds_none}
use Rattle.recursion.proofs.sets.RuleSet.added.Goals as goal

pub returns-then-adds : goal.returns-then-adds
returns-then-adds c = (adds_one _ _ _ _ c.union.ensures.0 c.single.ensures c.if-adds.true, c.union.ensures.1)

pub returns : goal.returns
returns c = (adds_none _ _ c.if-adds.false, omega arith)
