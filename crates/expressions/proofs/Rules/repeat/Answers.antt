-- `expressions::Rules::repeat` meets its contract: three rules, one after another. Assumes nothing.
use native.Mathlib.Omega.{arith}
use Rattle.expressions.proofs.Emitting.{one_further}
use Rattle.expressions.proofs.Rules.repeat.Goals as goal

pub add-requires-2 : goal.add-requires-2
add-requires-2 c = omega (arith, one_further _ _ _ c.add.ensures)

pub add-requires-3 : goal.add-requires-3
add-requires-3 c = omega (arith, one_further _ _ _ c.add.ensures, one_further _ _ _ c.add-2.ensures)
