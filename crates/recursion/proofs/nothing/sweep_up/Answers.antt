-- `recursion::nothing::sweep_up` meets its contract: each turn of the loop looks at one rule. Assumes nothing.
use native.Mathlib.Omega.{arith}
use Rattle.recursion.proofs.Sweeps.{before_or_at, sweep_looks, sweep_ends}
use Rattle.recursion.proofs.nothing.sweep_up.Goals as goal

pub loop-k-preserved : goal.loop-k-preserved
loop-k-preserved c =
    sweep_looks _ c.requires.good _ _ _ _ _ _ (omega (arith, c.loop-k-test.true, c.count-k-end.ensures)) (λ l h g. before_or_at _ l g) c.loop-k.invariant c.looked_at-found.ensures

pub returns : goal.returns
returns c = sweep_ends _ c.requires.good _ _ _ (λ l h. omega (arith, c.loop-k-test.false, c.count-k-end.ensures)) c.loop-k.invariant
