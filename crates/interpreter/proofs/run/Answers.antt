-- `run` meets its contract. The invariant: the plain run of the call is the one that goes on from here. The measure is what is left of the budget. Assumes nothing.
use Rattle.interpreter.proofs.WalkLaws.{walk_starts, goes_on, walks_on, walks_less, answers}
use Rattle.interpreter.proofs.run.Goals as goal

pub loop-next-init : goal.loop-next-init
loop-next-init c = walk_starts _ _ _ _ _ _ c.requires c.sizes_of.ensures c.finals_of.ensures

pub loop-next-smaller : goal.loop-next-smaller
loop-next-smaller c = walks_less (goes_on c.loop-next.invariant c.in-Continue.is c.step.ensures)

pub loop-next-preserved : goal.loop-next-preserved
loop-next-preserved c =
    walks_on c.loop-next.invariant (goes_on c.loop-next.invariant c.in-Continue.is c.step.ensures)

pub returns-in-Break : goal.returns-in-Break
returns-in-Break c = answers c.loop-next.invariant c.in-Break.is c.step.ensures
