-- `chain::step::closed` meets its contract. Assumes nothing.
use mathlib.Core.Path.{refl}
use Rattle.chain.specs.Step
use Rattle.image.specs.Image.{machine}
use Rattle.chain.proofs.StepSafe.{closed_resumes}
use Rattle.chain.proofs.step.closed.Goals as goal

pub resumed-requires : goal.resumed-requires
resumed-requires c =
    closed_resumes c.requires c.action_of-action.ensures

pub returns-then-r : goal.returns-then-r
unfolding Step.closed machine
returns-then-r c = simp c.if-r.true (rw (c.resumed.ensures, c.action_of-action.ensures) refl)

pub returns : goal.returns
unfolding Step.closed
returns c = rw (c.if-r.false, c.requires.terminator.is) refl
