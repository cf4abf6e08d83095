-- `chain::step::clear` meets its contract. Assumes nothing.
use mathlib.Core.Path.{refl}
use Rattle.chain.specs.Step
use Rattle.chain.proofs.step.clear.Goals as goal

pub returns : goal.returns
unfolding Step.clear Step.cleared
returns c = record { is = λ e f. rw (c.cleared.ensures, f) refl }
