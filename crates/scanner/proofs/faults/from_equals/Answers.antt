-- `scanner::faults::from_equals` meets its contract: only = may come. Assumes nothing.
use mathlib.Core.Path.{ap, ◌∙◌}
use mathlib.Core.Bool.{Bool, false}
use Rattle.syntax.specs.Faults.{to_if, inside}
use Rattle.scanner.specs.Code.Stepping.{spot_of}
use Rattle.scanner.proofs.Moving.{equals_token}
use Rattle.scanner.proofs.faults.from_equals.Goals as goal

pub returns : goal.returns
unfolding spot_of
returns c = λ ns text o. c.to_if.ensures ∙ ap (λ (t : Bool). to_if t (inside false 0)) c.is_equals.ensures ∙ equals_token ns text o _
