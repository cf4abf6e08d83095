-- `scanner::faults::by_byte` meets its contract: one case for each spot. Assumes nothing.
use mathlib.Core.Path.{sym, ap, ◌∙◌}
use mathlib.Core.List.{[]}
use Rattle.syntax.specs.Faults.{next, at_equals, inside}
use Rattle.scanner.specs.Code.Stepping.{spot_of, next_of}
use Rattle.scanner.proofs.Moving.{line_byte}
use Rattle.scanner.proofs.faults.by_byte.Goals as goal

pub returns-in-AtLine : goal.returns-in-AtLine
unfolding spot_of next_of
returns-in-AtLine c = λ ns. simp c.in-AtLine.is (sym (line_byte ns _))

pub returns-in-AtEquals : goal.returns-in-AtEquals
unfolding spot_of
returns-in-AtEquals c = λ ns. simp c.in-AtEquals.is (c.from_equals.ensures ns [] 0 ∙ ap (next ns at_equals) (c.sign_of.ensures [] 0))

pub returns-in-Inside : goal.returns-in-Inside
unfolding spot_of
returns-in-Inside c = λ ns. simp c.in-Inside.is (c.from_inside.ensures ns [] 0 ∙ ap (next ns (inside _ _)) (c.sign_of-in-Inside.ensures [] 0))
