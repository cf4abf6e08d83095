-- `scanner::faults::by_word` meets its contract: one case for each spot. Assumes nothing.
use mathlib.Core.Path.{sym, ap, ◌∙◌}
use mathlib.Core.Bool.{Bool}
use Rattle.syntax.specs.Faults.{to_if, at_equals}
use Rattle.scanner.specs.Code.Stepping.{spot_of, next_of}
use Rattle.scanner.proofs.Moving.{line_token, equals_word, inside_word}
use Rattle.scanner.proofs.faults.by_word.Goals as goal

pub returns-in-AtLine : goal.returns-in-AtLine
unfolding spot_of
returns-in-AtLine c = simp c.in-AtLine.is (c.to_if.ensures ∙ ap (λ (t : Bool). to_if t at_equals) c.is_new.ensures ∙ line_token _ _)

pub returns-in-AtEquals : goal.returns-in-AtEquals
unfolding spot_of next_of
returns-in-AtEquals c = simp c.in-AtEquals.is (sym (equals_word _ _))

pub returns-in-Inside : goal.returns-in-Inside
unfolding spot_of next_of
returns-in-Inside c = simp c.in-Inside.is (sym (inside_word _ _ _ _))
