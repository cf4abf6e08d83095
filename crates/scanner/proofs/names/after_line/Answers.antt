-- `scanner::names::after_line` meets its contract: the loop's invariant says that no line's head was passed. Assumes nothing.
use mathlib.Core.Path.{sym, ◌∙◌}
use native.Mathlib.Omega.{arith}
use borrow.Author.Tests.{ltb-false}
use Rattle.scanner.proofs.Passing.{pass_on, pass_end, pass_semicolon, pass_quote, pass_less, pass_byte}
use Rattle.scanner.proofs.names.after_line.Goals as goal

pub returns-in-Some-eq59 : goal.returns-in-Some-eq59
returns-in-Some-eq59 c =
    let found = c.in-Some-eq59.ensures.lookup in
    pass_semicolon _ _ _ (pass_on _ _ _ c.loop-i.invariant c.next_stop-i.ensures) found.3.0 (sym (found.3.1 0) ∙ c.in-Some-eq59.field-0-test)

pub loop-i-smaller-in-Some-eq39 : goal.loop-i-smaller-in-Some-eq39
loop-i-smaller-in-Some-eq39 c =
    let stop = c.next_stop-i.ensures in
    let found = c.in-Some-eq39.ensures.lookup in
    omega (arith, stop.from, pass_less _ _ _ stop found.3.0 _ c.after_quote-i.ensures)

pub loop-i-preserved-in-Some-eq39 : goal.loop-i-preserved-in-Some-eq39
loop-i-preserved-in-Some-eq39 c =
    let found = c.in-Some-eq39.ensures.lookup in
    pass_quote _ _ _ (pass_on _ _ _ c.loop-i.invariant c.next_stop-i.ensures) found.3.0 (sym (found.3.1 0) ∙ c.in-Some-eq39.field-0-test) _
    c.after_quote-i.ensures

pub loop-i-preserved : goal.loop-i-preserved
loop-i-preserved c =
    let found = c.in-Some.ensures.lookup in
    let other = c.in-Some.field-0-test in
    pass_byte _ _ _ (pass_on _ _ _ c.loop-i.invariant c.next_stop-i.ensures) found.3.0 (λ e. other.0.1 (found.3.1 0 ∙ e)) (λ e. other.1 (found.3.1 0 ∙ e))

pub returns-in-None : goal.returns-in-None
returns-in-None c = pass_end _ _ _ (pass_on _ _ _ c.loop-i.invariant c.next_stop-i.ensures) (ltb-false _ _ (sym c.in-None.ensures.lookup.0))

pub returns : goal.returns
returns c = pass_end _ _ _ c.loop-i.invariant c.loop-i-test.false
