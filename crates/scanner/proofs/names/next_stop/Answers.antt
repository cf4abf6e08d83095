-- `scanner::names::next_stop` meets its contract: the loop's invariant says that no stop, and so no line's head, was passed. Assumes nothing.
use mathlib.Core.Path.{sym}
use native.Mathlib.Omega.{arith}
use Rattle.scanner.proofs.Passing.{pass_one, pass_two, pass_three, pass_four}
use Rattle.scanner.proofs.names.next_stop.Goals as goal

pub returns-then-is_stop-2 : goal.returns-then-is_stop-2
returns-then-is_stop-2 c = pass_one _ _ _ c.loop-i.invariant.0 c.loop-i-test.true (sym c.if-is_stop.ensures)

pub returns-then-is_stop-3 : goal.returns-then-is_stop-3
returns-then-is_stop-3 c = pass_two _ _ _ c.loop-i.invariant.0 c.loop-i-test.true (sym c.if-is_stop.ensures) (sym c.if-is_stop-2.ensures)

pub returns-then-is_stop-4 : goal.returns-then-is_stop-4
returns-then-is_stop-4 c =
    pass_three _ _ _ c.loop-i.invariant.0 c.loop-i-test.true (sym c.if-is_stop.ensures) (sym c.if-is_stop-2.ensures) (sym c.if-is_stop-3.ensures)

pub loop-i-preserved : goal.loop-i-preserved
loop-i-preserved c = (
  pass_four _ _ _ c.loop-i.invariant.0 c.loop-i-test.true (sym c.if-is_stop.ensures) (sym c.if-is_stop-2.ensures) (sym c.if-is_stop-3.ensures)
      (sym c.if-is_stop-4.ensures),
  omega (arith, c.loop-i-test.true),
)
