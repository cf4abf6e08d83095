-- `scanner::lines::next_line` meets its contract: token after token, until one ends the line. Assumes nothing.
use mathlib.Core.Path.{sym}
use Rattle.scanner.proofs.LineStarts.{line_ended, line_passed, line_goes_on}
use Rattle.scanner.proofs.lines.next_line.Goals as goal

pub returns-then-ends_line : goal.returns-then-ends_line
returns-then-ends_line c = line_passed _ _ _ c.loop-l.invariant _ c.in-Some.ensures (sym c.if-ends_line.ensures)

pub loop-l-preserved : goal.loop-l-preserved
loop-l-preserved c = line_goes_on _ _ _ c.loop-l.invariant _ c.in-Some.ensures (sym c.if-ends_line.ensures)

pub returns : goal.returns
returns c = line_ended _ _ _ c.loop-l.invariant c.in_default.ensures
