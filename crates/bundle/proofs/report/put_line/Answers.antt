-- `bundle::report::put_line` meets its contract. Assumes nothing.
use Rattle.bundle.specs.Report.{line_cells}
use Rattle.bundle.proofs.LinesWritten.{line_copied}
use Rattle.bundle.proofs.report.put_line.Goals as goal

pub returns : goal.returns
unfolding line_cells
returns c =
    line_copied _ _ _
    (rw (← c.from.ensures, ← c.from-2.ensures, ← c.from-3.ensures, ← c.from-4.ensures, ← c.from-5.ensures) c.copy_from_slice.ensures.after)
