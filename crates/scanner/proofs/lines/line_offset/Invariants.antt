-- The invariants and measures of `scanner::lines::line_offset`.
use Prim.Native.Nat.{◌-◌}
use Rattle.scanner.proofs.LineStarts.{OffsetLeft}
use Rattle.scanner.proofs.lines.line_offset.Given as goal

abbrev pub invariant-loop : goal.invariant-loop
invariant-loop l = OffsetLeft l.text l.line l.at (l.line - l.counter)
