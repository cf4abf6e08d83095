-- `scanner::lines::line_offset` meets its contract: line after line, until none is left before the one sought. Assumes nothing.
use native.Mathlib.Nat.{sub-zero}
use native.Mathlib.Omega.{arith}
use Rattle.scanner.proofs.Lexing.{lexemes_end}
use Rattle.scanner.proofs.LineStarts.{offset_start, offset_none, offset_found, offset_next}
use Rattle.scanner.proofs.lines.line_offset.Goals as goal

pub loop-init : goal.loop-init
loop-init c = rw sub-zero (offset_start _ _)

pub returns-then-text-at : goal.returns-then-text-at
returns-then-text-at c = offset_none _ _ _ _ c.loop.invariant (lexemes_end _ _ c.if-text-at.true)

pub loop-preserved : goal.loop-preserved
loop-preserved c = offset_next _ _ _ _ c.loop.invariant _ (omega arith) _ c.next_line-at.ensures

pub returns-in-Some : goal.returns-in-Some
returns-in-Some c = offset_found _ _ _ _ c.loop.invariant _ c.in-Some.ensures (omega arith)

pub returns-in-None : goal.returns-in-None
returns-in-None c = offset_none _ _ _ _ c.loop.invariant c.in-None.ensures
