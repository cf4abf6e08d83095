-- `scanner::tokens::skip` meets its contract: what was passed is skipped. Assumes nothing.
use mathlib.Core.Path.{sym}
use Rattle.scanner.proofs.Lexing.{skip_next}
use Rattle.scanner.proofs.tokens.skip.Goals as goal

pub loop-i-preserved : goal.loop-i-preserved
loop-i-preserved c = skip_next _ _ _ c.loop-i.invariant c.loop-i-test.true (sym c.if-not-is_skipped.ensures)
