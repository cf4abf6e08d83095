-- `scanner::names::next_word` meets its contract: the loop's invariant says that no name was passed. Assumes nothing.
use mathlib.Core.Path.{sym}
use Rattle.scanner.proofs.Defining.{names_quote, names_less, names_byte}
use Rattle.scanner.proofs.names.next_word.Goals as goal

pub loop-i-smaller-then-byte-eq39 : goal.loop-i-smaller-then-byte-eq39
loop-i-smaller-then-byte-eq39 c =
    names_less _ _ _ c.loop-i.invariant c.loop-i-test.true (sym c.if-is_letter.ensures) _ c.after_quote-i.ensures

pub loop-i-preserved-then-byte-eq39 : goal.loop-i-preserved-then-byte-eq39
loop-i-preserved-then-byte-eq39 c =
    names_quote _ _ _ c.loop-i.invariant c.loop-i-test.true (sym c.if-is_letter.ensures) c.if-byte-eq39.true _ c.after_quote-i.ensures

pub loop-i-preserved : goal.loop-i-preserved
loop-i-preserved c = names_byte _ _ _ c.loop-i.invariant c.loop-i-test.true (sym c.if-is_letter.ensures) c.if-byte-eq39.false
