-- `scanner::tokens::letters_from` meets its contract: what was passed are letters. Assumes nothing.
use mathlib.Core.Path.{sym, ◌∙◌}
use native.Mathlib.Omega.{arith}
use Rattle.scanner.proofs.Lexing.{letters_past, letters_left, count_next, letters_stopped, letters_whole}
use Rattle.scanner.proofs.tokens.letters_from.Goals as goal

pub returns-in_default : goal.returns-in_default
returns-in_default c = letters_past c.args.text.now c.args.at (omega (arith, c.in_default.ensures.lookup.0))

pub returns-then-not-is_letter : goal.returns-then-not-is_letter
returns-then-not-is_letter c =
    letters_stopped _ _ c.loop-i.invariant c.loop-i-test.true (sym c.if-not-is_letter.ensures)
    ∙ letters_left c.args.text.now c.args.at _ c.in-Some.ensures.lookup.0.2

pub loop-i-preserved : goal.loop-i-preserved
loop-i-preserved c = count_next _ _ c.loop-i.invariant c.loop-i-test.true (sym c.if-not-is_letter.ensures)

pub returns : goal.returns
returns c = letters_whole _ _ c.loop-i.invariant c.loop-i-test.false ∙ letters_left c.args.text.now c.args.at _ c.in-Some.ensures.lookup.0.2
