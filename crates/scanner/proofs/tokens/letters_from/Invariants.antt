-- The invariants and measures of `scanner::tokens::letters_from`.
use Rattle.scanner.proofs.Lexing.{LettersLeft}
use Rattle.scanner.proofs.tokens.letters_from.Given as goal

abbrev pub invariant-loop-i : goal.invariant-loop-i
invariant-loop-i l = LettersLeft l.rest l.i
