-- `scanner::tokens::scan` meets its contract: past what is skipped, the end or a token. Assumes nothing.
use mathlib.Core.Path.{◌∙◌}
use Rattle.scanner.proofs.Lexing.{lexemes_end}
use Rattle.scanner.proofs.Tokenizing.{scanned}
use Rattle.scanner.proofs.tokens.scan.Goals as goal

pub returns-then-text-offset : goal.returns-then-text-offset
returns-then-text-offset c = c.skip-offset.ensures.rest ∙ lexemes_end _ _ c.if-text-offset.true

pub returns : goal.returns
returns c = scanned _ _ c.if-text-offset.false _ _ c.skip-offset.ensures c.lexeme_at.ensures
