-- `scanner::tokens::word_token` meets its contract: a reserved word, or a name. Assumes nothing.
use mathlib.Core.Path.{◌∙◌}
use Rattle.scanner.proofs.Tokenizing.{same_bytes, word_empty, word_fail, word_name}
use Rattle.scanner.proofs.tokens.word_token.Goals as goal

pub returns-then-same : goal.returns-then-same
returns-then-same c = word_empty _ (c.if-same.ensures ∙ same_bytes _ _)

pub returns-then-same-2 : goal.returns-then-same-2
returns-then-same-2 c = word_fail _ (c.if-same.ensures ∙ same_bytes _ _) (c.if-same-2.ensures ∙ same_bytes _ _)

pub returns-else-same-2 : goal.returns-else-same-2
returns-else-same-2 c = word_name _ (c.if-same.ensures ∙ same_bytes _ _) (c.if-same-2.ensures ∙ same_bytes _ _)
