-- `reader::ReadText::line_of` meets its contract: a line's own rule, or the first line whose rules end after the rule. Assumes nothing.
use Rattle.reader.proofs.Owning.{owner_own}
use Rattle.reader.proofs.ReadText.line_of.Goals as goal

pub returns-then-rule-self : goal.returns-then-rule-self
returns-then-rule-self c = owner_own _ _ _ c.if-rule-self.true
