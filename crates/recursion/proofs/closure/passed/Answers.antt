-- `recursion::closure::passed` meets its contract: a row that has the rule gets what that rule leads on to. Assumes nothing.
use mathlib.Core.Path.{sym, ◌∙◌}
use Rattle.recursion.proofs.Members.{passes_on, passes_by}
use Rattle.recursion.proofs.closure.passed.Goals as goal

pub contains-requires : goal.contains-requires
contains-requires c = c.requires

pub returns-then-contains : goal.returns-then-contains
returns-then-contains c = passes_on _ _ _ _ c.union.ensures.0 (sym c.contains.ensures ∙ c.if-contains.true)

pub returns : goal.returns
returns c = passes_by _ _ _ (sym c.contains.ensures ∙ c.if-contains.false)
