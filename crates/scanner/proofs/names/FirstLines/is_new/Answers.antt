-- `scanner::names::FirstLines::is_new` meets its contract: a reserved word is no name, and a name is new where its line is none of them. Assumes nothing.
use mathlib.Core.Path.{ap, ◌∙◌}
use mathlib.Core.Bool.{not}
use Rattle.scanner.proofs.Defining.{reserved_old, named_new}
use Rattle.scanner.proofs.names.FirstLines.is_new.Goals as goal

pub returns-then-not-is_reserved : goal.returns-then-not-is_reserved
returns-then-not-is_reserved c = named_new _ _ _ c.args.self.few c.if-not-is_reserved.ensures _ c.line_of.ensures

pub returns-else-not-is_reserved : goal.returns-else-not-is_reserved
returns-else-not-is_reserved c = ap not c.if-not-is_reserved.false ∙ reserved_old _ _ c.if-not-is_reserved.ensures
