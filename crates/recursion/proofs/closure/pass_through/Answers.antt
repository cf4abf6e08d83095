-- `recursion::closure::pass_through` meets its contract: a rule that leads to none changes no row. Assumes nothing.
use mathlib.Core.Path.{sym, ◌∙◌}
use native.Mathlib.Omega.{arith}
use Rattle.std.proofs.lemmas.Grind.{get_or_default_zero}
use borrow.Author.Tests.{eqb-true}
use Rattle.recursion.proofs.Rows.{passing_none}
use Rattle.recursion.proofs.closure.pass_through.Goals as goal

pub returns-then-is_empty : goal.returns-then-is_empty
returns-then-is_empty c =
    passing_none _ _ c.requires.1
    (sym (get_or_default_zero c.args.rows.now c.args.n _ (omega (arith, c.requires.0, c.requires.1))) ∙ eqb-true _ _ (sym c.is_empty.ensures ∙ c.if-is_empty.true))
