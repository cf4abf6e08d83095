-- `recursion::check::check_recursion` meets its contract: 11 and 12, then 19. Assumes nothing.
use mathlib.Core.Path.{sym, ◌∙◌}
use Rattle.std.proofs.lemmas.Result.{err_from_is_err_and}
use Rattle.recursion.specs.Computed.{recursion_refusal}
use Rattle.refusal.proofs.Checked.{checked-passes, refused-first, passed-first}
use Rattle.recursion.proofs.check.check_recursion.Goals as goal

pub returns-in_err-check_grammar : goal.returns-in_err-check_grammar
unfolding recursion_refusal
returns-in_err-check_grammar c =
    let p = err_from_is_err_and c.from_residual.result c.from_residual.ensures.1 in
    rw (p.1, p.2) (refused-first _ _ _ (sym c.in_err-check_grammar.ensures))

pub returns : goal.returns
unfolding recursion_refusal
returns c = c.find_recursion.ensures ∙ passed-first _ _ (sym c.in_ok-check_grammar.ensures)

pub invariant_of-find_recursion : goal.invariant_of-find_recursion
invariant_of-find_recursion c = record { right = checked-passes _ (sym c.in_ok-check_grammar.ensures) }
