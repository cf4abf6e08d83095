-- `recursion::check::check_rows` meets its contract: the first row that has its own rule ends the loop. Assumes nothing.
use mathlib.Core.Path.{refl, sym, ◌∙◌}
use Rattle.refusal.specs.Checking.{checked}
use Rattle.recursion.proofs.Lowest.{in_row, lowest_found, lowest_next, lowest_none}
use Rattle.recursion.proofs.check.check_rows.Goals as goal

pub returns-then-contains : goal.returns-then-contains
unfolding checked
returns-then-contains c =
    let here = in_row _ _ _ _ c.requires c.loop-k-test.true c.type_inv.rows (sym c.contains.ensures ∙ c.if-contains.true) in
    rw (c.new.ensures, ← lowest_found _ _ _ c.loop-k.invariant c.loop-k-test.true here) refl

pub loop-k-preserved : goal.loop-k-preserved
loop-k-preserved c =
    let passed = in_row _ _ _ _ c.requires c.loop-k-test.true c.type_inv.rows (sym c.contains.ensures ∙ c.if-contains.false) in
    lowest_next _ _ _ c.loop-k.invariant c.loop-k-test.true passed

pub returns : goal.returns
unfolding checked
returns c = rw (← lowest_none _ _ _ c.loop-k.invariant c.loop-k-test.false) refl
