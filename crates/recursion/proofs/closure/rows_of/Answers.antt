-- `recursion::closure::rows_of` meets its contract: each turn of the loop makes one row. Assumes nothing.
use native.Mathlib.Omega.{arith}
use Rattle.grammar.proofs.GrammarGood.{good_grammar}
use Rattle.recursion.proofs.Rows.{rows_next, row_of}
use Rattle.recursion.proofs.Parts.{parts_few}
use Rattle.recursion.proofs.closure.rows_of.Goals as goal

pub leads_to-requires : goal.leads_to-requires
leads_to-requires c = parts_few _ _ c.args.grammar.right (omega (arith, c.loop-k-test.true, c.count-k-end.ensures)) _ c.expression.ensures

pub offset_bounds-rows-k : goal.offset_bounds-rows-k
offset_bounds-rows-k c = omega (arith, c.loop-k-test.true, c.count-k-end.ensures, (good_grammar _ c.args.grammar.right).rules_most)

pub listed : goal.listed
listed c = omega (arith, c.loop-k.invariant.room, c.loop-k-test.true, c.count-k-end.ensures, (good_grammar _ c.args.grammar.right).rules_most)

pub bounds-rows-k : goal.bounds-rows-k
bounds-rows-k c = omega (arith, c.loop-k-test.true, c.count-k-end.ensures, (good_grammar _ c.args.grammar.right).rules_most)

pub loop-k-preserved : goal.loop-k-preserved
loop-k-preserved c =
    let few = (good_grammar _ c.args.grammar.right).rules_most in
    let row = row_of _ _ _ _ c.expression.ensures c.leads_to.ensures in
    rows_next _ _ _ _ (omega (arith, few, c.loop-k-test.true, c.count-k-end.ensures)) c.loop-k.invariant row
