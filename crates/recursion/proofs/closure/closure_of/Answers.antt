-- `recursion::closure::closure_of` meets its contract: each turn of the loop passes through one rule more. Assumes nothing.
use mathlib.Core.Path.{refl}
use native.Mathlib.Omega.{arith}
use Rattle.grammar.proofs.GrammarGood.{good_grammar}
use Rattle.recursion.proofs.Rows.{closing_start, closing_next, closing_end}
use Rattle.recursion.proofs.closure.closure_of.Goals as goal

pub loop-n-init : goal.loop-n-init
loop-n-init c = closing_start _ _ _ _ c.args.grammar.right c.requires refl c.rows_of-rows.ensures

pub pass_through-requires : goal.pass_through-requires
pass_through-requires c =
    (let few = (good_grammar _ c.args.grammar.right).rules_most in omega (arith, c.loop-n-test.true, c.count-count.ensures), c.loop-n.invariant.room)

pub loop-n-preserved : goal.loop-n-preserved
loop-n-preserved c =
    closing_next _ _ _ _ _ (good_grammar _ c.args.grammar.right).rules_most c.loop-n.invariant (omega (arith, c.loop-n-test.true, c.count-count.ensures)) c.pass_through.ensures

pub returns : goal.returns
returns c = closing_end _ _ _ _ c.loop-n.invariant (omega (arith, c.loop-n-test.false, c.count-count.ensures))
