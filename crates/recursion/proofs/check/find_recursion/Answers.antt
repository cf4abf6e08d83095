-- `recursion::check::find_recursion` meets its contract: right rows answer as the definition does. Assumes nothing.
use mathlib.Core.Path.{ap, ◌∙◌}
use Prim.Native.Nat.{ℕ}
use native.Mathlib.Omega.{arith}
use Rattle.refusal.specs.Checking.{checked}
use Rattle.grammar.proofs.GrammarGood.{good_grammar}
use Rattle.recursion.specs.Code.Sets.{lowest_from}
use Rattle.recursion.proofs.Lowest.{lowest_right}
use Rattle.recursion.proofs.check.find_recursion.Goals as goal

pub check_rows-requires : goal.check_rows-requires
check_rows-requires c = omega (arith, c.count.ensures, (good_grammar _ c.args.grammar.right).rules_most)

pub returns : goal.returns
returns c =
    c.check_rows.ensures ∙ ap (λ (n : ℕ). checked (lowest_from n 0 c.closure_of-rows.result)) c.count.ensures
    ∙ ap checked (lowest_right _ _ c.closure_of-rows.ensures _ 0 (omega arith))
