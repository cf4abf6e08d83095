-- `grammar_judge::judge_by_grammar` meets its contract: refused by what is lent, with nothing written, or judged. Assumes nothing.
use mathlib.Core.Path.{sym}
use native.Mathlib.Omega.{arith}
use Rattle.std.proofs.lemmas.Result.{err_from_is_err_and}
use Rattle.refusal.proofs.Checked.{checked-passes}
use Rattle.grammar_judge.specs.Calls.{judged}
use Rattle.grammar_judge.proofs.Refusing.{lent_refuses, counts_lent}
use Rattle.grammar_judge.proofs.judge_by_grammar.Goals as goal

pub returns-in_err-check_lent : goal.returns-in_err-check_lent
returns-in_err-check_lent c =
    let p = err_from_is_err_and c.from_residual.result c.from_residual.ensures.1 in
    rw (p.1, p.2) (lent_refuses _ _ _ _ (counts_lent _ _ _ _ _ _ (grind arith) (grind arith) (grind arith) (rw (c.plan_of-plan.ensures) at c.in_err-check_lent.ensures)))

pub build_and_judge-requires : goal.build_and_judge-requires
build_and_judge-requires c = checked-passes _ (sym (counts_lent _ _ _ _ _ _ (grind arith) (grind arith) (grind arith) c.in_ok-check_lent.ensures))

pub returns : goal.returns
returns c =
    judged (checked-passes _ (sym (counts_lent _ _ _ _ _ _ (grind arith) (grind arith) (grind arith) (rw (c.plan_of-plan.ensures) at c.in_ok-check_lent.ensures))))
    (rw (c.plan_of-plan.ensures) at c.build_and_judge.ensures)
