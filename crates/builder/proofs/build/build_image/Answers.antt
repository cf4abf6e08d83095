-- `builder::build::build_image` meets its contract: 11 and 12, then what the plan's building says. Assumes nothing.
use mathlib.Core.Path.{sym}
use Rattle.std.proofs.lemmas.Result.{err_from_is_err_and}
use Rattle.refusal.proofs.Checked.{checked-passes}
use Rattle.builder.proofs.CodeBuild.{says_refused, grammar_decides}
use Rattle.builder.proofs.build.build_image.Goals as goal

pub returns-in_err-check_grammar : goal.returns-in_err-check_grammar
returns-in_err-check_grammar c =
    let p = err_from_is_err_and c.from_residual.result c.from_residual.ensures.1 in
    rw (p.1, p.2) (says_refused _ _ _ _ (grammar_decides _ _ _ c.in_err-check_grammar.ensures))

pub invariant_of-plan_of : goal.invariant_of-plan_of
invariant_of-plan_of c = record { right = checked-passes _ (sym c.in_ok-check_grammar.ensures) }

pub returns : goal.returns
returns c = rw (sym c.plan_of-plan.ensures) c.build_planned.ensures
