-- `builder::build::check_build` meets its contract: 11 and 12, then 13 by the plan. Assumes nothing.
use mathlib.Core.Path.{sym, ap, ◌∙◌}
use Rattle.std.proofs.lemmas.Result.{err_from_is_err_and}
use Rattle.refusal.proofs.Checked.{checked-passes}
use Rattle.builder.specs.Image.{built_length}
use Rattle.builder.proofs.CodeBuild.{room_decides, grammar_decides}
use Rattle.builder.proofs.build.check_build.Goals as goal

pub returns-in_err-check_grammar : goal.returns-in_err-check_grammar
returns-in_err-check_grammar c =
    let p = err_from_is_err_and c.from_residual.result c.from_residual.ensures.1 in
    rw (p.1, p.2) (grammar_decides _ _ _ c.in_err-check_grammar.ensures)

pub invariant_of-plan_of : goal.invariant_of-plan_of
invariant_of-plan_of c = record { right = checked-passes _ (sym c.in_ok-check_grammar.ensures) }

pub returns : goal.returns
returns c =
    room_decides _ (checked-passes _ (sym c.in_ok-check_grammar.ensures)) _ (c.plan_of-plan.result.long_is ∙ ap built_length c.plan_of-plan.ensures)
    c.check_room.ensures
