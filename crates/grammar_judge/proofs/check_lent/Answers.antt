-- `grammar_judge::check_lent` meets its contract: 13 by the plan, then 7 to 9. Assumes nothing.
use Rattle.std.proofs.lemmas.Result.{err_from_is_err_and}
use Rattle.builder.proofs.CodeBuild.{room_decides}
use Rattle.grammar_judge.proofs.Refusing.{first_refused, then_refused}
use Rattle.grammar_judge.proofs.check_lent.Goals as goal

pub returns-in_err-check_room : goal.returns-in_err-check_room
returns-in_err-check_room c =
    let p = err_from_is_err_and c.from_residual.result c.from_residual.ensures.1 in
    rw (p.1, p.2)
    (first_refused _ _ _ _ _ _ (room_decides _ c.args.plan.grammar.right _ c.args.plan.long_is c.in_err-check_room.ensures))

pub returns : goal.returns
returns c =
    then_refused _ _ _ _ _ (room_decides _ c.args.plan.grammar.right _ c.args.plan.long_is c.in_ok-check_room.ensures)
    c.check_cells.ensures
