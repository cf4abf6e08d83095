-- `answer::judge_parts` meets its contract: 11 and 12, then what judging by the grammar says. Assumes nothing.
use mathlib.Core.Path.{sym}
use Rattle.std.proofs.lemmas.Result.{err_from_is_err_and}
use Rattle.refusal.proofs.Checked.{checked-passes}
use Rattle.answer.proofs.Answering.{parts_say, grammar_says}
use Rattle.answer.proofs.judge_parts.Goals as goal

pub returns-in_err-check_grammar : goal.returns-in_err-check_grammar
returns-in_err-check_grammar c =
    let p = err_from_is_err_and c.from_residual.result c.from_residual.ensures.1 in
    rw (p.1, p.2) (grammar_says _ _ _ _ c.in_err-check_grammar.ensures)

pub invariant_of-grammar : goal.invariant_of-grammar
invariant_of-grammar c = record { right = checked-passes _ (sym c.in_ok-check_grammar.ensures) }

pub returns : goal.returns
returns c = parts_say _ _ _ _ _ c.judge_by_grammar.ensures
