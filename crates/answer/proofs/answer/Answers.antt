-- `answer::answer` meets its contract: the line of what judging says is written. Assumes nothing.
use Rattle.answer.specs.Calls.{judged_line, AnswerSays}
use Rattle.answer.proofs.answer.Goals as goal

pub returns-in-Ok : goal.returns-in-Ok
unfolding AnswerSays judged_line
returns-in-Ok c = record { line = _; right = c.in-Ok.ensures; lined = c.put_answer.ensures }

pub returns-in-Err : goal.returns-in-Err
unfolding AnswerSays judged_line
returns-in-Err c = record { line = _; right = c.in-Err.ensures; lined = rw (c.number.ensures, c.place.ensures) at c.put_refusal.ensures }
