-- The numbers of what the call `plain_run` answers. Assumes nothing: these are definitions.
use Rattle.std.specs.Prelude.{ℕ, Ok, Err}
use Rattle.machine.specs.declared.Reply.{Reply}
use Rattle.machine.specs.Terminating.{termination_verdict}
use Rattle.machine.specs.Replies.{verdict_number, refusal_reply, answer_reply}
use Rattle.interpreter.specs.declared.Exit.{Exit}
use Rattle.interpreter.specs.declared.Exit.TheVariants.{Terminated, Spent, Deep}
use Rattle.interpreter.specs.Answers.{Ran}

-- an exit's number: the verdict's where the run terminates, and two more
unfoldable pub exit_number : Exit → ℕ
exit_number (Terminated h) = verdict_number (termination_verdict h)
exit_number Spent = 5
exit_number Deep = 6

-- the steps taken are a count
unfoldable pub of_ran : Ran → Reply
of_ran (Err f) = refusal_reply f
of_ran (Ok e) = answer_reply (exit_number e.exit) e.steps e.reached
