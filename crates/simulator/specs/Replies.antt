-- The numbers of what the calls `cells` and `judge` answer. Assumes nothing: these are definitions.
use Rattle.std.specs.Prelude.{Err, Ok}
use Rattle.machine.specs.declared.Reply.{Reply}
use Rattle.machine.specs.Replies.{verdict_number, refusal_reply, answer_reply, count_reply}
use Rattle.simulator.specs.Answers.{Needs}
use Rattle.simulator.specs.Answers.{Judged}

-- the cells needed are a count
unfoldable pub of_needs : Needs → Reply
of_needs (Err f) = refusal_reply f
of_needs (Ok n) = count_reply n

-- so are the readings
unfoldable pub of_judged : Judged → Reply
of_judged (Err f) = refusal_reply f
of_judged (Ok j) = answer_reply (verdict_number j.verdict) j.readings j.end
