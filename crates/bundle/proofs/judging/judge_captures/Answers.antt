-- `bundle::judging::judge_captures` meets its contract. Assumes nothing.
use Rattle.bundle.proofs.SoFar.{all_done}
use Rattle.bundle.proofs.judging.judge_captures.Goals as goal

pub returns : goal.returns
returns c = all_done c.loop-i.invariant c.count-i-end.ensures.counted c.loop-i-test.false
