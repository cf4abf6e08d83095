-- `answer_line::put_refusal` meets its contract. Assumes nothing.
use Rattle.std.proofs.Common.{rules, arith, refl}
use Rattle.refusal.specs.First.{refusal}
use Rattle.answer_line.specs.Line.{refusal_line}
use Rattle.answer_line.proofs.LineLength.{refusal_short}
use Rattle.answer_line.proofs.Writing.{write_both, line_held}
use Rattle.answer_line.proofs.put_refusal.Goals as goal

pub returns : goal.returns
unfolding refusal_line
returns c =
    let parts = write_both c.refusal.ensures c.finish.ensures.feed in
    rw c.finish.ensures.count (line_held parts (refusal_short (refusal c.args.number c.args.place) (omega arith) (omega arith)) refl (search rules))
