-- `refuted::all` meets its contract. Assumes nothing.
use Rattle.refuted.proofs.AllRefuted.{refuted}
use Rattle.refuted.proofs.all.Goals as goal

pub returns : goal.returns
returns c = refuted
