-- `promises::kept` meets its contract. Assumes nothing.
use Rattle.promises.proofs.Proved.{promises}
use Rattle.promises.proofs.kept.Goals as goal

pub returns : goal.returns
returns c = promises
