-- `chain::cells::open_note` meets its contract, by how the configuration was entered. Assumes nothing.
use mathlib.Core.Path.{refl}
use Rattle.chain.proofs.OpenNotes.{open_changed}
use Rattle.chain.proofs.cells.open_note.Goals as goal

pub returns-then-pushed : goal.returns-then-pushed
returns-then-pushed c = rw c.if-pushed.true refl

pub returns-else-pushed : goal.returns-else-pushed
returns-else-pushed c = open_changed c.args.c c.if-pushed.false
