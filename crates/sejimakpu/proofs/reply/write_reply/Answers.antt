-- `sejimakpu::reply::write_reply` meets its contract. Assumes nothing.
use Rattle.sejimakpu.specs.Cells.{cells}
use mathlib.Core.Path.{refl}
use Rattle.sejimakpu.proofs.reply.write_reply.Goals as goal

pub returns : goal.returns
unfolding cells
returns c = record { number = refl; written = rw (c.from.ensures, c.from-2.ensures, c.from-3.ensures, c.from-4.ensures) refl }
