-- `sejimakpu::put_grammar` meets its contract: a grammar that was read fits the buffer. Assumes nothing.
use mathlib.Core.Path.{refl}
use Rattle.typed.proofs.ReadRight.{read_fits}
use Rattle.sejimakpu.proofs.put_grammar.Goals as goal

pub slice_bounds-copy_from_slice-end : goal.slice_bounds-copy_from_slice-end
slice_bounds-copy_from_slice-end c = (read_fits c.requires.0 c.in-Ok.read (rw c.in-Ok.is at c.requires.1)).1

pub returns-in-Ok : goal.returns-in-Ok
returns-in-Ok c = rw (c.in-Ok.is, c.copy_from_slice.ensures.after) refl

pub returns-in_default : goal.returns-in_default
returns-in_default c = rw c.in_default.is refl
