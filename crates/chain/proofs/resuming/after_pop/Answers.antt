-- `chain::resuming::after_pop` meets its contract: with none open the run is over, else the newest open configuration resumes. Assumes nothing.
use mathlib.Core.Path.{refl, sym}
use Rattle.chain.proofs.OpenNotes.{newest_open, number_cast, number_offset, resumed_fits, resumed_is}
use Rattle.chain.proofs.resuming.after_pop.Goals as goal

pub returns-then-r-eq0 : goal.returns-then-r-eq0
returns-then-r-eq0 c =
    simp (
      sym c.accepts-accepting.ensures,
      sym c.from-verdict.ensures,
      sym c.requires.terminator.is,
      c.if-r-eq0.true,
    )

pub overflow_cast-i : goal.overflow_cast-i
overflow_cast-i c =
    number_cast (newest_open c.requires c.if-r-eq0.false)

pub offset_bounds-notes-i : goal.offset_bounds-notes-i
offset_bounds-notes-i c =
    number_offset (newest_open c.requires c.if-r-eq0.false)

pub bounds-notes-i : goal.bounds-notes-i
bounds-notes-i c =
    (newest_open c.requires c.if-r-eq0.false).note_there

pub in_row-requires : goal.in_row-requires
in_row-requires c =
    resumed_fits c.requires c.if-r-eq0.false c.symbol_told-symbol.ensures

pub returns : goal.returns
returns c =
    resumed_is c.requires c.if-r-eq0.false c.symbol_told-symbol.ensures refl c.in_row.ensures
