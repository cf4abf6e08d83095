-- `chain::step::unwind` meets its contract, by how the newest open configuration was entered. Assumes nothing.
use mathlib.Core.Path.{refl}
use native.Mathlib.Omega.{arith}
use Rattle.chain.proofs.StepSafe.{at_lookup, number_room}
use Rattle.chain.proofs.OpenNotes.{number_cast, number_offset}
use Rattle.chain.proofs.Unwinding.{newest_now, unwinds_on, unwind_resumes, unwinds_pop}
use Rattle.chain.proofs.step.unwind.Goals as goal

pub bounds-work-depth : goal.bounds-work-depth
bounds-work-depth c =
    (newest_now c.requires).work_there

pub overflow_cast-i : goal.overflow_cast-i
overflow_cast-i c =
    number_cast (newest_now c.requires)

pub offset_bounds-notes-i : goal.offset_bounds-notes-i
offset_bounds-notes-i c =
    number_offset (newest_now c.requires)

pub bounds-notes-i : goal.bounds-notes-i
bounds-notes-i c =
    (newest_now c.requires).note_there

pub overflow_add-note : goal.overflow_add-note
overflow_add-note c =
    omega (arith, number_room c.requires.ready)

pub offset_bounds-notes-i-2 : goal.offset_bounds-notes-i-2
offset_bounds-notes-i-2 c =
    number_offset (newest_now c.requires)

pub bounds-notes-i-2 : goal.bounds-notes-i-2
bounds-notes-i-2 c =
    (newest_now c.requires).note_there

pub bounds-work-depth-2 : goal.bounds-work-depth-2
bounds-work-depth-2 c =
    (newest_now c.requires).work_there

pub returns-then-odd-eq0 : goal.returns-then-odd-eq0
returns-then-odd-eq0 c =
    unwinds_on c.requires c.if-odd-eq0.true refl

pub action_of-action-requires : goal.action_of-action-requires
action_of-action-requires c =
    at_lookup c.requires.ready

pub resumed-requires : goal.resumed-requires
resumed-requires c =
    unwind_resumes c.requires c.action_of-action.ensures c.head_told-pointer.ensures

pub returns : goal.returns
returns c =
    unwinds_pop c.requires c.action_of-action.ensures c.head_told-pointer.ensures c.if-odd-eq0.false c.resumed.ensures
