-- `chain::step::look` meets its contract, by the tests of the cell. Assumes nothing.
use native.Mathlib.Omega.{arith}
use Rattle.chain.proofs.StepSafe.{note_there, at_lookup, first_ready, apart, closable}
use Rattle.chain.proofs.LookBy.{note_unseen, note_closed, look_unseen, look_closed, closed_least}
use Rattle.chain.proofs.step.look.Goals as goal

pub bounds-notes-r : goal.bounds-notes-r
bounds-notes-r c =
    note_there c.requires.ready

pub action_of-action-requires : goal.action_of-action-requires
action_of-action-requires c =
    at_lookup c.requires.ready

pub first_look-requires : goal.first_look-requires
first_look-requires c =
    first_ready c.requires.ready c.if-cell-eq0.true c.action_of-action.ensures

pub returns-then-cell-eq0 : goal.returns-then-cell-eq0
returns-then-cell-eq0 c =
    look_unseen c.requires.ready.number_is (note_unseen c.if-cell-eq0.true) c.action_of-action.ensures c.first_look.ensures

pub overflow_sub-number : goal.overflow_sub-number
overflow_sub-number c =
    closed_least _ c.if-cell-eq0.false (c.requires.told _)

pub config_from-d-requires : goal.config_from-d-requires
config_from-d-requires c =
    apart c.requires.ready _ (note_closed _ c.if-cell-eq0.false (c.requires.told _) (omega arith))

pub closed-requires : goal.closed-requires
closed-requires c =
    closable c.requires.ready _ (note_closed _ c.if-cell-eq0.false (c.requires.told _) (omega arith)) c.config_from-d.ensures

pub returns : goal.returns
returns c =
    let note = note_closed _ c.if-cell-eq0.false (c.requires.told _) (omega arith) in
    look_closed c.requires.ready.number_is note c.config_from-d.ensures c.closed.ensures
