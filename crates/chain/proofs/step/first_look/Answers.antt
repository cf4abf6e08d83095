-- `chain::step::first_look` meets its contract, by what the rule does. Assumes nothing.
use mathlib.Core.Path.{sym}
use Rattle.chain.specs.Step
use Rattle.chain.proofs.OwnTerminator.{first_pops}
use Rattle.chain.proofs.step.first_look.Goals as goal

pub moved_number-number-requires : goal.moved_number-number-requires
moved_number-number-requires c =
    record { from = c.requires.own; leads = c.requires.changes _ c.in-Change.is }

pub moved_number-number-requires-in-Push : goal.moved_number-number-requires-in-Push
moved_number-number-requires-in-Push c =
    record { from = c.requires.own; leads = c.requires.pushes _ c.in-Push.is }

pub popping-requires : goal.popping-requires
popping-requires c =
    c.requires.pops _ _ c.in-Pop.is

pub returns-in-Stop : goal.returns-in-Stop
unfolding Step.first_look
returns-in-Stop c =
    record { is = rw (c.in-Stop.is, sym c.from-verdict.ensures) (c.opened.ensures.is c.args.e c.requires.own.is) }

pub returns-in-Change : goal.returns-in-Change
unfolding Step.first_look
returns-in-Change c =
    record { is = rw c.in-Change.is (c.opened-in-Change.ensures.is c.args.e c.moved_number-number.ensures) }

pub returns-in-Push : goal.returns-in-Push
unfolding Step.first_look
returns-in-Push c =
    record { is = rw c.in-Push.is (c.opened-in-Push.ensures.is c.args.e c.moved_number-number-in-Push.ensures) }

pub returns-in-Pop : goal.returns-in-Pop
returns-in-Pop c =
    first_pops c.popping.ensures c.in-Pop.is
