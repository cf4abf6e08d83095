-- `chain::step::popping` meets its contract. Assumes nothing.
use mathlib.Core.Path.{refl}
use Rattle.chain.proofs.OwnTerminator.{pops_pushed, pops_changed}
use Rattle.chain.proofs.PopLaws.{own_pops}
use Rattle.chain.proofs.step.popping.Goals as goal

pub after_pop-requires : goal.after_pop-requires
after_pop-requires c =
    own_pops c.requires c.row_of-row.ensures

pub returns-then-r : goal.returns-then-r
returns-then-r c =
    record { closes = λ b. rw c.after_pop.ensures (pops_pushed c.args.e c.args.r _ _ c.if-r.true b); notes_are = refl }

pub returns : goal.returns
returns c =
    record {
      closes = λ b. pops_changed c.args.e c.args.r c.args.state _ c.if-r.false c.requires.own.is b;
      notes_are = refl;
    }
