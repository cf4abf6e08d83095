-- `chain::step::step` meets its contract, by the mode. Assumes nothing.
use Rattle.chain.proofs.StepAdds.{look_ready, unwind_ready, clear_ready, says_by, clear_says, done_says}
use Rattle.chain.proofs.step.step.Goals as goal

pub look-requires : goal.look-requires
look-requires c =
    look_ready c.requires c.in-Look.is

pub unwind-requires : goal.unwind-requires
unwind-requires c =
    unwind_ready c.requires c.in-Unwind.is

pub clear-requires : goal.clear-requires
clear-requires c =
    clear_ready c.requires c.in-Clear.is

pub returns-in-Look : goal.returns-in-Look
returns-in-Look c =
    says_by c.requires c.in-Look.is c.look.ensures

pub returns-in-Unwind : goal.returns-in-Unwind
returns-in-Unwind c =
    says_by c.requires c.in-Unwind.is c.unwind.ensures

pub returns-in-Clear : goal.returns-in-Clear
returns-in-Clear c =
    clear_says c.requires c.in-Clear.is c.clear.ensures

pub returns-in-Done : goal.returns-in-Done
returns-in-Done c =
    rw c.unmoved.ensures (done_says c.requires c.in-Done.is)
