-- `simulator::judge::run` meets its contract. Assumes nothing.
use Rattle.simulator.proofs.Starting.{few_enough}
use Rattle.simulator.proofs.JudgeMode.{not_done}
use Rattle.simulator.proofs.JudgeLoop.{long_image, at_start, ready, next, fewer, right}
use Rattle.simulator.proofs.judge.run.Goals as goal

pub finals_of-requires : goal.finals_of-requires
finals_of-requires c = long_image c.requires

pub start-first-requires : goal.start-first-requires
start-first-requires c = few_enough c.requires.unrefused c.sizes_of.ensures

pub loop-r-init : goal.loop-r-init
loop-r-init c = at_start (rw (c.start-first.ensures, c.sizes_of.ensures, c.finals_of.ensures)) c.requires

pub returns-in-Done : goal.returns-in-Done
returns-in-Done c = right c.loop-r.invariant c.in-Done.is

pub step-r-requires : goal.step-r-requires
step-r-requires c = ready c.loop-r.invariant

pub loop-r-smaller : goal.loop-r-smaller
loop-r-smaller c = fewer c.loop-r.invariant (not_done _ c.in_default.not-Done) c.step-r.ensures

pub loop-r-preserved : goal.loop-r-preserved
loop-r-preserved c = next c.loop-r.invariant (not_done _ c.in_default.not-Done) c.step-r.ensures
