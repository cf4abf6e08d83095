-- `interpreter::step::Run::step` meets its contract: with some budget left the step can be taken. Assumes nothing.
use borrow.Author.Rules.{rules}
use Rattle.interpreter.proofs.MachineLaws.{take_ready}
use Rattle.interpreter.proofs.step.Run.step.Goals as goal

pub take-requires : goal.take-requires
take-requires c = take_ready c.action_of-action-2.ensures c.requires (search rules)
