-- `simulator::judge::start` meets its contract: the start configuration has the number 0. Assumes nothing.
use Rattle.std.proofs.Common.{◌≡◌, refl, rules}
use Rattle.machine.specs.Replies.{no_config}
use Rattle.simulator.proofs.Starting.{number_zero}
use Rattle.simulator.proofs.judge.start.Goals as goal

pub returns : goal.returns
returns c =
    let sizes = c.args.sizes in
    let zero : c.default.result ≡ no_config = search rules in
    rw (c.reciprocals_of.ensures, zero, number_zero sizes.places sizes.symbols) refl
