-- `validator::check::within` meets its contract: a number is below 2 to the states where nothing of it is left after that many shifts. Assumes nothing.
use Prim.Native.Nat.{◌^◌}
use lib.Pow.{pow_pos}
use Rattle.validator.proofs.CheckParts.{no_quotient}
use Rattle.validator.proofs.check.within.Goals as goal

pub returns : goal.returns
returns c = rw (c.from.ensures, no_quotient c.args.finals (2 ^ c.args.states) (pow_pos _))
