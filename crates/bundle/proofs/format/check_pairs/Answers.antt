-- `bundle::format::check_pairs` meets its contract. Assumes nothing.
use Rattle.bundle.proofs.PairsRead.{pair_room}
use Rattle.bundle.proofs.format.check_pairs.Goals as goal

pub read_pair-pair-requires : goal.read_pair-pair-requires
read_pair-pair-requires c = pair_room c.requires.1 c.loop-i-test.true c.place_of-at.ensures
