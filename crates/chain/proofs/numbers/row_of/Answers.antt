-- `chain::numbers::row_of` meets its contract: the number without two of its three shares is the third. Assumes nothing.
use Rattle.chain.proofs.NumberLaws.{share_fits, share_least, symbol_least, row_is}
use Rattle.chain.proofs.numbers.row_of.Goals as goal

pub overflow_mul-share : goal.overflow_mul-share
overflow_mul-share c = share_fits c.requires

pub overflow_sub-result : goal.overflow_sub-result
overflow_sub-result c = share_least c.requires

pub overflow_sub-result-2 : goal.overflow_sub-result-2
overflow_sub-result-2 c = symbol_least c.requires

pub returns : goal.returns
returns c = row_is c.requires
