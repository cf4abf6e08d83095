-- `chain::numbers::moved_number` meets its contract: a move adjusts the row. Assumes nothing.
use Rattle.chain.proofs.NumberLaws.{row_room, back_fits, back_least, moved_fits, moved_is}
use Rattle.chain.proofs.numbers.moved_number.Goals as goal

pub overflow_add-row : goal.overflow_add-row
overflow_add-row c = row_room c.requires c.row_of.ensures

pub overflow_mul-row : goal.overflow_mul-row
overflow_mul-row c = back_fits c.requires c.row_of.ensures

pub overflow_sub-row : goal.overflow_sub-row
overflow_sub-row c = back_least c.requires c.row_of.ensures

pub in_row-requires : goal.in_row-requires
in_row-requires c = moved_fits c.requires c.row_of.ensures

pub returns : goal.returns
returns c =
    moved_is c.requires c.row_of.ensures c.in_row.ensures
