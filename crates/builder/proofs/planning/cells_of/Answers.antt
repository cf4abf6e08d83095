-- `builder::planning::cells_of` meets its contract: the counts are small, so the product fits. Assumes nothing.
use Rattle.builder.proofs.CodeClasses.{grammar_short, cells_told}
use Rattle.builder.proofs.planning.cells_of.Goals as goal

pub symbol_count-symbols-requires : goal.symbol_count-symbols-requires
symbol_count-symbols-requires c = grammar_short _ c.args.grammar.right

pub returns : goal.returns
returns c = rw c.from.ensures (cells_told _ _ _ c.symbol_count-symbols.ensures)
