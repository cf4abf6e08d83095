-- `builder::planning::rule_count` meets its contract: the counts are small, so the product fits 32 bits. Assumes nothing.
use native.Mathlib.Omega.{arith}
use mir.Facts.{Fits-below}
use Rattle.builder.proofs.CodeClasses.{grammar_short, classes_most, columns_most, product_most, count_is}
use Rattle.builder.proofs.planning.rule_count.Goals as goal

pub symbol_count-symbols-requires : goal.symbol_count-symbols-requires
symbol_count-symbols-requires c = grammar_short _ c.args.grammar.right

pub overflow_add-columns : goal.overflow_add-columns
overflow_add-columns c = omega (arith, c.requires, classes_most _ c.args.grammar.right)

pub overflow_mul-result : goal.overflow_mul-result
overflow_mul-result c = rw c.from.ensures (Fits-below tt (columns_most _ c.args.grammar.right _ c.requires))

pub overflow_mul-result-2 : goal.overflow_mul-result-2
overflow_mul-result-2 c = rw c.from.ensures (Fits-below tt (product_most _ c.args.grammar.right _ _ c.requires c.symbol_count-symbols.ensures))

pub returns : goal.returns
returns c = rw c.from.ensures (count_is _ _ _ c.requires c.symbol_count-symbols.ensures)
