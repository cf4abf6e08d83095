-- `chain::numbers::config_from` meets its contract: what is left of a quotient is the remainder. Assumes nothing.
use mathlib.Core.Path.{◌∙◌}
use native.Mathlib.Omega.{arith}
use Rattle.chain.proofs.NumberLaws.{upper_product_fits, state_product_fits, upper_least, state_least, apart_is, upper_is, state_is, symbols_product_fits, stride_product_fits}
use Rattle.chain.proofs.numbers.config_from.Goals as goal

pub overflow_mul-head : goal.overflow_mul-head
overflow_mul-head c = state_product_fits c.requires (c.divided-upper.ensures ∙ upper_is c.requires) (c.divided-state.ensures ∙ state_is c.requires)

pub overflow_sub-head : goal.overflow_sub-head
overflow_sub-head c = state_least c.requires (c.divided-upper.ensures ∙ upper_is c.requires) (c.divided-state.ensures ∙ state_is c.requires)

pub overflow_mul-symbol : goal.overflow_mul-symbol
overflow_mul-symbol c =
    upper_product_fits c.requires (c.divided-upper.ensures ∙ upper_is c.requires)

pub overflow_sub-symbol : goal.overflow_sub-symbol
overflow_sub-symbol c =
    upper_least c.requires (c.divided-upper.ensures ∙ upper_is c.requires)

pub returns : goal.returns
returns c =
    apart_is c.requires (c.divided-upper.ensures ∙ upper_is c.requires) (c.divided-state.ensures ∙ state_is c.requires)

pub divided-upper-requires-clause-product_fits : goal.divided-upper-requires-clause-product_fits
divided-upper-requires-clause-product_fits c = omega (arith, symbols_product_fits c.requires)

pub divided-state-requires-clause-product_fits : goal.divided-state-requires-clause-product_fits
divided-state-requires-clause-product_fits c = omega (arith, stride_product_fits c.requires)
