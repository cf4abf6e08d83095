-- What the functions on a configuration's number ask: only the code needs these. Assumes nothing: these are definitions.
use Rattle.std.specs.Prelude.{◌≡◌, ℕ, ◌+◌, ◌*◌, ◌<◌, ◌≤◌}
use Rattle.machine.specs.declared.Config.{Config}
use Rattle.image.specs.Format
use Rattle.chain.specs.declared.Environment.{Environment}
use Rattle.chain.specs.Step.{number_in}
use Rattle.chain.specs.Chain.{reciprocals_by}

-- numbers of 32 bits are below this
abbrev pub u32_end : ℕ
u32_end = 4294967296

-- what an environment keeps of its counts, which are within the limits
pub record Constants (e : Environment) : Type 0 where
  pub stride_is : e.stride ≡ e.sizes.places * e.sizes.symbols
  pub reciprocals_are : e.reciprocals ≡ reciprocals_by e.sizes.symbols (e.sizes.places * e.sizes.symbols)
  pub symbols_some : 0 < e.sizes.symbols
  pub symbols_most : e.sizes.symbols ≤ Format.max_symbols
  pub places_some : 0 < e.sizes.places
  pub places_most : e.sizes.places ≤ Format.max_places

-- a configuration within these counts
pub record ConfigBelow (e : Environment) (c : Config) : Type 0 where
  pub state_low : c.state < Format.max_states
  pub head_below : c.head < e.sizes.places
  pub symbol_below : c.symbol < e.sizes.symbols

-- k is the number of such a configuration
pub record Numbered (e : Environment) (c : Config) (k : ℕ) : Type 0 where
  pub constants : Constants e
  pub below : ConfigBelow e c
  pub is : k ≡ number_in e c

-- a rule leads from one configuration to another, whose head is one place to the right at most
pub record Leads (e : Environment) (at c : Config) : Type 0 where
  pub below : ConfigBelow e c
  pub right_most : c.head ≤ at.head + 1

pub record Moves (e : Environment) (k : ℕ) (at c : Config) : Type 0 where
  pub from : Numbered e at k
  pub leads : Leads e at c

-- k can be taken apart
pub record Apart (e : Environment) (k : ℕ) : Type 0 where
  pub constants : Constants e
  pub below : k < Format.max_states * e.sizes.places * e.sizes.symbols
