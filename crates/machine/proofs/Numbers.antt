-- Configurations and their numbers: each configuration of a machine has its own number below the count, and each such number its configuration. Assumes nothing.
use mathlib.Core.Path.{◌≡◌, sym, ap, ◌∙◌}
use Prim.Native.Nat.{ℕ, ◌<◌}
use Rattle.machine.specs.declared.Config.{Config}
use Rattle.machine.specs.Run.{Machine, ValidConfig, number_by, number, how_many, config_by}
use Rattle.machine.proofs.Digits.{digits_below, low_digit, middle_digit, high_digit, high_below, middle_below, low_below, number_of_digits, second_positive, third_positive}

pub number_below : {M : Machine} {c : Config} → ValidConfig M c → number M c < how_many M
unfolding number_by number how_many
number_below t = digits_below t.state_below t.head_below t.symbol_below

-- the configuration of a machine's number
unfoldable pub config_at : Machine → ℕ → Config
config_at M k = config_by M.places M.symbols k

pub config_at_there : (M : Machine) (k : ℕ) → k < how_many M → ValidConfig M (config_at M k)
unfolding how_many config_by config_at
config_at_there M k h =
    let m : 0 < M.places = second_positive M.states M.places M.symbols h in
    let g : 0 < M.symbols = third_positive M.states M.places M.symbols h in
    record {
      state_below = high_below k m g h;
      head_below = middle_below M.symbols k m;
      symbol_below = low_below k g;
    }

pub number_config_at : (M : Machine) (k : ℕ) → number M (config_at M k) ≡ k
unfolding number_by number config_by config_at
number_config_at M k = number_of_digits M.places M.symbols k

pub config_at_number : {M : Machine} {c : Config} → ValidConfig M c → config_at M (number M c) ≡ c
unfolding number_by number config_by config_at
config_at_number {M} {c} t =
    simp (
      high_digit c.state t.head_below t.symbol_below,
      middle_digit c.state t.head_below t.symbol_below,
      low_digit c.state c.head M.places t.symbol_below,
    )

pub number_injective : {M : Machine} {c d : Config} → ValidConfig M c → ValidConfig M d → number M c ≡ number M d → c ≡ d
number_injective {M} t u e = sym (config_at_number t) ∙ ap (config_at M) e ∙ config_at_number u
