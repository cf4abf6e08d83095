-- The step-by-step run of a machine: configurations, stack entries, one step, so many steps. Paper 000 calls it the interpreter. Assumes nothing: these are definitions.
use Rattle.std.specs.Prelude.{Bool, cond, List, [], ◌∷◌, ℕ, zero, suc, ◌+◌, ◌*◌, ◌/◌, ◌%◌, ◌<◌}
use Rattle.std.proofs.Math.Option.{Option, none, some}
use Rattle.machine.specs.declared.Config.{Config}
use Rattle.machine.specs.declared.Action.{Action}
use Rattle.machine.specs.declared.Reason.{Reason}
use Rattle.machine.specs.declared.Reason.TheVariants.{Missing}
use Rattle.machine.specs.declared.Termination.{Termination}
use Rattle.machine.specs.declared.Termination.TheVariants.{Over, Stopped}
use Rattle.machine.specs.declared.Action.TheVariants.{Stop, Change, Push, Pop}

abbrev pub config : (state head symbol : ℕ) → Config
config p i a = record { state = p; head = i; symbol = a }

-- A MACHINE ON ITS TAPE, all that a run sees of an image and a capture: how many states, tape places and symbols there are, what each configuration's rule does, and with which state and head a run that ends accepts
pub record Machine : Type 0 where
  pub states : ℕ
  pub places : ℕ
  pub symbols : ℕ
  pub action : Config → Action
  pub accepting : (state head : ℕ) → Bool

-- a configuration's number, by the counts of tape places and symbols: (p (n + 2) + i) G + A
unfoldable pub number_by : (places symbols : ℕ) → Config → ℕ
number_by m g c = (c.state * m + c.head) * g + c.symbol

unfoldable pub number : Machine → Config → ℕ
number M c = number_by M.places M.symbols c

-- the configuration of a number
unfoldable pub config_by : (places symbols : ℕ) → (number : ℕ) → Config
config_by m g k = config (k / g / m) (k / g % m) (k % g)

-- N, the count of configurations
unfoldable pub how_many : Machine → ℕ
how_many M = M.states * M.places * M.symbols

pub record ValidConfig (M : Machine) (c : Config) : Type 0 where
  pub state_below : c.state < M.states
  pub head_below : c.head < M.places
  pub symbol_below : c.symbol < M.symbols

-- THE RUN: state, head, and stack entries with the top one first (an instantaneous description)
pub record Entry : Type 0 where
  pub symbol : ℕ
  pub pointer : ℕ

pub record Description : Type 0 where
  pub state : ℕ
  pub head : ℕ
  pub stack : List Entry

abbrev pub entry : (symbol pointer : ℕ) → Entry
entry a i = record { symbol = a; pointer = i }

abbrev pub description : (state head : ℕ) → List Entry → Description
description p i es = record { state = p; head = i; stack = es }

-- one step: a rule stops the run, it is over with the last entry gone, or it is on
pub data Outcome : Type 0 where
  stopped : Reason → Outcome
  over : (state head : ℕ) → Outcome
  next : Description → Outcome

-- the head after a pop: back at the removed entry's pointer, or where it is
abbrev pub returned : (returns : Bool) → (pointer head : ℕ) → ℕ
returned b i j = cond b i j

unfoldable pub step_by : Action → (head : ℕ) → Entry → List Entry → Outcome
step_by (Stop r) i e es = stopped r
step_by (Change c) i e es = next (description c.state c.head (entry c.symbol e.pointer ∷ es))
step_by (Push c) i e es = next (description c.state c.head (entry c.symbol c.head ∷ e ∷ es))
step_by (Pop p r) i e [] = over p (returned r e.pointer i)
step_by (Pop p r) i e (f ∷ es) = next (description p (returned r e.pointer i) (f ∷ es))

unfoldable pub step_on : Machine → (state head : ℕ) → List Entry → Outcome
step_on M p i [] = stopped Missing
step_on M p i (e ∷ es) = step_by (M.action (config p i e.symbol)) i e es

unfoldable pub step : Machine → Description → Outcome
step M x = step_on M x.state x.head x.stack

unfoldable pub start : Description
start = description 0 0 (entry 0 0 ∷ [])

-- how a run terminates there, if it does
unfoldable pub termination : Machine → Outcome → Option Termination
termination M (stopped r) = some (Stopped r)
termination M (over p i) = some (Over (M.accepting p i))
termination M (next y) = none

-- where a run is after so many steps, if it goes on so far
unfoldable pub only_next : Outcome → Option Description
only_next (stopped r) = none
only_next (over p i) = none
only_next (next y) = some y

unfoldable pub further : Machine → Option Description → Option Description
further M none = none
further M (some x) = only_next (step M x)

unfoldable pub after : (steps : ℕ) → Machine → Description → Option Description
after zero M x = some x
after (suc n) M x = further M (after n M x)

-- the configuration that a run is in: with no entry left there is none, and symbol 0 stands for it
unfoldable pub top : List Entry → ℕ
top [] = 0
top (e ∷ es) = e.symbol

unfoldable pub config_of : Description → Config
config_of x = config x.state x.head (top x.stack)
