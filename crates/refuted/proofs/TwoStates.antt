-- A machine that goes from state 0 to state 1 and back for ever: its run comes again to each of its two configurations. Assumes nothing.
use mathlib.Core.Path.{◌≡◌, refl}
use mathlib.Core.Bool.{false}
use mathlib.Core.List.{[], ◌∷◌}
use mathlib.Core.Option.{some}
use Prim.Native.Nat.{ℕ, zero, suc, ◌≤◌}
use native.Mathlib.Omega.{arith}
use Rattle.machine.specs.declared.Action.TheVariants.{Change}
use Rattle.machine.specs.Run.{Machine, config, Description, description, entry, start, step, step_on, step_by, only_next, further, after, config_of, top}
use Rattle.machine.specs.Verdicts.{GoesOn}
use Rattle.machine.specs.VerdictRows.{depth_at, config_at, ComesAgain}

unfoldable pub other_state : ℕ → ℕ
other_state zero = 1
other_state (suc p) = 0

unfoldable pub two_states : Machine
two_states = record { states = 2; places = 1; symbols = 1; action = λ c. Change (config (other_state c.state) 0 0); accepting = λ p i. false }

-- the state after so many steps
unfoldable state_at : ℕ → ℕ
state_at zero = 0
state_at (suc n) = other_state (state_at n)

abbrev place : ℕ → Description
place n = description (state_at n) 0 (entry 0 0 ∷ [])

comes : (n : ℕ) → after n two_states start ≡ some (place n)
unfolding two_states other_state state_at after further only_next start step step_on step_by
comes zero = refl
comes (suc n) = rw (comes n)

pub two_go_on : GoesOn two_states
two_go_on n = (place n, comes n)

one_deep : (m : ℕ) → 1 ≤ depth_at (after m two_states start)
unfolding depth_at
one_deep m = rw (comes m) (omega arith)

-- state 0 comes again at step 2, state 1 at step 3
pub zero_again : ComesAgain two_states 2
unfolding two_states other_state after further only_next start step step_on step_by depth_at config_at config_of top
zero_again = record { earlier = 0; before = omega arith; same = refl; above = λ m h n. one_deep m }

pub one_again : ComesAgain two_states 3
unfolding two_states other_state after further only_next start step step_on step_by depth_at config_at config_of top
one_again = record { earlier = 1; before = omega arith; same = refl; above = λ m h n. one_deep m }

pub two_configs : (config_at (after 2 two_states start) ≡ config 0 0 0) × (config_at (after 3 two_states start) ≡ config 1 0 0)
unfolding two_states other_state after further only_next start step step_on step_by config_at config_of top
two_configs = (refl, refl)
