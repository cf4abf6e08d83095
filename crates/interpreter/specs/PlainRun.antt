-- The plain run of a machine with a budget of steps and so many stack cells, and what it is for its end to be true of the run. Assumes nothing: these are definitions.
use Rattle.std.specs.Prelude.{◌≡◌, cond, ℕ, zero, suc, ◌+◌, ◌≤◌, ◌<◌, ltb, length}
use Rattle.std.proofs.Math.Option.{some}
use Rattle.machine.specs.declared.Config.{Config}
use Rattle.machine.specs.declared.Reason.{Reason}
use Rattle.machine.specs.declared.Termination.TheVariants.{Over, Stopped}
use Rattle.machine.specs.declared.Action.TheVariants.{Push}
use Rattle.machine.specs.Run.{Machine, Description, Outcome, stopped, over, next, step, start, termination, after, config_of}
use Rattle.interpreter.specs.declared.Exit.{Exit}
use Rattle.interpreter.specs.declared.Exit.TheVariants.{Terminated, Spent, Deep}
use Rattle.interpreter.specs.declared.RunEnd.{RunEnd}

-- what a plain run answers: how it is left, the steps taken, the configuration reached
abbrev pub run_end : Exit → (steps : ℕ) → Config → RunEnd
run_end e n c = record { exit = e; steps = n; reached = c }

-- with the budget spent, a rule that stops the run comes first
unfoldable pub spent_or : Outcome → Exit
spent_or (stopped r) = Terminated (Stopped r)
spent_or (over p i) = Spent
spent_or (next y) = Spent

-- with some budget left: a rule stops the run, a last pop (it counts as a step), deep if the step would leave more entries than cells, or on
unfoldable pub run_step : Outcome → (go : Description → RunEnd) → Machine → (steps cells : ℕ) → Description → RunEnd
run_step (stopped r) go M n k x = run_end (Terminated (Stopped r)) n (config_of x)
run_step (over p i) go M n k x = run_end (Terminated (Over (M.accepting p i))) (suc n) (config_of x)
run_step (next y) go M n k x = cond (ltb k (length y.stack)) (run_end Deep n (config_of x)) (go y)

-- THE PLAIN RUN from x on, after so many steps, with fuel steps of the budget left
unfoldable pub run_on : (fuel : ℕ) → Machine → (steps cells : ℕ) → Description → RunEnd
run_on zero M n k x = run_end (spent_or (step M x)) n (config_of x)
run_on (suc f) M n k x = run_step (step M x) (λ y. run_on f M (suc n) k y) M n k x

-- A TRUE END. The run itself at x, after n steps, is as the exit says; spent only where no rule stops it
unfoldable pub ExitsAs : Exit → Machine → (budget cells steps : ℕ) → Description → Type 0
ExitsAs (Terminated h) M b k n x = termination M (step M x) ≡ some h
ExitsAs Spent M b k n x = (n ≡ b) × ((r : Reason) → step M x ≡ stopped r → ⊥)
ExitsAs Deep M b k n x = (n < b) × (length x.stack ≡ k) × (c : Config) × (M.action (config_of x) ≡ Push c)

-- a last pop is a step from the configuration reached
unfoldable pub last_pop : Exit → ℕ
last_pop (Terminated (Over accepting)) = 1
last_pop (Terminated (Stopped r)) = 0
last_pop Spent = 0
last_pop Deep = 0

-- the steps are within the budget, and so many steps of the run lead to the configuration reached, where the run is as the exit says; all the way there the stack fits the cells
pub record TrueEnd (M : Machine) (budget cells : ℕ) (r : RunEnd) : Type 0 where
  pub before : ℕ
  pub place : Description
  pub within : r.steps ≤ budget
  pub counted : r.steps ≡ before + last_pop r.exit
  pub comes : after before M start ≡ some place
  pub is : config_of place ≡ r.reached
  pub fits : (m : ℕ) (y : Description) → m ≤ before → after m M start ≡ some y → length y.stack ≤ cells
  pub exits : ExitsAs r.exit M budget cells r.steps place
