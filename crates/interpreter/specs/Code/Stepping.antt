-- How the lent cells hold a stack, and one step of the code on them. Assumes nothing: these are definitions.
use Rattle.std.specs.Prelude.{◌≡◌, Bool, cond, List, [], ◌∷◌, ℕ, zero, suc, ◌+◌, ◌*◌, ◌-◌, ◌/◌, ◌%◌, ◌<◌, ◌≤◌, leb, eqb, length, get_or, set}
use Rattle.std.specs.declared.ops.ControlFlow.{ControlFlow}
use Rattle.std.specs.declared.ops.ControlFlow.TheVariants.{Continue, Break}
use Rattle.machine.specs.declared.Config.{Config}
use Rattle.machine.specs.declared.Action.{Action}
use Rattle.machine.specs.declared.Action.TheVariants.{Stop, Change, Push, Pop}
use Rattle.image.specs.declared.Sizes.{Sizes}
use Rattle.machine.specs.declared.Termination.TheVariants.{Over, Stopped}
use Rattle.machine.specs.Run.{Machine, ValidConfig, Entry, entry, Description, config, returned, start}
use Rattle.image.specs.Format
use Rattle.codec.specs.Numbers.{u32_at}
use Rattle.image.specs.Image.{sizes_of, action, machine}
use Rattle.machine.specs.Verdicts.{over_base}
use Rattle.image.specs.Refusals.{Unrefused}
use Rattle.interpreter.specs.declared.Exit.{Exit}
use Rattle.interpreter.specs.declared.Exit.TheVariants.{Terminated, Spent, Deep}
use Rattle.interpreter.specs.declared.RunEnd.{RunEnd}
use Rattle.interpreter.specs.declared.step.RunState.{RunState}
use Rattle.interpreter.specs.PlainRun.{run_on}

-- a cell holds one entry: its pointer times the most symbols, and its symbol
abbrev pub cell_symbols : ℕ
cell_symbols = Format.max_symbols

unfoldable pub cell_of : (symbol pointer : ℕ) → ℕ
cell_of a i = i * cell_symbols + a

-- the entries that the first so many cells hold, the last of them on top
unfoldable pub stack_of : (count : ℕ) → List ℕ → List Entry
stack_of zero ks = []
stack_of (suc n) ks = entry (get_or ks n 0 % cell_symbols) (get_or ks n 0 / cell_symbols) ∷ stack_of n ks

-- the description of a run that a state of the code and the cells stand for; the top entry is in the state
abbrev pub description_of : RunState → (cells : List ℕ) → Description
description_of s ks = over_base s.at s.pointer (stack_of s.below ks)

abbrev pub run_state : Config → (pointer below steps : ℕ) → RunState
run_state c i d n = record { at = c; pointer = i; below = d; steps = n }

-- what came of trying a step: where the run is next, or how it is left and the steps taken
abbrev pub StepResult : Type 0
StepResult = ControlFlow (Exit × ℕ) RunState

abbrev pub exited : Exit → (steps : ℕ) → StepResult
exited e n = Break (e, n)

-- ONE STEP with some budget left, by the action of the configuration's rule
abbrev pub change_result : RunState → Config → StepResult
change_result s c = Continue (run_state c s.pointer s.below (s.steps + 1))

unfoldable pub push_result : RunState → Config → (cells : ℕ) → StepResult
push_result s c k =
    cond (leb (s.below + 2) k) (Continue (run_state c c.head (s.below + 1) (s.steps + 1))) (exited Deep s.steps)

-- a pop to state p with the head at i then; v is the cell of the entry below; with none below the run is over
unfoldable pub popped_to : RunState → (accepting : Bool) → (state head v : ℕ) → StepResult
popped_to s t p i v =
    cond (eqb s.below 0) (exited (Terminated (Over t)) (s.steps + 1))
    (Continue (run_state (config p i (v % cell_symbols)) (v / cell_symbols) (s.below - 1) (s.steps + 1)))

-- the head after a pop
abbrev pub pop_head : RunState → (returns : Bool) → ℕ
pop_head s r = returned r s.pointer s.at.head

unfoldable pub pop_result : (accepting : (state head : ℕ) → Bool) → RunState → (cells : List ℕ) → (state : ℕ) → (returns : Bool) → StepResult
pop_result f s ks p r = popped_to s (f p (pop_head s r)) p (pop_head s r) (get_or ks (s.below - 1) 0)

unfoldable pub take_result : (accepting : (state head : ℕ) → Bool) → RunState → (cells : List ℕ) → Action → StepResult
take_result f s ks (Stop r) = exited (Terminated (Stopped r)) s.steps
take_result f s ks (Change c) = change_result s c
take_result f s ks (Push c) = push_result s c (length ks)
take_result f s ks (Pop p r) = pop_result f s ks p r

-- ONE STEP: with the budget spent, a rule that stops the run comes first
unfoldable pub spent_exit : Action → Exit
spent_exit (Stop r) = Terminated (Stopped r)
spent_exit (Change c) = Spent
spent_exit (Push c) = Spent
spent_exit (Pop p r) = Spent

unfoldable pub result_by : Machine → (budget : ℕ) → RunState → (cells : List ℕ) → Action → StepResult
result_by M b s ks a = cond (eqb s.steps b) (exited (spent_exit a) s.steps) (take_result M.accepting s ks a)

-- only a push that is made writes a cell: the entry that was on top
unfoldable pub cells_pushed : RunState → (cells : List ℕ) → List ℕ
cells_pushed s ks = cond (leb (s.below + 2) (length ks)) (set ks s.below (cell_of s.at.symbol s.pointer)) ks

unfoldable pub cells_taken : RunState → (cells : List ℕ) → Action → List ℕ
cells_taken s ks (Stop r) = ks
cells_taken s ks (Change c) = ks
cells_taken s ks (Push c) = cells_pushed s ks
cells_taken s ks (Pop p r) = ks

unfoldable pub cells_by : (budget : ℕ) → RunState → (cells : List ℕ) → Action → List ℕ
cells_by b s ks a = cond (eqb s.steps b) ks (cells_taken s ks a)

-- WHAT A STEP NEEDS: the configuration is one of the machine's, the stack fits the cells, and the cells in use hold entries of the machine's
pub record StackReady (M : Machine) (s : RunState) (ks : List ℕ) : Type 0 where
  pub there : ValidConfig M s.at
  pub pointer_below : s.pointer < M.places
  pub room : s.below < length ks
  pub symbols_below : (i : ℕ) → i < s.below → get_or ks i 0 % cell_symbols < M.symbols
  pub pointers_below : (i : ℕ) → i < s.below → get_or ks i 0 / cell_symbols < M.places

-- WHAT THE CODE'S FUNCTIONS NEED AND GIVE. The most steps that 32 bits count
abbrev pub max_steps : ℕ
max_steps = 4294967295

-- an entry that fits a cell, a cell for it, and one more step to count
pub record PushReady (s : RunState) (ks : List ℕ) : Type 0 where
  pub more : s.steps < max_steps
  pub head_few : s.at.head < Format.max_places
  pub pointer_few : s.pointer < Format.max_places
  pub symbol_few : s.at.symbol < cell_symbols
  pub room : s.below < length ks

pub record PopReady (state : ℕ) (s : RunState) (ks : List ℕ) : Type 0 where
  pub ready : PushReady s ks
  pub state_few : state < Format.max_states

pub record TakeReady (a : Action) (s : RunState) (ks : List ℕ) : Type 0 where
  pub ready : PushReady s ks
  pub pops : (p : ℕ) (r : Bool) → a ≡ Pop p r → p < Format.max_states

pub record PlainStepReady (bs cs : List ℕ) (z : Sizes) (finals budget : ℕ) (s : RunState) (ks : List ℕ) : Type 0 where
  pub unrefused : Unrefused bs cs
  pub counts : z ≡ sizes_of bs cs
  pub finals_are : finals ≡ u32_at bs Format.finals_offset
  pub within : s.steps ≤ budget
  pub ready : StackReady (machine bs cs) s ks

pub record RunReady (bs cs ks : List ℕ) : Type 0 where
  pub unrefused : Unrefused bs cs
  pub some_cell : 0 < length ks

-- the answer and the cells are these
pub record Stepped (w : StepResult) (ks : List ℕ) (r : StepResult) (ks_now : List ℕ) : Type 0 where
  pub result : r ≡ w
  pub cells : ks_now ≡ ks

abbrev pub PushSays : RunState → Config → (cells : List ℕ) → StepResult → (cells_now : List ℕ) → Type 0
PushSays s c ks r ks_now = Stepped (push_result s c (length ks)) (cells_pushed s ks) r ks_now

abbrev pub TakeSays :
    (accepting : (state head : ℕ) → Bool) → RunState → (cells : List ℕ) → Action → StepResult → (cells_now : List ℕ) → Type 0
TakeSays f s ks a r ks_now = Stepped (take_result f s ks a) (cells_taken s ks a) r ks_now

abbrev pub PlainStepSays : (image capture : List ℕ) → (budget : ℕ) → RunState → (cells : List ℕ) → StepResult → (cells_now : List ℕ) → Type 0
PlainStepSays bs cs b s ks r ks_now =
    Stepped (result_by (machine bs cs) b s ks (action bs cs s.at)) (cells_by b s ks (action bs cs s.at)) r ks_now

-- the whole run's answer
abbrev pub RunAnswers : (image capture : List ℕ) → (budget cells : ℕ) → RunEnd → Type 0
RunAnswers bs cs b k r = r ≡ run_on b (machine bs cs) 0 k start
