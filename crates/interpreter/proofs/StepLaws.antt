-- A step of the code, as a function of its state and the cells, is a step of the plain run that they stand for. Assumes nothing.
use mathlib.Core.Path.{◌≡◌, refl, ◌∙◌, ap}
use mathlib.Core.Bool.{Bool, true, false, cond}
use mathlib.Core.List.{List, [], ◌∷◌}
use Prim.Native.Nat.{ℕ, suc, ◌+◌, ◌-◌, ◌/◌, ◌%◌, ◌≤◌, ◌<◌}
use native.Mathlib.Omega.{arith}
use native.Mathlib.Numerals.{add-one}
use lib.Dec.{leb, eqb}
use lib.ListN.{length, get_or, set, length-set}
use borrow.Author.Tests.{leb-true, leb-false, eqb-true, eqb-false}
use Rattle.std.specs.declared.ops.ControlFlow.TheVariants.{Continue, Break}
use Rattle.machine.specs.declared.Config.{Config}
use Rattle.machine.specs.declared.Action.{Action}
use Rattle.machine.specs.declared.Action.TheVariants.{Stop, Change, Push, Pop}
use Rattle.machine.specs.declared.Reason.{Reason}
use Rattle.machine.specs.declared.Termination.TheVariants.{Over, Stopped}
use Rattle.machine.specs.Run.{Machine, Entry, over, next, step, config, config_of}
use Rattle.machine.specs.Verdicts.{over_base}
use Rattle.machine.proofs.Runs.{config_over, step_stop, step_change, step_push, step_pop, step_pop_last}
use Rattle.interpreter.specs.declared.Exit.TheVariants.{Terminated, Deep}
use Rattle.interpreter.specs.declared.step.RunState.{RunState}
use Rattle.interpreter.specs.declared.RunEnd.{RunEnd}
use Rattle.interpreter.specs.PlainRun.{run_end, spent_or, run_on}
use Rattle.interpreter.specs.Code.Stepping.{cell_symbols, cell_of, stack_of, description_of, run_state, StepResult, exited, change_result, push_result, popped_to, pop_head, pop_result, take_result, spent_exit, result_by, cells_pushed, cells_taken, cells_by, StackReady}
use Rattle.interpreter.proofs.CellLaws.{stack_length, stack_push, stack_pop}
use Rattle.interpreter.proofs.ReadyLaws.{Runnable, symbol_small, ready_change, ready_push, ready_pop}
use Rattle.interpreter.proofs.RunSteps.{run_spent, run_stopped, run_over, run_deep, run_next}

-- the plain run from where state and cells stand
abbrev pub run_from : Machine → (budget : ℕ) → RunState → List ℕ → RunEnd
run_from M b s ks = run_on (b - s.steps) M s.steps (length ks) (description_of s ks)

-- a step to t and its cells: the plain run goes on from there
pub record Goes (M : Machine) (b : ℕ) (s : RunState) (ks : List ℕ) (t : RunState) (ks' : List ℕ) : Type 0 where
  pub more : s.steps < b
  pub counted : t.steps ≡ s.steps + 1
  pub same : run_from M b s ks ≡ run_from M b t ks'
  pub ready : StackReady M t ks'
  pub long : length ks' ≡ length ks

abbrev pub Told : Machine → (budget : ℕ) → RunState → (cells cells_now : List ℕ) → StepResult → Type 0
Told M b s ks ks' (Continue t) = Goes M b s ks t ks'
Told M b s ks ks' (Break e) = run_from M b s ks ≡ run_end e.0 e.1 s.at

at_of : (s : RunState) (ks : List ℕ) → config_of (description_of s ks) ≡ s.at
at_of s ks = config_over s.at s.pointer (stack_of s.below ks)

height_of : (s : RunState) (ks : List ℕ) → length (description_of s ks).stack ≡ suc s.below
height_of s ks = ap suc (stack_length s.below ks)

-- with the budget spent, a rule that stops the run comes first
spent_as :
    (M : Machine) (c : Config) (i : ℕ) (es : List Entry) (a : Action) → M.action c ≡ a → spent_or (step M (over_base c i es)) ≡ spent_exit a
unfolding spent_or spent_exit
spent_as M c i es (Stop r) e = rw (step_stop M c i es e) refl
spent_as M c i es (Change d) e = rw (step_change M c i es e) refl
spent_as M c i es (Push d) e = rw (step_push M c i es e) refl
spent_as M c i [] (Pop p t) e = rw (step_pop_last M c i e) refl
spent_as M c i (f ∷ es) (Pop p t) e = rw (step_pop M c i f es e) refl

-- THE STEP with some budget left, action by action
module _ (M : Machine) (fit : Runnable M) (b : ℕ) (s : RunState) (ks : List ℕ) (r : StackReady M s ks) (more : s.steps < b) where
  fuel : b - s.steps ≡ suc (b - (s.steps + 1))
  fuel = omega arith

  goes_to :
      (t : RunState) (ks' : List ℕ) → step M (description_of s ks) ≡ next (description_of t ks') → t.steps ≡ s.steps + 1 →
      length ks' ≡ length ks → StackReady M t ks' → Goes M b s ks t ks'
  goes_to t ks' e n l q =
      record {
        more = more;
        counted = n;
        ready = q;
        long = l;
        same =
            rw (fuel, n, l, add-one s.steps)
            (run_next M s.steps (length ks) (description_of s ks) (b - suc s.steps) (description_of t ks') e
            (omega (arith, height_of t ks', q.room)));
      }

  stop_told : (why : Reason) → M.action s.at ≡ Stop why → Told M b s ks ks (exited (Terminated (Stopped why)) s.steps)
  stop_told why e =
      let stops = step_stop M s.at s.pointer (stack_of s.below ks) e in
      rw fuel
      (run_stopped M s.steps (length ks) (description_of s ks) (b - (s.steps + 1)) why stops ∙
      ap (run_end (Terminated (Stopped why)) s.steps) (at_of s ks))

  change_told : (c : Config) → M.action s.at ≡ Change c → Told M b s ks ks (change_result s c)
  change_told c e =
      goes_to (run_state c s.pointer s.below (s.steps + 1)) ks (step_change M s.at s.pointer (stack_of s.below ks) e) refl refl
      (ready_change M fit s ks r c (s.steps + 1) e)

  -- the cells with the entry that was on top
  abbrev with_top : List ℕ
  with_top = set ks s.below (cell_of s.at.symbol s.pointer)

  push_step :
      (c : Config) (n : ℕ) → M.action s.at ≡ Push c →
      step M (description_of s ks) ≡ next (description_of (run_state c c.head (s.below + 1) n) with_top)
  push_step c n e =
      rw (stack_push s.below s.at.symbol s.pointer ks (symbol_small M fit s ks r) r.room)
      (step_push M s.at s.pointer (stack_of s.below ks) e)

  push_told :
      (c : Config) → M.action s.at ≡ Push c → (t : Bool) → leb (s.below + 2) (length ks) ≡ t →
      Told M b s ks (cond t with_top ks) (cond t (Continue (run_state c c.head (s.below + 1) (s.steps + 1))) (exited Deep s.steps))
  push_told c e true q =
      let l : s.below + 2 ≤ length ks = leb-true (s.below + 2) (length ks) q in
      goes_to (run_state c c.head (s.below + 1) (s.steps + 1)) with_top (push_step c (s.steps + 1) e) refl
      (length-set ks s.below (cell_of s.at.symbol s.pointer))
      (ready_push M fit s ks r c (s.steps + 1) e (omega arith))
  push_told c e false q =
      let h = height_of (run_state c c.head (s.below + 1) 0) with_top in
      let l : length ks < s.below + 2 = leb-false (s.below + 2) (length ks) q in
      rw fuel
      (run_deep M s.steps (length ks) (description_of s ks) (b - (s.steps + 1)) _ (push_step c 0 e) (omega (arith, h)) ∙
      ap (run_end Deep s.steps) (at_of s ks))

  -- the state with the entry below, which comes back from its cell
  abbrev without_top : (p i n : ℕ) → RunState
  without_top p i n =
      run_state (config p i (get_or ks (s.below - 1) 0 % cell_symbols)) (get_or ks (s.below - 1) 0 / cell_symbols) (s.below - 1) n

  pop_step :
      (p : ℕ) (t : Bool) (n : ℕ) → M.action s.at ≡ Pop p t → 0 < s.below →
      step M (description_of s ks) ≡ next (description_of (without_top p (pop_head s t) n) ks)
  pop_step p t n e l = rw (stack_pop s.below ks l) (step_pop M s.at s.pointer _ (stack_of (s.below - 1) ks) e)

  over_step : (p : ℕ) (t : Bool) → M.action s.at ≡ Pop p t → s.below ≡ 0 → step M (description_of s ks) ≡ over p (pop_head s t)
  unfolding stack_of
  over_step p t e l = rw l (step_pop_last M s.at s.pointer e)

  pop_told :
      (p : ℕ) (t : Bool) → M.action s.at ≡ Pop p t → (u : Bool) → eqb s.below 0 ≡ u →
      Told M b s ks ks
      (cond u (exited (Terminated (Over (M.accepting p (pop_head s t)))) (s.steps + 1)) (Continue (without_top p (pop_head s t) (s.steps + 1))))
  pop_told p t e true q =
      rw (fuel, add-one s.steps)
      (run_over M s.steps (length ks) (description_of s ks) (b - suc s.steps) p (pop_head s t) (over_step p t e (eqb-true s.below 0 q)) ∙
      ap (run_end (Terminated (Over (M.accepting p (pop_head s t)))) (suc s.steps)) (at_of s ks))
  pop_told p t e false q =
      let l : 0 < s.below = omega (arith, eqb-false s.below 0 q) in
      goes_to (without_top p (pop_head s t) (s.steps + 1)) ks (pop_step p t (s.steps + 1) e l) refl refl
      (ready_pop M fit s ks r p t (s.steps + 1) e l)

  taken : (a : Action) → M.action s.at ≡ a → Told M b s ks (cells_taken s ks a) (take_result M.accepting s ks a)
  unfolding take_result cells_taken push_result cells_pushed pop_result popped_to
  taken (Stop why) e = stop_told why e
  taken (Change c) e = change_told c e
  taken (Push c) e = push_told c e (leb (s.below + 2) (length ks)) refl
  taken (Pop p t) e = pop_told p t e (eqb s.below 0) refl

-- A STEP TELLS how the plain run goes on
module _ (M : Machine) (fit : Runnable M) (b : ℕ) (s : RunState) (ks : List ℕ) (r : StackReady M s ks) (w : s.steps ≤ b) where
  told_as :
      (a : Action) → M.action s.at ≡ a → (t : Bool) → eqb s.steps b ≡ t →
      Told M b s ks (cond t ks (cells_taken s ks a)) (cond t (exited (spent_exit a) s.steps) (take_result M.accepting s ks a))
  told_as a e true q =
      let z : b - s.steps ≡ 0 = omega (arith, eqb-true s.steps b q) in
      rw z
      (run_spent M s.steps (length ks) (description_of s ks) (spent_as M s.at s.pointer (stack_of s.below ks) a e) ∙
      ap (run_end (spent_exit a) s.steps) (at_of s ks))
  told_as a e false q = taken M fit b s ks r (omega (arith, eqb-false s.steps b q)) a e

  pub told : Told M b s ks (cells_by b s ks (M.action s.at)) (result_by M b s ks (M.action s.at))
  unfolding result_by cells_by
  told = told_as (M.action s.at) refl (eqb s.steps b) refl
