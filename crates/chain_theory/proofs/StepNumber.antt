-- A step keeps the number beside its configuration, whatever the cells are: every record that it makes is built with it, or is the one that it got. Assumes nothing.
use mathlib.Core.Path.{◌≡◌, refl}
use mathlib.Core.Bool.{Bool, true, false, cond}
use mathlib.Core.List.{List}
use Prim.Native.Nat.{ℕ, ◌-◌, ◌%◌}
use lib.Dec.{eqb}
use lib.ListN.{get_or}
use Rattle.machine.specs.declared.Config.{Config}
use Rattle.machine.specs.declared.Action.{Action}
use Rattle.machine.specs.declared.Action.TheVariants.{Stop, Change, Push, Pop}
use Rattle.machine.specs.declared.Note.{Note}
use Rattle.machine.specs.declared.Note.TheVariants.{Unseen, Open, Closed}
use Rattle.machine.specs.Run.{Machine}
use Rattle.chain.specs.declared.Mode.{Mode}
use Rattle.chain.specs.declared.Mode.TheVariants.{Look, Unwind, Clear, Done}
use Rattle.chain.specs.declared.Environment.{Environment}
use Rattle.chain.specs.declared.Registers.{Registers}
use Rattle.chain.specs.Step.{ProgramState, number_in, with_reading, resumed, closed, first_look, look, unwound, unwind, cleared, clear, step_by_mode, judge_step}

pub record NumberBeside (E : Environment) (r : Registers) : Type 0 where
  pub number_is : r.number ≡ number_in E r.at

either_numbered : {E : Environment} (b : Bool) (r x : Registers) → NumberBeside E r → NumberBeside E x → NumberBeside E (cond b r x)
either_numbered true r x f g = f
either_numbered false r x f g = g

module _ (E : Environment) where
  resumed_numbered :
      (r : Registers) (d : Config) (a : Action) (i t : ℕ) (ws : List ℕ) → NumberBeside E r → NumberBeside E (resumed E r d a i t ws)
  unfolding resumed
  resumed_numbered r d (Stop why) i t ws h = h
  resumed_numbered r d (Change c) i t ws h = h
  resumed_numbered r d (Push c) i t ws h = h
  resumed_numbered r d (Pop p b) i t ws h = either_numbered (eqb t 0) _ _ (record { number_is = refl }) (record { number_is = refl })

  closed_numbered : (r : Registers) (d : Config) (a : Action) (ws : List ℕ) → NumberBeside E r → NumberBeside E (closed E r d a ws)
  unfolding closed
  closed_numbered r d a ws h = either_numbered r.pushed _ _ (resumed_numbered r d a _ _ ws h) (record { number_is = refl })

  first_numbered : (r : Registers) (k : ℕ) (a : Action) (ns ws : List ℕ) → NumberBeside E r → NumberBeside E (first_look E r k a ns ws).state
  unfolding first_look
  first_numbered r k (Stop why) ns ws h = record { number_is = refl }
  first_numbered r k (Change c) ns ws h = record { number_is = refl }
  first_numbered r k (Push c) ns ws h = record { number_is = refl }
  first_numbered r k (Pop p b) ns ws h = closed_numbered (with_reading E r) r.at (Pop p b) ws (record { number_is = refl })

  look_numbered :
      (M : Machine) (r : Registers) (k : ℕ) (v : Note) (ns ws : List ℕ) → NumberBeside E r → NumberBeside E (look M E r k v ns ws).state
  unfolding look
  look_numbered M r k Unseen ns ws h = first_numbered r k (M.action r.at) ns ws h
  look_numbered M r k Open ns ws h = record { number_is = refl }
  look_numbered M r k (Closed j) ns ws h = closed_numbered r _ _ ws h

  by_mode : (m : Mode) (M : Machine) (r : Registers) (ns ws : List ℕ) → NumberBeside E r → NumberBeside E (step_by_mode m M E r ns ws).state
  unfolding step_by_mode unwind unwound clear cleared
  by_mode Look M r ns ws h = look_numbered M r _ _ ns ws h
  by_mode Unwind M r ns ws h = either_numbered (eqb (get_or ns (get_or ws (r.depth - 1) 0) 0 % 2) 0) _ _ (record { number_is = refl }) (resumed_numbered r _ _ _ _ _ h)
  by_mode (Clear v) M r ns ws h = either_numbered (eqb (r.depth - 1) 0) _ _ (record { number_is = refl }) (record { number_is = refl })
  by_mode (Done v) M r ns ws h = h

pub step_numbered :
    (M : Machine) (E : Environment) (x : ProgramState Registers) → NumberBeside E x.state → NumberBeside E (judge_step M E x).state
unfolding judge_step
step_numbered M E x h = by_mode E x.state.mode M x.state x.notes x.work h
