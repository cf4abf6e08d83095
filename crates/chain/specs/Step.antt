-- One step of the judge, as a function of environment, registers, notes and work cells. Paper 000 calls the memoised run a simulator. Assumes nothing: these are definitions.
-- What notes and work cells hold meanwhile stands in Cells.antt.
use Rattle.std.specs.Prelude.{Bool, true, false, cond, List, ℕ, ◌+◌, ◌-◌, ◌/◌, ◌%◌, eqb, get_or, set}
use Rattle.machine.specs.declared.Config.{Config}
use Rattle.machine.specs.declared.Action.{Action}
use Rattle.machine.specs.declared.Action.TheVariants.{Stop, Change, Push, Pop}
use Rattle.machine.specs.declared.Note.{Note}
use Rattle.machine.specs.declared.Note.TheVariants.{Unseen, Open, Closed}
use Rattle.machine.specs.declared.Verdict.{Verdict}
use Rattle.machine.specs.declared.Verdict.TheVariants.{Looping}
use Rattle.machine.specs.declared.Termination.TheVariants.{Over}
use Rattle.machine.specs.Terminating.{stop_verdict, termination_verdict, accepts_by}
use Rattle.machine.specs.Run.{Machine, config, number_by, config_by, returned}
use Rattle.chain.specs.declared.Mode.{Mode}
use Rattle.chain.specs.declared.Mode.TheVariants.{Look, Unwind, Clear, Done}
use Rattle.chain.specs.declared.Environment.{Environment}
use Rattle.chain.specs.declared.Registers.{Registers}
use Rattle.chain.specs.Cells.{open_note, cell_note}

-- a program's own state, with its cells
pub record ProgramState (S : Type 0) : Type 0 where
  pub state : S
  pub notes : List ℕ
  pub work : List ℕ

abbrev pub with_cells : Registers → (notes work : List ℕ) → ProgramState Registers
with_cells r ns ws = record { state = r; notes = ns; work = ws }

-- a configuration's number and a number's configuration, by the environment's counts
abbrev pub number_in : Environment → Config → ℕ
number_in e c = number_by e.sizes.places e.sizes.symbols c

abbrev pub config_in : Environment → (number : ℕ) → Config
config_in e k = config_by e.sizes.places e.sizes.symbols k

-- registers, in which a configuration has its number beside it
abbrev pub registers_of : Environment → Mode → Config → (pushed : Bool) → (depth readings : ℕ) → Registers
registers_of e m c b t n = record { mode = m; at = c; number = number_in e c; pushed = b; depth = t; readings = n }

-- one reading more
abbrev pub with_reading : Environment → Registers → Registers
with_reading e r = registers_of e r.mode r.at r.pushed r.depth (r.readings + 1)

-- the terminator d popped an entry, with this state and head then: the configuration that pushed it, the newest open one by now, resumes; with none open the run is over
abbrev pub after_pop : Environment → (d : Config) → (state head depth readings : ℕ) → (work : List ℕ) → Registers
after_pop e d p i t n ws =
    cond (eqb t 0) (registers_of e (Done (termination_verdict (Over (accepts_by e.finals e.sizes.places p i)))) d false 0 n)
    (registers_of e Look (config p i (get_or ws (t - 1) 0 % e.sizes.symbols)) false t n)

-- d's rule pops an entry with this pointer
unfoldable pub resumed : Environment → Registers → (d : Config) → Action → (pointer depth : ℕ) → (work : List ℕ) → Registers
resumed e r d (Stop why) i t ws = r
resumed e r d (Change c) i t ws = r
resumed e r d (Push c) i t ws = r
resumed e r d (Pop p b) i t ws = after_pop e d p (returned b i d.head) t r.readings ws

-- the configuration looked at has the terminator d: an entry that was pushed is popped, else the newest open configuration gets this terminator too
unfoldable pub closed : Environment → Registers → (d : Config) → Action → (work : List ℕ) → Registers
closed e r d a ws =
    cond r.pushed (resumed e r d a r.at.head r.depth ws) (registers_of e Unwind d false r.depth r.readings)

-- configuration number k is open now: on top of the stack, and its note says what unwinding needs
abbrev pub opened : Environment → Registers → (k : ℕ) → Mode → Config → (pushed : Bool) → (notes work : List ℕ) → ProgramState Registers
opened e r k m c b ns ws =
    with_cells (registers_of e m c b (r.depth + 1) (r.readings + 1)) (set ns k (open_note r.at r.pushed)) (set ws r.depth k)

-- looked at for the first time: its rule says how to go on, and a pop is its own terminator
unfoldable pub first_look : Environment → Registers → (k : ℕ) → Action → (notes work : List ℕ) → ProgramState Registers
first_look e r k (Stop why) ns ws = opened e r k (Clear (stop_verdict why)) r.at r.pushed ns ws
first_look e r k (Change c) ns ws = opened e r k Look c false ns ws
first_look e r k (Push c) ns ws = opened e r k Look c true ns ws
first_look e r k (Pop p b) ns ws = with_cells (closed e (with_reading e r) r.at (Pop p b) ws) (set ns k (k + 2)) ws

-- LOOK at configuration number k, by its note: new, open, or closed
unfoldable pub look : Machine → Environment → Registers → (k : ℕ) → Note → (notes work : List ℕ) → ProgramState Registers
look M e r k Unseen ns ws = first_look e r k (M.action r.at) ns ws
look M e r k Open ns ws = with_cells (registers_of e (Clear Looping) r.at r.pushed r.depth r.readings) ns ws
look M e r k (Closed j) ns ws = with_cells (closed e r (config_in e j) (M.action (config_in e j)) ws) ns ws

-- UNWIND: the newest open configuration, number k with the note v, gets its terminator; so many are open then
unfoldable pub unwound : Machine → Environment → Registers → (k v depth : ℕ) → (work : List ℕ) → Registers
unwound M e r k v t ws =
    cond (eqb (v % 2) 0) (registers_of e Unwind r.at false t r.readings)
    (resumed e r r.at (M.action r.at) (k / e.sizes.symbols % e.sizes.places) t ws)

unfoldable pub unwind : Machine → Environment → Registers → (depth k : ℕ) → (notes work : List ℕ) → ProgramState Registers
unwind M e r t k ns ws =
    with_cells (unwound M e r k (get_or ns k 0) t (set ws t 0)) (set ns k (number_in e r.at + 2)) (set ws t 0)

-- CLEAR: the newest open configuration, number k, is noted as one without terminator and taken off the stack; after the last one the verdict stands
unfoldable pub cleared : Environment → Registers → Verdict → (depth : ℕ) → Registers
cleared e r v t =
    cond (eqb t 0) (registers_of e (Done v) r.at false 0 r.readings) (registers_of e (Clear v) r.at false t r.readings)

unfoldable pub clear : Environment → Registers → Verdict → (depth k : ℕ) → (notes work : List ℕ) → ProgramState Registers
clear e r v t k ns ws = with_cells (cleared e r v t) (set ns k 1) (set ws t 0)

unfoldable pub step_by_mode : Mode → Machine → Environment → Registers → (notes work : List ℕ) → ProgramState Registers
step_by_mode Look M e r ns ws = look M e r (number_in e r.at) (cell_note (get_or ns (number_in e r.at) 0)) ns ws
step_by_mode Unwind M e r ns ws = unwind M e r (r.depth - 1) (get_or ws (r.depth - 1) 0) ns ws
step_by_mode (Clear v) M e r ns ws = clear e r v (r.depth - 1) (get_or ws (r.depth - 1) 0) ns ws
step_by_mode (Done v) M e r ns ws = with_cells r ns ws

-- ONE STEP. The environment stays
unfoldable pub judge_step : Machine → Environment → ProgramState Registers → ProgramState Registers
judge_step M e x = step_by_mode x.state.mode M e x.state x.notes x.work
