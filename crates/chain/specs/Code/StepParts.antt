-- What the functions that make up one step ask and give: only the code needs these. Assumes nothing: these are definitions.
use Rattle.std.specs.Prelude.{◌≡◌, Bool, cond, false, List, ℕ, ◌+◌, ◌*◌, ◌-◌, ◌<◌, eqb, length, get_or, set}
use Rattle.machine.specs.declared.Config.{Config}
use Rattle.machine.specs.declared.Action.{Action}
use Rattle.machine.specs.declared.Action.TheVariants.{Change, Push, Pop}
use Rattle.machine.specs.declared.Verdict.{Verdict}
use Rattle.image.specs.Format
use Rattle.image.specs.Image.{machine}
use Rattle.image.specs.Code.Lookup.{LookupReady}
use Rattle.chain.specs.declared.Mode.{Mode}
use Rattle.chain.specs.declared.Mode.TheVariants.{Clear, Done}
use Rattle.chain.specs.declared.Environment.{Environment}
use Rattle.chain.specs.declared.Registers.{Registers}
use Rattle.chain.specs.Step.{with_cells, with_reading, number_in, closed, opened, first_look, clear, step_by_mode}
use Rattle.chain.specs.Chain.{environment_of}
use Rattle.chain.specs.Code.Ready.{OpenAt, Ready}
use Rattle.chain.specs.Code.NumberParts.{u32_end, Numbered, Leads}

-- registers with a number that the code has at hand
abbrev pub registers_with : Mode → Config → (number : ℕ) → (pushed : Bool) → (depth readings : ℕ) → Registers
registers_with m c k b t n = record { mode = m; at = c; number = k; pushed = b; depth = t; readings = n }

abbrev pub cleared_with : Registers → Verdict → (depth : ℕ) → Registers
cleared_with r v t =
    cond (eqb t 0) (registers_with (Done v) r.at r.number false 0 r.readings) (registers_with (Clear v) r.at r.number false t r.readings)

-- where a configuration is open, the newest is told
abbrev pub Newest : Environment → (notes work : List ℕ) → (depth : ℕ) → Type 0
Newest e ns ws t = 0 < t → OpenAt e ns ws (t - 1)

-- the terminator d popped an entry, with this state and this head, whose row is at hand
pub record PopReady (e : Environment) (d : Config) (k row state head depth : ℕ) (notes work : List ℕ) : Type 0 where
  pub terminator : Numbered e d k
  pub row_is : row ≡ head * e.sizes.symbols
  pub state_low : state < Format.max_states
  pub head_below : head < e.sizes.places
  pub newest : Newest e notes work depth

-- an entry with this pointer can be popped by d, if the action is a pop
pub record Resumable (e : Environment) (d : Config) (k : ℕ) (a : Action) (pointer depth : ℕ) (notes work : List ℕ) : Type 0 where
  pub terminator : Numbered e d k
  pub state_low : (p : ℕ) (b : Bool) → a ≡ Pop p b → p < Format.max_states
  pub pointer_below : pointer < e.sizes.places
  pub newest : Newest e notes work depth

-- the configuration looked at can be opened: it has its cells, and depth and count fit 32 bits
pub record Openable (r : Registers) (notes work : List ℕ) : Type 0 where
  pub head_low : r.at.head < Format.max_places
  pub symbol_low : r.at.symbol < Format.max_symbols
  pub note_there : r.number < length notes
  pub work_there : r.depth < length work
  pub depth_room : r.depth + 1 < u32_end
  pub readings_room : r.readings + 1 < u32_end

-- it can pop into a state: it is unseen, and note and count fit 32 bits
pub record Poppable (e : Environment) (r : Registers) (state : ℕ) (notes work : List ℕ) : Type 0 where
  pub own : Numbered e r.at r.number
  pub state_low : state < Format.max_states
  pub newest : Newest e notes work r.depth
  pub unseen : get_or notes r.number 0 ≡ 0
  pub number_room : r.number + 2 < u32_end
  pub readings_room : r.readings + 1 < u32_end
  pub note_there : r.number < length notes

-- and its rule's action can be taken
pub record FirstReady (e : Environment) (r : Registers) (a : Action) (notes work : List ℕ) : Type 0 where
  pub openable : Openable r notes work
  pub changes : (c : Config) → a ≡ Change c → Leads e r.at c
  pub pushes : (c : Config) → a ≡ Push c → Leads e r.at c
  pub pops : (p : ℕ) (b : Bool) → a ≡ Pop p b → Poppable e r p notes work
  pub own : Numbered e r.at r.number

-- it is its own terminator, whether its pop returns or not
pub record Pops (e : Environment) (r x : Registers) (state : ℕ) (notes notes_now work : List ℕ) : Type 0 where
  pub closes : (b : Bool) → x ≡ closed e (with_reading e r) r.at (Pop state b) work
  pub notes_are : notes_now ≡ set notes r.number (r.number + 2)

-- the configuration looked at has the terminator d, number k, whose rule can be read
pub record Closable (bs cs : List ℕ) (e : Environment) (r : Registers) (d : Config) (k : ℕ) (notes work : List ℕ) : Type 0 where
  pub environment_is : e ≡ environment_of bs cs
  pub lookup : LookupReady bs cs e.sizes d
  pub terminator : Numbered e d k
  pub pointer_below : r.at.head < e.sizes.places
  pub newest : Newest e notes work r.depth

-- the configuration looked at is opened, and c with its number is the next
pub record Opens (r : Registers) (m : Mode) (c : Config) (k : ℕ) (pushed : Bool) (x : Registers) (notes notes_now work work_now : List ℕ) : Type 0 where
  pub is : (e : Environment) → k ≡ number_in e c → with_cells x notes_now work_now ≡ opened e r r.number m c pushed notes work

-- it is looked at for the first time
pub record FirstLooks (e : Environment) (r : Registers) (a : Action) (x : Registers) (notes notes_now work work_now : List ℕ) : Type 0 where
  pub is : with_cells x notes_now work_now ≡ first_look e r r.number a notes work

-- a step of a known mode
pub record StepsBy (m : Mode) (bs cs : List ℕ) (e : Environment) (r x : Registers) (notes notes_now work work_now : List ℕ) : Type 0 where
  pub is : with_cells x notes_now work_now ≡ step_by_mode m (machine bs cs) e r notes work

-- a configuration to look at: no note is 1, since an open one says more
pub record Lookable (bs cs : List ℕ) (e : Environment) (r : Registers) (notes work : List ℕ) : Type 0 where
  pub ready : Ready bs cs e r notes work
  pub told : (k : ℕ) → get_or notes k 0 ≡ 1 → ⊥

-- there is an open configuration to unwind
pub record Unwindable (bs cs : List ℕ) (e : Environment) (r : Registers) (notes work : List ℕ) : Type 0 where
  pub ready : Ready bs cs e r notes work
  pub one_open : 0 < r.depth

-- there is one to clear
pub record Clearable (r : Registers) (notes work : List ℕ) : Type 0 where
  pub one_open : 0 < r.depth
  pub work_there : r.depth - 1 < length work
  pub note_there : get_or work (r.depth - 1) 0 < length notes

-- the newest open configuration is noted as one without terminator, and taken off
pub record Clears (r x : Registers) (v : Verdict) (notes notes_now work work_now : List ℕ) : Type 0 where
  pub is :
      (e : Environment) → r.number ≡ number_in e r.at →
      with_cells x notes_now work_now ≡ clear e r v (r.depth - 1) (get_or work (r.depth - 1) 0) notes work
