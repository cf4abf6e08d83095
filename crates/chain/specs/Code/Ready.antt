-- What one step asks of its state and cells, so that it is safe, and what it gives. Assumes nothing: these are definitions.
use Rattle.std.specs.Prelude.{◌≡◌, Bool, List, ℕ, suc, ◌+◌, ◌-◌, ◌<◌, ◌≤◌, length, get_or}
use Rattle.machine.specs.declared.Config.{Config}
use Rattle.machine.specs.declared.Note.TheVariants.{Closed}
use Rattle.machine.specs.Run.{ValidConfig, how_many}
use Rattle.image.specs.Image.{machine}
use Rattle.machine.specs.Verdicts.{nonzero}
use Rattle.image.specs.Refusals.{Unrefused}
use Rattle.chain.specs.declared.Mode.{Mode}
use Rattle.chain.specs.declared.Mode.TheVariants.{Look, Unwind, Clear, Done}
use Rattle.chain.specs.declared.Environment.{Environment}
use Rattle.chain.specs.declared.Registers.{Registers}
use Rattle.chain.specs.Cells.{open_note, cell_note}
use Rattle.chain.specs.Step.{with_cells, number_in, judge_step}
use Rattle.chain.specs.Chain.{NewlyNoted, environment_of}

-- work cell j names an open configuration, whose note says what unwinding needs
pub record OpenAt (e : Environment) (notes work : List ℕ) (j : ℕ) : Type 0 where
  pub config : Config
  pub pushed : Bool
  pub head_below : config.head < e.sizes.places
  pub symbol_below : config.symbol < e.sizes.symbols
  pub number_is : get_or work j 0 ≡ number_in e config
  pub note_is : get_or notes (get_or work j 0) 0 ≡ open_note config pushed
  pub work_there : j < length work
  pub note_there : get_or work j 0 < length notes
  pub number_fits : get_or work j 0 < 4294967296

-- unwinding and clearing take the newest open configuration: there is one; looking finds no note 1, since an open one says more
abbrev pub OpenFor : Mode → (depth : ℕ) → (notes : List ℕ) → Type 0
OpenFor Look t ns = (k : ℕ) → get_or ns k 0 ≡ 1 → ⊥
OpenFor Unwind t ns = 0 < t
OpenFor (Clear v) t ns = 0 < t
OpenFor (Done v) t ns = Unit

-- the environment is the image's and the capture's, the registers' configuration is one of theirs with its number, the cells are N each, and the two newest open configurations, where there are any, are told and differ
pub record Ready (bs cs : List ℕ) (e : Environment) (r : Registers) (notes work : List ℕ) : Type 0 where
  pub unrefused : Unrefused bs cs
  pub environment_is : e ≡ environment_of bs cs
  pub there : ValidConfig (machine bs cs) r.at
  pub number_is : r.number ≡ number_in e r.at
  pub notes_long : length notes ≡ how_many (machine bs cs)
  pub work_long : length work ≡ how_many (machine bs cs)
  pub depth_low : r.depth ≤ r.readings
  pub counted : r.readings ≡ nonzero (how_many (machine bs cs)) notes
  pub notes_low : (k j : ℕ) → cell_note (get_or notes k 0) ≡ Closed j → j < how_many (machine bs cs)
  pub newest : 0 < r.depth → OpenAt e notes work (r.depth - 1)
  pub next : 0 < r.depth - 1 → OpenAt e notes work (r.depth - 1 - 1)
  pub two : 0 < r.depth - 1 → get_or work (r.depth - 1 - 1) 0 ≡ get_or work (r.depth - 1) 0 → ⊥
  pub open_one : OpenFor r.mode r.depth notes

-- the step is the definition's; what it adds to the readings is what it adds to the nonzero notes, and that is one at most, for the note that turned
pub record StepSays (bs cs : List ℕ) (e : Environment) (r r_now : Registers) (notes notes_now work work_now : List ℕ) : Type 0 where
  pub is : with_cells r_now notes_now work_now ≡ judge_step (machine bs cs) e (with_cells r notes work)
  pub adds :
      r_now.readings + nonzero (how_many (machine bs cs)) notes ≡ r.readings + nonzero (how_many (machine bs cs)) notes_now
  pub one_more : r_now.readings ≤ suc r.readings
  pub newly_noted : NewlyNoted r.readings r_now.readings notes notes_now
