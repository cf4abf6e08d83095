-- The judge's own steps as one chain from a start state, and what it is for a chain to be correct. Assumes nothing: these are definitions.
use Rattle.std.specs.Prelude.{◌≡◌, true, List, ℕ, zero, suc, ◌+◌, ◌*◌, ◌-◌, ◌/◌, ◌<◌, ◌≤◌, length, take, drop, replicate, ◌↔◌, get_or}
use Rattle.std.proofs.Math.Option.{Option, none, some}
use Rattle.machine.specs.declared.Config.{Config}
use Rattle.image.specs.declared.Sizes.{Sizes}
use Rattle.machine.specs.declared.Verdict.{Verdict}
use Rattle.image.specs.Format
use Rattle.machine.specs.Run.{how_many, config}
use Rattle.codec.specs.Bytes.{byte}
use Rattle.codec.specs.Numbers.{u32_at}
use Rattle.image.specs.Image.{machine, sizes_of}
use Rattle.machine.specs.Verdicts.{Says, Noted, nonzero, AllEntered}
use Rattle.chain.specs.declared.Mode.{Mode}
use Rattle.chain.specs.declared.Mode.TheVariants.{Look, Unwind, Clear, Done}
use Rattle.chain.specs.declared.Environment.{Environment}
use Rattle.chain.specs.declared.Reciprocals.{Reciprocals}
use Rattle.chain.specs.declared.Registers.{Registers}
use Rattle.chain.specs.declared.JudgeState.{JudgeState}
use Rattle.chain.specs.Step.{ProgramState, with_cells, registers_of, judge_step}

-- a note is 0 now exactly if it was 0
abbrev pub SameZero : (note note_now : ℕ) → Type 0
SameZero a b = a ≡ 0 ↔ b ≡ 0

-- ZERO NOTES THAT TURN NONZERO: there is none and the readings stay, or it is number k's alone and they are one more; no note goes back to 0
pub data NewlyNoted (before now : ℕ) (notes notes_now : List ℕ) : Type 0 where
  none_noted : now ≡ before → ((j : ℕ) → SameZero (get_or notes j 0) (get_or notes_now j 0)) → NewlyNoted before now notes notes_now
  one_noted :
      (k : ℕ) → now ≡ suc before → get_or notes k 0 ≡ 0 → (get_or notes_now k 0 ≡ 0 → ⊥) →
      ((j : ℕ) → (j ≡ k → ⊥) → SameZero (get_or notes j 0) (get_or notes_now j 0)) → NewlyNoted before now notes notes_now

-- OF ANY PROGRAM: states of its own, started from the image's counts and finals and the capture's length alone
pub record Chain (S : Type 0) : Type 0 where
  pub start : (counts : List ℕ) → (capture_length : ℕ) → S
  pub step : (image capture : List ℕ) → S → (notes work : List ℕ) → S
  pub notes_after : (image capture : List ℕ) → S → (notes work : List ℕ) → List ℕ
  pub work_after : (image capture : List ℕ) → S → (notes work : List ℕ) → List ℕ
  pub readings : S → ℕ
  pub verdict : S → Option Verdict
  pub end : S → Config

unfoldable pub stepped : {S : Type 0} → Chain S → (image capture : List ℕ) → ProgramState S → ProgramState S
stepped c bs cs x =
    record {
      state = c.step bs cs x.state x.notes x.work;
      notes = c.notes_after bs cs x.state x.notes x.work;
      work = c.work_after bs cs x.state x.notes x.work;
    }

-- the first step gets the start state and cells that are 0; each later one what the one before left
unfoldable pub started : {S : Type 0} → Chain S → (image capture : List ℕ) → ProgramState S
started c bs cs =
    record {
      state = c.start (take Format.counts_length (drop Format.counts_offset bs)) (length cs);
      notes = replicate (how_many (machine bs cs)) 0;
      work = replicate (how_many (machine bs cs)) 0;
    }

unfoldable pub reached : {S : Type 0} → Chain S → (image capture : List ℕ) → (steps : ℕ) → ProgramState S
reached c bs cs zero = started c bs cs
reached c bs cs (suc n) = stepped c bs cs (reached c bs cs n)

-- the chain comes to the run's verdict, end and notes, within 4 r + 1 steps
pub record ChainCorrect (S : Type 0) (c : Chain S) (bs cs : List ℕ) : Type 0 where
  pub steps : ℕ
  pub verdict : Verdict
  pub answers : c.verdict (reached c bs cs steps).state ≡ some verdict
  pub says : Says (machine bs cs) verdict (c.end (reached c bs cs steps).state)
  pub noted : Noted (machine bs cs) (reached c bs cs steps).notes
  pub cleared : (reached c bs cs steps).work ≡ replicate (how_many (machine bs cs)) 0
  pub few : steps ≤ 4 * c.readings (reached c bs cs steps).state + 1
  pub none_read : c.readings (started c bs cs).state ≡ 0
  pub not_before : (n : ℕ) → n < steps → c.verdict (reached c bs cs n).state ≡ none
  pub one_more :
      (n : ℕ) → n < steps → c.readings (reached c bs cs (suc n)).state ≤ suc (c.readings (reached c bs cs n).state)
  pub newly_noted :
      (n : ℕ) → n < steps →
      NewlyNoted (c.readings (reached c bs cs n).state) (c.readings (reached c bs cs (suc n)).state)
      (reached c bs cs n).notes (reached c bs cs (suc n)).notes
  pub counted :
      (n : ℕ) → n ≤ steps →
      c.readings (reached c bs cs n).state ≡ nonzero (how_many (machine bs cs)) (reached c bs cs n).notes
  pub entered : AllEntered (machine bs cs) (c.readings (reached c bs cs steps).state)

-- THE PROGRAM'S CHAIN. Its start in an environment: looking at the start configuration, which counts as pushed, with nothing open and nothing read
abbrev pub start_in : Environment → JudgeState
start_in e = record { environment = e; registers = registers_of e Look (config 0 0 0) true 0 0 }

-- one over a divisor, times a scale and rounded up: a product with it and a division by the scale divide
abbrev pub reciprocal : (scale divisor : ℕ) → ℕ
reciprocal u d = u / d + 1

abbrev pub symbols_scale : ℕ
symbols_scale = 68719476736

abbrev pub stride_scale : ℕ
stride_scale = 4503599627370496

abbrev pub reciprocals_by : (symbols stride : ℕ) → Reciprocals
reciprocals_by g d = record { symbols = reciprocal symbols_scale g; stride = reciprocal stride_scale d }

-- the environment by what is read from the image, and by the image and the capture themselves
abbrev pub environment_by : Sizes → (finals : ℕ) → Environment
environment_by s f =
    record { sizes = s; finals = f; stride = s.places * s.symbols; reciprocals = reciprocals_by s.symbols (s.places * s.symbols) }

abbrev pub environment_of : (image capture : List ℕ) → Environment
environment_of bs cs = environment_by (sizes_of bs cs) (u32_at bs Format.finals_offset)

-- the start from the counts' bytes and the capture's length alone
unfoldable pub start_state : (counts : List ℕ) → (capture_length : ℕ) → JudgeState
start_state ks n =
    start_in
    (environment_by
    (record {
      classes = byte ks (Format.classes_offset - Format.counts_offset);
      symbols = byte ks (Format.symbols_offset - Format.counts_offset);
      places = n + 2;
      rules = (byte ks (Format.classes_offset - Format.counts_offset) + 2) * byte ks (Format.symbols_offset - Format.counts_offset);
    })
    (u32_at ks (Format.finals_offset - Format.counts_offset)))

unfoldable pub verdict_of : Mode → Option Verdict
verdict_of Look = none
verdict_of Unwind = none
verdict_of (Clear v) = none
verdict_of (Done v) = some v

-- the step in the state's environment
abbrev pub step_of : (image capture : List ℕ) → JudgeState → (notes work : List ℕ) → ProgramState Registers
step_of bs cs s ns ws = judge_step (machine bs cs) s.environment (with_cells s.registers ns ws)

unfoldable pub chain : Chain JudgeState
chain =
    record {
      start = start_state;
      step = λ bs cs s ns ws. record { environment = s.environment; registers = (step_of bs cs s ns ws).state };
      notes_after = λ bs cs s ns ws. (step_of bs cs s ns ws).notes;
      work_after = λ bs cs s ns ws. (step_of bs cs s ns ws).work;
      readings = λ s. s.registers.readings;
      verdict = λ s. verdict_of s.registers.mode;
      end = λ s. s.registers.at;
    }
