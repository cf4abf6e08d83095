-- What holds of every state of the chain: the open configurations are stacked and form a path; each phase has its own facts, and a bound on the steps taken. Assumes nothing.
use mathlib.Core.Path.{◌≡◌}
use mathlib.Core.Bool.{Bool, cond}
use mathlib.Core.List.{List, [], ◌∷◌}
use mathlib.Core.Logic.{◌⊎◌}
use Prim.Native.Nat.{ℕ, suc, ◌+◌, ◌*◌, ◌<◌, ◌≤◌}
use lib.ListN.{length, get_or}
use Rattle.machine.specs.declared.Config.{Config}
use Rattle.machine.specs.declared.Verdict.{Verdict}
use Rattle.machine.specs.Terminating.{accepts_by}
use Rattle.machine.specs.Run.{Machine, ValidConfig, number, how_many}
use Rattle.machine.specs.Verdicts.{Says, nonzero}
use Rattle.machine.proofs.Ends.{Ends}
use Rattle.chain.specs.declared.Mode.{Mode}
use Rattle.chain.specs.declared.Mode.TheVariants.{Look, Unwind, Clear, Done}
use Rattle.chain.specs.declared.Environment.{Environment}
use Rattle.chain.specs.declared.Registers.{Registers}
use Rattle.chain.specs.Cells.{open_bit}
use Rattle.chain.specs.Step.{ProgramState}
use Rattle.chain_theory.proofs.Path.{Open, Among, Path}
use Rattle.chain_theory.proofs.Again.{DistinctOpen}
use Rattle.chain_theory.proofs.Cells.{Seen, Stacked, Running, ToldRight}

-- the environment's counts and finals are the machine's, and so few configurations that a closed note stays below the open bit
pub record Fitted (M : Machine) (E : Environment) : Type 0 where
  pub places_are : E.sizes.places ≡ M.places
  pub symbols_are : E.sizes.symbols ≡ M.symbols
  pub accepts_as : (p i : ℕ) → accepts_by E.finals E.sizes.places p i ≡ M.accepting p i
  pub few_cells : how_many M + 2 ≤ open_bit

-- in every phase
pub record Shared (M : Machine) (os : List Open) (x : ProgramState Registers) : Type 0 where
  pub at_there : ValidConfig M x.state.at
  pub notes_long : length x.notes ≡ how_many M
  pub work_long : length x.work ≡ how_many M
  pub depth_is : x.state.depth ≡ length os
  pub stacked : Stacked M x.notes x.work os
  pub zero_above : (i : ℕ) → length os ≤ i → get_or x.work i 0 ≡ 0
  pub distinct : DistinctOpen os
  pub counted : x.state.readings ≡ nonzero (how_many M) x.notes
  pub depth_low : length os ≤ x.state.readings

-- how many open configurations a push entered
abbrev pub bit : Bool → ℕ
bit b = cond b 1 0

unfoldable pub pushes : List Open → ℕ
pushes [] = 0
pushes (o ∷ os) = bit o.pushed + pushes os

-- verdict and notes are right, and only the notes of open configurations have the open bit
pub record Settled (M : Machine) (os : List Open) (v : Verdict) (x : ProgramState Registers) : Type 0 where
  pub says : Says M v x.state.at
  pub told : ToldRight M x.notes
  pub low_else : (c : Config) → ValidConfig M c → Among c os ⊎ (get_or x.notes (number M c) 0 < open_bit)

-- by mode, with the bound on the steps: an open configuration will be closed or cleared, a pushed one will be returned from
pub data Phase (M : Machine) (n : ℕ) (x : ProgramState Registers) : List Open → Mode → Type 0 where
  looking :
      {os : List Open} → Running M os x.notes → Path M (Seen M x.notes) os x.state.at x.state.pushed →
      n + length os + pushes os + bit x.state.pushed ≤ 4 * x.state.readings + 1 → Phase M n x os Look
  unwinding :
      {o : Open} {os : List Open} → Running M (o ∷ os) x.notes → Path M (Seen M x.notes) os o.config o.pushed →
      Ends M (Seen M x.notes) o.config x.state.at → n + length os + (bit o.pushed + pushes os) ≤ 4 * x.state.readings + 1 →
      Phase M n x (o ∷ os) Unwind
  clearing :
      {o : Open} {os : List Open} {v : Verdict} → Settled M (o ∷ os) v x → n + suc (length os) ≤ 4 * x.state.readings + 1 →
      Phase M n x (o ∷ os) (Clear v)
  done : {v : Verdict} → Settled M [] v x → n ≤ 4 * x.state.readings + 1 → Phase M n x [] (Done v)

-- THE INVARIANT, after n steps
pub record ChainInvariant (M : Machine) (n : ℕ) (x : ProgramState Registers) : Type 0 where
  pub opens : List Open
  pub shared : Shared M opens x
  pub phase : Phase M n x opens x.state.mode
