-- What the theory of a grammar's machine rests on: a machine whose rules are the table's, for a grammar whose rules name only rules below m; and apart from it the one row that the choice of a match decides. Assumes nothing: these are definitions.
use mathlib.Core.Path.{◌≡◌}
use mathlib.Core.Bool.{Bool, false, ◌&&◌}
use mathlib.Core.List.{List}
use Prim.Native.Nat.{ℕ, suc, ◌+◌, ◌*◌, ◌<◌, ◌≤◌}
use lib.Dec.{eqb}
use lib.ListN.{length}
use Rattle.machine.specs.declared.Reason.TheVariants.{Missing}
use Rattle.machine.specs.declared.Action.{Action}
use Rattle.machine.specs.declared.Action.TheVariants.{Stop, Change, Push, Pop}
use Rattle.machine.specs.Run.{Machine, config}
use Rattle.image.specs.Image.{action_by}
use Rattle.grammar.specs.Grammar.{PartsBelow}
use Rattle.grammar.specs.Parsing.{Rules}
use Rattle.builder.specs.declared.Matching.{Matching}
use Rattle.builder.specs.declared.Matching.TheVariants.{Whole, Leading}
use Rattle.builder.specs.Table.{state_start, state_work, state_ok, state_fail, state_done, state_count, first, symbol, rows, select}
use Rattle.grammar.proofs.Matches.{passes}

-- capture place i stands under head suc i
pub record Table (M : Machine) (E : Rules) (m : ℕ) (cs : List ℕ) : Type 0 where
  pub some_rule : 0 < m
  pub parts : (k : ℕ) → k < m → PartsBelow m (E k)
  pub states_are : M.states ≡ state_count
  pub places_are : M.places ≡ length cs + 2
  pub symbols_are : M.symbols ≡ suc (2 * m)
  pub accepting_are : (p i : ℕ) → M.accepting p i ≡ (eqb p state_done && eqb (i + 1) (length cs + 2))
  pub starts : M.action (config state_start 0 0) ≡ Push (config state_work 1 (first 0))
  pub ends : M.action (config state_ok (suc (length cs)) 0) ≡ Pop state_done false
  pub fail_stops : (i : ℕ) → i ≤ length cs → M.action (config state_fail (suc i) 0) ≡ Stop Missing
  pub selects :
      (s : Bool) (p k i : ℕ) → p < state_count → k < m → i ≤ length cs →
      M.action (config p (suc i) (symbol s k)) ≡ action_by (select (rows (E k) k (passes E cs k i)) s p) (suc i)

-- THE CHOICE: in ok on a byte, with the bottom entry alone left, a whole match stops, and a leading one goes on to the next place
abbrev pub byte_action : Matching → (i : ℕ) → Action
byte_action Whole i = Stop Missing
byte_action Leading i = Change (config state_ok (suc (suc i)) 0)

pub record ChoiceRow (how : Matching) (M : Machine) (cs : List ℕ) : Type 0 where
  pub on_bytes : (i : ℕ) → i < length cs → M.action (config state_ok (suc i) 0) ≡ byte_action how i
