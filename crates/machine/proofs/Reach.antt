-- A machine whose rules stay inside enters only configurations of its own. Assumes nothing.
use mathlib.Core.Path.{◌≡◌, refl, subst}
use mathlib.Core.Bool.{Bool, true, false}
use mathlib.Core.List.{List, [], ◌∷◌}
use mathlib.Core.Option.{some}
use Prim.Native.Nat.{ℕ, zero, suc, ◌<◌}
use native.Mathlib.Omega.{arith}
use Rattle.machine.specs.declared.Config.{Config}
use Rattle.machine.specs.declared.Action.{Action}
use Rattle.machine.specs.declared.Action.TheVariants.{Stop, Change, Push, Pop}
use Rattle.machine.specs.Run.{Machine, ValidConfig, Entry, entry, Description, next, returned, step, step_on, step_by, start, after, config, config_of, top}
use Rattle.machine.specs.Verdicts.{Entered}
use Rattle.machine.proofs.Runs.{after_zero, after_last, some_same}

-- what a rule leads to is a configuration of the machine again
pub record Inside (M : Machine) : Type 0 where
  pub changes : (c e : Config) → ValidConfig M c → M.action c ≡ Change e → ValidConfig M e
  pub pushes : (c e : Config) → ValidConfig M c → M.action c ≡ Push e → ValidConfig M e
  pub pops : (c : Config) (p : ℕ) (r : Bool) → ValidConfig M c → M.action c ≡ Pop p r → p < M.states
  pub starts : ValidConfig M (config 0 0 0)

-- the entries of a stack have symbols and pointers of the machine's
data Entries (M : Machine) : List Entry → Type 0 where
  no_entry : Entries M []
  an_entry : {e : Entry} {es : List Entry} → e.symbol < M.symbols → e.pointer < M.places → Entries M es → Entries M (e ∷ es)

record Within (M : Machine) (x : Description) : Type 0 where
  state_below : x.state < M.states
  head_below : x.head < M.places
  entries : Entries M x.stack

returned_below : {n : ℕ} (r : Bool) (i j : ℕ) → i < n → j < n → returned r i j < n
returned_below true i j a b = a
returned_below false i j a b = b

next_same : {x y : Description} → next x ≡ next y → x ≡ y
next_same e = cc

module _ {M : Machine} (inside : Inside M) where
  -- one step, by the action of the configuration
  by_action :
      (c : Config) → ValidConfig M c → (a : Action) → M.action c ≡ a → (i : ℕ) → i < M.places → (es : List Entry) → Entries M es → (y : Description) →
      step_by a c.head (entry c.symbol i) es ≡ next y → Within M y
  unfolding step_by
  by_action c t (Stop r) h i l es w y e = let z : ◌≡◌ {A = ℕ} 0 1 = cc in absurd (omega arith)
  by_action c t (Change d) h i l es w y e =
      let there = inside.changes c d t h in
      subst (Within M) (next_same e)
      (record { state_below = there.state_below; head_below = there.head_below; entries = an_entry there.symbol_below l w })
  by_action c t (Push d) h i l es w y e =
      let there = inside.pushes c d t h in
      subst (Within M) (next_same e)
      (record {
        state_below = there.state_below;
        head_below = there.head_below;
        entries = an_entry there.symbol_below there.head_below (an_entry t.symbol_below l w);
      })
  by_action c t (Pop p r) h i l [] w y e = let z : ◌≡◌ {A = ℕ} 0 1 = cc in absurd (omega arith)
  by_action c t (Pop p r) h i l (f ∷ es) w y e =
      subst (Within M) (next_same e)
      (record { state_below = inside.pops c p r t h; head_below = returned_below r i c.head l t.head_below; entries = w })

  step_within : (p i : ℕ) (es : List Entry) → p < M.states → i < M.places → Entries M es → (y : Description) → step_on M p i es ≡ next y → Within M y
  unfolding step_on
  step_within p i es a b no_entry y e = let z : ◌≡◌ {A = ℕ} 0 1 = cc in absurd (omega arith)
  step_within p i es a b (an_entry {e = f} {es = fs} s l w) y e =
      by_action (config p i f.symbol) (record { state_below = a; head_below = b; symbol_below = s }) (M.action (config p i f.symbol)) refl f.pointer l fs w y e

  start_within : Within M start
  unfolding start
  start_within =
      record {
        state_below = inside.starts.state_below;
        head_below = inside.starts.head_below;
        entries = an_entry inside.starts.symbol_below inside.starts.head_below no_entry;
      }

  after_within : (n : ℕ) (x : Description) → after n M start ≡ some x → Within M x
  unfolding step
  after_within zero x e = subst (Within M) (some_same (after 0 M start) (after_zero M start) e) start_within
  after_within (suc n) x e =
      let (y, at_y, goes) = after_last M n start e in
      let w = after_within n y at_y in
      step_within y.state y.head y.stack w.state_below w.head_below w.entries x goes

  config_there : (x : Description) → Within M x → ValidConfig M (config_of x)
  unfolding config_of top
  config_there x w = record { state_below = w.state_below; head_below = w.head_below; symbol_below = symbol_of w.entries }
    where
      symbol_of : {es : List Entry} → Entries M es → top es < M.symbols
      symbol_of no_entry = inside.starts.symbol_below
      symbol_of (an_entry s l v) = s

  pub entered_there : (c : Config) → Entered M c → ValidConfig M c
  entered_there c e = subst (ValidConfig M) e.is (config_there e.place (after_within e.steps e.place e.reached))
