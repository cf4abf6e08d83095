-- Parts of a run that hold over any stack and any pointer: from one configuration to another with the stack never below, every configuration on the way with a property P. Assumes nothing.
use mathlib.Core.Path.{◌≡◌, subst, ◌∙◌}
use mathlib.Core.List.{List}
use mathlib.Core.Option.{some}
use Prim.Native.Nat.{ℕ, zero, suc, ◌+◌, ◌-◌, ◌<◌, ◌≤◌}
use native.Mathlib.Omega.{arith}
use native.Mathlib.Decide.{dec_lt}
use lib.ListN.{length}
use Rattle.machine.specs.declared.Config.{Config}
use Rattle.machine.specs.Run.{Machine, Entry, Description, after, config_of}
use Rattle.machine.specs.Verdicts.{over_base}
use Rattle.machine.proofs.Runs.{after_zero, after_then}

-- after k steps from c over a base: the run goes on, above the base, at a configuration with P
pub record Visit (M : Machine) (P : Config → Type 0) (k : ℕ) (x : Description) (base : List Entry) : Type 0 where
  pub place : Description
  pub reached : after k M x ≡ some place
  pub holds : P (config_of place)
  pub above : length base < length place.stack

-- after n steps from c over a base: at e, over a base as high or higher
pub record Arrival (M : Machine) (P : Config → Type 0) (n : ℕ) (x : Description) (base : List Entry) (e : Config) : Type 0 where
  pub pointer : ℕ
  pub ground : List Entry
  pub reached : after n M x ≡ some (over_base e pointer ground)
  pub higher : length base ≤ length ground
  pub visits : (k : ℕ) → k < n → Visit M P k x base

abbrev pub Travels : Machine → (Config → Type 0) → ℕ → (c e : Config) → Type 0
Travels M P n c e = (i : ℕ) (base : List Entry) → Arrival M P n (over_base c i base) base e

module _ {M : Machine} {P : Config → Type 0} where
  -- what is visited from a description that x comes to, over a higher base, is visited from x
  pub visit_later :
      (x : Description) {y : Description} (base ground : List Entry) (m k : ℕ) → after m M x ≡ some y → length base ≤ length ground → m ≤ k → Visit M P (k - m) y ground →
      Visit M P k x base
  visit_later x {y} base ground m k at_y h mk v =
      let whole : m + (k - m) ≡ k = omega arith in
      record {
        place = v.place;
        reached = subst (λ (j : ℕ). after j M x ≡ some v.place) whole (after_then M m (k - m) x at_y ∙ v.reached);
        holds = v.holds;
        above = omega (arith, v.above);
      }

  pub travels_none : {c : Config} → Travels M P 0 c c
  travels_none {c} i base = record { pointer = i; ground = base; reached = after_zero M (over_base c i base); higher = omega arith; visits = λ k h. absurd (omega arith) }

  pub travels_then : {c e g : Config} (m n : ℕ) → Travels M P m c e → Travels M P n e g → Travels M P (m + n) c g
  travels_then {c} {e} {g} m n f s i base =
      record {
        pointer = second.pointer;
        ground = second.ground;
        reached = after_then M m n (over_base c i base) first.reached ∙ second.reached;
        higher = omega (arith, first.higher, second.higher);
        visits = λ k h. pick k h (dec_lt k m);
      }
    where
      first : Arrival M P m (over_base c i base) base e
      first = f i base

      second : Arrival M P n (over_base e first.pointer first.ground) first.ground g
      second = s first.pointer first.ground

      pick : (k : ℕ) → k < m + n → Dec (k < m) → Visit M P k (over_base c i base) base
      pick k h (yes a) = first.visits k a
      pick k h (no a) =
          let mk : m ≤ k = omega arith in
          visit_later (over_base c i base) base first.ground m k first.reached first.higher mk (second.visits (k - m) (omega arith))

  -- a configuration that comes again goes on for ever
  pub forever_by : {c : Config} {n : ℕ} → 0 < n → Travels M P n c c → (fuel k : ℕ) → k < fuel → (i : ℕ) (base : List Entry) → Visit M P k (over_base c i base) base
  forever_by {c} {n} pos t zero k h i base = absurd (omega arith)
  forever_by {c} {n} pos t (suc fuel) k h i base = pick (λ j g. forever_by pos t fuel j g) (dec_lt k n)
    where
      once : Arrival M P n (over_base c i base) base c
      once = t i base

      pick :
          ((j : ℕ) → j < fuel → (i : ℕ) (base : List Entry) → Visit M P j (over_base c i base) base) → Dec (k < n) →
          Visit M P k (over_base c i base) base
      pick again (yes a) = once.visits k a
      pick again (no a) =
          let nk : n ≤ k = omega arith in
          visit_later (over_base c i base) base once.ground n k once.reached once.higher nk (again (k - n) (omega arith) once.pointer once.ground)

  pub forever : {c : Config} {n : ℕ} → 0 < n → Travels M P n c c → (k i : ℕ) (base : List Entry) → Visit M P k (over_base c i base) base
  forever pos t k i base = forever_by pos t (suc k) k (omega arith) i base
