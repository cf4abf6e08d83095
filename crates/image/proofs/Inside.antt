-- The machine of an image and a capture that are not refused stays inside: what a rule leads to is a configuration of the machine again. Assumes nothing.
use mathlib.Core.Path.{◌≡◌, refl, sym, subst}
use mathlib.Core.Bool.{Bool, true, false, cond}
use mathlib.Core.List.{List}
use Prim.Native.Nat.{ℕ, ◌+◌, ◌-◌, ◌<◌, ◌≤◌}
use native.Mathlib.Omega.{arith}
use lib.Dec.{eqb}
use lib.ListN.{length}
use borrow.Author.Tests.{eqb-true, eqb-false}
use Rattle.machine.specs.declared.Config.{Config}
use Rattle.machine.specs.declared.Action.{Action}
use Rattle.machine.specs.declared.Action.TheVariants.{Stop, Change, Push, Pop}
use Rattle.machine.specs.Run.{Machine, ValidConfig}
use Rattle.image.specs.Image.{Rule, class_under, moved, led_to, stop_reason, rule_of, action_by, action, machine}
use Rattle.image.specs.Refusals.{move_off, Unrefused}
use Rattle.image.proofs.Rules.{good, class_right, on_right, head_there, rule_there}
use Rattle.machine.proofs.Reach.{Inside}

-- what an action leads to is inside, in one type for all kinds
Stays : Machine → Action → Type 0
Stays M (Stop r) = Unit {0}
Stays M (Change e) = ValidConfig M e
Stays M (Push e) = ValidConfig M e
Stays M (Pop p r) = p < M.states

-- a move that is not off the tape keeps the head on it
moved_there : (bs cs : List ℕ) (i m : ℕ) → i < length cs + 2 → move_off bs (class_under bs cs i) m ≡ false → moved m i < length cs + 2
unfolding moved
moved_there bs cs i m h f = go (eqb m 1) (eqb m 2) refl
  where
    go : (a b : Bool) → eqb m 1 ≡ a → cond a (i + 1) (cond b (i - 1) i) < length cs + 2
    go true b p = right (eqb i (length cs + 1)) refl
      where
        right : (a : Bool) → eqb i (length cs + 1) ≡ a → i + 1 < length cs + 2
        right true q =
            let e : i ≡ length cs + 1 = eqb-true _ _ q in
            absurd (on_right bs _ m (class_right bs cs i (λ z. omega arith) (omega arith)) (eqb-true _ _ p) f)
        right false q = omega (arith, eqb-false i (length cs + 1) q)
    go false true p = omega arith
    go false false p = h

module _ {bs cs : List ℕ} (u : Unrefused bs cs) {c : Config} (t : ValidConfig (machine bs cs) c) where
  led_there : 0 < (rule_of bs cs c).kind → (rule_of bs cs c).kind < 3 → ValidConfig (machine bs cs) (led_to (rule_of bs cs c) c.head)
  unfolding machine
  led_there a b =
      record {
        state_below = (rule_there u t).state_below a (omega arith);
        head_below = moved_there bs cs c.head _ (head_there u t) ((rule_there u t).on_tape a b);
        symbol_below = (rule_there u t).symbol_below a b;
      }

  led_by : (k : ℕ) → (rule_of bs cs c).kind ≡ k → 0 < k → k < 3 → ValidConfig (machine bs cs) (led_to (rule_of bs cs c) c.head)
  led_by k e a b = led_there (omega arith) (omega arith)

  popped_below : (rule_of bs cs c).kind ≡ 3 → (rule_of bs cs c).state < (machine bs cs).states
  unfolding machine
  popped_below e = (rule_there u t).state_below (omega arith) (omega arith)

  stays : Stays (machine bs cs) (action bs cs c)
  unfolding action action_by Stays
  stays =
      go (eqb (rule_of bs cs c).kind 1) (eqb (rule_of bs cs c).kind 2) (eqb (rule_of bs cs c).kind 3) refl refl refl
    where
      go :
          (x y z : Bool) → eqb (rule_of bs cs c).kind 1 ≡ x → eqb (rule_of bs cs c).kind 2 ≡ y → eqb (rule_of bs cs c).kind 3 ≡ z →
          Stays (machine bs cs)
          (cond x (Change (led_to (rule_of bs cs c) c.head))
          (cond y (Push (led_to (rule_of bs cs c) c.head))
          (cond z (Pop (rule_of bs cs c).state (eqb (rule_of bs cs c).direction 1)) (Stop (stop_reason (rule_of bs cs c).kind)))))
      go true y z p q w = led_by 1 (eqb-true _ _ p) (omega arith) (omega arith)
      go false true z p q w = led_by 2 (eqb-true _ _ q) (omega arith) (omega arith)
      go false false true p q w = popped_below (eqb-true _ _ w)
      go false false false p q w = tt

module _ (bs cs : List ℕ) (u : Unrefused bs cs) where
  stays_by : (c : Config) (a : Action) → ValidConfig (machine bs cs) c → (machine bs cs).action c ≡ a → Stays (machine bs cs) a
  unfolding machine
  stays_by c a t e =
      let s : Stays (machine bs cs) (action bs cs c) = stays u t in
      rw e at s

  pub inside : Inside (machine bs cs)
  unfolding Stays machine
  inside =
      record {
        changes = λ c e t h. stays_by c (Change e) t h;
        pushes = λ c e t h. stays_by c (Push e) t h;
        pops = λ c p r t h. stays_by c (Pop p r) t h;
        starts =
            record {
              state_below = (good u).states_least;
              head_below = omega arith;
              symbol_below = (good u).symbols_least;
            };
      }

-- ONE PLACE AT MOST to the right is the head of what a change or a push leads to
Near : (head : ℕ) → Action → Type 0
Near i (Stop r) = Unit {0}
Near i (Change e) = e.head ≤ i + 1
Near i (Push e) = e.head ≤ i + 1
Near i (Pop p r) = Unit {0}

moved_near : (m i : ℕ) → moved m i ≤ i + 1
unfolding moved
moved_near m i = go (eqb m 1) (eqb m 2)
  where
    go : (a b : Bool) → cond a (i + 1) (cond b (i - 1) i) ≤ i + 1
    go true b = omega arith
    go false true = omega arith
    go false false = omega arith

near_by : (r : Rule) (i : ℕ) → Near i (action_by r i)
unfolding action_by Near
near_by r i = go (eqb r.kind 1) (eqb r.kind 2) (eqb r.kind 3)
  where
    go : (a b d : Bool) → Near i (cond a (Change (led_to r i)) (cond b (Push (led_to r i)) (cond d (Pop r.state (eqb r.direction 1)) (Stop (stop_reason r.kind)))))
    go true b d = moved_near r.direction i
    go false true d = moved_near r.direction i
    go false false true = tt
    go false false false = tt

near_action : (bs cs : List ℕ) (c : Config) {a : Action} → a ≡ action bs cs c → Near c.head a
unfolding action
near_action bs cs c e = subst (Near c.head) (sym e) (near_by _ c.head)

pub change_near : (bs cs : List ℕ) (c e : Config) → Change e ≡ action bs cs c → e.head ≤ c.head + 1
unfolding Near
change_near bs cs c e f = near_action bs cs c f

pub push_near : (bs cs : List ℕ) (c e : Config) → Push e ≡ action bs cs c → e.head ≤ c.head + 1
unfolding Near
push_near bs cs c e f = near_action bs cs c f
