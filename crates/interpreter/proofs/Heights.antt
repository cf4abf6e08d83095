-- A step makes the stack higher only by a push. Assumes nothing.
use mathlib.Core.Path.{◌≡◌, refl, ap}
use mathlib.Core.List.{List, [], ◌∷◌}
use Prim.Native.Nat.{ℕ, suc, ◌≤◌, ◌<◌}
use native.Mathlib.Omega.{arith}
use lib.ListN.{length}
use Rattle.machine.specs.declared.Config.{Config}
use Rattle.machine.specs.declared.Action.{Action}
use Rattle.machine.specs.declared.Action.TheVariants.{Stop, Change, Push, Pop}
use Rattle.machine.specs.Run.{Machine, Description, Entry, Outcome, stopped, over, next, step_by, step_on, step, top, config_of, config}

-- how many entries a step leaves
abbrev height : Outcome → ℕ
height (stopped r) = 0
height (over p i) = 0
height (next y) = length y.stack

-- a step that leaves more than k entries where there were at most k is a push
pub record Pushes (k count : ℕ) (a : Action) : Type 0 where
  pub full : count ≡ k
  pub pushed : Config
  pub by : a ≡ Push pushed

pushes_by :
    (i k : ℕ) (e : Entry) (es : List Entry) (a : Action) (y : Description) → step_by a i e es ≡ next y → suc (length es) ≤ k →
    k < length y.stack → Pushes k (suc (length es)) a
unfolding step_by
pushes_by i k e es (Stop r) y f l m = let h : 0 ≡ length y.stack = ap height f in absurd (omega arith)
pushes_by i k e es (Change c) y f l m = let h : suc (length es) ≡ length y.stack = ap height f in absurd (omega arith)
pushes_by i k e es (Push c) y f l m =
    let h : suc (suc (length es)) ≡ length y.stack = ap height f in record { full = omega arith; pushed = c; by = refl }
pushes_by i k e [] (Pop q r) y f l m = let h : 0 ≡ length y.stack = ap height f in absurd (omega arith)
pushes_by i k e (g ∷ es) (Pop q r) y f l m =
    let h : suc (length es) ≡ length y.stack = ap height f in absurd (omega arith)

pushes_on :
    (M : Machine) (p i k : ℕ) (es : List Entry) (y : Description) → step_on M p i es ≡ next y → length es ≤ k → k < length y.stack →
    Pushes k (length es) (M.action (config p i (top es)))
unfolding step_on top
pushes_on M p i k [] y f l m = let h : 0 ≡ length y.stack = ap height f in absurd (omega arith)
pushes_on M p i k (e ∷ es) y f l m = pushes_by i k e es _ y f l m

pub pushes :
    (M : Machine) (x y : Description) (k : ℕ) → step M x ≡ next y → length x.stack ≤ k → k < length y.stack →
    Pushes k (length x.stack) (M.action (config_of x))
unfolding step config_of
pushes M x y k f l m = pushes_on M x.state x.head k x.stack y f l m
