-- The machine of an image with missing rules for the halting ones of another is that one's machine without halting. Assumes nothing.
use mathlib.Core.Path.{◌≡◌, refl, sym, ap, ◌∙◌, fun_ext}
use mathlib.Core.Bool.{Bool, true, false, cond}
use mathlib.Core.List.{List}
use Prim.Native.Nat.{ℕ, zero, suc, ◌+◌, ◌*◌}
use native.Mathlib.Omega.{arith}
use lib.Dec.{eqb}
use borrow.Author.Tests.{eqb-true}
use Rattle.codec.specs.Bytes.{byte, Bytes}
use Rattle.codec.specs.Numbers.{number_at, u32_at}
use Rattle.machine.specs.declared.Config.{Config}
use Rattle.machine.specs.declared.Action.TheVariants.{Stop, Change, Push, Pop}
use Rattle.machine.specs.LikeStuck.{missing_for_halting, without_halting}
use Rattle.image.specs.Format
use Rattle.image.specs.Image.{states, classes, symbols, Rule, rule_offset, rule_at, class_under, led_to, stop_reason, rule_of, action_by, action, accepting, machine}
use Rattle.image.specs.WithoutHalting.{missing_rule, MissingForHalting}
use Rattle.image.proofs.HaltingRules.{halts}

-- WHAT A RULE DOES then
by_missing_rule : (r : Rule) (i : ℕ) → action_by (missing_rule r) i ≡ missing_for_halting (action_by r i)
unfolding missing_rule action_by missing_for_halting
by_missing_rule r i = go (eqb r.kind 4) refl
  where
    other : (a b c : Bool) → eqb r.kind 4 ≡ false →
        cond a (Change (led_to r i)) (cond b (Push (led_to r i)) (cond c (Pop r.state (eqb r.direction 1)) (Stop (stop_reason r.kind))))
        ≡ missing_for_halting
        (cond a (Change (led_to r i)) (cond b (Push (led_to r i)) (cond c (Pop r.state (eqb r.direction 1)) (Stop (stop_reason r.kind)))))
    other true b c e = refl
    other false true c e = refl
    other false false true e = refl
    other false false false e = rw e refl

    go : (t : Bool) → eqb r.kind 4 ≡ t → action_by (cond t (record { kind = 0; state = 0; symbol = 0; direction = 0 }) r) i ≡ missing_for_halting (action_by r i)
    go true e = ap missing_for_halting (sym (halts r i (eqb-true r.kind 4 e)))
    go false e = other (eqb r.kind 1) (eqb r.kind 2) (eqb r.kind 3) e

module _ (bs zs cs : List ℕ) (m : MissingForHalting bs zs) (bytes : Bytes cs) where
  states_same : states zs ≡ states bs
  unfolding states
  states_same = m.header 24 (omega arith)

  classes_same : classes zs ≡ classes bs
  unfolding classes
  classes_same = m.header 25 (omega arith)

  symbols_same : symbols zs ≡ symbols bs
  unfolding symbols
  symbols_same = m.header 26 (omega arith)

  finals_same : u32_at zs Format.finals_offset ≡ u32_at bs Format.finals_offset
  unfolding number_at
  finals_same = rw (m.header 28 (omega arith), m.header 29 (omega arith), m.header 30 (omega arith), m.header 31 (omega arith)) refl

  class_same : (i : ℕ) → class_under zs cs i ≡ class_under bs cs i
  unfolding class_under
  class_same zero = classes_same
  class_same (suc i) = rw (classes_same, m.header (Format.map_offset + byte cs i) (omega (arith, bytes i))) refl

  rule_missing : (p k a : ℕ) → rule_at zs p k a ≡ missing_rule (rule_at bs p k a)
  unfolding rule_at rule_offset
  rule_missing p k a = rw (classes_same, symbols_same) (m.rules ((p * (classes bs + 2) + k) * symbols bs + a))

  action_missing : (c : Config) → action zs cs c ≡ missing_for_halting (action bs cs c)
  unfolding action
  action_missing c =
      ap (λ (k : ℕ). action_by (rule_at zs c.state k c.symbol) c.head) (class_same c.head)
      ∙ ap (λ (r : Rule). action_by r c.head) (rule_missing c.state (class_under bs cs c.head) c.symbol)
      ∙ by_missing_rule (rule_of bs cs c) c.head

  pub machine_missing : machine zs cs ≡ without_halting (machine bs cs)
  unfolding machine without_halting accepting
  machine_missing = rw (states_same, symbols_same, finals_same, fun_ext action_missing) refl
