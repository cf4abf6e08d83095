-- Halting rules: lookup tells them from missing ones, when one is right, and an image without any is refused and run as before there were any. Assumes nothing.
use mathlib.Core.Path.{◌≡◌, refl, sym, ◌∙◌}
use mathlib.Core.Bool.{Bool, true, false, ◌||◌}
use mathlib.Core.List.{List}
use mathlib.Core.Logic.{◌↔◌}
use Prim.Native.Nat.{ℕ, zero, suc, ◌+◌, ◌*◌, ◌<◌, ◌≤◌}
use native.Mathlib.Decide.{dec_lt}
use native.Mathlib.Omega.{arith}
use lib.Dec.{eqb, ltb}
use borrow.Author.Tests.{ne_eqb, lt-ltb, le-ltb}
use Rattle.machine.specs.declared.Config.{Config}
use Rattle.machine.specs.declared.Action.TheVariants.{Stop, Change, Push, Pop}
use Rattle.machine.specs.declared.Reason.TheVariants.{Missing, Halting}
use Rattle.machine.specs.Run.{ValidConfig}
use Rattle.machine.specs.Terminating.{stop_verdict}
use Rattle.machine.proofs.Terminates.{stops_there}
use Rattle.machine.proofs.Reach.{entered_there}
use Rattle.image.specs.Format
use Rattle.image.specs.Image.{Rule, rule_from, led_to, rule_of, action_by, action, machine}
use Rattle.image.specs.Refusals.{rule_bad, rules_refusal_from, index_class, rule_count, image_refusal, Unrefused}
use Rattle.image.specs.Conditions.{RuleRight, none_right, change_right, push_right, pop_right, halt_right}
use Rattle.image.specs.WithoutHalting.{NoHaltingRule, rule_bad_before, rules_refusal_before, image_refusal_before, action_before, AsBefore}
use Rattle.image.proofs.RuleRight.{each_index}
use Rattle.image.proofs.Rules.{class_below, state_there, symbol_there, rule_right}
use Rattle.image.proofs.Inside.{inside}

-- WHAT A RULE DOES, by its kind
module _ (r : Rule) (i : ℕ) where
  pub misses : r.kind ≡ 0 → action_by r i ≡ Stop Missing
  unfolding action_by
  misses e = rw e refl

  changes : r.kind ≡ 1 → action_by r i ≡ Change (led_to r i)
  unfolding action_by
  changes e = rw e refl

  pushes : r.kind ≡ 2 → action_by r i ≡ Push (led_to r i)
  unfolding action_by
  pushes e = rw e refl

  pops : r.kind ≡ 3 → action_by r i ≡ Pop r.state (eqb r.direction 1)
  unfolding action_by
  pops e = rw e refl

  pub halts : r.kind ≡ 4 → action_by r i ≡ Stop Halting
  unfolding action_by
  halts e = rw e refl

-- of a right one, missing and halting apart
module _ {bs : List ℕ} {class : ℕ} {r : Rule} (i : ℕ) where
  halting_kind : RuleRight bs class r → action_by r i ≡ Stop Halting → r.kind ≡ 4
  halting_kind (none_right e p a m) h = let g = misses r i e in let z : ◌≡◌ {A = ℕ} 0 1 = cc in absurd (omega arith)
  halting_kind (change_right e t) h = let g = changes r i e in let z : ◌≡◌ {A = ℕ} 0 1 = cc in absurd (omega arith)
  halting_kind (push_right e t) h = let g = pushes r i e in let z : ◌≡◌ {A = ℕ} 0 1 = cc in absurd (omega arith)
  halting_kind (pop_right e p a m) h = let g = pops r i e in let z : ◌≡◌ {A = ℕ} 0 1 = cc in absurd (omega arith)
  halting_kind (halt_right e p a m) h = e

  missing_kind : RuleRight bs class r → action_by r i ≡ Stop Missing → r.kind ≡ 0
  missing_kind (none_right e p a m) h = e
  missing_kind (change_right e t) h = let g = changes r i e in let z : ◌≡◌ {A = ℕ} 0 1 = cc in absurd (omega arith)
  missing_kind (push_right e t) h = let g = pushes r i e in let z : ◌≡◌ {A = ℕ} 0 1 = cc in absurd (omega arith)
  missing_kind (pop_right e p a m) h = let g = pops r i e in let z : ◌≡◌ {A = ℕ} 0 1 = cc in absurd (omega arith)
  missing_kind (halt_right e p a m) h = let g = halts r i e in let z : ◌≡◌ {A = ℕ} 0 1 = cc in absurd (omega arith)

pub lookup_apart :
    (bs : List ℕ) (class head : ℕ) (r : Rule) → RuleRight bs class r →
    ((action_by r head ≡ Stop Halting) ↔ (r.kind ≡ 4)) × ((action_by r head ≡ Stop Missing) ↔ (r.kind ≡ 0))
lookup_apart bs class head r right =
    ((halting_kind head right, halts r head), (missing_kind head right, misses r head))

-- WHEN ONE IS RIGHT: its other bytes are 0; and no kind above it is
module _ (bs : List ℕ) (class : ℕ) (r : Rule) where
  other_bytes : r.kind ≡ 4 → RuleRight bs class r → (r.state ≡ 0) × (r.symbol ≡ 0) × (r.direction ≡ 0)
  other_bytes k (none_right e p a m) = absurd (omega arith)
  other_bytes k (change_right e t) = absurd (omega arith)
  other_bytes k (push_right e t) = absurd (omega arith)
  other_bytes k (pop_right e p a m) = absurd (omega arith)
  other_bytes k (halt_right e p a m) = (p, a, m)

  no_kind_above : 5 ≤ r.kind → RuleRight bs class r → ⊥
  no_kind_above l (none_right e p a m) = omega arith
  no_kind_above l (change_right e t) = omega arith
  no_kind_above l (push_right e t) = omega arith
  no_kind_above l (pop_right e p a m) = omega arith
  no_kind_above l (halt_right e p a m) = omega arith

  pub halting_right :
      (r.kind ≡ 4 → RuleRight bs class r ↔ (r.state ≡ 0) × (r.symbol ≡ 0) × (r.direction ≡ 0)) × (5 ≤ r.kind → RuleRight bs class r → ⊥)
  halting_right = (λ k. (other_bytes k, λ (p, a, m). halt_right k p a m), no_kind_above)

-- AS BEFORE, of a rule of another kind
over_as_before : (k : ℕ) → (k ≡ 4 → ⊥) → ltb 4 k ≡ ltb 3 k
over_as_before k other = go (dec_lt 4 k)
  where
    go : Dec (4 < k) → ltb 4 k ≡ ltb 3 k
    go (yes l) = lt-ltb 4 k l ∙ sym (lt-ltb 3 k (omega arith))
    go (no l) = le-ltb 4 k (omega arith) ∙ sym (le-ltb 3 k (omega (arith, other)))

stops_as_before : (b c : Bool) → c ≡ false → b || c ≡ b
stops_as_before true c e = refl
stops_as_before false c e = e

module _ (bs : List ℕ) (class head : ℕ) (r : Rule) (other : r.kind ≡ 4 → ⊥) where
  bad_as_before : rule_bad bs class r ≡ rule_bad_before bs class r
  unfolding rule_bad rule_bad_before
  bad_as_before =
      rw (over_as_before r.kind other, stops_as_before (eqb r.kind 0) (eqb r.kind 4) (ne_eqb r.kind 4 other)) refl

  acts_as_before : action_by r head ≡ action_before r head
  unfolding action_by action_before
  acts_as_before = rw (ne_eqb r.kind 4 other) refl

  pub rule_as_before : (rule_bad bs class r ≡ rule_bad_before bs class r) × (action_by r head ≡ action_before r head)
  rule_as_before = (bad_as_before, acts_as_before)

-- of the rules from an index on
rules_as_before :
    (bs : List ℕ) (left i : ℕ) →
    ((j : ℕ) → j < i + left → (rule_from bs (Format.rules_offset + Format.rule_length * j)).kind ≡ 4 → ⊥) →
    rules_refusal_from left i bs ≡ rules_refusal_before left i bs
unfolding rules_refusal_from rules_refusal_before
rules_as_before bs zero i h = refl
rules_as_before bs (suc left) i h =
    let o : ℕ = Format.rules_offset + Format.rule_length * i in
    rw (bad_as_before bs (index_class bs i) 0 (rule_from bs o) (h i (omega arith)), rules_as_before bs left (suc i) (λ j l. h j (omega arith))) refl

-- AN IMAGE WITHOUT ANY
module _ (bs : List ℕ) (none_halts : NoHaltingRule bs) where
  refused_as_before : image_refusal bs ≡ image_refusal_before bs
  unfolding image_refusal image_refusal_before
  refused_as_before =
      rw (rules_as_before bs (rule_count bs) 0 (λ j l. each_index bs (λ (r : Rule). r.kind ≡ 4 → ⊥) none_halts j (omega arith))) refl

  module _ {cs : List ℕ} {c : Config} (u : Unrefused bs cs) (t : ValidConfig (machine bs cs) c) where
    other_kind : (rule_of bs cs c).kind ≡ 4 → ⊥
    other_kind = none_halts c.state _ c.symbol (state_there u t) (class_below u c.head) (symbol_there u t)

  pub image_as_before : AsBefore bs
  unfolding machine action stop_verdict
  image_as_before =
      record {
        refused = refused_as_before;
        acts = λ cs c u t. acts_as_before bs 0 c.head (rule_of bs cs c) (other_kind u t);
        never_halted =
            λ cs d u s.
            let (e, a) = (stops_there (machine bs cs) Halting d).0 s in
            let t = entered_there (inside bs cs u) d e in
            other_kind u t (halting_kind d.head (rule_right u t) a);
      }
