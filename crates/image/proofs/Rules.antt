-- Of an image that is not refused: the class under the head, and the rule that a configuration selects, which stands whole in the image and is right. Assumes nothing.
use mathlib.Core.Path.{◌≡◌, refl}
use mathlib.Core.Bool.{Bool, true, false, ◌&&◌, ◌||◌, cond}
use mathlib.Core.List.{List}
use Prim.Native.Nat.{ℕ, zero, suc, ◌+◌, ◌*◌, ◌-◌, ◌<◌, ◌≤◌}
use native.Mathlib.Numerals.{sub-one}
use native.Mathlib.Decide.{ℕ_discrete}
use native.Mathlib.Omega.{arith}
use lib.Dec.{ltb, eqb}
use lib.ListN.{length}
use borrow.Author.Tests.{lt-ltb, le-ltb, eq-eqb}
use Rattle.machine.specs.declared.Config.{Config}
use Rattle.image.specs.Format
use Rattle.machine.specs.Run.{ValidConfig}
use Rattle.codec.specs.Bytes.{byte}
use Rattle.image.specs.Image.{states, classes, symbols, Rule, class_under, rule_of, machine}
use Rattle.image.specs.Refusals.{move_off, rule_count, Unrefused}
use Rattle.image.specs.Conditions.{TargetRight, RuleRight, none_right, change_right, push_right, pop_right, halt_right}
use Rattle.machine.proofs.Digits.{digits_below}
use Rattle.refusal.proofs.Reflects.{equal, both, when_passed, if_so, any_of}
use Rattle.image.proofs.ConditionsMet.{image_right}
use Rattle.image.proofs.CheckGood.{GoodImage, good_image}

pub good : {bs cs : List ℕ} → Unrefused bs cs → GoodImage bs
good {bs} u = good_image bs u.good

-- THE CLASS UNDER THE HEAD: the left marker, a byte, the right marker
pub class_left : (bs cs : List ℕ) (i : ℕ) → i ≡ 0 → class_under bs cs i ≡ classes bs
unfolding class_under
class_left bs cs zero e = refl
class_left bs cs (suc i) e = absurd (omega arith)

pub class_byte : (bs cs : List ℕ) (i : ℕ) → (i ≡ 0 → ⊥) → i - 1 < length cs → class_under bs cs i ≡ byte bs (Format.map_offset + byte cs (i - 1))
unfolding class_under
class_byte bs cs zero h k = absurd (h refl)
class_byte bs cs (suc i) h k = rw (sub-one (suc i)) (rw (lt-ltb i (length cs) (rw (sub-one (suc i)) at k)))

pub class_right : (bs cs : List ℕ) (i : ℕ) → (i ≡ 0 → ⊥) → length cs ≤ i - 1 → class_under bs cs i ≡ classes bs + 1
unfolding class_under
class_right bs cs zero h k = absurd (h refl)
class_right bs cs (suc i) h k = rw (le-ltb i (length cs) (rw (sub-one (suc i)) at k))

pub class_below : {bs cs : List ℕ} → Unrefused bs cs → (i : ℕ) → class_under bs cs i < classes bs + 2
unfolding class_under
class_below {bs} {cs} u zero = omega arith
class_below {bs} {cs} u (suc i) = go (ltb i (length cs)) refl
  where
    go : (b : Bool) → ltb i (length cs) ≡ b → cond b (byte bs (Format.map_offset + byte cs i)) (classes bs + 1) < classes bs + 2
    go true e = omega (arith, (good u).map_below (byte cs i) (u.bytes i))
    go false e = omega arith

-- A RULE THAT IS RIGHT
pub record GoodRule (bs : List ℕ) (class : ℕ) (r : Rule) : Type 0 where
  pub state_below : 0 < r.kind → r.kind < 4 → r.state < states bs
  pub symbol_below : 0 < r.kind → r.kind < 3 → r.symbol < symbols bs
  pub on_tape : 0 < r.kind → r.kind < 3 → move_off bs class r.direction ≡ false

-- what moves off the tape is refused
pub on_right : (bs : List ℕ) (k m : ℕ) → k ≡ classes bs + 1 → m ≡ 1 → move_off bs k m ≡ false → ⊥
unfolding move_off
on_right bs k m e f h = off (eqb k (classes bs) && eqb m 2) (simp (eq-eqb k (classes bs + 1) e, eq-eqb m 1 f) at h)
  where
    off : (b : Bool) → (b || true) ≡ false → ⊥
    off true z = let y : ◌≡◌ {A = ℕ} 0 1 = cc in omega arith
    off false z = let y : ◌≡◌ {A = ℕ} 0 1 = cc in omega arith

good_target : {bs : List ℕ} {k : ℕ} {r : Rule} → TargetRight bs k r → GoodRule bs k r
unfolding move_off
good_target t =
    record {
      state_below = λ y w. t.state_below;
      symbol_below = λ y w. t.symbol_below;
      on_tape =
          λ y w. when_passed (any_of (if_so (both (equal _ _) (equal _ _))) (if_so (both (equal _ _) (equal _ _))))
          (λ s. t.not_off_left s.0 s.1, λ s. t.not_off_right s.0 s.1);
    }

good_rule : {bs : List ℕ} {k : ℕ} {r : Rule} → RuleRight bs k r → GoodRule bs k r
good_rule (none_right e p a m) =
    record {
      state_below = λ y w. absurd (omega arith);
      symbol_below = λ y w. absurd (omega arith);
      on_tape = λ y w. absurd (omega arith);
    }
good_rule (change_right e t) = good_target t
good_rule (push_right e t) = good_target t
good_rule (pop_right e p a m) =
    record { state_below = λ y w. p; symbol_below = λ y w. absurd (omega arith); on_tape = λ y w. absurd (omega arith) }
good_rule (halt_right e p a m) =
    record {
      state_below = λ y w. absurd (omega arith);
      symbol_below = λ y w. absurd (omega arith);
      on_tape = λ y w. absurd (omega arith);
    }

-- THE RULE OF A CONFIGURATION: its index, and that it is right
abbrev pub rule_index : (image capture : List ℕ) → Config → ℕ
rule_index bs cs c = (c.state * (classes bs + 2) + class_under bs cs c.head) * symbols bs + c.symbol

module _ {bs cs : List ℕ} (u : Unrefused bs cs) {c : Config} (t : ValidConfig (machine bs cs) c) where
  pub state_there : c.state < states bs
  unfolding machine
  state_there = t.state_below

  pub head_there : c.head < length cs + 2
  unfolding machine
  head_there = t.head_below

  pub symbol_there : c.symbol < symbols bs
  unfolding machine
  symbol_there = t.symbol_below

  pub rule_index_below : rule_index bs cs c < rule_count bs
  unfolding rule_count
  rule_index_below = digits_below state_there (class_below u c.head) symbol_there

  pub rule_right : RuleRight bs (class_under bs cs c.head) (rule_of bs cs c)
  rule_right = (image_right bs u.good).rules _ _ _ state_there (class_below u c.head) symbol_there

  pub rule_there : GoodRule bs (class_under bs cs c.head) (rule_of bs cs c)
  rule_there = good_rule rule_right

  pub rule_whole : Format.rules_offset + Format.rule_length * rule_index bs cs c + Format.rule_length ≤ length bs
  rule_whole = omega (arith, (good {bs = bs} {cs = cs} u).length_is, rule_index_below)

  -- no rule moves left off the left marker
  pub left_room : (rule_of bs cs c).direction ≡ 2 → 0 < c.head
  left_room e = go (ℕ_discrete c.head 0) rule_right
    where
      go : Dec (c.head ≡ 0) → RuleRight bs (class_under bs cs c.head) (rule_of bs cs c) → 0 < c.head
      go (no h) r = omega arith
      go (yes h) (none_right k p a m) = absurd (omega arith)
      go (yes h) (change_right k t) = absurd (t.not_off_left (class_left bs cs c.head h) e)
      go (yes h) (push_right k t) = absurd (t.not_off_left (class_left bs cs c.head h) e)
      go (yes h) (pop_right k p a m) = absurd (omega arith)
      go (yes h) (halt_right k p a m) = absurd (omega arith)
