-- What the lookups' functions ask and answer, over lists and numbers: from LookupReady to the rule's offset and to the action. Assumes nothing.
use mathlib.Core.Path.{◌≡◌, refl, sym, ap, ◌∙◌}
use mathlib.Core.List.{List}
use Prim.Native.Nat.{ℕ, ◌+◌, ◌*◌, ◌≤◌}
use native.Mathlib.Nat.{mul-le-mul}
use native.Mathlib.Omega.{arith}
use Rattle.machine.proofs.Digits.{digits_apart}
use Rattle.machine.specs.declared.Config.{Config}
use Rattle.image.specs.declared.Sizes.{Sizes}
use Rattle.machine.specs.declared.Action.{Action}
use Rattle.image.specs.Format
use Rattle.image.specs.Image.{classes, symbols, rule_from, rule_offset, rule_at, sizes_of, class_under, rule_of, action_by, action}
use Rattle.image.specs.Refusals.{Unrefused}
use Rattle.image.specs.Code.Lookup.{LookupReady, RuleFits, offset_by, RuleReady}
use Rattle.image.proofs.Rules.{good, class_below, rule_index, state_there, head_there, symbol_there, rule_whole, left_room}

pub kept_classes : (bs cs : List ℕ) {s : Sizes} → s ≡ sizes_of bs cs → s.classes ≡ classes bs
unfolding sizes_of
kept_classes bs cs e = ap (λ (x : Sizes). x.classes) e

pub kept_symbols : (bs cs : List ℕ) {s : Sizes} → s ≡ sizes_of bs cs → s.symbols ≡ symbols bs
unfolding sizes_of
kept_symbols bs cs e = ap (λ (x : Sizes). x.symbols) e

kept_rules : (bs cs : List ℕ) {s : Sizes} → s ≡ sizes_of bs cs → s.rules ≡ (s.classes + 2) * s.symbols
unfolding sizes_of
kept_rules bs cs e = rw e refl

-- one state's rules are few
pub rules_few :
    {bs cs : List ℕ} {k g : ℕ} → Unrefused bs cs → k ≡ classes bs → g ≡ symbols bs → (k + 2) * g ≤ (Format.max_classes + 2) * Format.max_symbols
rules_few u e f =
    mul-le-mul {n₂ = Format.max_classes + 2} {m₂ = Format.max_symbols} (omega (arith, (good u).classes_most)) (omega (arith, (good u).symbols_most))

-- the parts of a rule's index are few
module _ {s : Sizes} {p k a : ℕ} (fits : RuleFits s p k a) where
  pub earlier_few : p * s.rules ≤ Format.max_states * ((Format.max_classes + 2) * Format.max_symbols)
  earlier_few =
      rw fits.rules_are
      (mul-le-mul {n₂ = Format.max_states} {m₂ = (Format.max_classes + 2) * Format.max_symbols} (omega (arith, fits.state_below))
      (mul-le-mul {n₂ = Format.max_classes + 2} {m₂ = Format.max_symbols} (omega (arith, fits.classes_most)) fits.symbols_most))

  pub column_few : k * s.symbols ≤ (Format.max_classes + 2) * Format.max_symbols
  column_few =
      mul-le-mul {n₂ = Format.max_classes + 2} {m₂ = Format.max_symbols} (omega (arith, fits.class_below, fits.classes_most)) fits.symbols_most

  pub index_few :
      p * s.rules + k * s.symbols + a ≤ (Format.max_states + 1) * ((Format.max_classes + 2) * Format.max_symbols) + Format.max_symbols
  index_few = omega (arith, earlier_few, column_few, fits.symbol_below, fits.symbols_most)

  pub index_is : p * s.rules + k * s.symbols + a ≡ (p * (s.classes + 2) + k) * s.symbols + a
  index_is = rw fits.rules_are (sym (digits_apart p k a (s.classes + 2) s.symbols))

module _ {bs cs : List ℕ} {s : Sizes} {c : Config} (l : LookupReady bs cs s c) {k : ℕ} (ek : k ≡ class_under bs cs c.head) where
  offset_is : offset_by s c.state k c.symbol ≡ Format.rules_offset + Format.rule_length * rule_index bs cs c
  offset_is = simp (kept_classes bs cs l.counts, kept_symbols bs cs l.counts, ek)

  pub rule_fits : RuleFits s c.state k c.symbol
  rule_fits =
      let e : s.classes ≡ classes bs = kept_classes bs cs l.counts in
      let f : s.symbols ≡ symbols bs = kept_symbols bs cs l.counts in
      let g = good l.unrefused in
      record {
        rules_are = kept_rules bs cs l.counts;
        state_below = omega (arith, state_there l.unrefused l.there, g.states_most);
        class_below = omega (arith, class_below l.unrefused c.head);
        classes_most = omega (arith, g.classes_most);
        symbol_below = omega (arith, symbol_there l.unrefused l.there);
        symbols_most = omega (arith, g.symbols_most);
      }

  module _ {o : ℕ} (eo : o ≡ offset_by s c.state k c.symbol) where
    rule_is : rule_from bs o ≡ rule_of bs cs c
    unfolding rule_at rule_offset
    rule_is = ap (rule_from bs) (eo ∙ offset_is)

    pub rule_ready : RuleReady bs o c.head
    rule_ready =
        record {
          whole = omega (arith, rule_whole l.unrefused l.there, offset_is, eo);
          moves =
              record {
                head_most = omega (arith, head_there l.unrefused l.there, l.unrefused.short);
                left_room = λ e. left_room l.unrefused l.there (rw rule_is at e);
              };
        }

    pub action_is : {r : Action} → r ≡ action_by (rule_from bs o) c.head → r ≡ action bs cs c
    unfolding action
    action_is e = e ∙ ap (λ x. action_by x c.head) rule_is
