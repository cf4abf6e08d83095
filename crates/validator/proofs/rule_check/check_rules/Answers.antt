-- `validator::rule_check::check_rules` meets its contract: what is left of the rules decides. Assumes nothing.
use mathlib.Core.Path.{◌≡◌, refl, sym, ap, subst, ◌∙◌}
use Prim.Native.Nat.{ℕ, ◌+◌, ◌*◌, ◌<◌, ◌≤◌}
use native.Mathlib.Omega.{arith}
use lib.ListN.{length}
use Rattle.refusal.specs.Checking.{checked}
use Rattle.refusal.proofs.Checked.{refuses-made}
use Rattle.image.specs.Format
use Rattle.image.specs.Refusals.{rule_count}
use Rattle.image.specs.Image.{states, classes, symbols}
use Rattle.validator.proofs.CheckLoops.{RulesLeft, rules_start, rules_count, rules_stop, rules_next, rules_end, left_as}
use Rattle.validator.proofs.CheckParts.{three_counts}
use Rattle.validator.proofs.rule_check.check_rules.Goals as goal

pub loop-i-init : goal.loop-i-init
loop-i-init c = left_as c.first-s.ensures (rules_start _ c.requires.some_symbol)

pub returns-then-rule_bad : goal.returns-then-rule_bad
returns-then-rule_bad c =
    let more : Format.rules_offset + Format.rule_length * c.loop-i.i < length c.args.image.now = omega (arith, c.requires.length_is) in
    refuses-made _ _ c.new.ensures refl
    ∙ ap checked (rules_stop _ _ _ c.loop-i.invariant c.requires.length_is more (sym c.if-rule_bad.true ∙ c.rule_bad.ensures))

pub next-s-requires : goal.next-s-requires
unfolding rule_count states classes symbols
next-s-requires c =
    let bytes = c.type_inv.image in
    let few = three_counts _ _ _ (bytes Format.states_offset).fits (bytes Format.classes_offset).fits (bytes Format.symbols_offset).fits in
    let more : Format.rules_offset + Format.rule_length * c.loop-i.i < length c.args.image.now = omega (arith, c.requires.length_is) in
    rw (c.from-columns.ensures, c.from-symbols.ensures) (rules_count _ _ _ c.loop-i.invariant c.requires.length_is more (omega (arith, few)))

pub loop-i-preserved : goal.loop-i-preserved
unfolding classes symbols
loop-i-preserved c =
    let more : Format.rules_offset + Format.rule_length * c.loop-i.i < length c.args.image.now = omega (arith, c.requires.length_is) in
    let good = sym c.if-rule_bad.false ∙ c.rule_bad.ensures in
    let counted = rw (c.from-columns.ensures, c.from-symbols.ensures) at c.next-s.ensures in
    let further : Format.rules_offset + Format.rule_length * c.loop-i.i + Format.rule_length ≡ Format.rules_offset + Format.rule_length * (c.loop-i.i + 1) = omega arith in
    subst (λ (at : ℕ). RulesLeft c.args.image.now c.next-s.result at) further
    (left_as counted (rules_next _ _ _ c.loop-i.invariant c.requires.length_is more good))

pub returns : goal.returns
unfolding checked
returns c =
    let all : length c.args.image.now ≤ Format.rules_offset + Format.rule_length * c.loop-i.i = omega (arith, c.requires.length_is) in
    ap checked (rules_end _ _ _ c.loop-i.invariant c.requires.length_is all)
