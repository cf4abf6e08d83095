-- An image that is refused, since its rule on the right marker moves right: a run by it goes right for ever, is never twice in one configuration, and has no verdict. Assumes nothing.
use mathlib.Core.Path.{◌≡◌, refl, ap, ◌∙◌}
use mathlib.Core.List.{List, [], ◌∷◌}
use mathlib.Core.Option.{some}
use Prim.Native.Nat.{ℕ, zero, suc, ◌+◌}
use native.Mathlib.Numerals.{add-one}
use native.Mathlib.Omega.{arith}
use lib.ListN.{replicate}
use borrow.Author.Tests.{le-ltb}
use Rattle.machine.specs.declared.Config.{Config}
use Rattle.machine.specs.declared.Verdict.{Verdict}
use Rattle.machine.specs.declared.Action.TheVariants.{Change}
use Rattle.machine.specs.Run.{Machine, config, Description, description, entry, next, start, step, step_on, step_by, only_next, further, after, termination, config_of, top}
use Rattle.machine.specs.Verdicts.{Says, terminates, loops}
use Rattle.codec.specs.Numbers.{little_endian, pair_bytes}
use Rattle.image.specs.Format
use Rattle.image.specs.Image.{Rule, machine, states, classes, symbols, rule_offset, rule_from, rule_at, class_under, moved, action_by, action}
use Rattle.image.specs.Encoding.{header, rule_bytes, rules_bytes, encode}
use Rattle.builder.specs.Table.{rule, no_rule}

abbrev go_right : Rule
go_right = rule Format.kind_change 0 0 Format.direction_right

-- one state, class and symbol: both markers' rules move right
pub runs_off : List ℕ
runs_off =
    encode
    (record {
      states = 1;
      classes = 1;
      symbols = 1;
      finals = 0;
      class_map = replicate Format.map_length 0;
      rules = no_rule ∷ go_right ∷ go_right ∷ [];
    })

-- its machine on no byte
abbrev off : Machine
off = machine runs_off []

-- its rules on the left marker and on the right one
marker_rules : (rule_at runs_off 0 (classes runs_off) 0 ≡ go_right) × (rule_at runs_off 0 (classes runs_off + 1) 0 ≡ go_right)
unfolding runs_off rule_at rule_from rule_offset states classes symbols encode header rule_bytes rules_bytes pair_bytes little_endian
marker_rules = (refl, refl)

-- whatever is right of the left marker is the right one
class_there : (i : ℕ) → class_under runs_off [] (suc i) ≡ classes runs_off + 1
unfolding class_under
class_there i = rw (le-ltb i 0 (omega arith))

left_class : class_under runs_off [] 0 ≡ classes runs_off
unfolding class_under
left_class = refl

rule_there : (i : ℕ) → rule_at runs_off 0 (class_under runs_off [] i) 0 ≡ go_right
rule_there zero = ap (λ (k : ℕ). rule_at runs_off 0 k 0) left_class ∙ marker_rules.0
rule_there (suc i) = ap (λ (k : ℕ). rule_at runs_off 0 k 0) (class_there i) ∙ marker_rules.1

by_rule : (i : ℕ) → action_by go_right i ≡ Change (config 0 (i + 1) 0)
unfolding action_by moved
by_rule i = refl

goes_right : (i : ℕ) → off.action (config 0 i 0) ≡ Change (config 0 (i + 1) 0)
unfolding machine action
goes_right i = ap (λ (r : Rule). action_by r i) (rule_there i) ∙ by_rule i

abbrev place : (i : ℕ) → Description
place i = description 0 i (entry 0 0 ∷ [])

steps_right : (i : ℕ) → step off (place i) ≡ next (place (suc i))
unfolding step step_on step_by
steps_right i = rw (goes_right i, add-one i)

-- after n steps the head is at n
comes : (n : ℕ) → after n off start ≡ some (place n)
unfolding after further only_next start
comes zero = refl
comes (suc n) = rw (comes n, steps_right n)

at_step : (n : ℕ) (x : Description) → after n off start ≡ some x → x ≡ place n
at_step n x e = let c = comes n in cc

pub no_verdict : (v : Verdict) (d : Config) → Says off v d → ⊥
unfolding termination config_of top
no_verdict v d (terminates {h} t e) =
    let next_there = ap (λ (x : Description). termination off (step off x)) (at_step t.steps t.place t.reached) ∙ ap (termination off) (steps_right t.steps) in
    let last = t.last in
    let z : ◌≡◌ {A = ℕ} 0 1 = cc in
    omega arith
no_verdict v d (loops on f e) =
    let again = f.again in
    let was = at_step again.earlier again.then_at again.was in
    let is = at_step f.at_step again.now_at again.is in
    let heads = ap (λ (x : Description). x.head) was in
    let heads_now = ap (λ (x : Description). x.head) is in
    let same = ap (λ (c : Config). c.head) again.same in
    omega (arith, again.before)
