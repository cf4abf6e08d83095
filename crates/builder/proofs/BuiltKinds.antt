-- No rule of a built image halts: each has one of the kinds 0 to 3. Assumes nothing.
use mathlib.Core.Path.{sym, ap, ◌∙◌}
use mathlib.Core.Bool.{Bool, ◌&&◌}
use mathlib.Core.List.{List}
use Prim.Native.Nat.{ℕ, zero, suc, ◌+◌, ◌/◌, ◌%◌, ◌<◌, ◌≤◌}
use native.Mathlib.Omega.{arith}
use lib.Dec.{ltb, eqb}
use Rattle.image.specs.Format
use Rattle.image.specs.Image.{Rule}
use Rattle.image.specs.WithoutHalting.{NoHaltingRule}
use Rattle.grammar.specs.declared.Expression.{Expression}
use Rattle.grammar.specs.declared.Expression.TheVariants.{Sequence, Choice, Not, Empty, Range}
use Rattle.grammar.specs.Grammar.{expression, range_of}
use Rattle.builder.specs.declared.Matching.{Matching}
use Rattle.builder.specs.declared.Matching.TheVariants.{Whole, Leading}
use Rattle.builder.specs.Classes.{class_count}
use Rattle.builder.specs.Table.{state_start, state_ok, state_count, rule, no_rule, pass_byte, pop_fail, rows, on_byte, row_zero, class_inside, rows_at, made}
use Rattle.builder.specs.Image.{symbols_of, built}
use Rattle.builder.proofs.BuiltImage.{built_states, built_classes, built_symbols, built_rule_at}
use Rattle.builder.proofs.BuiltRules.{by_cond}
use Rattle.builder.proofs.EachRow.{Each, each, each_select}

record KindLow (r : Rule) : Type 0 where
  most : r.kind ≤ Format.kind_pop

none_low : KindLow no_rule
none_low = record { most = omega arith }

change_low : {p a m : ℕ} → KindLow (rule Format.kind_change p a m)
change_low = record { most = omega arith }

push_low : {p a m : ℕ} → KindLow (rule Format.kind_push p a m)
push_low = record { most = omega arith }

pop_low : {p a m : ℕ} → KindLow (rule Format.kind_pop p a m)
pop_low = record { most = omega arith }

-- the six rules of a grammar rule, and those of symbol 0
rows_low : (x : Expression) (k : ℕ) (t : Bool) → Each KindLow (rows x k t)
unfolding rows
rows_low (Sequence b c) k t = each push_low change_low pop_low push_low pop_low pop_low
rows_low (Choice b c) k t = each push_low pop_low change_low push_low pop_low pop_low
rows_low (Not b) k t = each push_low pop_low pop_low none_low none_low none_low
rows_low Empty k t = each pop_low none_low none_low none_low none_low none_low
rows_low (Range b c) k t =
    each (by_cond KindLow t (pass_byte k) pop_fail (λ e. change_low) pop_low) pop_low none_low none_low none_low none_low

on_byte_low : (how : Matching) → KindLow (on_byte how)
unfolding on_byte
on_byte_low Whole = none_low
on_byte_low Leading = change_low

row_zero_low : (how : Matching) (n p class : ℕ) → KindLow (row_zero how n p class)
unfolding row_zero
row_zero_low how n p class =
    by_cond KindLow (eqb p state_start && eqb class n) _ _ (λ e. push_low)
    (by_cond KindLow (eqb p state_ok && eqb class (n + 1)) _ _ (λ e. pop_low)
    (by_cond KindLow (eqb p state_ok && ltb class n) _ _ (λ e. on_byte_low how) none_low))

made_low : (how : Matching) (gs : List ℕ) (p k a : ℕ) → KindLow (made how gs p k a)
unfolding made rows_at
made_low how gs p k zero = row_zero_low how (class_count gs) p k
made_low how gs p k (suc a) =
    let x = expression gs (a / 2) in
    let t = class_inside gs (range_of x) k in
    each_select KindLow none_low (rows x (a / 2) t) (rows_low x (a / 2) t) (eqb (a % 2) 1) p

pub built_without_halting : (how : Matching) (gs : List ℕ) → NoHaltingRule (built how gs)
built_without_halting how gs p k a hp hk ha kind =
    let state : p < state_count = omega (arith, built_states how gs) in
    let class : k < class_count gs + 2 = omega (arith, built_classes how gs) in
    let symbol : a < symbols_of gs = omega (arith, built_symbols how gs) in
    omega (arith, (made_low how gs p k a).most, ap (λ (r : Rule). r.kind) (sym (built_rule_at how gs state class symbol)) ∙ kind)
