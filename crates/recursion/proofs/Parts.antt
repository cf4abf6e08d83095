-- The parts of a grammar's rules: they are few, so that a set has a bit for each. Assumes nothing.
use mathlib.Core.Path.{◌≡◌, sym, subst}
use mathlib.Core.List.{List}
use Prim.Native.Nat.{ℕ, ◌<◌, ◌≤◌}
use native.Mathlib.Omega.{arith}
use Rattle.grammar.specs.declared.Expression.{Expression}
use Rattle.grammar.specs.declared.Expression.TheVariants.{Sequence, Choice, Not, Empty, Range}
use Rattle.grammar.specs.Grammar.{max_rules, rules, expression, PartsBelow, grammar_refusal}
use Rattle.grammar.proofs.GrammarGood.{good_grammar}

-- parts below m are below any larger number
parts_wider : {m n : ℕ} (e : Expression) → m ≤ n → PartsBelow m e → PartsBelow n e
unfolding PartsBelow
parts_wider (Sequence b c) h (p, q) = (omega arith, omega arith)
parts_wider (Choice b c) h (p, q) = (omega arith, omega arith)
parts_wider (Not b) h p = omega arith
parts_wider Empty h p = tt
parts_wider (Range b c) h p = tt

-- the parts of a grammar's rules are few
pub parts_few : (gs : List ℕ) (k : ℕ) → (grammar_refusal gs).number ≡ 0 → k < rules gs → (e : Expression) → e ≡ expression gs k → PartsBelow max_rules e
parts_few gs k good h e is =
    let g = good_grammar gs good in
    subst (λ (x : Expression). PartsBelow max_rules x) (sym is) (parts_wider (expression gs k) g.rules_most (g.parts k h))

abbrev Few : Expression → Type 0
Few e = PartsBelow max_rules e

pub sequence_parts : {e : Expression} {b c : ℕ} → e ≡ Sequence b c → Few e → (b < 32) × (c < 32)
unfolding PartsBelow
sequence_parts is p = let (x, y) = subst Few is p in (omega arith, omega arith)

pub choice_parts : {e : Expression} {b c : ℕ} → e ≡ Choice b c → Few e → (b < 32) × (c < 32)
unfolding PartsBelow
choice_parts is p = let (x, y) = subst Few is p in (omega arith, omega arith)

pub not_part : {e : Expression} {b : ℕ} → e ≡ Not b → Few e → b < 32
unfolding PartsBelow
not_part is p = let x = subst Few is p in omega arith
