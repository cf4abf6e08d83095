-- The rule that a state, a class and a symbol select, from the rows of the table. Assumes nothing.
use mathlib.Core.Path.{◌≡◌, refl, sym, ap, subst, ◌∙◌}
use mathlib.Core.Bool.{Bool, true}
use mathlib.Core.List.{List}
use mathlib.Core.Logic.{◌⊎◌, inl, inr}
use Prim.Native.Nat.{ℕ, zero, suc, ◌/◌, ◌%◌, ◌<◌, ◌≤◌}
use native.Mathlib.Omega.{arith}
use lib.Dec.{eqb}
use borrow.Author.Tests.{ne_eqb}
use Rattle.image.specs.Image.{Rule}
use Rattle.grammar.specs.declared.Expression.{Expression}
use Rattle.grammar.specs.declared.Expression.TheVariants.{Sequence, Choice, Not, Empty, Range}
use Rattle.grammar.specs.declared.ByteRange.{ByteRange}
use Rattle.std.specs.Prelude.{Option, Some, None, IfSome}
use Rattle.grammar.specs.Grammar.{max_rules, rules, expression, range_of, PartsBelow, grammar_refusal}
use Rattle.builder.specs.declared.Matching.{Matching}
use Rattle.builder.specs.Classes.{class_count, class_in}
use Rattle.builder.specs.Table.{state_work, state_ok, state_fail, no_rule, class_inside, Row, row, rows, rows_at, unruled, by_state, select, row_zero, made}
use Rattle.builder.specs.Code.Writing.{Few, class_between, inside_by, RowsReady}
use Rattle.grammar.proofs.GrammarGood.{good_grammar}
use Rattle.builder.proofs.EachRow.{each_state}

-- THE RULES THAT A RULE NAMES
below_few : (m n : ℕ) (e : Expression) → m ≤ n → PartsBelow m e → PartsBelow n e
unfolding PartsBelow
below_few m n (Sequence b c) h p = (omega arith, omega arith)
below_few m n (Choice b c) h p = (omega arith, omega arith)
below_few m n (Not b) h p = omega arith
below_few m n Empty h p = tt
below_few m n (Range b c) h p = tt

pub few : (gs : List ℕ) (k : ℕ) (e : Expression) → (grammar_refusal gs).number ≡ 0 → k < rules gs → e ≡ expression gs k → Few k e
few gs k e good h q =
    let w = good_grammar gs good in
    let here : PartsBelow max_rules (expression gs k) = below_few (rules gs) max_rules (expression gs k) w.rules_most (w.parts k h) in
    record { number_below = omega (arith, w.rules_most); parts_below = subst (PartsBelow max_rules) (sym q) here }

-- the parts of a rule by what it is
pub parts_of : {e x : Expression} → PartsBelow max_rules e → e ≡ x → PartsBelow max_rules x
parts_of p q = subst (PartsBelow max_rules) q p

-- A CLASS IN A RANGE, by the class map of the image; the range's ends are bytes
abbrev EndsBytes : Option ByteRange → Type 0
EndsBytes x = IfSome x (λ r. (r.low < 256) × (r.high < 256))

inside_is : (gs bs : List ℕ) (n : ℕ) → RowsReady gs bs n → (x : Option ByteRange) → EndsBytes x → (k : ℕ) → inside_by bs n x k ≡ class_inside gs x k
unfolding inside_by class_inside class_between class_in
inside_is gs bs n w None h k = refl
inside_is gs bs n w (Some r) h k = simp (w.classes_are, w.map r.low h.0, w.map r.high h.1)

-- a symbol that has no rule in work, ok and fail has none in any state
pub never : (p : ℕ) → no_rule ≡ by_state p (row no_rule no_rule no_rule)
never = each_state (λ (r : Rule). no_rule ≡ r) refl (row no_rule no_rule no_rule) (record { work = refl; ok = refl; fail = refl })

-- what is neither a sequence nor a choice has no rule of a second symbol
pub no_second :
    (e : Expression) → ((b : ℕ) × (e ≡ Not b)) ⊎ ((e ≡ Empty) ⊎ ((b : ℕ) × (c : ℕ) × (e ≡ Range b c))) →
    (p k : ℕ) (inside : Bool) → no_rule ≡ select (rows e k inside) true p
unfolding rows select
no_second e (inl (b, is)) p k inside = rw is (never p)
no_second e (inr (inl is)) p k inside = rw is (never p)
no_second e (inr (inr (b, c, is))) p k inside = rw is (never p)

-- THE RULE OF RULE K that a symbol and a state select, from what was found of rule k
pub rule_is :
    (gs bs : List ℕ) (n k x : ℕ) (s : Bool) (p : ℕ) (r : Rule) (e : Expression) (y : Option ByteRange) (inside : Bool) → RowsReady gs bs n →
    EndsBytes y → e ≡ expression gs k → y ≡ range_of e → inside ≡ inside_by bs n y x → r ≡ select (rows e k inside) s p →
    r ≡ select (rows_at gs k x) s p
unfolding rows_at
rule_is gs bs n k x s p r e y inside w ends is range tells picks =
    let here : range_of (expression gs k) ≡ y = ap range_of (sym is) ∙ sym range in
    let same : inside ≡ class_inside gs (range_of (expression gs k)) x =
    tells ∙ inside_is gs bs n w y ends x ∙ ap (λ (z : Option ByteRange). class_inside gs z x) (sym here)
    in
    picks ∙ ap (λ (z : Expression). select (rows z k inside) s p) is ∙ ap (λ (t : Bool). select (rows (expression gs k) k t) s p) same

-- THE RULE, by its symbol
pub zero_is :
    (how : Matching) (gs : List ℕ) (n p x a : ℕ) (r : Rule) → n ≡ class_count gs → a ≡ 0 → r ≡ row_zero how n p x → r ≡ made how gs p x a
unfolding made
zero_is how gs n p x a r e z q = q ∙ ap (λ (m : ℕ). row_zero how m p x) e ∙ ap (made how gs p x) (sym z)

pub made_suc : (how : Matching) (gs : List ℕ) (p x a : ℕ) → select (rows_at gs (a / 2) x) (eqb (a % 2) 1) p ≡ made how gs p x (suc a)
unfolding made
made_suc how gs p x a = refl

-- a state in which no rule stands
none_there : (p : ℕ) (r : Row) → unruled p ≡ true → by_state p r ≡ no_rule
unfolding unruled by_state
none_there zero r e = refl
none_there (suc zero) r e = absurd (let z : ◌≡◌ {A = ℕ} 0 1 = cc in omega arith)
none_there (suc (suc zero)) r e = absurd (let z : ◌≡◌ {A = ℕ} 0 1 = cc in omega arith)
none_there (suc (suc (suc zero))) r e = absurd (let z : ◌≡◌ {A = ℕ} 0 1 = cc in omega arith)
none_there (suc (suc (suc (suc p)))) r e =
    let n : ℕ = suc (suc (suc (suc p))) in
    simp (ne_eqb n state_work (λ z. omega arith), ne_eqb n state_ok (λ z. omega arith), ne_eqb n state_fail (λ z. omega arith))

pub unruled_is :
    (how : Matching) (gs : List ℕ) (p x a : ℕ) (r : Rule) (t : Bool) → (a ≡ 0 → ⊥) → t ≡ unruled p → t ≡ true → r ≡ no_rule → r ≡ made how gs p x a
unfolding made select
unruled_is how gs p x zero r t some is h q = absurd (some refl)
unruled_is how gs p x (suc a) r t some is h q = q ∙ sym (none_there p _ (sym is ∙ h))
