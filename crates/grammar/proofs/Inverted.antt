-- A range whose low byte is above its high byte: it is legal, and at every place of every capture it has one result, failure, as 004's F = !ε has. Assumes nothing.
use mathlib.Core.Path.{◌≡◌, refl, sym, ap, subst, ◌∙◌}
use mathlib.Core.Bool.{Bool, true, false, ◌&&◌, and-false}
use mathlib.Core.List.{List}
use mathlib.Core.Logic.{◌↔◌}
use mathlib.Core.Option.{Option, none, some}
use Prim.Native.Nat.{ℕ, ◌*◌, ◌<◌}
use native.Mathlib.Omega.{arith}
use lib.Dec.{ltb, leb}
use lib.ListN.{length}
use borrow.Author.Tests.{leb-true, lt-leb}
use Rattle.codec.specs.Bytes.{byte}
use Rattle.refusal.specs.First.{refusal}
use Rattle.grammar.specs.declared.Expression.TheVariants.{Not, Empty, Range}
use Rattle.grammar.specs.Grammar.{Inverted, expression, expression_by, b_of, c_of, grammar_refusal}
use Rattle.grammar.specs.Conditions.{last_of, GrammarRuleRight, range_right, GrammarRow, unrefused_grammar, wrong_grammar_length, wrong_grammar_rule}
use Rattle.grammar.specs.Parsing.{Rules, in_range, Parses, sequence, sequence_fails, choice, choice_other, not_there, not_fails, empty, range, range_fails}
use Rattle.grammar.proofs.ConditionsMet.{grammar_answer}

pub inverted_is : (gs : List ℕ) (k : ℕ) → Inverted gs k → expression gs k ≡ Range (b_of gs k) (c_of gs k)
unfolding expression expression_by
inverted_is gs k x = rw x.is_range

-- no byte is in it
pub none_between : (b c v : ℕ) → c < b → in_range b c v ≡ false
unfolding in_range
none_between b c v h = go (leb b v) refl
  where
    go : (t : Bool) → leb b v ≡ t → (t && leb v c) ≡ false
    go true e = let l = leb-true b v e in lt-leb v c (omega (arith, l))
    go false e = refl

-- two different forms of one rule
clash : {A : Type 0} → ◌≡◌ {A = ℕ} 0 1 → A
clash z = absurd (omega arith)

-- PARSING: a result of a range that has no byte is failure
only_failure : {E : Rules} {cs : List ℕ} {k i b c : ℕ} {o : Option ℕ} → E k ≡ Range b c → c < b → Parses E cs k i o → o ≡ none
only_failure e h (sequence f p q) = clash cc
only_failure e h (sequence_fails f p) = refl
only_failure e h (choice f p) = clash cc
only_failure e h (choice_other f p q) = clash cc
only_failure e h (not_there f p) = clash cc
only_failure e h (not_fails f p) = refl
only_failure e h (empty f) = clash cc
only_failure {cs = cs} {i = i} {b = b} {c = c} e h (range f l q) =
    let missed : in_range b c (byte cs i) ≡ false = none_between b c (byte cs i) h in
    clash cc
only_failure e h (range_fails f q) = refl

-- no byte of the capture is in it
pub matches_nowhere : (cs : List ℕ) (b c i : ℕ) → c < b → (ltb i (length cs) && in_range b c (byte cs i)) ≡ false
matches_nowhere cs b c i h = ap (λ (t : Bool). ltb i (length cs) && t) (none_between b c (byte cs i) h) ∙ and-false (ltb i (length cs))

-- and so it fails, at any place
fails_there : {E : Rules} {cs : List ℕ} {k b c : ℕ} → E k ≡ Range b c → c < b → (i : ℕ) → Parses E cs k i none
fails_there {cs = cs} {b = b} {c = c} e h i = range_fails e (matches_nowhere cs b c i h)

abbrev AlwaysFails : Rules → List ℕ → (k : ℕ) → Type 0
AlwaysFails E cs k = (i : ℕ) (o : Option ℕ) → Parses E cs k i o ↔ (o ≡ none)

always_fails :
    {E : Rules} {cs : List ℕ} {k : ℕ} → ((i : ℕ) (o : Option ℕ) → Parses E cs k i o → o ≡ none) → ((i : ℕ) → Parses E cs k i none) →
    AlwaysFails E cs k
always_fails {E = E} {cs = cs} {k = k} only there i o = (only i o, λ e. subst (Parses E cs k i) (sym e) (there i))

pub inverted_fails : (gs cs : List ℕ) (k : ℕ) → Inverted gs k → AlwaysFails (expression gs) cs k
inverted_fails gs cs k x =
    let e = inverted_is gs k x in
    always_fails (λ i o. only_failure e x.low_above) (fails_there e x.low_above)

-- 004'S FAILURE, F = !ε
empty_succeeds : {E : Rules} {cs : List ℕ} {k i : ℕ} {o : Option ℕ} → E k ≡ Empty → Parses E cs k i o → o ≡ some i
empty_succeeds e (sequence f p q) = clash cc
empty_succeeds e (sequence_fails f p) = clash cc
empty_succeeds e (choice f p) = clash cc
empty_succeeds e (choice_other f p q) = clash cc
empty_succeeds e (not_there f p) = clash cc
empty_succeeds e (not_fails f p) = clash cc
empty_succeeds e (empty f) = refl
empty_succeeds e (range f l q) = clash cc
empty_succeeds e (range_fails f q) = clash cc

not_empty_fails : {E : Rules} {cs : List ℕ} {f k i : ℕ} {o : Option ℕ} → E f ≡ Not k → E k ≡ Empty → Parses E cs f i o → o ≡ none
not_empty_fails n e (sequence g p q) = clash cc
not_empty_fails n e (sequence_fails g p) = refl
not_empty_fails n e (choice g p) = clash cc
not_empty_fails n e (choice_other g p q) = clash cc
not_empty_fails {E = E} {i = i} n e (not_there {b = b} g p) =
    let is_empty : E b ≡ Empty = cc in
    let succeeds : none ≡ some i = empty_succeeds is_empty p in
    clash cc
not_empty_fails n e (not_fails g p) = refl
not_empty_fails n e (empty g) = clash cc
not_empty_fails n e (range g l q) = clash cc
not_empty_fails n e (range_fails g q) = refl

failure_fails : {E : Rules} {cs : List ℕ} {f k : ℕ} → E f ≡ Not k → E k ≡ Empty → AlwaysFails E cs f
failure_fails n e = always_fails (λ i o. not_empty_fails n e) (λ i. not_fails n (empty e))

-- an inverted range has the results that such a rule has
pub inverted_as_failure :
    (gs cs : List ℕ) (k f e : ℕ) → Inverted gs k → expression gs f ≡ Not e → expression gs e ≡ Empty →
    (i : ℕ) (o : Option ℕ) → Parses (expression gs) cs k i o ↔ Parses (expression gs) cs f i o
inverted_as_failure gs cs k f e x n m i o =
    let one = inverted_fails gs cs k x i o in
    let other = failure_fails {cs = cs} n m i o in
    (λ p. other.1 (one.0 p), λ p. one.1 (other.0 p))

-- LEGAL: such a rule is right, so that it is never the one that refusal 12 blames
blamed : {gs : List ℕ} {number place : ℕ} (k : ℕ) → GrammarRow gs number place → number ≡ 12 → place ≡ 4 * k → GrammarRuleRight gs k → ⊥
blamed k (unrefused_grammar r) n p right = omega arith
blamed k (wrong_grammar_length w) n p right = omega arith
blamed {gs = gs} k (wrong_grammar_rule l f) n p right =
    let same : k ≡ f.rule = omega (arith, f.place_is) in
    f.wrong (subst (GrammarRuleRight gs) same right)

pub inverted_legal :
    (gs : List ℕ) (k : ℕ) → Inverted gs k → last_of gs k ≡ 0 → GrammarRuleRight gs k × (grammar_refusal gs ≡ refusal 12 (4 * k) → ⊥)
inverted_legal gs k x last =
    let right : GrammarRuleRight gs k = range_right x.is_range last in
    (right, λ e. blamed k ((grammar_answer gs 12 (4 * k)).0 e) refl refl right)
