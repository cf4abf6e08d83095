-- The helper rules that a line's number range has are those made for the line's tree, all of them and no others. Assumes nothing.
use mathlib.Core.Path.{◌≡◌, refl, sym, subst}
use mathlib.Core.List.Memᴰ
use mathlib.Core.List.{List, [], ◌∷◌, Memᴰ}
use mathlib.Core.Logic.{◌↔◌, ◌⊎◌, inl, inr}
use Prim.Native.Nat.{ℕ, suc, ◌+◌, ◌-◌, ◌<◌, ◌≤◌}
use native.Mathlib.Decide.{ℕ_discrete}
use native.Mathlib.Omega.{arith}
use lib.ListN.{length, take, length-append}
use lib.Seq.{length-take-le}
use borrow.Author.Tests.{eq-eqb, ne_eqb}
use Rattle.machine.specs.Verdicts.{Distinct}
use Rattle.machine.proofs.Pigeonhole.{pigeonhole}
use Rattle.grammar.specs.Grammar.{expression}
use Rattle.grammar.specs.Parsing.{Rules}
use Rattle.syntax.specs.Trees.{Tree, Definition, names, Defines, LegalText}
use Rattle.syntax.specs.Needs.{prefix_need, suffix_need, need, line_need, needs, later_refusal}
use Rattle.syntax.specs.Compile.{compile, line_helpers, named_from, helpers_from, grammar_of}
use Rattle.syntax.specs.RuleLines.{first_helper, LineOfRule, own, helper}
use Rattle.syntax.proofs.Counting.{line_counted, lines_needed}
use Rattle.syntax_theory.specs.RuleOf.{RuleOf, LineRules, own_line, bare_line}
use Rattle.syntax_theory.proofs.Numbering.{Each, an_element, Holds, holds_first, holds_rest, holds_front, holds_after, Block, no_element}
use Rattle.syntax_theory.proofs.Named.{ClosedLine, defines_below}
use Rattle.syntax_theory.proofs.Lines.{LineAt, line_stands}
use Rattle.syntax_theory.proofs.TypedRight.{rules_held, legal_closed}

-- A TREE HAS AS MANY RULES OF ITS OWN AS IT NEEDS
rule_counted : {E : Rules} {ds : List Definition} {e : Tree} {k : ℕ} {own : List ℕ} → RuleOf E ds e k own → length own ≡ need e
unfolding need prefix_need suffix_need
rule_counted (RuleOf.call d) = refl
rule_counted (RuleOf.byte_range r) = refl
rule_counted (RuleOf.any_byte r) = refl
rule_counted (RuleOf.nothing r) = refl
rule_counted (RuleOf.failure r l) = refl
rule_counted (RuleOf.both {xs = xs} {ys = ys} r p q) = omega (arith, length-append xs ys, rule_counted p, rule_counted q)
rule_counted (RuleOf.either {xs = xs} {ys = ys} r p q) = omega (arith, length-append xs ys, rule_counted p, rule_counted q)
rule_counted (RuleOf.not_rule r p) = omega (arith, rule_counted p)
rule_counted (RuleOf.and_rule r s p) = omega (arith, rule_counted p)
rule_counted (RuleOf.optional r s p) = omega (arith, rule_counted p)
rule_counted (RuleOf.iteration r s t p) = omega (arith, rule_counted p)
rule_counted (RuleOf.iteration_once r s t u p) = omega (arith, rule_counted p)

line_rules_counted : {E : Rules} {ds : List Definition} {e : Tree} {k : ℕ} {hs : List ℕ} → LineRules E ds e k hs → suc (length hs) ≡ line_need e
unfolding line_need
line_rules_counted {e = e} (own_line {xs = xs} r) =
    let n = rule_counted r in
    let some : need e ≡ 0 → ⊥ = λ z. omega (arith, n, z) in
    simp (ne_eqb (need e) 0 some) (omega (arith, n))
line_rules_counted {e = e} (bare_line r s t) = simp (eq-eqb (need e) 0 (sym (rule_counted r)))

-- DIFFERENT NUMBERS in an interval of as many are all of it
member : (h : ℕ) (xs : List ℕ) → Memᴰ h xs ⊎ (Memᴰ h xs → ⊥)
member h [] = inr Memᴰ.not-nil
member h (x ∷ xs) = go (ℕ_discrete h x) (member h xs)
  where
    go : Dec (h ≡ x) → Memᴰ h xs ⊎ (Memᴰ h xs → ⊥) → Memᴰ h (x ∷ xs) ⊎ (Memᴰ h (x ∷ xs) → ⊥)
    go (yes e) later = inl (Memᴰ.head e)
    go (no n) (inl m) = inl (Memᴰ.tail m)
    go (no n) (inr none) = inr (λ m. neither (Memᴰ.cases_cons m))
      where
        neither : (h ≡ x) ⊎ Memᴰ h xs → ⊥
        neither (inl e) = n e
        neither (inr l) = none l

module _ {xs : List ℕ} {from below : ℕ} (b : Block xs from below) (as_many : from + length xs ≡ below) where
  block_all : (h : ℕ) → from ≤ h → h < below → Memᴰ h xs
  block_all h least most = go (member h xs)
    where
      inside : (j : ℕ) → Memᴰ j (h ∷ xs) → (from ≤ j) × (j < below)
      inside j m = either (Memᴰ.cases_cons m)
        where
          either : (j ≡ h) ⊎ Memᴰ j xs → (from ≤ j) × (j < below)
          either (inl e) = (omega arith, omega arith)
          either (inr l) = b.inside j l

      go : Memᴰ h xs ⊎ (Memᴰ h xs → ⊥) → Memᴰ h xs
      go (inl m) = m
      go (inr none) =
          let more : suc (length xs) ≤ length xs =
          pigeonhole (λ j. j - from) (length xs) (h ∷ xs) (Distinct.cons none b.distinct) (λ j m. let i = inside j m in omega (arith, i.0, i.1, as_many))
          (λ i j m l e. omega (arith, (inside i m).0, (inside j l).0, e))
          in
          absurd (omega arith)

-- EACH LINE, where its helpers stand
moved :
    {E : Rules} {ds : List Definition} {e : Tree} {k a b l c d : ℕ} → LineAt E ds e k a b → k ≡ l → a ≡ c → b ≡ d → LineAt E ds e l c d
moved x p q r = rw (sym p, sym q, sym r) x

module _ {E : Rules} {ds : List Definition} where
  line_there :
      {es : List Definition} (k n : ℕ) → Each (ClosedLine ds) es → Holds E k (named_from (names ds) k n es) →
      Holds E n (helpers_from (names ds) k n es) → {j : ℕ} {m : List ℕ} {e : Tree} → Defines es j m e →
      LineAt E ds e (k + j) (n + (needs (take j es) - j)) (n + (needs (take (suc j) es) - suc j))
  unfolding named_from helpers_from needs
  line_there k n no_element h g {j = j} {m = m} {e = e} x7 = elim x7 [ ]
  line_there k n (an_element {a = d} {rest = rest} c cs) h g Defines.here =
      let hs = line_helpers (compile (names ds) d.body n) k in
      let others = helpers_from (names ds) (suc k) (n + length hs) rest in
      let counted = line_counted (names ds) d.body n k in
      moved (line_stands d.body k n c (holds_first h) (holds_front hs others g)) (omega arith) (omega arith) (omega (arith, counted))
  line_there k n (an_element {a = d} {rest = rest} c cs) h g (Defines.there {k = j} x) =
      let hs = line_helpers (compile (names ds) d.body n) k in
      let others = helpers_from (names ds) (suc k) (n + length hs) rest in
      let counted = line_counted (names ds) d.body n k in
      let below = defines_below x in
      let first = lines_needed (take j rest) in
      let second = lines_needed (take (suc j) rest) in
      let long = length-take-le j rest (omega (arith, below)) in
      let longer = length-take-le (suc j) rest below in
      moved (line_there (suc k) (n + length hs) cs (holds_rest h) (holds_after hs others g) x) (omega arith)
      (omega (arith, counted, first, long)) (omega (arith, counted, second, longer))

-- what one line more needs
needs_next : {es : List Definition} {j : ℕ} {n : List ℕ} {e : Tree} → Defines es j n e → needs (take (suc j) es) ≡ needs (take j es) + line_need e
unfolding needs
needs_next Defines.here = omega arith
needs_next (Defines.there d) = omega (arith, needs_next d)

-- THE RULES OF A LINE: its own, and those of its number range
pub rules_of_lines :
    (text : List ℕ) (ds : List Definition) (line : ℕ) (n : List ℕ) (e : Tree) → LegalText text ds → (later_refusal text ds).number ≡ 0 →
    Defines ds line n e →
    (helpers : List ℕ) × LineRules (expression (grammar_of ds)) ds e line helpers × ((k : ℕ) → LineOfRule ds k line ↔ Memᴰ k (line ∷ helpers))
unfolding first_helper
rules_of_lines text ds line n e legal h d = (hs, at.line, λ k. (there k, back k))
  where
    at : LineAt (expression (grammar_of ds)) ds e line (first_helper ds line) (first_helper ds (suc line))
    at =
        let (tops, rest) = rules_held ds in
        moved (line_there 0 (length ds) (legal_closed text ds legal h) tops rest d) (omega arith) refl refl

    hs : List ℕ
    hs = at.helpers

    counted : first_helper ds line + length hs ≡ first_helper ds (suc line)
    counted =
        let long = length-take-le line ds (omega (arith, defines_below d)) in
        omega (arith, line_rules_counted at.line, needs_next d, lines_needed (take line ds), long)

    there : (k : ℕ) → LineOfRule ds k line → Memᴰ k (line ∷ hs)
    there k (own below) = Memᴰ.head refl
    there k (helper below least most) = Memᴰ.tail (block_all at.block counted k least most)

    back : (k : ℕ) → Memᴰ k (line ∷ hs) → LineOfRule ds k line
    back k m = go (Memᴰ.cases_cons m)
      where
        go : (k ≡ line) ⊎ Memᴰ k hs → LineOfRule ds k line
        go (inl is) = subst (λ (j : ℕ). LineOfRule ds j line) (sym is) (own (defines_below d))
        go (inr l) = let (least, most) = at.block.inside k l in helper (defines_below d) least most
