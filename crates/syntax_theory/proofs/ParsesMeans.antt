-- What the rule of a tree parses, the tree means; where each line has its rule. A rule is seen as one of the five kinds, over trees that have rules of their own. Assumes nothing.
use mathlib.Core.Path.{◌≡◌, refl, sym, subst}
use mathlib.Core.Bool.{false}
use mathlib.Core.List.{List, []}
use mathlib.Core.Option.{Option, none, some}
use Prim.Native.Nat.{ℕ, ◌<◌}
use native.Mathlib.Omega.{arith}
use Rattle.codec.specs.Bytes.{byte}
use Rattle.grammar.specs.declared.Expression.{Expression}
use Rattle.grammar.specs.declared.Expression.TheVariants.{Sequence, Choice, Not, Empty, Range}
use Rattle.grammar.specs.Parsing.{Rules, Parses, in_range}
use Rattle.grammar.proofs.Inverted.{none_between}
use Rattle.syntax.specs.declared.Leaf.TheVariants.{EmptyString, Failure}
use Rattle.syntax.specs.declared.Prefix.TheVariants.{NotPredicate}
use Rattle.syntax.specs.Trees.{Tree, nonterminal, leaf, bytes, prefixed, sequence, choice, Definition, Defines}
use Rattle.syntax_theory.specs.Meaning.{Means}
use Rattle.syntax_theory.specs.RuleOf.{RuleOf, LineRules, own_line, bare_line}
use Rattle.syntax_theory.proofs.MeansParses.{EachLine}

-- what f means, e means too
abbrev Within : List Definition → List ℕ → (f e : Tree) → Type 0
Within ds cs f e = (i : ℕ) (o : Option ℕ) → Means ds cs f i o → Means ds cs e i o

module _ {ds : List Definition} {cs : List ℕ} where
  -- a range that no byte is in fails
  as_failure : {b c i : ℕ} {o : Option ℕ} → c < b → Means ds cs (bytes b c) i o → Means ds cs (leaf Failure) i o
  as_failure {b} {c} l (Means.byte_in {i = i} f g) =
      let missed : in_range b c (byte cs i) ≡ false = none_between b c (byte cs i) l in
      let z : ◌≡◌ {A = ℕ} 0 1 = cc in
      absurd (omega arith)
  as_failure l (Means.byte_out f) = Means.failure (Means.present Means.nothing)

  -- a tree, then nothing
  then_nothing : {e : Tree} {i : ℕ} {o : Option ℕ} → Means ds cs (sequence e (leaf EmptyString)) i o → Means ds cs e i o
  then_nothing (Means.both m Means.nothing) = m
  then_nothing (Means.first_fails m) = m

-- a tree as a rule of one of the five kinds
data View (E : Rules) (ds : List Definition) (cs : List ℕ) (e : Tree) : Expression → Type 0 where
  as_sequence :
      {f g : Tree} {i j : ℕ} {xs ys : List ℕ} → RuleOf E ds f i xs → RuleOf E ds g j ys → Within ds cs (sequence f g) e →
      View E ds cs e (Sequence i j)
  as_choice :
      {f g : Tree} {i j : ℕ} {xs ys : List ℕ} → RuleOf E ds f i xs → RuleOf E ds g j ys → Within ds cs (choice f g) e →
      View E ds cs e (Choice i j)
  as_not : {f : Tree} {i : ℕ} {xs : List ℕ} → RuleOf E ds f i xs → Within ds cs (prefixed NotPredicate f) e → View E ds cs e (Not i)
  as_empty : Within ds cs (leaf EmptyString) e → View E ds cs e Empty
  as_range : {l h : ℕ} → Within ds cs (bytes l h) e → View E ds cs e (Range l h)

-- a result of rule k is one of every tree that it is the rule of
abbrev Meant : Rules → List Definition → List ℕ → (k i : ℕ) → Option ℕ → Type 0
Meant E ds cs k i o = (e : Tree) (own : List ℕ) → RuleOf E ds e k own → Means ds cs e i o

module _ {E : Rules} {ds : List Definition} {cs : List ℕ} where
  widened : {e f : Tree} {x : Expression} → View E ds cs e x → Within ds cs e f → View E ds cs f x
  widened (as_sequence r s w) v = as_sequence r s (λ i o m. v i o (w i o m))
  widened (as_choice r s w) v = as_choice r s (λ i o m. v i o (w i o m))
  widened (as_not r w) v = as_not r (λ i o m. v i o (w i o m))
  widened (as_empty w) v = as_empty (λ i o m. v i o (w i o m))
  widened (as_range w) v = as_range (λ i o m. v i o (w i o m))

  shown : {e : Tree} {k : ℕ} {x : Expression} → E k ≡ x → View E ds cs e x → View E ds cs e (E k)
  shown {e} f v = subst (View E ds cs e) (sym f) v

  -- EVERY RULE OF A TREE is of one of the kinds; names by what is known of them
  view_by :
      {e : Tree} {k : ℕ} {own : List ℕ} →
      (own ≡ [] → (n : List ℕ) (f : Tree) → e ≡ nonterminal n → Defines ds k n f → View E ds cs e (E k)) →
      RuleOf E ds e k own → View E ds cs e (E k)
  view_by named (RuleOf.call d) = named refl _ _ refl d
  view_by named (RuleOf.byte_range r) = shown r (as_range (λ i o m. m))
  view_by named (RuleOf.any_byte r) = shown r (as_range (λ i o m. Means.any_byte m))
  view_by named (RuleOf.nothing r) = shown r (as_empty (λ i o m. m))
  view_by named (RuleOf.failure r l) = shown r (as_range (λ i o m. as_failure l m))
  view_by named (RuleOf.both r s t) = shown r (as_sequence s t (λ i o m. m))
  view_by named (RuleOf.either r s t) = shown r (as_choice s t (λ i o m. m))
  view_by named (RuleOf.not_rule r s) = shown r (as_not s (λ i o m. m))
  view_by named (RuleOf.and_rule r s t) = shown r (as_not (RuleOf.not_rule s t) (λ i o m. Means.predicate m))
  view_by named (RuleOf.optional a b r) = shown a (as_choice r (RuleOf.nothing b) (λ i o m. Means.optional m))
  view_by named (RuleOf.iteration a b c r) =
      shown a (as_choice (RuleOf.both b r (RuleOf.iteration a b c r)) (RuleOf.nothing c) (λ i o m. Means.iteration m))
  view_by named (RuleOf.iteration_once s a b c r) = shown s (as_sequence r (RuleOf.iteration a b c r) (λ i o m. Means.iteration_once m))

  by_line : {k : ℕ} {n hs : List ℕ} {e : Tree} → Defines ds k n e → LineRules E ds e k hs → View E ds cs (nonterminal n) (E k)
  by_line d (own_line r) = widened (view_by (λ z. let bad : ◌≡◌ {A = ℕ} 0 1 = cc in absurd (omega arith)) r) (λ i o m. Means.call d m)
  by_line d (bare_line r s t) = shown s (as_sequence r (RuleOf.nothing t) (λ i o m. Means.call d (then_nothing m)))

  seen : EachLine E ds → {e : Tree} {k : ℕ} {own : List ℕ} {x : Expression} → E k ≡ x → RuleOf E ds e k own → View E ds cs e x
  seen l {e} {k} f r =
      subst (View E ds cs e) f (view_by (λ z n g same d. subst (λ t. View E ds cs t (E k)) (sym same) (by_line d (l _ _ _ d).1)) r)

  -- WHAT A RULE PARSES, kind by kind
  module _ {e : Tree} {i : ℕ} where
    at_sequence : {b c j : ℕ} {o : Option ℕ} → View E ds cs e (Sequence b c) → Meant E ds cs b i (some j) → Meant E ds cs c j o → Means ds cs e i o
    at_sequence (as_sequence r s w) f g = w _ _ (Means.both (f _ _ r) (g _ _ s))

    at_first_fails : {b c : ℕ} → View E ds cs e (Sequence b c) → Meant E ds cs b i none → Means ds cs e i none
    at_first_fails (as_sequence r s w) f = w _ _ (Means.first_fails (f _ _ r))

    at_choice : {b c j : ℕ} → View E ds cs e (Choice b c) → Meant E ds cs b i (some j) → Means ds cs e i (some j)
    at_choice (as_choice r s w) f = w _ _ (Means.one (f _ _ r))

    at_other : {b c : ℕ} {o : Option ℕ} → View E ds cs e (Choice b c) → Meant E ds cs b i none → Meant E ds cs c i o → Means ds cs e i o
    at_other (as_choice r s w) f g = w _ _ (Means.other (f _ _ r) (g _ _ s))

    at_absent : {b : ℕ} → View E ds cs e (Not b) → Meant E ds cs b i none → Means ds cs e i (some i)
    at_absent (as_not r w) f = w _ _ (Means.absent (f _ _ r))

    at_present : {b j : ℕ} → View E ds cs e (Not b) → Meant E ds cs b i (some j) → Means ds cs e i none
    at_present (as_not r w) f = w _ _ (Means.present (f _ _ r))

    at_empty : View E ds cs e Empty → Means ds cs e i (some i)
    at_empty (as_empty w) = w _ _ Means.nothing

    at_range : {b c : ℕ} {o : Option ℕ} → View E ds cs e (Range b c) → Means ds cs (bytes b c) i o → Means ds cs e i o
    at_range (as_range w) m = w _ _ m

  pub parses_means : EachLine E ds → {k i : ℕ} {o : Option ℕ} → Parses E cs k i o → Meant E ds cs k i o
  parses_means l (Parses.sequence f p q) e own r = at_sequence (seen l f r) (parses_means l p) (parses_means l q)
  parses_means l (Parses.sequence_fails f p) e own r = at_first_fails (seen l f r) (parses_means l p)
  parses_means l (Parses.choice f p) e own r = at_choice (seen l f r) (parses_means l p)
  parses_means l (Parses.choice_other f p q) e own r = at_other (seen l f r) (parses_means l p) (parses_means l q)
  parses_means l (Parses.not_there f p) e own r = at_absent (seen l f r) (parses_means l p)
  parses_means l (Parses.not_fails f p) e own r = at_present (seen l f r) (parses_means l p)
  parses_means l (Parses.empty f) e own r = at_empty (seen l f r)
  parses_means l (Parses.range f g h) e own r = at_range (seen l f r) (Means.byte_in g h)
  parses_means l (Parses.range_fails f g) e own r = at_range (seen l f r) (Means.byte_out g)
