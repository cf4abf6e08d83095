-- What a tree means, its rule parses; where each line has its rule, and names are distinct. Assumes nothing.
use mathlib.Core.Path.{◌≡◌, subst}
use mathlib.Core.List.{List}
use mathlib.Core.Option.{Option, none, some}
use Prim.Native.Nat.{ℕ, ◌<◌}
use Rattle.machine.specs.Verdicts.{Distinct}
use Rattle.grammar.specs.declared.Expression.TheVariants.{Sequence, Empty, Range}
use Rattle.grammar.specs.Parsing.{Rules, Parses}
use Rattle.grammar.proofs.Inverted.{matches_nowhere}
use Rattle.syntax.specs.declared.Leaf.TheVariants.{EmptyString}
use Rattle.syntax.specs.Trees.{Tree, leaf, Definition, names, Defines}
use Rattle.syntax_theory.specs.Meaning.{Means}
use Rattle.syntax_theory.specs.RuleOf.{RuleOf, LineRules, own_line, bare_line}
use Rattle.syntax_theory.proofs.Named.{one_number}

-- each line has its rule
abbrev pub EachLine : Rules → List Definition → Type 0
EachLine E ds = (k : ℕ) (n : List ℕ) (e : Tree) → Defines ds k n e → (hs : List ℕ) × LineRules E ds e k hs

-- the empty string is always there, and so !ε fails
never_fails : {ds : List Definition} {cs : List ℕ} {i : ℕ} → Means ds cs (leaf EmptyString) i none → ⊥
never_fails m = elim m [ ]

-- a rule, then nothing
module _ {E : Rules} {cs : List ℕ} {k : ℕ} where
  then_nothing : {h j i : ℕ} (o : Option ℕ) → E k ≡ Sequence j h → E h ≡ Empty → Parses E cs j i o → Parses E cs k i o
  then_nothing none s t p = Parses.sequence_fails s p
  then_nothing (some j) s t p = Parses.sequence s p (Parses.empty t)

  -- a range that no byte is in
  fails_there : {i b c : ℕ} → E k ≡ Range b c → c < b → Parses E cs k i none
  fails_there {i} {b} {c} e l = Parses.range_fails e (matches_nowhere cs b c i l)

module _ {E : Rules} {ds : List Definition} {cs : List ℕ} where
  by_line :
      {e : Tree} {k i : ℕ} {hs : List ℕ} {o : Option ℕ} → ((h : ℕ) (own : List ℕ) → RuleOf E ds e h own → Parses E cs h i o) → LineRules E ds e k hs →
      Parses E cs k i o
  by_line f (own_line r) = f _ _ r
  by_line {o = o} f (bare_line r s t) = then_nothing o s t (f _ _ r)

  pub means_parses :
      EachLine E ds → Distinct (names ds) → {e : Tree} {i : ℕ} {o : Option ℕ} → Means ds cs e i o →
      (k : ℕ) (own : List ℕ) → RuleOf E ds e k own → Parses E cs k i o
  means_parses l u {i = i} {o = o} (Means.call {k = h} d m) k own (RuleOf.call c) =
      subst (λ j. Parses E cs j i o) (one_number u d c) (by_line (means_parses l u m) (l _ _ _ d).1)
  means_parses l u (Means.byte_in f g) k own (RuleOf.byte_range r) = Parses.range r f g
  means_parses l u (Means.byte_out f) k own (RuleOf.byte_range r) = Parses.range_fails r f
  means_parses l u Means.nothing k own (RuleOf.nothing r) = Parses.empty r
  means_parses l u (Means.both m n) k own (RuleOf.both r s t) = Parses.sequence r (means_parses l u m _ _ s) (means_parses l u n _ _ t)
  means_parses l u (Means.first_fails m) k own (RuleOf.both r s t) = Parses.sequence_fails r (means_parses l u m _ _ s)
  means_parses l u (Means.one m) k own (RuleOf.either r s t) = Parses.choice r (means_parses l u m _ _ s)
  means_parses l u (Means.other m n) k own (RuleOf.either r s t) = Parses.choice_other r (means_parses l u m _ _ s) (means_parses l u n _ _ t)
  means_parses l u (Means.absent m) k own (RuleOf.not_rule r s) = Parses.not_there r (means_parses l u m _ _ s)
  means_parses l u (Means.present m) k own (RuleOf.not_rule r s) = Parses.not_fails r (means_parses l u m _ _ s)
  means_parses l u (Means.any_byte m) k own (RuleOf.any_byte r) = means_parses l u m _ _ (RuleOf.byte_range r)
  means_parses l u (Means.failure (Means.absent m)) k own (RuleOf.failure r f) = absurd (never_fails m)
  means_parses l u (Means.failure (Means.present m)) k own (RuleOf.failure r f) = fails_there r f
  means_parses l u (Means.predicate m) k own (RuleOf.and_rule r s t) = means_parses l u m _ _ (RuleOf.not_rule r (RuleOf.not_rule s t))
  means_parses l u (Means.iteration m) k own (RuleOf.iteration a b c r) =
      means_parses l u m _ _ (RuleOf.either a (RuleOf.both b r (RuleOf.iteration a b c r)) (RuleOf.nothing c))
  means_parses l u (Means.iteration_once m) k own (RuleOf.iteration_once s a b c r) =
      means_parses l u m _ _ (RuleOf.both s r (RuleOf.iteration a b c r))
  means_parses l u (Means.optional m) k own (RuleOf.optional a b r) = means_parses l u m _ _ (RuleOf.either a r (RuleOf.nothing b))
