-- What is promised of the grammar built of a text's lines, whatever the numbering: which rules stand for a tree, that no helper rule is shared, and that the grammar parses as the trees mean. Assumes nothing: these are definitions.
use Rattle.std.specs.Prelude.{◌≡◌, ◌↔◌, ℕ, suc, ◌*◌, ◌<◌, ◌≤◌, length}
use mathlib.Core.List.{List, [], ◌∷◌, ◌++◌, Memᴰ}
use Rattle.std.proofs.Math.Option.{Option}
use Rattle.machine.specs.Verdicts.{Distinct}
use Rattle.grammar.specs.Grammar.{expression, grammar_refusal}
use Rattle.grammar.specs.Parsing.{Rules, Parses}
use Rattle.grammar.specs.declared.Expression.TheVariants.{Sequence, Choice, Not, Empty, Range}
use Rattle.syntax.specs.declared.Leaf.TheVariants.{AnyByte, EmptyString, Failure}
use Rattle.syntax.specs.declared.Prefix.TheVariants.{NotPredicate, AndPredicate}
use Rattle.syntax.specs.declared.Suffix.TheVariants.{ZeroOrMore, OneOrMore, Optional}
use Rattle.syntax.specs.Trees.{Tree, nonterminal, leaf, bytes, prefixed, suffixed, sequence, choice, Definition, Defines}
use Rattle.syntax_theory.specs.Meaning.{Means}
use Rattle.syntax.specs.Needs.{needs}

-- rule k is that of a tree, and own are the rules made for it alone, k first
pub data RuleOf (E : Rules) (ds : List Definition) : Tree → (k : ℕ) → (own : List ℕ) → Type 0 where
  call : {k : ℕ} {n : List ℕ} {e : Tree} → Defines ds k n e → RuleOf E ds (nonterminal n) k []
  byte_range : {l h k : ℕ} → E k ≡ Range l h → RuleOf E ds (bytes l h) k (k ∷ [])
  any_byte : {k : ℕ} → E k ≡ Range 0 255 → RuleOf E ds (leaf AnyByte) k (k ∷ [])
  nothing : {k : ℕ} → E k ≡ Empty → RuleOf E ds (leaf EmptyString) k (k ∷ [])
  failure : {k b c : ℕ} → E k ≡ Range b c → c < b → RuleOf E ds (leaf Failure) k (k ∷ [])
  both :
      {e f : Tree} {k i j : ℕ} {xs ys : List ℕ} → E k ≡ Sequence i j → RuleOf E ds e i xs → RuleOf E ds f j ys →
      RuleOf E ds (sequence e f) k (k ∷ (xs ++ ys))
  either :
      {e f : Tree} {k i j : ℕ} {xs ys : List ℕ} → E k ≡ Choice i j → RuleOf E ds e i xs → RuleOf E ds f j ys →
      RuleOf E ds (choice e f) k (k ∷ (xs ++ ys))
  not_rule : {e : Tree} {k i : ℕ} {xs : List ℕ} → E k ≡ Not i → RuleOf E ds e i xs → RuleOf E ds (prefixed NotPredicate e) k (k ∷ xs)
  and_rule :
      {e : Tree} {k h i : ℕ} {xs : List ℕ} → E k ≡ Not h → E h ≡ Not i → RuleOf E ds e i xs →
      RuleOf E ds (prefixed AndPredicate e) k (k ∷ h ∷ xs)
  optional :
      {e : Tree} {k h i : ℕ} {xs : List ℕ} → E k ≡ Choice i h → E h ≡ Empty → RuleOf E ds e i xs →
      RuleOf E ds (suffixed Optional e) k (k ∷ h ∷ xs)
  iteration :
      {e : Tree} {k s h i : ℕ} {xs : List ℕ} → E k ≡ Choice s h → E s ≡ Sequence i k → E h ≡ Empty → RuleOf E ds e i xs →
      RuleOf E ds (suffixed ZeroOrMore e) k (k ∷ s ∷ h ∷ xs)
  iteration_once :
      {e : Tree} {k a s h i : ℕ} {xs : List ℕ} → E k ≡ Sequence i a → E a ≡ Choice s h → E s ≡ Sequence i a → E h ≡ Empty →
      RuleOf E ds e i xs → RuleOf E ds (suffixed OneOrMore e) k (k ∷ a ∷ s ∷ h ∷ xs)

-- THE RULES OF A LINE with this body: its own, k, and helpers, the others made for it; a bare name goes to the named rule and then on with nothing
pub data LineRules (E : Rules) (ds : List Definition) (e : Tree) (k : ℕ) : (helpers : List ℕ) → Type 0 where
  own_line : {xs : List ℕ} → RuleOf E ds e k (k ∷ xs) → LineRules E ds e k xs
  bare_line : {h i : ℕ} → RuleOf E ds e i [] → E k ≡ Sequence i h → E h ≡ Empty → LineRules E ds e k (h ∷ [])

-- lines from number k on, each at its own number
pub data LinesFrom (E : Rules) (ds : List Definition) : (k : ℕ) → List Definition → (helpers : List ℕ) → Type 0 where
  none_left : {k : ℕ} → LinesFrom E ds k [] []
  line :
      {k : ℕ} {d : Definition} {es : List Definition} {xs ys : List ℕ} → LineRules E ds d.body k xs → LinesFrom E ds (suc k) es ys →
      LinesFrom E ds k (d ∷ es) (xs ++ ys)

-- THE BUILT GRAMMAR: never refused, as many rules as the table says, lines first and in order, helpers after them and none shared, and every line's rule parses as its tree means
pub record TypedRight (ds : List Definition) (gs : List ℕ) : Type 0 where
  pub good : (grammar_refusal gs).number ≡ 0
  pub counted : length gs ≡ 4 * needs ds
  pub helpers : List ℕ
  pub in_order : LinesFrom (expression gs) ds 0 ds helpers
  pub follow : (h : ℕ) → Memᴰ h helpers → (length ds ≤ h) × (h < needs ds)
  pub unshared : Distinct helpers
  pub parses :
      (k : ℕ) (n : List ℕ) (e : Tree) → Defines ds k n e → (cs : List ℕ) (i : ℕ) (o : Option ℕ) →
      Parses (expression gs) cs k i o ↔ Means ds cs e i o
