-- Where the rules of a tree stand: if the grammar has the rules that compiling gives, from the same number on, then the tree has its rule, and other rules of its own. Assumes nothing.
use mathlib.Core.Path.{◌≡◌, sym, subst}
use mathlib.Core.List.{List, [], ◌∷◌, ◌++◌}
use Prim.Native.Nat.{ℕ, suc, ◌+◌, ◌≤◌}
use native.Mathlib.Omega.{arith}
use lib.ListN.{length, length-append}
use Rattle.grammar.specs.declared.Expression.{Expression}
use Rattle.grammar.specs.declared.Expression.TheVariants.{Sequence, Choice, Not, Empty}
use Rattle.grammar.specs.Parsing.{Rules}
use Rattle.syntax.specs.declared.Leaf.{Leaf}
use Rattle.syntax.specs.declared.Leaf.TheVariants.{AnyByte, EmptyString, Failure}
use Rattle.syntax.specs.declared.Prefix.{Prefix}
use Rattle.syntax.specs.declared.Prefix.TheVariants.{NotPredicate, AndPredicate}
use Rattle.syntax.specs.declared.Suffix.{Suffix}
use Rattle.syntax.specs.declared.Suffix.TheVariants.{ZeroOrMore, OneOrMore, Optional}
use Rattle.syntax.specs.declared.Node.{Node}
use Rattle.syntax.specs.declared.Node.TheVariants.{Numbered, Operator, Repetition}
use Rattle.syntax.specs.Trees.{Tree, nonterminal, leaf, bytes, prefixed, suffixed, sequence, choice, Definition, names}
use Rattle.syntax.specs.Compile.{own_rules, own_number, repetition_rules, Compiled, Placed, place, compile_leaf, compile_prefix, compile_suffix, compile}
use Rattle.syntax_theory.specs.RuleOf.{RuleOf}
use Rattle.syntax_theory.proofs.Numbering.{Holds, holds_first, holds_rest, holds_front, holds_after, Block, block_none, block_one, block_wider, block_append, block_over}
use Rattle.syntax_theory.proofs.Named.{Closed}

-- a tree's rule is k, with other rules of its own from one number on and below another
pub record StandsAt (E : Rules) (ds : List Definition) (e : Tree) (k from below : ℕ) : Type 0 where
  pub own : List ℕ
  pub rule : RuleOf E ds e k own
  pub block : Block own from below

-- a tree whose own rule has no number yet: what the rule at its number must be
pub data Stands (E : Rules) (ds : List Definition) (e : Tree) (from below : ℕ) : Node → Type 0 where
  by_number : {i : ℕ} → RuleOf E ds e i [] → Stands E ds e from below (Numbered i)
  by_operator :
      {x : Expression} {xs : List ℕ} → Block xs from below → ((k : ℕ) → E k ≡ x → RuleOf E ds e k (k ∷ xs)) →
      Stands E ds e from below (Operator x)
  by_repetition :
      {i : ℕ} {xs : List ℕ} → Block xs from below →
      ((k s h : ℕ) → E k ≡ Choice s h → E s ≡ Sequence i k → E h ≡ Empty → RuleOf E ds e k (k ∷ s ∷ h ∷ xs)) →
      Stands E ds e from below (Repetition i)

-- two trees have their rules, with no rule in common
record Two (E : Rules) (ds : List Definition) (e f : Tree) (i j from below : ℕ) : Type 0 where
  firsts : List ℕ
  seconds : List ℕ
  first_rule : RuleOf E ds e i firsts
  second_rule : RuleOf E ds f j seconds
  block : Block (firsts ++ seconds) from below

-- the end of a row, by its parts
pub ends : (n : ℕ) (xs ys : List Expression) → n + length (xs ++ ys) ≡ n + length xs + length ys
ends n xs ys = omega (arith, length-append xs ys)

-- one, two and three numbers over a block
module _ {xs : List ℕ} {a m : ℕ} (l : a ≤ m) (b : Block xs a m) where
  over_one : Block (m ∷ xs) a (suc m)
  over_one = block_over l (omega arith) (block_one m) b

  two : Block (m ∷ suc m ∷ []) m (suc (suc m))
  two = block_append (omega arith) (omega arith) (block_one m) (block_one (suc m))

  pub over_two : Block (m ∷ suc m ∷ xs) a (suc (suc m))
  over_two = block_over l (omega arith) two b

  over_three : Block (m ∷ suc m ∷ suc (suc m) ∷ xs) a (suc (suc (suc m)))
  over_three = block_over l (omega arith) (block_append (omega arith) (omega arith) two (block_one (suc (suc m)))) b

module _ {E : Rules} {ds : List Definition} where
  -- A TREE PUT SOMEWHERE
  own_stands :
      {e : Tree} {n m : ℕ} {x : Node} → n ≤ m → Stands E ds e n m x → Holds E m (own_rules x m) →
      StandsAt E ds e (own_number x m) n (m + length (own_rules x m))
  unfolding own_rules own_number
  own_stands {n = n} {m = m} l (by_number r) h = record { own = []; rule = r; block = block_none n (m + 0) }
  own_stands {m = m} l (by_operator b f) h =
      record { own = _; rule = f m (holds_first h); block = block_wider (over_one l b) (omega arith) (omega arith) }
  own_stands {m = m} l (by_repetition b f) h =
      record {
        own = _;
        rule = f m (suc m) (suc (suc m)) (holds_first h) (holds_first (holds_rest h)) (holds_first (holds_rest (holds_rest h)));
        block = block_wider (over_three l b) (omega arith) (omega arith);
      }

  placed_stands :
      (e : Tree) (c : Compiled) (n : ℕ) → (Holds E n c.helpers → Stands E ds e n (n + length c.helpers) c.node) →
      Holds E n (place c n).helpers → StandsAt E ds e (place c n).number n (n + length (place c n).helpers)
  unfolding place
  placed_stands e c n f h =
      let m = n + length c.helpers in
      subst (StandsAt E ds e (own_number c.node m) n) (sym (ends n c.helpers (own_rules c.node m)))
      (own_stands (omega arith) (f (holds_front c.helpers _ h)) (holds_after c.helpers _ h))

  -- A LEAF, AN OPERATOR OVER PLACED PARTS
  leaf_stands : (a : Leaf) (n m : ℕ) → Stands E ds (leaf a) n m (Operator (compile_leaf a))
  unfolding compile_leaf
  leaf_stands AnyByte n m = by_operator (block_none n m) (λ k f. RuleOf.any_byte f)
  leaf_stands EmptyString n m = by_operator (block_none n m) (λ k f. RuleOf.nothing f)
  leaf_stands Failure n m = by_operator (block_none n m) (λ k f. RuleOf.failure {b = 1} {c = 0} f (omega arith))

  prefix_stands :
      {e : Tree} (p : Prefix) (q : Placed) (n : ℕ) →
      (Holds E n q.helpers → StandsAt E ds e q.number n (n + length q.helpers)) → Holds E n (compile_prefix p q n).helpers →
      Stands E ds (prefixed p e) n (n + length (compile_prefix p q n).helpers) (compile_prefix p q n).node
  unfolding compile_prefix
  prefix_stands NotPredicate q n f h = let s = f h in by_operator s.block (λ k r. RuleOf.not_rule r s.rule)
  prefix_stands AndPredicate q n f h =
      let m = n + length q.helpers in
      let s = f (holds_front q.helpers _ h) in
      let inner : E m ≡ Not q.number = holds_first (holds_after q.helpers _ h) in
      by_operator (block_wider (over_one (omega arith) s.block) (omega arith) (omega (arith, ends n q.helpers (Not q.number ∷ []))))
      (λ k r. RuleOf.and_rule r inner s.rule)

  suffix_stands :
      {e : Tree} (x : Suffix) (q : Placed) (n : ℕ) →
      (Holds E n q.helpers → StandsAt E ds e q.number n (n + length q.helpers)) → Holds E n (compile_suffix x q n).helpers →
      Stands E ds (suffixed x e) n (n + length (compile_suffix x q n).helpers) (compile_suffix x q n).node
  unfolding compile_suffix
  suffix_stands ZeroOrMore q n f h = let s = f h in by_repetition s.block (λ k a b r t u. RuleOf.iteration r t u s.rule)
  suffix_stands OneOrMore q n f h =
      let m = n + length q.helpers in
      let s = f (holds_front q.helpers _ h) in
      let rows : Holds E m (repetition_rules q.number m) = holds_after q.helpers _ h in
      by_operator (block_wider (over_three (omega arith) s.block) (omega arith) (omega (arith, ends n q.helpers (repetition_rules q.number m))))
      (λ k r. RuleOf.iteration_once r (holds_first rows) (holds_first (holds_rest rows)) (holds_first (holds_rest (holds_rest rows))) s.rule)
  suffix_stands Optional q n f h =
      let m = n + length q.helpers in
      let s = f (holds_front q.helpers _ h) in
      let none : E m ≡ Empty = holds_first (holds_after q.helpers _ h) in
      by_operator (block_wider (over_one (omega arith) s.block) (omega arith) (omega (arith, ends n q.helpers (Empty ∷ []))))
      (λ k r. RuleOf.optional r none s.rule)

  -- two parts, the second after the first
  two_stand :
      {e f : Tree} (c : Compiled) (d : ℕ → Compiled) (n : ℕ) →
      (Holds E n c.helpers → Stands E ds e n (n + length c.helpers) c.node) →
      ((m : ℕ) → Holds E m (d m).helpers → Stands E ds f m (m + length (d m).helpers) (d m).node) →
      let p = place c n in
      let m = n + length p.helpers in
      let q = place (d m) m in
      Holds E n (p.helpers ++ q.helpers) → Two E ds e f p.number q.number n (n + length (p.helpers ++ q.helpers))
  two_stand {e} {f} c d n known known_later h =
      let p = place c n in
      let m = n + length p.helpers in
      let q = place (d m) m in
      let s = placed_stands e c n known (holds_front p.helpers q.helpers h) in
      let t = placed_stands f (d m) m (known_later m) (holds_after p.helpers q.helpers h) in
      record {
        firsts = s.own;
        seconds = t.own;
        first_rule = s.rule;
        second_rule = t.rule;
        block =
            block_wider (block_append (omega arith) (omega arith) s.block t.block) (omega arith)
            (omega (arith, ends n p.helpers q.helpers));
      }

  -- ANY TREE
  pub compiled_stands :
      (e : Tree) (n : ℕ) → Closed ds e → Holds E n (compile (names ds) e n).helpers →
      Stands E ds e n (n + length (compile (names ds) e n).helpers) (compile (names ds) e n).node
  unfolding compile Closed
  compiled_stands (nonterminal x) n c h = by_number (RuleOf.call c.1)
  compiled_stands (leaf a) n c h = leaf_stands a n (n + 0)
  compiled_stands (bytes l u) n c h = by_operator (block_none n (n + 0)) (λ k r. RuleOf.byte_range r)
  compiled_stands (prefixed p e) n c h =
      prefix_stands p (place (compile (names ds) e n) n) n (placed_stands e (compile (names ds) e n) n (compiled_stands e n c)) h
  compiled_stands (suffixed s e) n c h =
      suffix_stands s (place (compile (names ds) e n) n) n (placed_stands e (compile (names ds) e n) n (compiled_stands e n c)) h
  compiled_stands (sequence e f) n c h =
      let t = two_stand (compile (names ds) e n) (compile (names ds) f) n (compiled_stands e n c.0) (λ m. compiled_stands f m c.1) h in
      by_operator t.block (λ k r. RuleOf.both r t.first_rule t.second_rule)
  compiled_stands (choice e f) n c h =
      let t = two_stand (compile (names ds) e n) (compile (names ds) f) n (compiled_stands e n c.0) (λ m. compiled_stands f m c.1) h in
      by_operator t.block (λ k r. RuleOf.either r t.first_rule t.second_rule)
