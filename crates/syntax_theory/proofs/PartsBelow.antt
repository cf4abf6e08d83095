-- The rules that a compiled rule names are there: all numbers in the rules of a grammar's lines are below the count of its rules. Assumes nothing.
use mathlib.Core.List.{List, [], ◌∷◌, ◌++◌}
use Prim.Native.Nat.{ℕ, suc, ◌+◌, ◌<◌, ◌≤◌}
use native.Mathlib.Omega.{arith}
use lib.ListN.{length}
use Rattle.grammar.specs.declared.Expression.{Expression}
use Rattle.grammar.specs.declared.Expression.TheVariants.{Sequence, Choice, Not, Empty}
use Rattle.grammar.specs.Grammar.{PartsBelow}
use Rattle.syntax.specs.declared.Leaf.{Leaf}
use Rattle.syntax.specs.declared.Leaf.TheVariants.{AnyByte, EmptyString, Failure}
use Rattle.syntax.specs.declared.Prefix.{Prefix}
use Rattle.syntax.specs.declared.Prefix.TheVariants.{NotPredicate, AndPredicate}
use Rattle.syntax.specs.declared.Suffix.{Suffix}
use Rattle.syntax.specs.declared.Suffix.TheVariants.{ZeroOrMore, OneOrMore, Optional}
use Rattle.syntax.specs.declared.Node.{Node}
use Rattle.syntax.specs.declared.Node.TheVariants.{Numbered, Operator, Repetition}
use Rattle.syntax.specs.Trees.{Tree, nonterminal, leaf, bytes, prefixed, suffixed, sequence, choice, Definition, names}
use Rattle.syntax.specs.Compile.{repetition_rules, own_rules, own_number, Compiled, Placed, place, compile_leaf, compile_prefix, compile_suffix, compile, top_rule, top_helpers, line_rule, line_helpers, named_from, helpers_from}
use Rattle.syntax_theory.proofs.Numbering.{Each, no_element, an_element, each_append}
use Rattle.syntax_theory.proofs.Named.{Closed, ClosedLine, defines_below}
use Rattle.syntax_theory.proofs.Standing.{ends}

unfoldable NodeBelow : (m : ℕ) → Node → Type 0
NodeBelow m (Numbered k) = k < m
NodeBelow m (Operator x) = PartsBelow m x
NodeBelow m (Repetition i) = i < m

abbrev AllBelow : (m : ℕ) → List Expression → Type 0
AllBelow m xs = Each (PartsBelow m) xs

-- what is to be shown of an expression, before and after it is placed
record Below (m : ℕ) (c : Compiled) : Type 0 where
  helpers_below : AllBelow m c.helpers
  node_below : NodeBelow m c.node

record PlacedBelow (m : ℕ) (p : Placed) : Type 0 where
  helpers_below : AllBelow m p.helpers
  number_below : p.number < m

leaf_below : (m : ℕ) (a : Leaf) → PartsBelow m (compile_leaf a)
unfolding compile_leaf PartsBelow
leaf_below m AnyByte = record {}
leaf_below m EmptyString = record {}
leaf_below m Failure = record {}

module _ {m : ℕ} where
  repetition_below : (i n : ℕ) → i < m → suc (suc n) < m → AllBelow m (repetition_rules i n)
  unfolding PartsBelow
  repetition_below i n b l =
      an_element {a = Choice (suc n) (suc (suc n))} (omega arith, l)
      (an_element {a = Sequence i n} (b, omega arith) (an_element {a = Empty} (record {}) no_element))

  own_below : (x : Node) (n : ℕ) → NodeBelow m x → n + length (own_rules x n) ≤ m → AllBelow m (own_rules x n) × (own_number x n < m)
  unfolding own_rules own_number NodeBelow PartsBelow
  own_below (Numbered k) n b l = (no_element, b)
  own_below (Operator x) n b l = (an_element {a = x} b no_element, omega arith)
  own_below (Repetition i) n b l =
      (repetition_below i n b (omega arith), omega arith)

  placed_below : (c : Compiled) (n : ℕ) → (n + length c.helpers ≤ m → Below m c) → n + length (place c n).helpers ≤ m → PlacedBelow m (place c n)
  unfolding place
  placed_below c n f l =
      let h = n + length c.helpers in
      let split = ends n c.helpers (own_rules c.node h) in
      let b = f (omega (arith, split)) in
      let o = own_below c.node h b.node_below (omega (arith, split)) in
      record { helpers_below = each_append b.helpers_below o.0; number_below = o.1 }

  prefix_below :
      (p : Prefix) (q : Placed) (n : ℕ) → (n + length q.helpers ≤ m → PlacedBelow m q) → n + length (compile_prefix p q n).helpers ≤ m →
      Below m (compile_prefix p q n)
  unfolding compile_prefix NodeBelow PartsBelow
  prefix_below NotPredicate q n f l = let b = f l in record { helpers_below = b.helpers_below; node_below = b.number_below }
  prefix_below AndPredicate q n f l =
      let split = ends n q.helpers (Not q.number ∷ []) in
      let b = f (omega (arith, split)) in
      record {
        helpers_below = each_append b.helpers_below (an_element {a = Not q.number} b.number_below no_element);
        node_below = omega (arith, split);
      }

  suffix_below :
      (s : Suffix) (q : Placed) (n : ℕ) → (n + length q.helpers ≤ m → PlacedBelow m q) → n + length (compile_suffix s q n).helpers ≤ m →
      Below m (compile_suffix s q n)
  unfolding compile_suffix NodeBelow PartsBelow
  suffix_below ZeroOrMore q n f l = let b = f l in record { helpers_below = b.helpers_below; node_below = b.number_below }
  suffix_below OneOrMore q n f l =
      let h = n + length q.helpers in
      let split = ends n q.helpers (repetition_rules q.number h) in
      let b = f (omega (arith, split)) in
      record {
        helpers_below = each_append b.helpers_below (repetition_below q.number h b.number_below (omega (arith, split)));
        node_below = (b.number_below, omega (arith, split));
      }
  suffix_below Optional q n f l =
      let split = ends n q.helpers (Empty ∷ []) in
      let b = f (omega (arith, split)) in
      record {
        helpers_below = each_append b.helpers_below (an_element {a = Empty} (record {}) no_element);
        node_below = (b.number_below, omega (arith, split));
      }

  -- two parts, the second after the first
  two_below :
      (c : Compiled) (d : ℕ → Compiled) (n : ℕ) → (n + length c.helpers ≤ m → Below m c) →
      ((h : ℕ) → h + length (d h).helpers ≤ m → Below m (d h)) →
      let p = place c n in
      let h = n + length p.helpers in
      let q = place (d h) h in
      n + length (p.helpers ++ q.helpers) ≤ m → AllBelow m (p.helpers ++ q.helpers) × ((p.number < m) × (q.number < m))
  two_below c d n f g l =
      let p = place c n in
      let h = n + length p.helpers in
      let q = place (d h) h in
      let split = ends n p.helpers q.helpers in
      let one = placed_below c n f (omega (arith, split)) in
      let other = placed_below (d h) h (g h) (omega (arith, split)) in
      (each_append one.helpers_below other.helpers_below, (one.number_below, other.number_below))

module _ (ds : List Definition) (m : ℕ) (lines_fit : length ds ≤ m) where
  -- ANY TREE
  compiled_below : (e : Tree) (n : ℕ) → Closed ds e → n + length (compile (names ds) e n).helpers ≤ m → Below m (compile (names ds) e n)
  unfolding compile Closed NodeBelow PartsBelow
  compiled_below (nonterminal x) n c l = record { helpers_below = no_element; node_below = omega (arith, defines_below c.1) }
  compiled_below (leaf a) n c l = record { helpers_below = no_element; node_below = leaf_below m a }
  compiled_below (bytes b h) n c l = record { helpers_below = no_element; node_below = record {} }
  compiled_below (prefixed p e) n c l =
      prefix_below p (place (compile (names ds) e n) n) n (placed_below (compile (names ds) e n) n (compiled_below e n c)) l
  compiled_below (suffixed s e) n c l =
      suffix_below s (place (compile (names ds) e n) n) n (placed_below (compile (names ds) e n) n (compiled_below e n c)) l
  compiled_below (sequence e f) n c l =
      let t = two_below (compile (names ds) e n) (compile (names ds) f) n (compiled_below e n c.0) (λ h. compiled_below f h c.1) l in
      record { helpers_below = t.0; node_below = t.1 }
  compiled_below (choice e f) n c l =
      let t = two_below (compile (names ds) e n) (compile (names ds) f) n (compiled_below e n c.0) (λ h. compiled_below f h c.1) l in
      record { helpers_below = t.0; node_below = t.1 }

  -- A LINE
  top_below :
      (x : Node) (k n : ℕ) → k < m → NodeBelow m x → n + length (top_helpers x k) ≤ m → PartsBelow m (top_rule x n) × AllBelow m (top_helpers x k)
  unfolding top_rule top_helpers NodeBelow PartsBelow
  top_below (Numbered i) k n f b l = ((b, omega arith), an_element {a = Empty} (record {}) no_element)
  top_below (Operator x) k n f b l = (b, no_element)
  top_below (Repetition i) k n f b l =
      ((omega arith, omega arith), an_element {a = Sequence i k} (b, f) (an_element {a = Empty} (record {}) no_element))

  line_below :
      (e : Tree) (k n : ℕ) → Closed ds e → k < m → n + length (line_helpers (compile (names ds) e n) k) ≤ m →
      PartsBelow m (line_rule (compile (names ds) e n) n) × AllBelow m (line_helpers (compile (names ds) e n) k)
  unfolding line_rule line_helpers
  line_below e k n c f l =
      let d = compile (names ds) e n in
      let split = ends n d.helpers (top_helpers d.node k) in
      let b = compiled_below e n c (omega (arith, split)) in
      let t = top_below d.node k (n + length d.helpers) f b.node_below (omega (arith, split)) in
      (t.0, each_append b.helpers_below t.1)

  -- ALL LINES
  pub lines_below :
      {es : List Definition} (k n : ℕ) → Each (ClosedLine ds) es → k + length es ≤ m → n + length (helpers_from (names ds) k n es) ≤ m →
      AllBelow m (named_from (names ds) k n es) × AllBelow m (helpers_from (names ds) k n es)
  unfolding named_from helpers_from
  lines_below k n no_element f l = (no_element, no_element)
  lines_below k n (an_element {a = d} {rest = es} c cs) f l =
      let hs = line_helpers (compile (names ds) d.body n) k in
      let others = helpers_from (names ds) (suc k) (n + length hs) es in
      let split = ends n hs others in
      let one = line_below d.body k n c (omega arith) (omega (arith, split)) in
      let rest = lines_below (suc k) (n + length hs) cs (omega arith) (omega (arith, split)) in
      (an_element one.0 rest.0, each_append one.1 rest.1)
