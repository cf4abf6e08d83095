-- How many rules are built: of a tree, of a line and of all lines, as many as the table of needs says. Assumes nothing.
use mathlib.Core.Path.{◌≡◌, refl, ap, ◌∙◌}
use mathlib.Core.Bool.{cond}
use mathlib.Core.List.{List, [], ◌∷◌, ◌++◌}
use Prim.Native.Nat.{ℕ, suc, ◌+◌, ◌≤◌}
use native.Mathlib.Omega.{arith}
use lib.Dec.{eqb}
use lib.ListN.{length, length-append}
use borrow.Author.Tests.{ne_eqb}
use Rattle.syntax.specs.declared.Prefix.{Prefix}
use Rattle.syntax.specs.declared.Prefix.TheVariants.{NotPredicate, AndPredicate}
use Rattle.syntax.specs.declared.Suffix.{Suffix}
use Rattle.syntax.specs.declared.Suffix.TheVariants.{ZeroOrMore, OneOrMore, Optional}
use Rattle.syntax.specs.declared.Node.{Node}
use Rattle.syntax.specs.declared.Node.TheVariants.{Numbered, Operator, Repetition}
use Rattle.syntax.specs.Trees.{Tree, nonterminal, leaf, bytes, prefixed, suffixed, sequence, choice, Definition, names}
use Rattle.syntax.specs.Needs.{prefix_need, suffix_need, need, line_need, needs}
use Rattle.syntax.specs.Compile.{own_rules, owed, Compiled, Placed, place, compile_prefix, compile_suffix, compile, top_helpers, line_helpers, named_from, helpers_from, all_rules}

pub own_counted : (x : Node) (n : ℕ) → length (own_rules x n) ≡ owed x
unfolding own_rules owed
own_counted (Numbered k) n = refl
own_counted (Operator x) n = refl
own_counted (Repetition i) n = refl

pub placed_counted : (c : Compiled) (n : ℕ) → length (place c n).helpers ≡ length c.helpers + owed c.node
unfolding place
placed_counted c n = length-append c.helpers _ ∙ ap (λ m. length c.helpers + m) (own_counted c.node _)

-- A TREE
prefix_counted : (p : Prefix) (q : Placed) (n : ℕ) →
    length (compile_prefix p q n).helpers + owed (compile_prefix p q n).node ≡ prefix_need p + length q.helpers
unfolding compile_prefix prefix_need owed
prefix_counted NotPredicate q n = omega arith
prefix_counted AndPredicate q n = simp length-append (omega arith)

suffix_counted : (s : Suffix) (q : Placed) (n : ℕ) →
    length (compile_suffix s q n).helpers + owed (compile_suffix s q n).node ≡ suffix_need s + length q.helpers
unfolding compile_suffix suffix_need owed
suffix_counted ZeroOrMore q n = omega arith
suffix_counted OneOrMore q n = simp length-append (omega arith)
suffix_counted Optional q n = simp length-append (omega arith)

-- two parts, the second after the first
two_counted :
    (c : Compiled) (d : ℕ → Compiled) (n : ℕ) {a b : ℕ} → length c.helpers + owed c.node ≡ a →
    ((m : ℕ) → length (d m).helpers + owed (d m).node ≡ b) →
    let p = place c n in
    let m = n + length p.helpers in
    length (p.helpers ++ (place (d m) m).helpers) + 1 ≡ 1 + a + b
two_counted c d n f g =
    let m = n + length (place c n).helpers in
    omega (arith, f, g m, placed_counted c n, placed_counted (d m) m, length-append (place c n).helpers (place (d m) m).helpers)

pub compiled_need : (ns : List (List ℕ)) (e : Tree) (n : ℕ) → length (compile ns e n).helpers + owed (compile ns e n).node ≡ need e
unfolding compile need owed
compiled_need ns (nonterminal x) n = refl
compiled_need ns (leaf a) n = refl
compiled_need ns (bytes l h) n = refl
compiled_need ns (prefixed p e) n =
    prefix_counted p _ n ∙ ap (λ m. prefix_need p + m) (placed_counted (compile ns e n) n ∙ compiled_need ns e n)
compiled_need ns (suffixed s e) n =
    suffix_counted s _ n ∙ ap (λ m. suffix_need s + m) (placed_counted (compile ns e n) n ∙ compiled_need ns e n)
compiled_need ns (sequence e f) n = two_counted (compile ns e n) (compile ns f) n (compiled_need ns e n) (compiled_need ns f)
compiled_need ns (choice e f) n = two_counted (compile ns e n) (compile ns f) n (compiled_need ns e n) (compiled_need ns f)

pub placed_need : (ns : List (List ℕ)) (e : Tree) (n : ℕ) → length (place (compile ns e n) n).helpers ≡ need e
placed_need ns e n = placed_counted (compile ns e n) n ∙ compiled_need ns e n

-- A LINE: a tree that needs rules has one of its own; a bare name has none
with_own : (c : Compiled) (k m : ℕ) → length c.helpers + owed c.node ≡ m → (owed c.node ≡ 0 → ⊥) →
    suc (length (line_helpers c k)) ≡ cond (eqb m 0) 2 m
unfolding line_helpers owed top_helpers
with_own c k m e some = go c.node e some
  where
    go : (x : Node) → length c.helpers + owed x ≡ m → (owed x ≡ 0 → ⊥) → suc (length (c.helpers ++ top_helpers x k)) ≡ cond (eqb m 0) 2 m
    go (Numbered i) f z = absurd (z refl)
    go (Operator x) f z = simp (ne_eqb m 0 (λ h. omega arith), length-append) (omega arith)
    go (Repetition i) f z = simp (ne_eqb m 0 (λ h. omega arith), length-append) (omega arith)

prefix_owes : (p : Prefix) (q : Placed) (n : ℕ) → owed (compile_prefix p q n).node ≡ 0 → ⊥
unfolding compile_prefix owed
prefix_owes NotPredicate q n e = omega arith
prefix_owes AndPredicate q n e = omega arith

suffix_owes : (s : Suffix) (q : Placed) (n : ℕ) → owed (compile_suffix s q n).node ≡ 0 → ⊥
unfolding compile_suffix owed
suffix_owes ZeroOrMore q n e = omega arith
suffix_owes OneOrMore q n e = omega arith
suffix_owes Optional q n e = omega arith

pub line_counted : (ns : List (List ℕ)) (e : Tree) (n k : ℕ) → suc (length (line_helpers (compile ns e n) k)) ≡ line_need e
unfolding line_need compile owed need line_helpers top_helpers
line_counted ns e n k = go e
  where
    from_own : (f : Tree) → (owed (compile ns f n).node ≡ 0 → ⊥) → suc (length (line_helpers (compile ns f n) k)) ≡ cond (eqb (need f) 0) 2 (need f)
    from_own f some = with_own (compile ns f n) k (need f) (compiled_need ns f n) some

    go : (f : Tree) → suc (length (line_helpers (compile ns f n) k)) ≡ cond (eqb (need f) 0) 2 (need f)
    go (nonterminal x) = refl
    go (leaf a) = refl
    go (bytes l h) = refl
    go (prefixed p f) = from_own (prefixed p f) (prefix_owes p _ n)
    go (suffixed s f) = from_own (suffixed s f) (suffix_owes s _ n)
    go (sequence f g) = from_own (sequence f g) (λ z. omega arith)
    go (choice f g) = from_own (choice f g) (λ z. omega arith)

-- ALL LINES
pub named_counted : (ns : List (List ℕ)) (k n : ℕ) (ds : List Definition) → length (named_from ns k n ds) ≡ length ds
unfolding named_from
named_counted ns k n [] = refl
named_counted ns k n (d ∷ ds) = ap suc (named_counted ns (suc k) (n + length (line_helpers (compile ns d.body n) k)) ds)

pub helpers_counted : (ns : List (List ℕ)) (k n : ℕ) (ds : List Definition) → length ds + length (helpers_from ns k n ds) ≡ needs ds
unfolding helpers_from needs
helpers_counted ns k n [] = refl
helpers_counted ns k n (d ∷ ds) =
    let c = compile ns d.body n in
    let rest = helpers_counted ns (suc k) (n + length (line_helpers c k)) ds in
    omega (
      arith,
      rest,
      line_counted ns d.body n k,
      length-append (line_helpers c k) (helpers_from ns (suc k) (n + length (line_helpers c k)) ds),
    )

pub lines_needed : (ds : List Definition) → length ds ≤ needs ds
lines_needed ds = omega (arith, helpers_counted [] 0 0 ds)

pub all_counted : (ds : List Definition) → length (all_rules ds) ≡ needs ds
unfolding all_rules
all_counted ds =
    length-append (named_from (names ds) 0 (length ds) ds) (helpers_from (names ds) 0 (length ds) ds)
    ∙ ap (λ m. m + length (helpers_from (names ds) 0 (length ds) ds)) (named_counted (names ds) 0 (length ds) ds)
    ∙ helpers_counted (names ds) 0 (length ds) ds
