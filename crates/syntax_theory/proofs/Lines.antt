-- Where the lines stand: each line's rule at its own number, and the helper rules of all lines in a row, none shared. Assumes nothing.
use mathlib.Core.Path.{◌≡◌, sym, subst}
use mathlib.Core.List.{List, [], ◌∷◌, ◌++◌}
use Prim.Native.Nat.{ℕ, suc, ◌+◌, ◌≤◌}
use native.Mathlib.Omega.{arith}
use lib.ListN.{length}
use Rattle.grammar.specs.Parsing.{Rules}
use Rattle.syntax.specs.declared.Node.{Node}
use Rattle.syntax.specs.Trees.{Tree, Definition, names, Defines}
use Rattle.syntax.specs.Compile.{compile, top_rule, top_helpers, line_rule, line_helpers, named_from, helpers_from}
use Rattle.syntax_theory.specs.RuleOf.{LineRules, own_line, bare_line, LinesFrom}
use Rattle.syntax_theory.proofs.Numbering.{Each, an_element, no_element, Holds, holds_first, holds_rest, holds_front, holds_after, Block, block_none, block_one, block_wider, block_append}
use Rattle.syntax_theory.proofs.Named.{Closed, ClosedLine}
use Rattle.syntax_theory.proofs.Standing.{Stands, by_number, by_operator, by_repetition, ends, over_two, compiled_stands}

pub record LineAt (E : Rules) (ds : List Definition) (e : Tree) (k from below : ℕ) : Type 0 where
  pub helpers : List ℕ
  pub line : LineRules E ds e k helpers
  pub block : Block helpers from below

pub record LinesAt (E : Rules) (ds : List Definition) (k : ℕ) (es : List Definition) (from below : ℕ) : Type 0 where
  pub helpers : List ℕ
  pub lines : LinesFrom E ds k es helpers
  pub block : Block helpers from below

module _ {E : Rules} {ds : List Definition} where
  -- ONE LINE
  top_stands :
      {e : Tree} {n m k : ℕ} {x : Node} → n ≤ m → Stands E ds e n m x → E k ≡ top_rule x m → Holds E m (top_helpers x k) →
      LineAt E ds e k n (m + length (top_helpers x k))
  unfolding top_rule top_helpers
  top_stands {m = m} l (by_number r) t h =
      record {
        helpers = m ∷ [];
        line = bare_line r t (holds_first h);
        block = block_wider (block_one m) l (omega arith);
      }
  top_stands {m = m} l (by_operator {xs = xs} b f) t h =
      record { helpers = xs; line = own_line (f _ t); block = block_wider b (omega arith) (omega arith) }
  top_stands {m = m} l (by_repetition {xs = xs} b f) t h =
      record {
        helpers = m ∷ suc m ∷ xs;
        line = own_line (f _ m (suc m) t (holds_first h) (holds_first (holds_rest h)));
        block = block_wider (over_two l b) (omega arith) (omega arith);
      }

  pub line_stands :
      (e : Tree) (k n : ℕ) → Closed ds e → E k ≡ line_rule (compile (names ds) e n) n → Holds E n (line_helpers (compile (names ds) e n) k) →
      LineAt E ds e k n (n + length (line_helpers (compile (names ds) e n) k))
  unfolding line_rule line_helpers
  line_stands e k n c t h =
      let d = compile (names ds) e n in
      let hs = d.helpers in
      let tops = top_helpers d.node k in
      subst (LineAt E ds e k n) (sym (ends n hs tops))
      (top_stands (omega arith) (compiled_stands e n c (holds_front hs tops h)) t (holds_after hs tops h))

  -- ALL LINES
  add_line :
      {d : Definition} {es : List Definition} {k n m l : ℕ} → n ≤ m → m ≤ l → LineAt E ds d.body k n m → LinesAt E ds (suc k) es m l →
      LinesAt E ds k (d ∷ es) n l
  add_line f g one rest =
      record {
        helpers = one.helpers ++ rest.helpers;
        lines = LinesFrom.line one.line rest.lines;
        block = block_append f g one.block rest.block;
      }

  pub lines_stand :
      {es : List Definition} (k n : ℕ) → Each (ClosedLine ds) es → Holds E k (named_from (names ds) k n es) →
      Holds E n (helpers_from (names ds) k n es) → LinesAt E ds k es n (n + length (helpers_from (names ds) k n es))
  unfolding named_from helpers_from
  lines_stand k n no_element h g = record { helpers = []; lines = LinesFrom.none_left; block = block_none n (n + 0) }
  lines_stand {es} k n (an_element {a = d} {rest = rest} c cs) h g =
      let hs = line_helpers (compile (names ds) d.body n) k in
      let m = n + length hs in
      let others = helpers_from (names ds) (suc k) m rest in
      subst (LinesAt E ds k es n) (sym (ends n hs others))
      (add_line (omega arith) (omega arith) (line_stands d.body k n c (holds_first h) (holds_front hs others g))
      (lines_stand (suc k) m cs (holds_rest h) (holds_after hs others g)))

  -- THE LINE OF A DEFINITION
  pub line_of :
      {k j : ℕ} {es : List Definition} {xs n : List ℕ} {e : Tree} → Defines es j n e → LinesFrom E ds k es xs → (m : ℕ) → m ≡ k + j →
      (hs : List ℕ) × LineRules E ds e m hs
  line_of {k} {e = e} Defines.here (LinesFrom.line {xs = hs} r rest) m f =
      let same : k ≡ m = omega arith in
      (hs, subst (λ i. LineRules E ds e i hs) same r)
  line_of (Defines.there d) (LinesFrom.line r rest) m f = line_of d rest m (omega arith)
