-- What an operator makes of expressions that were read is what the definitions compile: an expression's own rule, a prefix, a suffix, two parts. Assumes nothing.
use mathlib.Core.Path.{◌≡◌, refl, sym, ap, ◌∙◌}
use mathlib.Core.List.{List, [], ◌∷◌, ◌++◌, append-nil}
use Prim.Native.Nat.{ℕ, ◌+◌}
use native.Mathlib.Nat.{add-zero}
use native.Mathlib.Omega.{arith}
use lib.ListN.{length}
use Rattle.grammar.specs.declared.Expression.{Expression}
use Rattle.grammar.specs.declared.Expression.TheVariants.{Sequence, Choice, Not}
use Rattle.syntax.specs.declared.Node.{Node}
use Rattle.syntax.specs.declared.Node.TheVariants.{Operator}
use Rattle.syntax.specs.declared.Prefix.{Prefix}
use Rattle.syntax.specs.declared.Prefix.TheVariants.{NotPredicate, AndPredicate}
use Rattle.syntax.specs.declared.Suffix.{Suffix}
use Rattle.syntax.specs.declared.Suffix.TheVariants.{ZeroOrMore, OneOrMore, Optional}
use Rattle.syntax.specs.Tokens.{Token}
use Rattle.syntax.specs.Trees.{Tree, prefixed, suffixed, sequence, choice}
use Rattle.syntax.specs.Needs.{need, prefix_need, suffix_need}
use Rattle.syntax.specs.Compile.{repetition_rules, own_rules, own_number, Compiled, Placed, place, compile, compile_prefix, compile_suffix}
use Rattle.syntax.specs.Code.Heads.{heads}
use Rattle.expressions.specs.declared.Rules.{Rules}
use Rattle.expressions.specs.Code.Building.{advanced}
use Rattle.expressions.specs.Code.Operators.{Part, part, placed_rules, placed_number, prefix_by, prefix_made, suffix_done}
use Rattle.scanner.specs.Code.Scanning.{tokens_at}
use Rattle.expressions.specs.Code.Levels.{ReadsTo}
use Rattle.expressions.proofs.Emitting.{advanced_on, advanced_next, advanced_none}

-- AN EXPRESSION'S OWN RULE, after so many were taken
module _ (before x : Rules) (c : Compiled) (node : Node) (k l : ℕ) (rules : x ≡ advanced before c.helpers k) (is : node ≡ c.node) where
  next_is : (advanced x [] l).next ≡ before.next + length c.helpers
  next_is = advanced_next x _ [] l refl ∙ omega (arith, advanced_next before x c.helpers k rules)

  pub placed_number_is : placed_number node (advanced x [] l) ≡ (place c before.next).number
  unfolding place
  placed_number_is = ap (λ (n : ℕ). own_number node n) next_is ∙ ap (λ (y : Node). own_number y (before.next + length c.helpers)) is

  pub placed_rules_is : placed_rules node (advanced x [] l) ≡ advanced before (place c before.next).helpers (k + l)
  unfolding place
  placed_rules_is =
      ap (λ (n : ℕ). advanced (advanced x [] l) (own_rules node n) 0) next_is
      ∙ ap (λ (y : Node). advanced (advanced x [] l) (own_rules y (before.next + length c.helpers)) 0) is
      ∙ ap (λ (r : Rules). advanced (advanced r [] l) own 0) rules
      ∙ ap (λ (r : Rules). advanced r own 0) (advanced_on before c.helpers [] k l)
      ∙ advanced_on before (c.helpers ++ []) own (k + l) 0
      ∙ ap (λ (hs : List Expression). advanced before (hs ++ own) (k + l + 0)) (append-nil c.helpers)
      ∙ ap (λ (n : ℕ). advanced before (c.helpers ++ own) n) (add-zero (k + l))
    where
      own : List Expression
      own = own_rules c.node (before.next + length c.helpers)

-- the same with nothing taken
placed_now :
    (before x : Rules) (c : Compiled) (node : Node) (k : ℕ) → x ≡ advanced before c.helpers k → node ≡ c.node →
    (placed_number node x ≡ (place c before.next).number) × (placed_rules node x ≡ advanced before (place c before.next).helpers k)
placed_now before x c node k e f =
    let same : advanced x [] 0 ≡ x = advanced_none x in (
      ap (λ (r : Rules). placed_number node r) (sym same) ∙ placed_number_is before x c node k 0 e f,
      ap (λ (r : Rules). placed_rules node r) (sym same) ∙ placed_rules_is before x c node k 0 e f
          ∙ ap (λ (n : ℕ). advanced before (place c before.next).helpers n) (add-zero k),
    )

-- more helpers after those of an operand
pub helpers_more :
    (before r : Rules) (p : Placed) (hs : List Expression) (k l : ℕ) → r ≡ advanced before p.helpers k → k ≡ l →
    advanced r hs 0 ≡ advanced before (p.helpers ++ hs) l
helpers_more before r p hs k l e f =
    ap (λ (x : Rules). advanced x hs 0) e ∙ advanced_on before p.helpers hs k 0 ∙ ap (λ (n : ℕ). advanced before (p.helpers ++ hs) n) (omega arith)

-- A SUFFIX over a placed operand
suffix_node :
    (s : Suffix) (p : Placed) (before r : Rules) (k at m : ℕ) → m ≡ p.number → r ≡ advanced before p.helpers k →
    ((suffix_done s m r at).node ≡ (compile_suffix s p before.next).node)
    × ((suffix_done s m r at).rules ≡ advanced before (compile_suffix s p before.next).helpers k)
    × ((suffix_done s m r at).at ≡ at)
unfolding suffix_done compile_suffix
suffix_node ZeroOrMore p before r k at m e f = (cc, f, refl)
suffix_node OneOrMore p before r k at m e f =
    let n : r.next ≡ before.next + length p.helpers = advanced_next before r p.helpers k f in
    let hs : repetition_rules m r.next ≡ repetition_rules p.number (before.next + length p.helpers) =
    ap (λ (j : ℕ). repetition_rules m j) n ∙ ap (λ (j : ℕ). repetition_rules j (before.next + length p.helpers)) e
    in
    (rw (e, n), ap (λ (xs : List Expression). advanced r xs 0) hs ∙ helpers_more before r p _ k k f refl, refl)
suffix_node Optional p before r k at m e f =
    let n : r.next ≡ before.next + length p.helpers = advanced_next before r p.helpers k f in
    (rw (e, n), helpers_more before r p _ k k f refl, refl)

pub suffix_reads :
    (text : List ℕ) (before : Rules) (e : Tree) (us vs : List Token) (x : Part) (s : Suffix) (at : ℕ) → ReadsTo text before e us x →
    tokens_at text at ≡ vs →
    ReadsTo text before (suffixed s e) vs
    (suffix_done s (placed_number x.node (advanced x.rules [] (suffix_need s))) (placed_rules x.node (advanced x.rules [] (suffix_need s))) at)
unfolding compile need
suffix_reads text before e us vs x s at reads rest =
    let c = compile (heads text) e before.next in
    let m = placed_number_is before x.rules c x.node (need e) (suffix_need s) reads.rules reads.node in
    let r = placed_rules_is before x.rules c x.node (need e) (suffix_need s) reads.rules reads.node in
    let sum : need e + suffix_need s ≡ suffix_need s + need e = omega arith in
    let done = suffix_node s (place c before.next) before _ (suffix_need s + need e) at _ m (rw sum at r) in
    record { node = done.0; rules = done.1; rest = ap (λ (i : ℕ). tokens_at text i) done.2 ∙ rest }

-- A PREFIX, whose rules were taken before its operand was read
prefix_node :
    (p : Prefix) (q : Placed) (before r : Rules) (k at m : ℕ) → m ≡ q.number → r ≡ advanced before q.helpers k →
    ((prefix_by p m r at).node ≡ (compile_prefix p q before.next).node)
    × ((prefix_by p m r at).rules ≡ advanced before (compile_prefix p q before.next).helpers k)
    × ((prefix_by p m r at).at ≡ at)
unfolding prefix_by compile_prefix
prefix_node NotPredicate q before r k at m e f = (cc, f, refl)
prefix_node AndPredicate q before r k at m e f =
    let n : r.next ≡ before.next + length q.helpers = advanced_next before r q.helpers k f in
    (ap (λ (j : ℕ). Operator (Not j)) n, ap (λ (j : ℕ). advanced r (Not j ∷ []) 0) e ∙ helpers_more before r q _ k k f refl, refl)

-- the prefix's rules are taken from `before` and its operand read with the rest: `less`
pub prefix_reads :
    (text : List ℕ) (before less : Rules) (e : Tree) (us : List Token) (x : Part) (p : Prefix) → less ≡ advanced before [] (prefix_need p) →
    ReadsTo text less e us x → ReadsTo text before (prefixed p e) us (prefix_made p x)
unfolding compile need prefix_made
prefix_reads text before less e us x p took reads =
    let c = compile (heads text) e before.next in
    let n : less.next ≡ before.next = advanced_next before less [] (prefix_need p) took ∙ omega arith in
    let node : x.node ≡ c.node = reads.node ∙ ap (λ (i : ℕ). (compile (heads text) e i).node) n in
    let rules : x.rules ≡ advanced before c.helpers (prefix_need p + need e) =
    reads.rules ∙ ap (λ (i : ℕ). advanced less (compile (heads text) e i).helpers (need e)) n
    ∙ ap (λ (r : Rules). advanced r c.helpers (need e)) took
    ∙ advanced_on before [] c.helpers (prefix_need p) (need e)
    in
    let m = placed_now before x.rules c x.node (prefix_need p + need e) rules node in
    let done = prefix_node p (place c before.next) before _ (prefix_need p + need e) x.at _ m.0 m.1 in
    record { node = done.0; rules = done.1; rest = ap (λ (i : ℕ). tokens_at text i) done.2 ∙ reads.rest }

-- TWO PARTS: a rule over them is compiled as a sequence and a choice are
pub record Joins (ns : List (List ℕ)) (join : Tree → Tree → Tree) (rule : ℕ → ℕ → Expression) : Type 0 where
  pub needed : (e f : Tree) → need (join e f) ≡ 1 + need e + need f
  pub node :
      (e f : Tree) (n : ℕ) → let p = place (compile ns e n) n in
      let q = place (compile ns f (n + length p.helpers)) (n + length p.helpers) in
      (compile ns (join e f) n).node ≡ Operator (rule p.number q.number)
  pub helpers :
      (e f : Tree) (n : ℕ) → let p = place (compile ns e n) n in
      let q = place (compile ns f (n + length p.helpers)) (n + length p.helpers) in
      (compile ns (join e f) n).helpers ≡ p.helpers ++ q.helpers

pub sequence_joins : (ns : List (List ℕ)) → Joins ns sequence Sequence
unfolding compile need
sequence_joins ns = record { needed = λ e f. refl; node = λ e f n. refl; helpers = λ e f n. refl }

pub choice_joins : (ns : List (List ℕ)) → Joins ns choice Choice
unfolding compile need
choice_joins ns = record { needed = λ e f. refl; node = λ e f n. refl; helpers = λ e f n. refl }

-- the first part is placed and one rule taken: `made`; the second is read from there on
pub pair_reads :
    (text : List ℕ) (join : Tree → Tree → Tree) (rule : ℕ → ℕ → Expression) (joins : Joins (heads text) join rule)
    (before : Rules) (e f : Tree) (vs us : List Token) (x y : Part) → ReadsTo text before e vs x →
    ReadsTo text (placed_rules x.node (advanced x.rules [] 1)) f us y →
    ReadsTo text before (join e f) us
    (part y.at (Operator (rule (placed_number x.node (advanced x.rules [] 1)) (placed_number y.node y.rules))) (placed_rules y.node y.rules))
pair_reads text join rule joins before e f vs us x y first second =
    let ns = heads text in
    let p = place (compile ns e before.next) before.next in
    let m : ℕ = before.next + length p.helpers in
    let q = place (compile ns f m) m in
    let made : Rules = placed_rules x.node (advanced x.rules [] 1) in
    let number_one = placed_number_is before x.rules (compile ns e before.next) x.node (need e) 1 first.rules first.node in
    let rules_one : made ≡ advanced before p.helpers (need e + 1) =
    placed_rules_is before x.rules (compile ns e before.next) x.node (need e) 1 first.rules first.node
    in
    let n : made.next ≡ m = advanced_next before made p.helpers (need e + 1) rules_one in
    let node : y.node ≡ (compile ns f m).node = second.node ∙ ap (λ (i : ℕ). (compile ns f i).node) n in
    let rules : y.rules ≡ advanced made (compile ns f m).helpers (need f) =
    second.rules ∙ ap (λ (i : ℕ). advanced made (compile ns f i).helpers (need f)) n
    in
    let two = placed_now made y.rules (compile ns f m) y.node (need f) rules node in
    let number_two : placed_number y.node y.rules ≡ q.number = two.0 ∙ ap (λ (i : ℕ). (place (compile ns f m) i).number) n in
    let rules_two : placed_rules y.node y.rules ≡ advanced before (p.helpers ++ q.helpers) (need (join e f)) =
    two.1 ∙ ap (λ (i : ℕ). advanced made (place (compile ns f m) i).helpers (need f)) n
    ∙ ap (λ (r : Rules). advanced r q.helpers (need f)) rules_one
    ∙ advanced_on before p.helpers q.helpers (need e + 1) (need f)
    ∙ ap (λ (k : ℕ). advanced before (p.helpers ++ q.helpers) k) (omega (arith, joins.needed e f))
    in
    record {
      node =
          ap (λ (i : ℕ). Operator (rule i (placed_number y.node y.rules))) number_one
          ∙ ap (λ (j : ℕ). Operator (rule p.number j)) number_two
          ∙ sym (joins.node e f before.next);
      rules = rules_two ∙ ap (λ (hs : List Expression). advanced before hs (need (join e f))) (sym (joins.helpers e f before.next));
      rest = second.rest;
    }
