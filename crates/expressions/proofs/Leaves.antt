-- Reading an operand: a name, a range, a leaf, an expression in brackets; and tokens that begin none. Assumes nothing.
use mathlib.Core.Path.{◌≡◌, refl, sym, ap, subst, ◌∙◌}
use mathlib.Core.Bool.{Bool, true, false, cond}
use mathlib.Core.List.{List, [], ◌∷◌}
use Prim.Native.Nat.{ℕ, suc, ◌+◌, ◌-◌, ◌<◌, ◌≤◌}
use native.Mathlib.Nat.{pos_of_ne-zero}
use native.Mathlib.Omega.{arith}
use lib.Dec.{eqb}
use lib.ListN.{length}
use borrow.Author.Tests.{eq-eqb, ne_eqb, eqb-true, eqb-false}
use Rattle.codec.specs.Bytes.{section}
use Rattle.grammar.specs.declared.Expression.{Expression}
use Rattle.grammar.specs.declared.Expression.TheVariants.{Range}
use Rattle.syntax.specs.declared.Leaf.{Leaf}
use Rattle.syntax.specs.declared.Sign.TheVariants.{Operand, Opening, Closing}
use Rattle.syntax.specs.declared.Node.TheVariants.{Numbered, Operator}
use Rattle.syntax.specs.Tokens.{Token, name, sign, range, same}
use Rattle.syntax.specs.Trees.{Tree, nonterminal, leaf, bytes, choices, operand, Derives, a_name, a_leaf, a_range, brackets}
use Rattle.syntax.specs.Needs.{need}
use Rattle.syntax.specs.Compile.{index_of, owed, Compiled, compile_leaf, compile}
use Rattle.syntax.specs.Code.Heads.{heads}
use Rattle.expressions.specs.declared.Rules.{Rules}
use Rattle.expressions.specs.declared.Part as Code
use Rattle.expressions.specs.declared.Unfit.{Unfit}
use Rattle.std.specs.Prelude.{Result, Err}
use Rattle.expressions.specs.Code.Building.{advanced}
use Rattle.expressions.specs.Code.Operators.{Part, over, part, read_of, part_of}
use Rattle.scanner.specs.Code.Scanning.{tokens_at}
use Rattle.expressions.specs.Code.Levels.{Spent, leaf_made, name_made, ReadsTo, PartRight, LevelRight, Passes}
use Rattle.expressions.proofs.Emitting.{advanced_none, advanced_next, advanced_left}
use Rattle.expressions.proofs.Lookings.{clash}
use Rattle.expressions.proofs.Deriving.{closing_stops}
use Rattle.expressions.proofs.Descending.{not_fit, does_fit, unfit}

-- ONE RULE: whatever tree needs one rule and is compiled to it
pub leaf_none : (x : Expression) (r : Rules) (at : ℕ) → r.left ≡ 0 → over r at ≡ leaf_made x r at
unfolding leaf_made
leaf_none x r at e = simp (eq-eqb r.left 0 e)

pub leaf_some : (x : Expression) (r less : Rules) (at : ℕ) → (r.left ≡ 0 → ⊥) → less ≡ advanced r [] 1 → part at (Operator x) less ≡ leaf_made x r at
unfolding leaf_made
leaf_some x r less at some e = simp (ne_eqb r.left 0 some) (ap (λ (y : Rules). part at (Operator x) y) e)

-- as the code answers it
pub leaf_over :
    (x : Expression) (r s : Rules) (at : ℕ) (p : Result Code.Part Unfit) (e : Unfit) → p ≡ Err e → e.at ≡ at → r.left < 1 → s ≡ r →
    part_of p s ≡ leaf_made x r at
leaf_over x r s at p e is there h same = rw (is, same) (ap (over r) there ∙ leaf_none x r at (omega arith))

pub leaf_fits :
    (x : Expression) (r less : Rules) (at : ℕ) (p : Code.Part) → p ≡ record { at = at; node = Operator x } → 1 ≤ r.left → less ≡ advanced r [] 1 →
    read_of p less ≡ leaf_made x r at
leaf_fits x r less at p is h took = ap (λ (q : Code.Part). read_of q less) is ∙ leaf_some x r less at (λ z. omega arith) took

leaf_right :
    (text : List ℕ) (before : Rules) (e : Tree) (us : List Token) (x : Expression) (at : ℕ) → need e ≡ 1 →
    compile (heads text) e before.next ≡ record { helpers = []; node = Operator x } → tokens_at text at ≡ us →
    PartRight text before e us (leaf_made x before at)
leaf_right text before e us x at one is rest = go (eqb before.left 0) refl
  where
    go : (b : Bool) → eqb before.left 0 ≡ b → PartRight text before e us (leaf_made x before at)
    go true g =
        let none : before.left ≡ 0 = eqb-true before.left 0 g in
        subst (λ (p : Part). PartRight text before e us p) (leaf_none x before at none) (not_fit text before e us (over before at) refl (omega arith))
    go false g =
        let some = eqb-false before.left 0 g in
        let reads : ReadsTo text before e us (part at (Operator x) (advanced before [] 1)) =
        record {
          node = sym (ap (λ (c : Compiled). c.node) is);
          rules = ap (λ (hs : List Expression). advanced before hs 1) (sym (ap (λ (c : Compiled). c.helpers) is))
              ∙ ap (λ (n : ℕ). advanced before (compile (heads text) e before.next).helpers n) (sym one);
          rest = rest;
        }
        in
        subst (λ (p : Part). PartRight text before e us p) (leaf_some x before (advanced before [] 1) at some refl)
        (does_fit text before e us (part at (Operator x) (advanced before [] 1)) refl (omega (arith, pos_of_ne-zero some)) reads)

-- A NAME needs none
name_right :
    (text : List ℕ) (before : Rules) (from long at : ℕ) (us : List Token) → tokens_at text at ≡ us →
    PartRight text before (nonterminal (section text from long)) us (name_made text from long before at)
unfolding compile need
name_right text before from long at us rest =
    does_fit text before (nonterminal (section text from long)) us (name_made text from long before at) refl (omega arith)
    (record { node = refl; rules = sym (advanced_none before); rest = rest })

-- an operand that begins with a token, whose next place is known
abbrev pub FirstRight : (text : List ℕ) → Token → (next deep : ℕ) → Rules → Part → Type 0
FirstRight text t i d before r = (e : Tree) (us : List Token) → Derives operand d (t ∷ tokens_at text i) e us → PartRight text before e us r

-- THE OPERAND by its first token, which stands before the tokens from a place on
module _ (text : List ℕ) (d : ℕ) (before : Rules) (next : ℕ) where
  pub name_read : (from long : ℕ) → FirstRight text (name (section text from long)) next d before (name_made text from long before next)
  name_read from long e us x = go x refl
    where
      go : {c : ℕ} {ts : List Token} {g : Tree} {ws : List Token} → Derives operand c ts g ws → ts ≡ name (section text from long) ∷ tokens_at text next →
          PartRight text before g ws (name_made text from long before next)
      go (a_name {n = n} {us = vs}) f =
          let same : section text from long ≡ n = cc in
          subst (λ (m : List ℕ). PartRight text before (nonterminal m) vs (name_made text from long before next)) same
          (name_right text before from long next vs (cc))
      go a_leaf f = clash (cc)
      go a_range f = clash (cc)
      go (brackets y) f = clash (cc)

  pub range_read : (l h : ℕ) → FirstRight text (range l h) next d before (leaf_made (Range l h) before next)
  unfolding compile need
  range_read l h e us x = go x refl
    where
      go : {c : ℕ} {ts : List Token} {g : Tree} {ws : List Token} → Derives operand c ts g ws → ts ≡ range l h ∷ tokens_at text next →
          PartRight text before g ws (leaf_made (Range l h) before next)
      go a_name f = clash (cc)
      go a_leaf f = clash (cc)
      go (a_range {l = m} {h = k} {us = vs}) f =
          let low : l ≡ m = cc in
          let high : h ≡ k = cc in
          let right : PartRight text before (bytes m k) vs (leaf_made (Range m k) before next) = leaf_right text before (bytes m k) vs (Range m k) next refl refl (cc) in
          subst (λ (z : ℕ). PartRight text before (bytes m k) vs (leaf_made (Range z h) before next)) (sym low)
          (subst (λ (z : ℕ). PartRight text before (bytes m k) vs (leaf_made (Range m z) before next)) (sym high) right)
      go (brackets y) f = clash (cc)

  pub leaf_read : (a : Leaf) → FirstRight text (sign (Operand a)) next d before (leaf_made (compile_leaf a) before next)
  unfolding compile need
  leaf_read a e us x = go x refl
    where
      go : {c : ℕ} {ts : List Token} {g : Tree} {ws : List Token} → Derives operand c ts g ws → ts ≡ sign (Operand a) ∷ tokens_at text next →
          PartRight text before g ws (leaf_made (compile_leaf a) before next)
      go a_name f = clash (cc)
      go (a_leaf {a = b} {us = vs}) f =
          let same : a ≡ b = cc in
          subst (λ (z : Leaf). PartRight text before (leaf b) vs (leaf_made (compile_leaf z) before next)) (sym same)
          (leaf_right text before (leaf b) vs (compile_leaf b) next refl refl (cc))
      go a_range f = clash (cc)
      go (brackets y) f = clash (cc)

  -- the brackets' inside, and the place after the closing one
  pub brackets_read :
      (inner : Part) (to : ℕ) → (d ≡ 0 → ⊥) → LevelRight choices text next (d - 1) before inner → Passes text inner.at to →
      FirstRight text (sign Opening) next d before (record { fits = inner.fits; at = to; node = inner.node; rules = inner.rules })
  brackets_read inner to some read passes e us x = go x refl refl
    where
      go : {c : ℕ} {ts : List Token} {g : Tree} {ws : List Token} → Derives operand c ts g ws → c ≡ d → ts ≡ sign Opening ∷ tokens_at text next →
          PartRight text before g ws (record { fits = inner.fits; at = to; node = inner.node; rules = inner.rules })
      go a_name k f = clash (cc)
      go a_leaf k f = clash (cc)
      go a_range k f = clash (cc)
      go (brackets {d = c} {ts = vs} {us = ws} {e = g} y) k f =
          let less : c ≡ d - 1 = omega arith in
          let rest : vs ≡ tokens_at text next = cc in
          let p = read g (sign Closing ∷ ws)
          (subst (λ (n : ℕ). Derives choices n (tokens_at text next) g (sign Closing ∷ ws)) less
          (subst (λ (zs : List Token). Derives choices c zs g (sign Closing ∷ ws)) rest y)) (closing_stops ws) in
          record {
            fits = p.fits;
            reads = λ le.
                let q = p.reads le in
                record { node = q.node; rules = q.rules; rest = passes (sign Closing) ws q.rest };
          }

  pub brackets_over :
      (inner : Part) → (d ≡ 0 → ⊥) → LevelRight choices text next (d - 1) before inner → inner.fits ≡ false → FirstRight text (sign Opening) next d before inner
  brackets_over inner some read gone e us x = go x refl refl
    where
      go : {c : ℕ} {ts : List Token} {g : Tree} {ws : List Token} → Derives operand c ts g ws → c ≡ d → ts ≡ sign Opening ∷ tokens_at text next →
          PartRight text before g ws inner
      go a_name k f = clash (cc)
      go a_leaf k f = clash (cc)
      go a_range k f = clash (cc)
      go (brackets {d = c} {ts = vs} {us = ws} {e = g} y) k f =
          let less : c ≡ d - 1 = omega arith in
          let rest : vs ≡ tokens_at text next = cc in
          not_fit text before g ws inner gone
          (unfit text before g (sign Closing ∷ ws) inner
          (read g (sign Closing ∷ ws)
          (subst (λ (n : ℕ). Derives choices n (tokens_at text next) g (sign Closing ∷ ws)) less
          (subst (λ (zs : List Token). Derives choices c zs g (sign Closing ∷ ws)) rest y)) (closing_stops ws)) gone)

-- a line's number is at most their count
pub index_below : (n : List ℕ) (hs : List (List ℕ)) → index_of n hs ≤ length hs
unfolding index_of
index_below n [] = omega arith
index_below n (h ∷ hs) = go (same n h) refl (index_below n hs)
  where
    go : (b : Bool) → same n h ≡ b → index_of n hs ≤ length hs → cond (same n h) 0 (suc (index_of n hs)) ≤ suc (length hs)
    go true e le = rw e (omega arith)
    go false e le = rw e (omega arith)

pub name_is : (at k m : ℕ) (r : Rules) → k ≡ m → part at (Numbered k) r ≡ part at (Numbered m) r
name_is at k m r e = ap (λ (n : ℕ). part at (Numbered n) r) e

-- WHAT AN OPERAND HAS SPENT
pub nothing_spent : (before : Rules) (own : ℕ) (r : Part) → r.fits ≡ false → r.fits ≡ true → Spent before own r
nothing_spent before own r f g = clash (cc)

pub leaf_spent : (x : Expression) (before : Rules) (at : ℕ) (r : Part) → r ≡ leaf_made x before at → r.fits ≡ true → Spent before 0 r
unfolding owed
leaf_spent x before at r is fits = go (eqb before.left 0) refl
  where
    go : (b : Bool) → eqb before.left 0 ≡ b → Spent before 0 r
    go true g = clash (cc (is ∙ sym (leaf_none x before at (eqb-true before.left 0 g))))
    go false g =
        let some = pos_of_ne-zero (eqb-false before.left 0 g) in
        let less : Rules = advanced before [] 1 in
        let next : less.next ≡ before.next + 0 = advanced_next before less [] 1 refl in
        let left : less.left ≡ before.left - 1 = advanced_left before less [] 1 refl in
        subst (λ (p : Part). Spent before 0 p) (leaf_some x before less at (eqb-false before.left 0 g) refl ∙ sym is) (record { room = omega arith; left = omega arith })

pub name_spent : (text : List ℕ) (from long : ℕ) (before : Rules) (at : ℕ) → Spent before 0 (name_made text from long before at)
unfolding owed
name_spent text from long before at = record { room = omega arith; left = omega arith }
