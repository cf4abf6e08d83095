-- Reading a line: its top rule at its own number, its helper rules, and what the function answers. Assumes nothing.
use mathlib.Core.Path.{◌≡◌, refl, sym, ap, subst, ◌∙◌}
use mathlib.Core.Bool.{Bool, true, false, cond}
use mathlib.Core.List.{List, [], ◌∷◌, ◌++◌}
use Prim.Native.Nat.{ℕ, suc, ◌+◌, ◌-◌, ◌<◌, ◌≤◌}
use native.Mathlib.Omega.{arith}
use lib.Dec.{leb, eqb}
use lib.ListN.{length, length-append}
use borrow.Author.Tests.{le-leb, lt-leb, leb-true, leb-false, eqb-true}
use Rattle.grammar.specs.Grammar.{max_rules}
use Rattle.grammar.specs.declared.Expression.{Expression}
use Rattle.grammar.specs.declared.Expression.TheVariants.{Sequence, Choice, Empty}
use Rattle.syntax.specs.declared.Node.{Node}
use Rattle.syntax.specs.declared.Node.TheVariants.{Numbered, Operator, Repetition}
use Rattle.syntax.specs.declared.Sign.TheVariants.{Equals, Semicolon}
use Rattle.syntax.specs.Tokens.{Token, name, sign}
use Rattle.syntax.specs.Trees.{Tree, choices, Derives, max_depth}
use Rattle.syntax.specs.Needs.{need, line_need}
use Rattle.syntax.specs.Compile.{Compiled, compile, owed, top_rule, top_helpers, line_rule, line_helpers}
use Rattle.syntax.specs.Code.Heads.{heads}
use Rattle.syntax.proofs.Counting.{compiled_need, line_counted}
use Rattle.expressions.specs.declared.Rules.{Rules}
use Rattle.expressions.specs.Code.Building.{rule_put, put_rules, advanced, placed_at}
use Rattle.expressions.specs.Code.Operators.{Part, PartRoom}
use Rattle.scanner.specs.Code.Scanning.{tokens_at}
use Rattle.expressions.specs.Code.Levels.{Passes, PartRight, LevelRead, ReadsTo}
use Rattle.reader.specs.Code.Lines.{PassesTwo, LineRead, with_left, line_with, topped_by, topped, LineRoom, LineDone, LineIsRead}
use Rattle.expressions.proofs.Emitting.{advanced_on, advanced_none, advanced_next}
use Rattle.expressions.proofs.Deriving.{semicolon_stops}
use Rattle.expressions.proofs.Descending.{unfit, fit}
use Rattle.expressions.proofs.Lookings.{clash}

-- a rule put at a line's number
pub line_by : (at k : ℕ) (r s t : Rules) (x y : Expression) → t ≡ placed_at r k x → r ≡ s → x ≡ y → line_with at t ≡ line_with at (placed_at s k y)
line_by at k r s t x y e f g = rw (e, f, g) refl

-- THE TOP RULE, by cases
pub bare_over : (x : Part) (k at i : ℕ) → x.node ≡ Numbered i → max_rules ≤ x.rules.next → ◌≡◌ {A = LineRead} (record { fits = false; at = at; rules = x.rules }) (topped x k at)
unfolding topped_by
bare_over x k at i e h = simp (e, le-leb max_rules x.rules.next h)

pub bare_fits :
    (x : Part) (k at i : ℕ) (more : Rules) (r : LineRead) → x.node ≡ Numbered i → x.rules.next < max_rules → more ≡ advanced x.rules (Empty ∷ []) 0 →
    r ≡ line_with at (placed_at more k (Sequence i x.rules.next)) → r ≡ topped x k at
unfolding topped_by
bare_fits x k at i more r e h m is =
    is ∙ ap (λ (y : Rules). line_with at (placed_at y k (Sequence i x.rules.next))) m ∙ simp (e, lt-leb max_rules x.rules.next h)

pub operator_top : (x : Part) (k at : ℕ) (own : Expression) (r : LineRead) → x.node ≡ Operator own → r ≡ line_with at (placed_at x.rules k own) → r ≡ topped x k at
unfolding topped_by
operator_top x k at own r e is = is ∙ simp e

pub repetition_top :
    (x : Part) (k at i : ℕ) (first more : Rules) (r : LineRead) → x.node ≡ Repetition i → first ≡ advanced x.rules (Sequence i k ∷ []) 0 →
    more ≡ advanced first (Empty ∷ []) 0 → r ≡ line_with at (placed_at more k (Choice x.rules.next (x.rules.next + 1))) → r ≡ topped x k at
unfolding topped_by
repetition_top x k at i first more r e f m is =
    let one : x.rules.next + 1 ≡ suc x.rules.next = omega arith in
    let all : more ≡ advanced x.rules (Sequence i k ∷ Empty ∷ []) 0 = m ∙ ap (λ (y : Rules). advanced y (Empty ∷ []) 0) f ∙ advanced_on x.rules _ _ 0 0 in
    is ∙ ap (λ (n : ℕ). line_with at (placed_at more k (Choice x.rules.next n))) one
    ∙ ap (λ (y : Rules). line_with at (placed_at y k (Choice x.rules.next (suc x.rules.next)))) all ∙ simp e

owed_three : (j : ℕ) → owed (Repetition j) ≡ 3
unfolding owed
owed_three j = refl

put_is : (r : Rules) (xs : List Expression) (n k : ℕ) (x : Expression) → rule_put (advanced r xs n).bytes k x ≡ rule_put (put_rules r.bytes r.next xs) k x
unfolding advanced
put_is r xs n k x = refl

-- the room for the helper rules of e*
pub repetition_room : (x : Part) (i : ℕ) → x.node ≡ Repetition i → PartRoom x → x.rules.next + 2 ≤ max_rules
repetition_room x i e room = omega (arith, ap owed e ∙ owed_three i)

-- IN ONE FORM: whether it fits, and what is made
topped_fits : (x : Node) (r : Rules) (k at : ℕ) → r.next + owed x ≤ suc max_rules → (topped_by x r k at).fits ≡ leb (r.next + length (top_helpers x k)) max_rules
unfolding topped_by top_helpers owed
topped_fits (Numbered i) r k at h = go (leb max_rules r.next) refl
  where
    go : (b : Bool) → leb max_rules r.next ≡ b → (topped_by (Numbered i) r k at).fits ≡ leb (r.next + 1) max_rules
    go true e = simp e (sym (lt-leb (r.next + 1) max_rules (omega (arith, leb-true max_rules r.next e))))
    go false e = simp e (sym (le-leb (r.next + 1) max_rules (omega (arith, leb-false max_rules r.next e))))
topped_fits (Operator x) r k at h = sym (le-leb (r.next + 0) max_rules (omega arith))
topped_fits (Repetition i) r k at h = sym (le-leb (r.next + 2) max_rules (omega arith))

topped_makes :
    (x : Node) (r : Rules) (k at : ℕ) → (topped_by x r k at).fits ≡ true →
    topped_by x r k at ≡ line_with at (placed_at (advanced r (top_helpers x k) 0) k (top_rule x r.next))
unfolding topped_by top_helpers top_rule
topped_makes (Numbered i) r k at f = go (leb max_rules r.next) refl
  where
    go : (b : Bool) → leb max_rules r.next ≡ b →
        topped_by (Numbered i) r k at ≡ line_with at (placed_at (advanced r (Empty ∷ []) 0) k (Sequence i r.next))
    go true e = clash (cc (simp e at f))
    go false e = simp e
topped_makes (Operator x) r k at f = ap (λ (y : Rules). line_with at (placed_at y k x)) (sym (advanced_none r))
topped_makes (Repetition i) r k at f = refl

need_line : (e : Tree) → need e ≤ line_need e
unfolding line_need
need_line e = go (eqb (need e) 0) refl
  where
    go : (b : Bool) → eqb (need e) 0 ≡ b → need e ≤ cond (eqb (need e) 0) 2 (need e)
    go true f = simp f (omega (arith, eqb-true (need e) 0 f))
    go false f = simp f (omega arith)

-- A LINE'S EXPRESSION THAT WAS READ, with its top rule
same_leb : (a b c d : ℕ) → (a ≤ b → c ≤ d) → (c ≤ d → a ≤ b) → leb a b ≡ leb c d
same_leb a b c d f g = go (leb a b) refl
  where
    go : (t : Bool) → leb a b ≡ t → leb a b ≡ leb c d
    go true e = e ∙ sym (le-leb c d (f (leb-true a b e)))
    go false e = e ∙ sym (other (leb c d) refl)
      where
        other : (t : Bool) → leb c d ≡ t → leb c d ≡ false
        other true h = clash (cc (le-leb a b (g (leb-true c d h))))
        other false h = h

module _ (text : List ℕ) (before : Rules) (k at : ℕ) (fit_in : before.next ≤ max_rules) (e : Tree) (vs : List Token) (x : Part)
    (reads : ReadsTo text (with_left before) e vs x) (enough : need e ≤ suc max_rules - before.next) where
  abbrev c : Compiled
  c = compile (heads text) e before.next

  next_is : x.rules.next ≡ before.next + length c.helpers
  next_is = advanced_next (with_left before) x.rules c.helpers (need e) reads.rules

  counted : suc (length (line_helpers c k)) ≡ line_need e
  counted = line_counted (heads text) e before.next k

  helpers_are : length (line_helpers c k) ≡ length c.helpers + length (top_helpers x.node k)
  unfolding line_helpers
  helpers_are = length-append c.helpers (top_helpers c.node k) ∙ ap (λ (y : Node). length c.helpers + length (top_helpers y k)) (sym reads.node)

  own_room : x.rules.next + owed x.node ≤ suc max_rules
  own_room = omega (arith, next_is, ap owed reads.node, compiled_need (heads text) e before.next)

  pub fits_is : (topped x k at).fits ≡ leb (line_need e) (suc max_rules - before.next)
  fits_is =
      topped_fits x.node x.rules k at own_room
      ∙ same_leb (x.rules.next + length (top_helpers x.node k)) max_rules (line_need e) (suc max_rules - before.next)
      (λ h. omega (arith, next_is, counted, helpers_are)) (λ h. omega (arith, next_is, counted, helpers_are))

  pub done_is : (topped x k at).fits ≡ true → (us : List Token) → tokens_at text at ≡ us → LineDone text before k e us (topped x k at)
  unfolding line_rule line_helpers
  done_is f us rest =
      let makes = topped_makes x.node x.rules k at f in
      let top : top_rule x.node x.rules.next ≡ top_rule c.node (before.next + length c.helpers) =
      ap (λ (y : Node). top_rule y x.rules.next) reads.node ∙ ap (λ (n : ℕ). top_rule c.node n) next_is
      in
      let tops : top_helpers x.node k ≡ top_helpers c.node k = ap (λ (y : Node). top_helpers y k) reads.node in
      let all : advanced x.rules (top_helpers x.node k) 0 ≡ advanced (with_left before) (c.helpers ++ top_helpers c.node k) (need e + 0) =
      ap (λ (ys : List Expression). advanced x.rules ys 0) tops ∙ ap (λ (y : Rules). advanced y (top_helpers c.node k) 0) reads.rules
      ∙ advanced_on (with_left before) c.helpers (top_helpers c.node k) (need e) 0
      in
      record {
        bytes =
            ap (λ (y : LineRead). y.rules.bytes) makes
            ∙ ap (λ (z : Expression). rule_put (advanced x.rules (top_helpers x.node k) 0).bytes k z) top
            ∙ ap (λ (y : Rules). rule_put y.bytes k (top_rule c.node (before.next + length c.helpers))) all
            ∙ put_is (with_left before) (c.helpers ++ top_helpers c.node k) (need e + 0) k (top_rule c.node (before.next + length c.helpers));
        next = ap (λ (y : LineRead). y.rules.next) makes ∙ advanced_next (with_left before) _ _ _ all;
        rest = ap (λ (i : ℕ). tokens_at text i) (ap (λ (y : LineRead). y.at) makes) ∙ rest;
      }

-- whatever the tokens are, the rules have room
pub topped_room : (x : Part) (k at : ℕ) → PartRoom x → (topped x k at).fits ≡ true → (topped x k at).rules.next ≤ max_rules
topped_room x k at room f =
    let few : x.rules.next + owed x.node ≤ suc max_rules = omega arith in
    let h = leb-true (x.rules.next + length (top_helpers x.node k)) max_rules (sym (topped_fits x.node x.rules k at few) ∙ f) in
    let n = ap (λ (y : LineRead). y.rules.next) (topped_makes x.node x.rules k at f) ∙ advanced_next x.rules _ (top_helpers x.node k) 0 refl in
    omega (arith, h, n)

-- WHAT THE FUNCTION ANSWERS, from its callees' answers: the name and the = are passed, the expression is read, and then the semicolon is passed
module _ (text : List ℕ) (at k from : ℕ) (before : Rules) (room : LineRoom text k before) (passed : PassesTwo text at from)
    (ready : Rules) (filled : ready ≡ with_left before) (x : Part) (read : LevelRead choices text from max_depth ready x) where
  from_body : (n : List ℕ) (ts : List Token) → tokens_at text at ≡ name n ∷ sign Equals ∷ ts → ts ≡ tokens_at text from
  from_body n ts e = sym (passed (name n) (sign Equals) ts e)

  body_read :
      (n : List ℕ) (ts us : List Token) (e : Tree) → tokens_at text at ≡ name n ∷ sign Equals ∷ ts → Derives choices max_depth ts e (sign Semicolon ∷ us) →
      PartRight text (with_left before) e (sign Semicolon ∷ us) x
  body_read n ts us e t d =
      subst (λ (r : Rules). PartRight text r e (sign Semicolon ∷ us) x) filled
      (read.right e (sign Semicolon ∷ us) (subst (λ (vs : List Token). Derives choices max_depth vs e (sign Semicolon ∷ us)) (from_body n ts t) d) (semicolon_stops us))

  pub line_over : x.fits ≡ false → (r : LineRead) → r.fits ≡ false → LineIsRead text at k before r
  line_over f r gone =
      record {
        fits = λ n ts us e t d.
            let lt = unfit text (with_left before) e (sign Semicolon ∷ us) x (body_read n ts us e t d) f in
            gone ∙ sym (lt-leb (line_need e) (suc max_rules - before.next) (omega (arith, lt, need_line e)));
        done = λ n ts us e t d g. clash (cc);
        room = λ g. clash (cc);
      }

  pub line_read : x.fits ≡ true → (to : ℕ) → Passes text x.at to → (r : LineRead) → r ≡ topped x k to → LineIsRead text at k before r
  line_read f to last r is =
      let spent = read.spent f in
      let part_room : PartRoom x = omega (arith, spent.room, ready_room) in
      subst (λ (y : LineRead). LineIsRead text at k before y) (sym is)
      (record {
        fits = λ n ts us e t d.
            let p = body_read n ts us e t d in
            let le = fit text (with_left before) e (sign Semicolon ∷ us) x p f in
            fits_is text before k to room.fit e (sign Semicolon ∷ us) x (p.reads le) le;
        done = λ n ts us e t d g.
            let p = body_read n ts us e t d in
            let le = fit text (with_left before) e (sign Semicolon ∷ us) x p f in
            done_is text before k to room.fit e (sign Semicolon ∷ us) x (p.reads le) le g us (last (sign Semicolon) us (p.reads le).rest);
        room = topped_room x k to part_room;
      })
    where
      ready_room : ready.next + ready.left ≤ suc max_rules
      ready_room = subst (λ (y : Rules). y.next + y.left ≤ suc max_rules) (sym filled) (omega (arith, room.fit))
