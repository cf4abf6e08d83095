-- A rule leads on to those that the closure has in its row, and to no others, in both directions. Assumes nothing.
use mathlib.Core.Path.{◌≡◌, refl, subst}
use mathlib.Core.Bool.{true, ◌&&◌, ◌||◌, false≢true}
use mathlib.Core.List.{List}
use mathlib.Core.Logic.{◌↔◌, ◌⊎◌, inl, inr}
use Prim.Native.Nat.{ℕ, zero, suc, ◌<◌, ◌≤◌}
use native.Mathlib.Decide.{ℕ_discrete}
use native.Mathlib.Omega.{arith}
use lib.Dec.{eqb}
use borrow.Author.Tests.{eqb-true, eq-eqb}
use Rattle.grammar.specs.declared.Expression.{Expression}
use Rattle.grammar.specs.declared.Expression.TheVariants.{Sequence, Choice, Not, Empty, Range}
use Rattle.grammar.specs.Grammar.{rules, expression, PartsBelow, grammar_refusal}
use Rattle.grammar.specs.Parsing.{Rules}
use Rattle.grammar.proofs.GrammarGood.{good_grammar}
use Rattle.grammar.proofs.Bools.{both_true, both_hold, first_holds, second_holds}
use Rattle.recursion.specs.LeftRecursion.{MayMatchNothing, Leads, first_part, second_part, one, other, its_own, LeadsOn, last, more}
use Rattle.recursion.specs.Computed.{Set, leads_by, leads_through, nothing_of, leads_on}
use Rattle.recursion.proofs.NothingLeast.{one_true, nothing_exact}

pub then_on : {E : Rules} {k l n : ℕ} → LeadsOn E k l → LeadsOn E l n → LeadsOn E k n
then_on (last x) y = more x y
then_on (more x z) y = more x (then_on z y)

-- A WAY from rule to rule with only rules below n between
data Via (E : Rules) (n : ℕ) : (from into : ℕ) → Type 0 where
  straight : {k l : ℕ} → Leads E k l → Via E n k l
  by_way_of : {k p l : ℕ} → Leads E k p → p < n → Via E n p l → Via E n k l

-- one that may pass rule n does not, or it is one to n and then one from n, which do not
split : {E : Rules} {n k l : ℕ} → Via E (suc n) k l → Via E n k l ⊎ (Via E n k n × Via E n n l)
split (straight x) = inl (straight x)
split {E} {n} {k} {l} (by_way_of {p = p} x h rest) = go (ℕ_discrete p n) (split rest)
  where
    go : Dec (p ≡ n) → Via E n p l ⊎ (Via E n p n × Via E n n l) → Via E n k l ⊎ (Via E n k n × Via E n n l)
    go (yes e) (inl w) = inr (straight (subst (Leads E k) e x), subst (λ (i : ℕ). Via E n i l) e w)
    go (yes e) (inr (v, w)) = inr (straight (subst (Leads E k) e x), w)
    go (no d) (inl w) = inl (by_way_of x (omega arith) w)
    go (no d) (inr (v, w)) = inr (by_way_of x (omega arith) v, w)

module _ (E : Rules) (m : ℕ) (closed : (k : ℕ) → k < m → PartsBelow m (E k)) (s : Set)
    (nothing : (k : ℕ) → k < m → (s k ≡ true) ↔ MayMatchNothing E k) where
  leads_below : {k l : ℕ} → k < m → Leads E k l → l < m
  unfolding PartsBelow
  leads_below {k} h (first_part e) = (rw e at (closed k h)).0
  leads_below {k} h (second_part e x) = (rw e at (closed k h)).1
  leads_below {k} h (one e) = (rw e at (closed k h)).0
  leads_below {k} h (other e) = (rw e at (closed k h)).1
  leads_below {k} h (its_own e) = rw e at (closed k h)

  -- ONE STEP
  row_leads : (k l : ℕ) → k < m → leads_by s (E k) l ≡ true → Leads E k l
  unfolding leads_by PartsBelow
  row_leads k l h t = go (E k) refl (closed k h) t
    where
      go : (e : Expression) → E k ≡ e → PartsBelow m e → leads_by s e l ≡ true → Leads E k l
      go (Sequence b c) is (p, q) t = by_part (one_true (eqb l b) (s b && eqb l c) t)
        where
          by_part : (eqb l b ≡ true) ⊎ ((s b && eqb l c) ≡ true) → Leads E k l
          by_part (inl x) = rw (eqb-true l b x) (first_part is)
          by_part (inr y) = let (x, z) = both_true (s b) (eqb l c) y in rw (eqb-true l c z) (second_part is ((nothing b p).0 x))
      go (Choice b c) is p t = by_part (one_true (eqb l b) (eqb l c) t)
        where
          by_part : (eqb l b ≡ true) ⊎ (eqb l c ≡ true) → Leads E k l
          by_part (inl x) = rw (eqb-true l b x) (one is)
          by_part (inr y) = rw (eqb-true l c y) (other is)
      go (Not b) is p t = rw (eqb-true l b t) (its_own is)
      go Empty is p t = absurd (false≢true t)
      go (Range b c) is p t = absurd (false≢true t)

  leads_row : {k l : ℕ} → k < m → Leads E k l → leads_by s (E k) l ≡ true
  unfolding leads_by PartsBelow
  leads_row {k} {l} h (first_part {c = c} e) = rw e (first_holds (eqb l l) (s l && eqb l c) (eq-eqb l l refl))
  leads_row {k} {l} h (second_part {b = b} e x) =
      rw e (second_holds (eqb l b) (s b && eqb l l) (both_hold (s b) (eqb l l) ((nothing b (rw e at (closed k h)).0).1 x) (eq-eqb l l refl)))
  leads_row {k} {l} h (one {c = c} e) = rw e (first_holds (eqb l l) (eqb l c) (eq-eqb l l refl))
  leads_row {k} {l} h (other {b = b} e) = rw e (second_holds (eqb l b) (eqb l l) (eq-eqb l l refl))
  leads_row {k} {l} h (its_own e) = rw e (eq-eqb l l refl)

  -- WHAT THE CLOSURE HAS is led on to
  closure_leads : (n k l : ℕ) → n ≤ m → k < m → leads_through E s n k l ≡ true → LeadsOn E k l
  unfolding leads_through
  closure_leads zero k l h g t = last (row_leads k l g t)
  closure_leads (suc n) k l h g t =
      go (λ i j b. closure_leads n i j (omega arith) b) (one_true (leads_through E s n k l) (leads_through E s n k n && leads_through E s n n l) t)
    where
      go : ((i j : ℕ) → i < m → leads_through E s n i j ≡ true → LeadsOn E i j) →
          (leads_through E s n k l ≡ true) ⊎ ((leads_through E s n k n && leads_through E s n n l) ≡ true) → LeadsOn E k l
      go before (inl x) = before k l g x
      go before (inr y) = let (x, z) = both_true (leads_through E s n k n) (leads_through E s n n l) y in then_on (before k n g x) (before n l (omega arith) z)

  -- AND THE CLOSURE HAS IT
  via_closure : (n : ℕ) {k l : ℕ} → n ≤ m → k < m → Via E n k l → leads_through E s n k l ≡ true
  unfolding leads_through
  via_closure zero h g (straight x) = leads_row g x
  via_closure zero h g (by_way_of x b w) = absurd (omega arith)
  via_closure (suc n) {k} {l} h g v = go (λ i j b w. via_closure n (omega arith) b w) (split v)
    where
      go : ((i j : ℕ) → i < m → Via E n i j → leads_through E s n i j ≡ true) → Via E n k l ⊎ (Via E n k n × Via E n n l) →
          (leads_through E s n k l || (leads_through E s n k n && leads_through E s n n l)) ≡ true
      go before (inl w) = first_holds (leads_through E s n k l) (leads_through E s n k n && leads_through E s n n l) (before k l g w)
      go before (inr (v, w)) =
          second_holds (leads_through E s n k l) (leads_through E s n k n && leads_through E s n n l)
          (both_hold (leads_through E s n k n) (leads_through E s n n l) (before k n g v) (before n l (omega arith) w))

  leads_via : {k l : ℕ} → k < m → LeadsOn E k l → Via E m k l
  leads_via h (last x) = straight x
  leads_via h (more x y) = by_way_of x (leads_below h x) (leads_via (leads_below h x) y)

  closure_exact : (k l : ℕ) → k < m → (leads_through E s m k l ≡ true) ↔ LeadsOn E k l
  closure_exact k l h = (closure_leads m k l (omega arith) h, λ x. via_closure m (omega arith) h (leads_via h x))

-- OF A GRAMMAR THAT IS NOT REFUSED
pub leads_on_exact : (gs : List ℕ) → (grammar_refusal gs).number ≡ 0 → (k l : ℕ) → k < rules gs → (leads_on gs k l ≡ true) ↔ LeadsOn (expression gs) k l
unfolding leads_on
leads_on_exact gs good k l h =
    let closed = (good_grammar gs good).parts in
    closure_exact (expression gs) (rules gs) closed (nothing_of gs) (nothing_exact (expression gs) (rules gs) closed) k l h
