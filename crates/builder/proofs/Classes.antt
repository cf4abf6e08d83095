-- Byte classes: they grow with the byte, a cut separates, and so a class is in a range exactly if its bytes are. Assumes nothing.
use mathlib.Core.Path.{◌≡◌, refl, sym, ap, subst}
use mathlib.Core.Bool.{Bool, true, false, ◌&&◌, cond}
use mathlib.Core.List.{List}
use Prim.Native.Nat.{ℕ, zero, suc, ◌+◌, ◌-◌, ◌<◌, ◌≤◌}
use native.Mathlib.Nat.{zero-add, le_of_eq, le_trans}
use native.Mathlib.Decide.{dec_le}
use native.Mathlib.Omega.{arith}
use lib.Dec.{leb}
use borrow.Author.Tests.{ltb-true, leb-true, leb-false, le-leb, lt-leb, lt-ltb, le-ltb, eq-eqb, ne_eqb}
use Rattle.grammar.specs.declared.ByteRange.{ByteRange}
use Rattle.std.specs.Prelude.{Option, Some, None}
use Rattle.grammar.proofs.Matches.{between}
use Rattle.grammar.specs.Grammar.{rules, expression, range_of}
use Rattle.grammar.specs.Parsing.{in_range}
use Rattle.builder.specs.Classes.{cuts_at, cut_from, cut, class_of, class_count, class_in}
use Rattle.builder.specs.Table.{class_inside}
use Rattle.grammar.proofs.Bools.{both_true, first_holds, second_holds}
use Rattle.grammar.proofs.Matches.{matches}
use Rattle.grammar.proofs.Inverted.{none_between}

-- CUTS: where a rule cuts, the grammar does
cut_there : (n k j m v : ℕ) (gs : List ℕ) → k + j ≡ m → j < n → cuts_at (range_of (expression gs m)) v ≡ true → cut_from n k gs v ≡ true
unfolding cut_from
cut_there zero k j m v gs e h q = absurd (omega arith)
cut_there (suc n) k zero m v gs e h q =
    first_holds (cuts_at (range_of (expression gs k)) v) (cut_from n (suc k) gs v) (subst (λ (l : ℕ). cuts_at (range_of (expression gs l)) v ≡ true) (omega arith) q)
cut_there (suc n) k (suc j) m v gs e h q =
    second_holds (cuts_at (range_of (expression gs k)) v) (cut_from n (suc k) gs v) (cut_there n (suc k) j m v gs (omega arith) (omega arith) q)

pub cut_of_rule : (gs : List ℕ) (k v : ℕ) → k < rules gs → cuts_at (range_of (expression gs k)) v ≡ true → cut gs v ≡ true
unfolding cut
cut_of_rule gs k v h q = cut_there (rules gs) 0 k k v gs (zero-add k) h q

-- a range in order cuts at its first byte and after its last
cuts_low : (b c : ℕ) → b ≤ c → cuts_at (between b c) b ≡ true
unfolding cuts_at
cuts_low b c h = rw (eq-eqb b b refl) (le-leb b c h)

cuts_high : (b c : ℕ) → b ≤ c → cuts_at (between b c) (c + 1) ≡ true
unfolding cuts_at
cuts_high b c h = rw (ne_eqb b (c + 1) (λ e. omega arith), eq-eqb (c + 1) (c + 1) refl) (le-leb b c h)

-- CLASSES GROW, strictly over a cut
class_step : (gs : List ℕ) (v : ℕ) → class_of gs v ≤ class_of gs (suc v)
unfolding class_of
class_step gs v = omega arith

class_over_cut : (gs : List ℕ) (v : ℕ) → cut gs (suc v) ≡ true → class_of gs (suc v) ≡ class_of gs v + 1
unfolding class_of
class_over_cut gs v q = ap (λ (t : Bool). class_of gs v + cond t 1 0) q

class_grows : (gs : List ℕ) (v w n : ℕ) → v + n ≡ w → class_of gs v ≤ class_of gs w
class_grows gs v w zero e = let q : v ≡ w = omega arith in le_of_eq (ap (class_of gs) q)
class_grows gs v zero (suc n) e = absurd (omega arith)
class_grows gs v (suc w) (suc n) e = le_trans (class_grows gs v w n (omega arith)) (class_step gs w)

pub class_monotone : (gs : List ℕ) (v w : ℕ) → v ≤ w → class_of gs v ≤ class_of gs w
class_monotone gs v w h = class_grows gs v w (w - v) (omega arith)

pub class_apart : (gs : List ℕ) (v w : ℕ) → v < w → cut gs w ≡ true → class_of gs v < class_of gs w
class_apart gs v zero h q = absurd (omega arith)
class_apart gs v (suc w) h q =
    let l : class_of gs v ≤ class_of gs w = class_monotone gs v w (omega arith) in
    omega (arith, class_over_cut gs w q)

-- every byte's class is below K
pub byte_class_below : (gs : List ℕ) (v : ℕ) → v < 256 → class_of gs v < class_count gs
unfolding class_count
byte_class_below gs v h =
    let l : class_of gs v ≤ class_of gs 255 = class_monotone gs v 255 (omega arith) in
    omega arith

-- A RANGE by classes
module _ (gs : List ℕ) (k b c : ℕ) (there : k < rules gs) (is : range_of (expression gs k) ≡ between b c) (order : b ≤ c) where
  low_end : (v : ℕ) → leb (class_of gs b) (class_of gs v) ≡ leb b v
  low_end v = go (leb b v) refl
    where
      go : (t : Bool) → leb b v ≡ t → leb (class_of gs b) (class_of gs v) ≡ t
      go true e = le-leb _ _ (class_monotone gs b v (leb-true b v e))
      go false e =
          lt-leb _ _
          (class_apart gs v b (leb-false b v e)
          (cut_of_rule gs k b there (subst (λ (x : Option ByteRange). cuts_at x b ≡ true) (sym is) (cuts_low b c order))))

  high_end : (v : ℕ) → leb (class_of gs v) (class_of gs c) ≡ leb v c
  high_end v = go (leb v c) refl
    where
      over : class_of gs c < class_of gs (c + 1)
      over =
          class_apart gs c (c + 1) (omega arith)
          (cut_of_rule gs k (c + 1) there (subst (λ (x : Option ByteRange). cuts_at x (c + 1) ≡ true) (sym is) (cuts_high b c order)))

      go : (t : Bool) → leb v c ≡ t → leb (class_of gs v) (class_of gs c) ≡ t
      go true e = le-leb _ _ (class_monotone gs v c (leb-true v c e))
      go false e =
          let l : c < v = leb-false v c e in
          lt-leb _ _ (le_trans over (class_monotone gs (c + 1) v (omega arith)))

  class_in_order : (v : ℕ) → class_in gs b c (class_of gs v) ≡ in_range b c v
  unfolding class_in in_range
  class_in_order v = rw (le-leb b c order, low_end v, high_end v)

-- a range that is not in order has neither class nor byte
class_in_none : (gs : List ℕ) (b c v : ℕ) → c < b → class_in gs b c (class_of gs v) ≡ in_range b c v
unfolding class_in
class_in_none gs b c v h = rw (lt-leb b c h) (sym (none_between b c v h))

pub class_in_range :
    (gs : List ℕ) (k b c : ℕ) → k < rules gs → range_of (expression gs k) ≡ between b c → (v : ℕ) →
    class_in gs b c (class_of gs v) ≡ in_range b c v
class_in_range gs k b c there is v = go (dec_le b c)
  where
    go : Dec (b ≤ c) → class_in gs b c (class_of gs v) ≡ in_range b c v
    go (yes h) = class_in_order gs k b c there is h v
    go (no h) = class_in_none gs b c v (omega arith)

-- WHETHER A RULE HAS THE CLASS: a byte's class exactly if the rule matches the byte, and no marker's
pub inside_byte :
    (gs : List ℕ) (k v : ℕ) → k < rules gs → v < 256 →
    class_inside gs (range_of (expression gs k)) (class_of gs v) ≡ matches (range_of (expression gs k)) v
unfolding class_inside matches
inside_byte gs k v there h = go (range_of (expression gs k)) refl
  where
    go : (x : Option ByteRange) → range_of (expression gs k) ≡ x → class_inside gs x (class_of gs v) ≡ matches x v
    go None e = refl
    go (Some r) e = rw (lt-ltb _ _ (byte_class_below gs v h)) (class_in_range gs k r.low r.high there e v)

pub inside_below : (gs : List ℕ) (x : Option ByteRange) (k : ℕ) → class_inside gs x k ≡ true → k < class_count gs
unfolding class_inside
inside_below gs None k e = absurd (let z : ◌≡◌ {A = ℕ} 0 1 = cc in omega arith)
inside_below gs (Some r) k e = ltb-true k (class_count gs) (both_true _ (class_in gs r.low r.high k) e).0

pub inside_marker : (gs : List ℕ) (x : Option ByteRange) (k : ℕ) → class_count gs ≤ k → class_inside gs x k ≡ false
unfolding class_inside
inside_marker gs None k h = refl
inside_marker gs (Some r) k h = ap (λ (t : Bool). t && class_in gs r.low r.high k) (le-ltb k (class_count gs) h)
