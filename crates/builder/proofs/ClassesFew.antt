-- There are few byte classes: a rule cuts at two values at most. Assumes nothing.
use mathlib.Core.Path.{◌≡◌, refl, ap}
use mathlib.Core.Bool.{Bool, true, false, ◌&&◌, ◌||◌, cond}
use mathlib.Core.List.{List}
use Prim.Native.Nat.{ℕ, zero, suc, ◌+◌, ◌*◌, ◌<◌, ◌≤◌}
use native.Mathlib.Omega.{arith}
use lib.Dec.{leb, eqb}
use borrow.Author.Tests.{eqb-true, ne_eqb}
use Rattle.grammar.specs.declared.ByteRange.{ByteRange}
use Rattle.std.specs.Prelude.{Option, Some, None}
use Rattle.grammar.specs.Grammar.{max_rules, rules, expression, range_of}
use Rattle.builder.specs.Classes.{cuts_at, cut_from, cut, class_of, class_count}

abbrev bit : Bool → ℕ
bit t = cond t 1 0

-- how many values in 1..v pass a test
counted : (ℕ → Bool) → (v : ℕ) → ℕ
counted f zero = 0
counted f (suc v) = counted f v + bit (f (suc v))

bit_or : (a b : Bool) → bit (a || b) ≤ bit a + bit b
bit_or true true = omega arith
bit_or true false = omega arith
bit_or false true = omega arith
bit_or false false = omega arith

bit_or_and : (a b t : Bool) → bit ((a || b) && t) ≤ bit a + bit b
bit_or_and true b true = omega arith
bit_or_and true b false = omega arith
bit_or_and false true true = omega arith
bit_or_and false true false = omega arith
bit_or_and false false t = omega arith

counted_or :
    (f g h : ℕ → Bool) → ((u : ℕ) → bit (h u) ≤ bit (f u) + bit (g u)) → (v : ℕ) → counted h v ≤ counted f v + counted g v
unfolding counted
counted_or f g h e zero = omega arith
counted_or f g h e (suc v) =
    let l : counted h v ≤ counted f v + counted g v = counted_or f g h e v in
    let m : bit (h (suc v)) ≤ bit (f (suc v)) + bit (g (suc v)) = e (suc v) in
    omega arith

counted_none : (f : ℕ → Bool) → ((u : ℕ) → f u ≡ false) → (v : ℕ) → counted f v ≡ 0
unfolding counted
counted_none f e zero = refl
counted_none f e (suc v) =
    let l : counted f v ≡ 0 = counted_none f e v in
    let m : bit (f (suc v)) ≡ 0 = ap bit (e (suc v)) in
    omega arith

-- one value is counted once
counted_before : (b v : ℕ) → v < b → counted (eqb b) v ≡ 0
unfolding counted
counted_before b zero h = refl
counted_before b (suc v) h =
    let l : counted (eqb b) v ≡ 0 = counted_before b v (omega arith) in
    let m : bit (eqb b (suc v)) ≡ 0 = ap bit (ne_eqb b (suc v) (λ e. omega arith)) in
    omega arith

counted_once : (b v : ℕ) → counted (eqb b) v ≤ 1
unfolding counted
counted_once b zero = omega arith
counted_once b (suc v) = go (eqb b (suc v)) refl (counted_once b v)
  where
    go : (t : Bool) → eqb b (suc v) ≡ t → counted (eqb b) v ≤ 1 → counted (eqb b) v + bit (eqb b (suc v)) ≤ 1
    go true e l =
        let q : b ≡ suc v = eqb-true _ _ e in
        let z : counted (eqb b) v ≡ 0 = counted_before b v (omega arith) in
        let m : bit (eqb b (suc v)) ≡ 1 = ap bit e in
        omega arith
    go false e l = let m : bit (eqb b (suc v)) ≡ 0 = ap bit e in omega arith

none_most : (f : ℕ → Bool) (n : ℕ) → ((u : ℕ) → f u ≡ false) → (v : ℕ) → counted f v ≤ n
none_most f n e v = omega (arith, counted_none f e v)

cuts_most : (x : Option ByteRange) (v : ℕ) → counted (cuts_at x) v ≤ 2
unfolding cuts_at
cuts_most None v = none_most (cuts_at None) 2 (λ u. refl) v
cuts_most (Some r) v =
    let l : counted (cuts_at (Some r)) v ≤ counted (eqb r.low) v + counted (eqb (r.high + 1)) v =
    counted_or (eqb r.low) (eqb (r.high + 1)) (cuts_at (Some r)) (λ u. bit_or_and (eqb r.low u) (eqb (r.high + 1) u) (leb r.low r.high)) v
    in
    omega (arith, counted_once r.low v, counted_once (r.high + 1) v)

cut_most : (n k : ℕ) (gs : List ℕ) (v : ℕ) → counted (cut_from n k gs) v ≤ 2 * n
unfolding cut_from
cut_most zero k gs v = none_most (cut_from zero k gs) 0 (λ u. refl) v
cut_most (suc n) k gs v =
    let x : Option ByteRange = range_of (expression gs k) in
    let l : counted (cut_from (suc n) k gs) v ≤ counted (cuts_at x) v + counted (cut_from n (suc k) gs) v =
    counted_or (cuts_at x) (cut_from n (suc k) gs) (cut_from (suc n) k gs) (λ u. bit_or (cuts_at x u) (cut_from n (suc k) gs u)) v
    in
    let m : counted (cuts_at x) v ≤ 2 = cuts_most x v in
    let o : counted (cut_from n (suc k) gs) v ≤ 2 * n = cut_most n (suc k) gs v in
    omega arith

class_counted : (gs : List ℕ) (v : ℕ) → class_of gs v ≡ counted (cut gs) v
unfolding class_of counted
class_counted gs zero = refl
class_counted gs (suc v) = ap (λ (n : ℕ). n + bit (cut gs (suc v))) (class_counted gs v)

pub class_most : (gs : List ℕ) (v : ℕ) → class_of gs v ≤ 2 * rules gs
unfolding cut
class_most gs v =
    let l : counted (cut gs) v ≤ 2 * rules gs = cut_most (rules gs) 0 gs v in
    omega (arith, class_counted gs v)

pub class_count_most : (gs : List ℕ) → rules gs ≤ max_rules → class_count gs ≤ 63
unfolding class_count
class_count_most gs h = omega (arith, class_most gs 255)
