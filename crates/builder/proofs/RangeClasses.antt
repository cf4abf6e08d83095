-- Byte classes in the paper's words: a class counts the cuts up to a byte, and a range has the classes of its bytes. Assumes nothing.
use mathlib.Core.Path.{◌≡◌, refl, sym, ap}
use mathlib.Core.Bool.{Bool, true, false, ◌||◌, cond}
use mathlib.Core.List.Memᴰ
use mathlib.Core.List.{List, [], ◌∷◌, Memᴰ}
use mathlib.Core.Logic.{◌↔◌, ◌⊎◌, inl, inr}
use Prim.Native.Nat.{ℕ, zero, suc, ◌+◌, ◌-◌, ◌<◌, ◌≤◌}
use native.Mathlib.Decide.{dec_le, ℕ_discrete}
use native.Mathlib.Omega.{arith}
use lib.Dec.{leb, eqb}
use borrow.Author.Tests.{leb-true, le-leb, eqb-true, eq-eqb}
use Rattle.machine.specs.Verdicts.{nil, cons}
use Rattle.grammar.proofs.Matches.{between}
use Rattle.grammar.specs.declared.Expression.{Expression}
use Rattle.grammar.specs.declared.Expression.TheVariants.{Sequence, Choice, Not, Empty, Range}
use Rattle.grammar.specs.Grammar.{rules, expression, range_of}
use Rattle.builder.specs.Classes.{cuts_at, cut_from, cut, class_of, class_in}
use Rattle.builder.specs.ClassMeaning.{RangeCut, ClassCounts, ByteOfClass}
use Rattle.grammar.proofs.Bools.{both_true, both_hold, first_holds, second_holds}
use Rattle.builder.proofs.Classes.{cut_of_rule, class_monotone}

-- A RANGE HAS ITS BYTES' CLASSES: classes rise by one at most, so none is left out
class_rises : (gs : List ℕ) (v : ℕ) → class_of gs (suc v) ≤ suc (class_of gs v)
unfolding class_of
class_rises gs v = go (cut gs (suc v))
  where
    go : (t : Bool) → class_of gs v + cond t 1 0 ≤ suc (class_of gs v)
    go true = omega arith
    go false = omega arith

byte_between :
    (gs : List ℕ) (b k n c : ℕ) → b + n ≡ c → class_of gs b ≤ k → k ≤ class_of gs c → ByteOfClass gs b c k
byte_between gs b k zero c e low high =
    let same : b ≡ c = omega arith in
    let last : class_of gs b ≡ class_of gs c = ap (class_of gs) same in
    record { value = b; from_low = omega arith; to_high = omega arith; class_is = omega arith }
byte_between gs b k (suc n) zero e low high = absurd (omega arith)
byte_between gs b k (suc n) (suc c) e low high = go (λ h. byte_between gs b k n c (omega arith) low h) (dec_le k (class_of gs c))
  where
    go : (k ≤ class_of gs c → ByteOfClass gs b c k) → Dec (k ≤ class_of gs c) → ByteOfClass gs b (suc c) k
    go rest (yes h) =
        let x = rest h in
        record { value = x.value; from_low = x.from_low; to_high = omega (arith, x.to_high); class_is = x.class_is }
    go rest (no h) =
        record { value = suc c; from_low = omega arith; to_high = omega arith; class_is = omega (arith, class_rises gs c) }

pub range_classes : (gs : List ℕ) (b c k : ℕ) → class_in gs b c k ≡ true ↔ ByteOfClass gs b c k
unfolding class_in
range_classes gs b c k = (there, back)
  where
    there : class_in gs b c k ≡ true → ByteOfClass gs b c k
    there e =
        let (order, classes) = both_true (leb b c) _ e in
        let (low, high) = both_true (leb (class_of gs b) k) (leb k (class_of gs c)) classes in
        let h : b ≤ c = leb-true _ _ order in
        byte_between gs b k (c - b) c (omega arith) (leb-true _ _ low) (leb-true _ _ high)

    back : ByteOfClass gs b c k → class_in gs b c k ≡ true
    back x =
        let low : class_of gs b ≤ k = omega (arith, class_monotone gs b x.value x.from_low, x.class_is) in
        let high : k ≤ class_of gs c = omega (arith, class_monotone gs x.value c x.to_high, x.class_is) in
        let h : b ≤ c = omega (arith, x.from_low, x.to_high) in
        rw (le-leb b c h, le-leb _ _ low, le-leb _ _ high)

-- A CUT IS A RANGE'S: the test says what the record says
either_true : (a b : Bool) → (a || b) ≡ true → (a ≡ true) ⊎ (b ≡ true)
either_true true b e = inl refl
either_true false b e = inr e

ends_at : (b c u : ℕ) → cuts_at (between b c) u ≡ true → ((u ≡ b) ⊎ (u ≡ c + 1)) × (b ≤ c)
unfolding cuts_at
ends_at b c u e =
    let (ends, order) = both_true (eqb b u || eqb (c + 1) u) (leb b c) e in
    (go (either_true (eqb b u) (eqb (c + 1) u) ends), leb-true b c order)
  where
    go : (eqb b u ≡ true) ⊎ (eqb (c + 1) u ≡ true) → (u ≡ b) ⊎ (u ≡ c + 1)
    go (inl p) = inl (sym (eqb-true b u p))
    go (inr p) = inr (sym (eqb-true (c + 1) u p))

cuts_end : (b c u : ℕ) → (u ≡ b) ⊎ (u ≡ c + 1) → b ≤ c → cuts_at (between b c) u ≡ true
unfolding cuts_at
cuts_end b c u end order = both_hold (eqb b u || eqb (c + 1) u) (leb b c) (go end) (le-leb b c order)
  where
    go : (u ≡ b) ⊎ (u ≡ c + 1) → (eqb b u || eqb (c + 1) u) ≡ true
    go (inl e) = first_holds (eqb b u) (eqb (c + 1) u) (eq-eqb b u (sym e))
    go (inr e) = second_holds (eqb b u) (eqb (c + 1) u) (eq-eqb (c + 1) u (sym e))

module _ (gs : List ℕ) (u : ℕ) where
  cut_of_expression : (k : ℕ) → k < rules gs → (x : Expression) → expression gs k ≡ x → cuts_at (range_of x) u ≡ true → RangeCut gs u
  unfolding cuts_at range_of
  cut_of_expression k h (Sequence b c) e q = absurd (let z : ◌≡◌ {A = ℕ} 0 1 = cc in omega arith)
  cut_of_expression k h (Choice b c) e q = absurd (let z : ◌≡◌ {A = ℕ} 0 1 = cc in omega arith)
  cut_of_expression k h (Not b) e q = absurd (let z : ◌≡◌ {A = ℕ} 0 1 = cc in omega arith)
  cut_of_expression k h Empty e q = absurd (let z : ◌≡◌ {A = ℕ} 0 1 = cc in omega arith)
  cut_of_expression k h (Range b c) e q =
      let (end, order) = ends_at b c u q in
      record { rule = k; low = b; high = c; there = h; is = e; in_order = order; at_end = end }

  cut_among : (n k : ℕ) → n + k ≡ rules gs → cut_from n k gs u ≡ true → RangeCut gs u
  unfolding cut_from
  cut_among zero k e q = absurd (let z : ◌≡◌ {A = ℕ} 0 1 = cc in omega arith)
  cut_among (suc n) k e q =
      go (λ p. cut_among n (suc k) (omega arith) p) (either_true (cuts_at (range_of (expression gs k)) u) (cut_from n (suc k) gs u) q)
    where
      go :
          (cut_from n (suc k) gs u ≡ true → RangeCut gs u) →
          (cuts_at (range_of (expression gs k)) u ≡ true) ⊎ (cut_from n (suc k) gs u ≡ true) → RangeCut gs u
      go rest (inl p) = cut_of_expression k (omega arith) (expression gs k) refl p
      go rest (inr p) = rest p

  pub cut_found : cut gs u ≡ true → RangeCut gs u
  unfolding cut
  cut_found q = cut_among (rules gs) 0 (omega arith) q

  pub cut_holds : RangeCut gs u → cut gs u ≡ true
  unfolding range_of
  cut_holds x = cut_of_rule gs x.rule u x.there (rw x.is (cuts_end x.low x.high u x.at_end x.in_order))

-- A CLASS COUNTS: one value more, with its cut or without
counts_none : (gs : List ℕ) → ClassCounts gs 0
unfolding class_of
counts_none gs =
    record {
      cuts = [];
      distinct = nil;
      only = λ u m. absurd (Memᴰ.not-nil m);
      all = λ u a b x. absurd (omega arith);
      counted = refl;
    }

counts_next : (gs : List ℕ) (v : ℕ) → ClassCounts gs v → (t : Bool) → cut gs (suc v) ≡ t → ClassCounts gs (suc v)
unfolding class_of
counts_next gs v w true q =
    record {
      cuts = suc v ∷ w.cuts;
      distinct = cons fresh w.distinct;
      only = λ u m. among u (Memᴰ.cases_cons m);
      all = λ u a b x. found u a b x (ℕ_discrete u (suc v));
      counted = rw q (omega (arith, w.counted));
    }
  where
    fresh : Memᴰ (suc v) w.cuts → ⊥
    fresh m = omega (arith, (w.only (suc v) m).1)

    among : (u : ℕ) → (u ≡ suc v) ⊎ Memᴰ u w.cuts → (1 ≤ u) × (u ≤ suc v) × RangeCut gs u
    among u (inl e) = (omega arith, omega arith, cut_found gs u (rw e q))
    among u (inr m) = let (a, b, x) = w.only u m in (a, omega arith, x)

    found : (u : ℕ) → 1 ≤ u → u ≤ suc v → RangeCut gs u → Dec (u ≡ suc v) → Memᴰ u (suc v ∷ w.cuts)
    found u a b x (yes e) = Memᴰ.head e
    found u a b x (no f) = Memᴰ.tail (w.all u a (omega arith) x)
counts_next gs v w false q =
    record {
      cuts = w.cuts;
      distinct = w.distinct;
      only = λ u m. let (a, b, x) = w.only u m in (a, omega arith, x);
      all = λ u a b x. w.all u a (before u x b) x;
      counted = rw q (omega (arith, w.counted));
    }
  where
    no_cut : (u : ℕ) → RangeCut gs u → u ≡ suc v → ⊥
    no_cut u x e =
        let yes_cut : cut gs (suc v) ≡ true = rw e at (cut_holds gs u x) in
        let z : ◌≡◌ {A = ℕ} 0 1 = cc in
        omega arith

    before : (u : ℕ) → RangeCut gs u → u ≤ suc v → u ≤ v
    before u x b = omega (arith, no_cut u x)

pub classes_count : (gs : List ℕ) (v : ℕ) → ClassCounts gs v
classes_count gs zero = counts_none gs
classes_count gs (suc v) = counts_next gs v (classes_count gs v) (cut gs (suc v)) refl
