-- The rule test refuses just the rules that are not right; and the rules by index are the rules by state, class and symbol. Assumes nothing.
use mathlib.Core.Path.{◌≡◌, refl, sym, ◌∙◌, subst}
use mathlib.Core.List.{List}
use mathlib.Core.Logic.{◌⊎◌, inl, inr}
use Prim.Native.Nat.{ℕ, zero, suc, ◌+◌, ◌*◌, ◌/◌, ◌%◌, ◌<◌, ◌≤◌}
use native.Mathlib.Omega.{arith}
use Rattle.image.specs.Format
use Rattle.image.specs.Image.{states, classes, symbols, Rule, rule_from, rule_offset, rule_at}
use Rattle.image.specs.Refusals.{move_off, rule_bad, index_class, rule_count}
use Rattle.image.specs.Conditions.{TargetRight, RuleRight, none_right, change_right, push_right, pop_right, halt_right, RulesRight, FirstBadRule}
use Rattle.machine.proofs.Digits.{digits_below, middle_digit, high_below, middle_below, low_below, number_of_digits, third_positive}
use Rattle.refusal.proofs.Reflects.{Refuses, refuses_as, equal, both, either, unless, if_so, over, reaching, any_of, first_of, in_cases}
use Rattle.refusal.proofs.Searching.{Least}

-- ONE RULE, nested as the test is
module _ (bs : List ℕ) (class : ℕ) (r : Rule) where
  abbrev OnTape : Type 0
  OnTape = ((class ≡ classes bs) × (r.direction ≡ 2) → ⊥) × ((class ≡ classes bs + 1) × (r.direction ≡ 1) → ⊥)

  abbrev Stopping : Type 0
  Stopping = (r.kind ≡ 0) ⊎ (r.kind ≡ 4)

  abbrev Nothing : Type 0
  Nothing = (r.state ≡ 0) × ((r.symbol ≡ 0) × (r.direction ≡ 0))

  abbrev Popping : Type 0
  Popping = (r.symbol ≡ 0) × (r.direction ≤ 1)

  abbrev Moving : Type 0
  Moving = (r.symbol < symbols bs) × ((r.direction ≤ 2) × OnTape)

  abbrev Named : Type 0
  Named = (r.state < states bs) × ((r.kind ≡ 3 → Popping) × ((r.kind ≡ 3 → ⊥) → Moving))

  abbrev Nested : Type 0
  Nested = (r.kind ≤ 4) × ((Stopping → Nothing) × ((Stopping → ⊥) → Named))

  move_test : Refuses OnTape (move_off bs class r.direction)
  unfolding move_off
  move_test = any_of (if_so (both (equal _ _) (equal _ _))) (if_so (both (equal _ _) (equal _ _)))

  nested_test : Refuses Nested (rule_bad bs class r)
  unfolding rule_bad
  nested_test =
      first_of (over 4 r.kind)
      (in_cases (either (equal r.kind 0) (equal r.kind 4)) (unless (both (equal _ _) (both (equal _ _) (equal _ _))))
      (first_of (reaching (states bs) r.state)
      (in_cases (equal r.kind 3) (any_of (unless (equal _ _)) (over 1 r.direction))
      (any_of (reaching (symbols bs) r.symbol) (any_of (over 2 r.direction) move_test)))))

  target : Named → (r.kind ≡ 3 → ⊥) → TargetRight bs class r
  target n other =
      let m = n.1.1 other in
      record {
        state_below = n.0;
        symbol_below = m.0;
        direction_known = m.1.0;
        not_off_left = λ at moves. m.1.1.0 (at, moves);
        not_off_right = λ at moves. m.1.1.1 (at, moves);
      }

  -- a kind from 1 to 3 does not stop
  goes_on : 0 < r.kind → r.kind < 4 → Stopping → ⊥
  goes_on least most (inl e) = omega arith
  goes_on least most (inr e) = omega arith

  by_kind : Nested → (k : ℕ) → r.kind ≡ k → RuleRight bs class r
  by_kind n zero e = let z = n.1.0 (inl e) in none_right e z.0 z.1.0 z.1.1
  by_kind n (suc zero) e = change_right e (target (n.1.1 (goes_on (omega arith) (omega arith))) (λ z. omega arith))
  by_kind n (suc (suc zero)) e = push_right e (target (n.1.1 (goes_on (omega arith) (omega arith))) (λ z. omega arith))
  by_kind n (suc (suc (suc zero))) e =
      let named = n.1.1 (goes_on (omega arith) (omega arith)) in
      let pops = named.1.0 e in
      pop_right e named.0 pops.0 pops.1
  by_kind n (suc (suc (suc (suc zero)))) e = let z = n.1.0 (inr e) in halt_right e z.0 z.1.0 z.1.1
  by_kind n (suc (suc (suc (suc (suc k))))) e = absurd (omega (arith, n.0))

  moving : TargetRight bs class r → Moving
  moving t =
      (t.symbol_below, (t.direction_known, (λ s. t.not_off_left s.0 s.1, λ s. t.not_off_right s.0 s.1)))

  nested : RuleRight bs class r → Nested
  nested (none_right e p a m) = (omega arith, (λ z. (p, (a, m)), λ z. absurd (z (inl e))))
  nested (change_right e t) =
      (omega arith, (λ z. absurd (goes_on (omega arith) (omega arith) z), λ z. (t.state_below, (λ s. absurd (omega arith), λ s. moving t))))
  nested (push_right e t) =
      (omega arith, (λ z. absurd (goes_on (omega arith) (omega arith) z), λ z. (t.state_below, (λ s. absurd (omega arith), λ s. moving t))))
  nested (pop_right e p a m) =
      (omega arith, (λ z. absurd (goes_on (omega arith) (omega arith) z), λ z. (p, (λ s. (a, m), λ s. absurd (s e)))))
  nested (halt_right e p a m) = (omega arith, (λ z. (p, (a, m)), λ z. absurd (z (inr e))))

  pub rule_test : Refuses (RuleRight bs class r) (rule_bad bs class r)
  rule_test = refuses_as (λ n. by_kind n r.kind refl) nested nested_test

-- THE RULE WITH AN INDEX, as the check goes through them
abbrev pub IndexRight : List ℕ → (i : ℕ) → Type 0
IndexRight bs i = RuleRight bs (index_class bs i) (rule_from bs (Format.rules_offset + Format.rule_length * i))

abbrev index_of : List ℕ → (p class a : ℕ) → ℕ
index_of bs p k a = (p * (classes bs + 2) + k) * symbols bs + a

-- of a state, a class and a symbol that are there
module _ (bs : List ℕ) (p k a : ℕ) (hk : k < classes bs + 2) (ha : a < symbols bs) where
  class_is : index_class bs (index_of bs p k a) ≡ k
  unfolding index_class
  class_is = middle_digit p hk ha

  from_index : IndexRight bs (index_of bs p k a) → RuleRight bs k (rule_at bs p k a)
  unfolding rule_at rule_offset
  from_index h =
      subst (λ (c : ℕ). RuleRight bs c (rule_from bs (Format.rules_offset + Format.rule_length * index_of bs p k a))) class_is h

  to_index : RuleRight bs k (rule_at bs p k a) → IndexRight bs (index_of bs p k a)
  unfolding rule_at rule_offset
  to_index h =
      subst (λ (c : ℕ). RuleRight bs c (rule_from bs (Format.rules_offset + Format.rule_length * index_of bs p k a))) (sym class_is) h

  offset_is : rule_offset bs p k a ≡ Format.rules_offset + Format.rule_length * index_of bs p k a
  unfolding rule_offset
  offset_is = refl

  below_count : p < states bs → index_of bs p k a < rule_count bs
  unfolding rule_count
  below_count hp = digits_below hp hk ha

-- the state, the class and the symbol of an index
record Selected (bs : List ℕ) (i : ℕ) : Type 0 where
  state : ℕ
  class : ℕ
  symbol : ℕ
  state_below : state < states bs
  class_below : class < classes bs + 2
  symbol_below : symbol < symbols bs
  index_is : index_of bs state class symbol ≡ i

selected : (bs : List ℕ) (i : ℕ) → i < rule_count bs → Selected bs i
unfolding rule_count
selected bs i h =
    let some : 0 < symbols bs = third_positive (states bs) (classes bs + 2) (symbols bs) h in
    record {
      state = i / symbols bs / (classes bs + 2);
      class = i / symbols bs % (classes bs + 2);
      symbol = i % symbols bs;
      state_below = high_below i (omega arith) some h;
      class_below = middle_below (symbols bs) i (omega arith);
      symbol_below = low_below i some;
      index_is = number_of_digits (classes bs + 2) (symbols bs) i;
    }

-- what holds of the rule of each state, class and symbol holds of each rule by its index
pub each_index :
    (bs : List ℕ) (P : Rule → Type 0) → ((p k a : ℕ) → p < states bs → k < classes bs + 2 → a < symbols bs → P (rule_at bs p k a)) →
    (i : ℕ) → i < rule_count bs → P (rule_from bs (Format.rules_offset + Format.rule_length * i))
unfolding rule_at rule_offset
each_index bs P h i less =
    let s = selected bs i less in
    subst (λ (j : ℕ). P (rule_from bs (Format.rules_offset + Format.rule_length * j))) s.index_is
    (h s.state s.class s.symbol s.state_below s.class_below s.symbol_below)

module _ (bs : List ℕ) where
  -- what holds of each state, class and symbol whose rule's offset is less holds of each lesser index
  lesser_indices :
      (n : ℕ) → n ≤ rule_count bs →
      ((p k a : ℕ) → p < states bs → k < classes bs + 2 → a < symbols bs → rule_offset bs p k a < Format.rules_offset + Format.rule_length * n →
      RuleRight bs k (rule_at bs p k a)) →
      (i : ℕ) → i < n → IndexRight bs i
  lesser_indices n most h i less =
      let s = selected bs i (omega arith) in
      let near = offset_is bs s.state s.class s.symbol s.class_below s.symbol_below in
      subst (IndexRight bs) s.index_is
      (to_index bs s.state s.class s.symbol s.class_below s.symbol_below
      (h s.state s.class s.symbol s.state_below s.class_below s.symbol_below (omega (arith, s.index_is))))

  pub rules_by_index : RulesRight bs → (i : ℕ) → i < rule_count bs → IndexRight bs i
  rules_by_index h = lesser_indices (rule_count bs) (omega arith) (λ p k a hp hk ha less. h p k a hp hk ha)

  pub rules_by_selection : ((i : ℕ) → i < rule_count bs → IndexRight bs i) → RulesRight bs
  rules_by_selection h p k a hp hk ha =
      from_index bs p k a hk ha (h (index_of bs p k a) (below_count bs p k a hk ha hp))

  -- the first bad rule is that of the least index, both ways
  pub first_bad : (i : ℕ) → Least (IndexRight bs) (rule_count bs) i → FirstBadRule bs (Format.rules_offset + Format.rule_length * i)
  first_bad i l =
      let s = selected bs i l.below in
      let there = offset_is bs s.state s.class s.symbol s.class_below s.symbol_below in
      record {
        state = s.state;
        class = s.class;
        symbol = s.symbol;
        state_below = s.state_below;
        class_below = s.class_below;
        symbol_below = s.symbol_below;
        place_is = omega (arith, s.index_is);
        bad =
            λ r. l.lacks
            (subst (IndexRight bs) s.index_is
            (to_index bs s.state s.class s.symbol s.class_below s.symbol_below r));
        before =
            λ p k a hp hk ha less. from_index bs p k a hk ha
            (l.before (index_of bs p k a) (omega (arith, offset_is bs p k a hk ha)));
      }

  module _ (o : ℕ) (f : FirstBadRule bs o) where
    abbrev pub bad_index : ℕ
    bad_index = index_of bs f.state f.class f.symbol

    pub bad_place : o ≡ Format.rules_offset + Format.rule_length * bad_index
    bad_place =
        f.place_is ∙ offset_is bs f.state f.class f.symbol f.class_below f.symbol_below

    pub least_bad : Least (IndexRight bs) (rule_count bs) bad_index
    least_bad =
        let below = below_count bs f.state f.class f.symbol f.class_below f.symbol_below f.state_below in
        record {
          below = below;
          lacks = λ h. f.bad (from_index bs f.state f.class f.symbol f.class_below f.symbol_below h);
          before =
              lesser_indices bad_index (omega arith)
              (λ p k a hp hk ha less. f.before p k a hp hk ha (omega (arith, bad_place)));
        }
