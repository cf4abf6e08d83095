-- The machine of a grammar's image has the table's rules and the row of its choice, and accepts in state done on the right marker. Assumes nothing.
use mathlib.Core.Path.{◌≡◌, refl, sym, ap, ◌∙◌}
use mathlib.Core.Bool.{Bool, true, false, ◌&&◌, cond}
use mathlib.Core.List.{List}
use Prim.Native.Nat.{ℕ, zero, suc, ◌+◌, ◌*◌, ◌/◌, ◌%◌, ◌^◌, ◌<◌, ◌≤◌}
use native.Mathlib.Nat.{one-le-pow, div-eq_of_lt}
use native.Mathlib.Numerals.{add-one}
use native.Mathlib.Omega.{arith}
use lib.Dec.{ltb, eqb}
use lib.ListN.{length}
use borrow.Author.Tests.{lt-ltb, le-ltb, eq-eqb, ne_eqb}
use Rattle.machine.specs.declared.Reason.TheVariants.{Missing}
use Rattle.machine.specs.declared.Action.TheVariants.{Stop, Change, Push, Pop}
use Rattle.machine.specs.Run.{config}
use Rattle.image.specs.Format.{finals_offset}
use Rattle.machine.specs.Terminating.{accepts_by}
use Rattle.codec.specs.Bytes.{byte}
use Rattle.codec.specs.Numbers.{u32_at}
use Rattle.image.specs.Image.{Rule, rule_at, class_under, moved, action_by, action, accepting, machine}
use Rattle.grammar.specs.Grammar.{rules, expression, grammar_refusal, range_of}
use Rattle.builder.specs.declared.Matching.{Matching}
use Rattle.builder.specs.declared.Matching.TheVariants.{Whole, Leading}
use Rattle.builder.specs.Classes.{class_of, class_count}
use Rattle.builder.specs.Table.{state_start, state_work, state_ok, state_fail, state_done, state_count, finals, first, symbol, rows, select, on_byte, row_zero, class_inside, rows_at, made}
use Rattle.builder.specs.Image.{symbols_of, built}
use Rattle.parsing_theory.proofs.Table.{Table, byte_action, ChoiceRow}
use Rattle.grammar.proofs.Matches.{matches, passes}
use Rattle.grammar.proofs.GrammarGood.{GoodGrammar, good_grammar}
use Rattle.builder.proofs.Classes.{byte_class_below, inside_byte, inside_marker}
use Rattle.builder.proofs.BuiltImage.{built_states, built_classes, built_symbols, built_finals, built_map, built_rule_at}

-- THE ROWS of a rule's two symbols
half_even : (k : ℕ) → 2 * k / 2 ≡ k
half_even k = omega arith

rest_even : (k : ℕ) → 2 * k % 2 ≡ 0
rest_even k = omega arith

half_odd : (k : ℕ) → suc (2 * k) / 2 ≡ k
half_odd k = omega arith

rest_odd : (k : ℕ) → suc (2 * k) % 2 ≡ 1
rest_odd k = omega arith

made_symbol :
    (how : Matching) (gs : List ℕ) (s : Bool) (p class k : ℕ) →
    made how gs p class (symbol s k) ≡ select (rows_at gs k class) s p
unfolding made
made_symbol how gs false p class k = rw (half_even k, rest_even k)
made_symbol how gs true p class k = rw (half_odd k, rest_odd k)

-- FINALS: of their number only the bit of done is 1
done_bit : (p : ℕ) → eqb (finals / 2 ^ p % 2) 1 ≡ eqb p state_done
done_bit zero = refl
done_bit (suc zero) = refl
done_bit (suc (suc zero)) = refl
done_bit (suc (suc (suc zero))) = refl
done_bit (suc (suc (suc (suc zero)))) = refl
done_bit (suc (suc (suc (suc (suc p))))) =
    let n : ℕ = suc (suc (suc (suc (suc p)))) in
    let h : 1 ≤ 2 ^ p = one-le-pow p 2 (omega arith) in
    let l : finals < 2 ^ n = omega arith in
    ap (λ (x : ℕ). eqb (x % 2) 1) (div-eq_of_lt l) ∙ sym (ne_eqb n state_done (λ e. omega arith))

built_final : (how : Matching) (gs : List ℕ) (p : ℕ) → eqb (u32_at (built how gs) finals_offset / 2 ^ p % 2) 1 ≡ eqb p state_done
built_final how gs p = ap (λ (x : ℕ). eqb (x / 2 ^ p % 2) 1) (built_finals how gs) ∙ done_bit p

module _ (how : Matching) (gs cs : List ℕ) (good : GoodGrammar gs) (bytes : (i : ℕ) → byte cs i < 256) where
  -- the class under head suc i
  abbrev class_at : (i : ℕ) → ℕ
  class_at i = cond (ltb i (length cs)) (class_of gs (byte cs i)) (class_count gs + 1)

  under : (i : ℕ) → class_under (built how gs) cs (suc i) ≡ class_at i
  unfolding class_under
  under i = rw (built_map how gs (byte cs i) (bytes i), built_classes how gs)

  under_left : class_under (built how gs) cs 0 ≡ class_count gs
  unfolding class_under
  under_left = built_classes how gs

  class_at_below : (i : ℕ) → class_at i < class_count gs + 2
  class_at_below i = go (ltb i (length cs))
    where
      go : (t : Bool) → cond t (class_of gs (byte cs i)) (class_count gs + 1) < class_count gs + 2
      go true = omega (arith, byte_class_below gs (byte cs i) (bytes i))
      go false = omega arith

  -- what a rule of the image does
  action_is :
      (p i a k : ℕ) → p < state_count → k < class_count gs + 2 → a < symbols_of gs → class_under (built how gs) cs i ≡ k →
      (machine (built how gs) cs).action (config p i a) ≡ action_by (made how gs p k a) i
  unfolding machine action
  action_is p i a k hp hk ha e =
      ap (λ (r : Rule). action_by r i) (ap (λ (x : ℕ). rule_at (built how gs) p x a) e ∙ built_rule_at how gs hp hk ha)

  zero_below : 0 < symbols_of gs
  unfolding symbols_of
  zero_below = omega arith

  symbol_below : (s : Bool) (k : ℕ) → k < rules gs → symbol s k < symbols_of gs
  unfolding symbols_of
  symbol_below false k h = omega arith
  symbol_below true k h = omega arith

  inside_at : (k i : ℕ) → k < rules gs → class_inside gs (range_of (expression gs k)) (class_at i) ≡ passes (expression gs) cs k i
  inside_at k i h = go (ltb i (length cs))
    where
      go :
          (t : Bool) →
          class_inside gs (range_of (expression gs k)) (cond t (class_of gs (byte cs i)) (class_count gs + 1))
          ≡ (t && matches (range_of (expression gs k)) (byte cs i))
      go true = inside_byte gs k (byte cs i) h (bytes i)
      go false = inside_marker gs (range_of (expression gs k)) (class_count gs + 1) (omega arith)

  at_symbol :
      (s : Bool) (p k i : ℕ) → p < state_count → k < rules gs →
      (machine (built how gs) cs).action (config p (suc i) (symbol s k))
      ≡ action_by (select (rows (expression gs k) k (passes (expression gs) cs k i)) s p) (suc i)
  unfolding rows_at
  at_symbol s p k i hp h =
      action_is p (suc i) (symbol s k) (class_at i) hp (class_at_below i) (symbol_below s k h) (under i)
      ∙ ap (λ (r : Rule). action_by r (suc i))
      (made_symbol how gs s p (class_at i) k ∙ ap (λ (t : Bool). select (rows (expression gs k) k t) s p) (inside_at k i h))

  at_zero :
      (p i k : ℕ) → p < state_count → k < class_count gs + 2 → class_under (built how gs) cs i ≡ k →
      (machine (built how gs) cs).action (config p i 0) ≡ action_by (row_zero how (class_count gs) p k) i
  unfolding made
  at_zero p i k hp hk e = action_is p i 0 k hp hk zero_below e

  -- the rows of symbol 0
  table_starts : (machine (built how gs) cs).action (config state_start 0 0) ≡ Push (config state_work 1 (first 0))
  unfolding row_zero action_by moved
  table_starts =
      at_zero state_start 0 (class_count gs) (omega arith) (omega arith) under_left
      ∙ rw (eq-eqb (class_count gs) (class_count gs) refl)

  under_byte : (i : ℕ) → i < length cs → class_under (built how gs) cs (suc i) ≡ class_of gs (byte cs i)
  under_byte i h = under i ∙ ap (λ (t : Bool). cond t (class_of gs (byte cs i)) (class_count gs + 1)) (lt-ltb i (length cs) h)

  under_right : class_under (built how gs) cs (suc (length cs)) ≡ class_count gs + 1
  under_right =
      under (length cs)
      ∙ ap (λ (t : Bool). cond t (class_of gs (byte cs (length cs))) (class_count gs + 1)) (le-ltb (length cs) (length cs) (omega arith))

  table_ends : (machine (built how gs) cs).action (config state_ok (suc (length cs)) 0) ≡ Pop state_done false
  unfolding row_zero action_by
  table_ends =
      at_zero state_ok (suc (length cs)) (class_count gs + 1) (omega arith) (omega arith) under_right
      ∙ rw (eq-eqb (class_count gs + 1) (class_count gs + 1) refl)

  -- the row that the choice decides
  byte_does : (i : ℕ) → action_by (on_byte how) (suc i) ≡ byte_action how i
  unfolding on_byte action_by moved
  byte_does i = go how
    where
      go : (m : Matching) → action_by (on_byte m) (suc i) ≡ byte_action m i
      go Whole = refl
      go Leading = ap (λ (h : ℕ). Change (config state_ok h 0)) (add-one (suc i))

  table_bytes : (i : ℕ) → i < length cs → (machine (built how gs) cs).action (config state_ok (suc i) 0) ≡ byte_action how i
  unfolding row_zero
  table_bytes i h =
      let l : class_of gs (byte cs i) < class_count gs = byte_class_below gs (byte cs i) (bytes i) in
      at_zero state_ok (suc i) (class_of gs (byte cs i)) (omega arith) (omega arith) (under_byte i h)
      ∙ rw (ne_eqb (class_of gs (byte cs i)) (class_count gs + 1) (λ e. omega arith), lt-ltb (class_of gs (byte cs i)) (class_count gs) l) (byte_does i)

  table_fail_stops : (i : ℕ) → (machine (built how gs) cs).action (config state_fail (suc i) 0) ≡ Stop Missing
  unfolding row_zero action_by
  table_fail_stops i = at_zero state_fail (suc i) (class_at i) (omega arith) (class_at_below i) (under i)

  table_symbols : (machine (built how gs) cs).symbols ≡ suc (2 * rules gs)
  unfolding machine symbols_of
  table_symbols = built_symbols how gs

  table_accepting : (p i : ℕ) → (machine (built how gs) cs).accepting p i ≡ (eqb p state_done && eqb (i + 1) (length cs + 2))
  unfolding machine accepting accepts_by
  table_accepting p i = ap (λ (t : Bool). t && eqb (i + 1) (length cs + 2)) (built_final how gs p)

  table_of : Table (machine (built how gs) cs) (expression gs) (rules gs) cs
  unfolding machine
  table_of =
      record {
        some_rule = good.rules_least;
        parts = good.parts;
        states_are = built_states how gs;
        places_are = refl;
        symbols_are = table_symbols;
        accepting_are = table_accepting;
        starts = table_starts;
        ends = table_ends;
        fail_stops = λ i h. table_fail_stops i;
        selects = λ s p k i l h b. at_symbol s p k i l h;
      }

pub table :
    (how : Matching) (gs cs : List ℕ) → (grammar_refusal gs).number ≡ 0 → ((i : ℕ) → byte cs i < 256) →
    Table (machine (built how gs) cs) (expression gs) (rules gs) cs
table how gs cs e bytes = table_of how gs cs (good_grammar gs e) bytes

pub choice :
    (how : Matching) (gs cs : List ℕ) → (grammar_refusal gs).number ≡ 0 → ((i : ℕ) → byte cs i < 256) → ChoiceRow how (machine (built how gs) cs) cs
choice how gs cs e bytes = record { on_bytes = table_bytes how gs cs (good_grammar gs e) bytes }
