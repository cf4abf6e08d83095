-- The check's refusal by its rows: a number and a place are its answer exactly if the grammar has their row. Assumes nothing.
use mathlib.Core.Path.{◌≡◌, refl, sym, ap, ◌∙◌}
use mathlib.Core.Bool.{Bool, true, false, false≢true}
use mathlib.Core.List.{List}
use mathlib.Core.Logic.{◌↔◌}
use Prim.Native.Nat.{ℕ, ◌<◌}
use native.Mathlib.Omega.{arith}
use Rattle.refusal.specs.declared.Refusal.{Refusal}
use Rattle.refusal.specs.First.{refusal, no_refusal}
use Rattle.refusal.proofs.Reflects.{Refuses, it_passes, it_refuses, passing}
use Rattle.refusal.proofs.Searching.{Looked, all_have, lacking, look, Search, none_found, first_found}
use Rattle.refusal.proofs.Rows.{SomeRow, Table, exactly, row_numbered, stops, goes_on, then_row}
use Rattle.grammar.specs.Grammar.{rules, grammar_refusal}
use Rattle.grammar.specs.Conditions.{GrammarRight}
use Rattle.grammar.proofs.ConditionsMet.{grammar_check}
use Rattle.recursion.specs.LeftRecursion.{LeftRecursive, LowestRecursive, Passes, RecursionRow, no_recursion, bad_grammar, recursive}
use Rattle.recursion.specs.Computed.{leads_on, recursion_from, recursion_refusal}
use Rattle.recursion.proofs.ClosureRight.{leads_on_exact}

module _ (gs : List ℕ) where
  -- the search, by the computed test
  abbrev Clear : ℕ → Type 0
  Clear k = leads_on gs k k ≡ false

  clear_test : (k : ℕ) → Refuses (Clear k) (leads_on gs k k)
  clear_test k = go (leads_on gs k k) refl
    where
      go : (b : Bool) → leads_on gs k k ≡ b → Refuses (Clear k) b
      go true e = it_refuses (λ f. false≢true (sym f ∙ e))
      go false e = it_passes e

  recursion_search : Search (λ (n k : ℕ). recursion_from n k gs) (refusal 19) Clear
  unfolding recursion_from
  recursion_search =
      record { refuses = λ k. leads_on gs k k; tests = clear_test; none_left = λ k. refl; one_more = λ n k. refl }

  module _ (right : GrammarRight gs) where
    good : (grammar_refusal gs).number ≡ 0
    good = ap (λ (f : Refusal). f.number) ((grammar_check gs).accepted right)

    -- the test, in the request's words
    clear_of : (k : ℕ) → k < rules gs → Clear k → LeftRecursive gs k → ⊥
    clear_of k h c x = false≢true (sym c ∙ (leads_on_exact gs good k k h).1 x)

    of_clear : (k : ℕ) → k < rules gs → (LeftRecursive gs k → ⊥) → Clear k
    of_clear k h none = go (leads_on gs k k) refl
      where
        go : (b : Bool) → leads_on gs k k ≡ b → b ≡ false
        go true e = absurd (none ((leads_on_exact gs good k k h).0 e))
        go false e = refl

    back_of : (k : ℕ) → k < rules gs → (Clear k → ⊥) → LeftRecursive gs k
    back_of k h n = go (leads_on gs k k) refl
      where
        go : (b : Bool) → leads_on gs k k ≡ b → LeftRecursive gs k
        go true e = (leads_on_exact gs good k k h).0 e
        go false e = absurd (n e)

    second_row : Looked Clear (rules gs) → SomeRow (RecursionRow gs)
    second_row (all_have all) = (0, 0, no_recursion (record { right = right; none_back = λ k h. clear_of k h (all k h) }))
    second_row (lacking k l) = (
      19,
      k,
      recursive right
          (record { below = l.below; leads_back = back_of k l.below l.lacks; before = λ j h. clear_of j (omega (arith, l.below)) (l.before j h) }),
    )

    none_refused : ((k : ℕ) → k < rules gs → LeftRecursive gs k → ⊥) → recursion_from (rules gs) 0 gs ≡ no_refusal
    none_refused none = none_found recursion_search (rules gs) 0 (λ k least most. of_clear k (omega arith) (none k (omega arith)))

    lowest_refused : (k : ℕ) → LowestRecursive gs k → recursion_from (rules gs) 0 gs ≡ refusal 19 k
    lowest_refused k l =
        first_found recursion_search (rules gs) 0 k (omega arith) (omega (arith, l.below)) (λ c. clear_of k l.below c l.leads_back)
        (λ j least less. of_clear j (omega (arith, l.below)) (l.before j less))

  -- EACH GRAMMAR HAS A ROW
  some_row : SomeRow (RecursionRow gs)
  some_row =
      then_row (grammar_check gs) (λ n o r some. bad_grammar some r) (λ right. second_row right (look Clear (λ k. passing (clear_test k)) (rules gs)))

  -- AND ITS ROW IS THE CHECK'S ANSWER
  row_answers : (n o : ℕ) → RecursionRow gs n o → recursion_refusal gs ≡ refusal n o
  unfolding recursion_refusal
  row_answers n o (no_recursion p) = goes_on (grammar_check gs) (recursion_from (rules gs) 0 gs) p.right (none_refused p.right p.none_back)
  row_answers n o (bad_grammar some r) = stops (grammar_check gs) (recursion_from (rules gs) 0 gs) r some
  row_answers n o (recursive right l) = goes_on (grammar_check gs) (recursion_from (rules gs) 0 gs) right (lowest_refused right o l)

  recursion_table : Table (recursion_refusal gs) (RecursionRow gs)
  recursion_table = record { row = some_row; answers = row_answers }

  pub recursion_answer : (n p : ℕ) → (recursion_refusal gs ≡ refusal n p) ↔ RecursionRow gs n p
  recursion_answer = exactly recursion_table

  -- 0: the grammar passes
  pub passes : (recursion_refusal gs).number ≡ 0 → Passes gs
  passes e = go (row_numbered recursion_table e)
    where
      go : {p : ℕ} → RecursionRow gs 0 p → Passes gs
      go (no_recursion p) = p
      go (bad_grammar some r) = absurd (some refl)
