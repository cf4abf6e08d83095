-- What the grammar's refusals mean: each grammar has just one row of the paper's table, and the check's answer is that row's. So no refusal is given just if all conditions hold, and a refused place is the first that is wrong. Assumes nothing.
use mathlib.Core.Path.{◌≡◌, refl, sym, ap, ◌∙◌}
use mathlib.Core.Bool.{Bool, true, false, ◌||◌, not, cond}
use mathlib.Core.List.{List}
use mathlib.Core.Logic.{◌↔◌, ◌⊎◌, inl, inr}
use Prim.Native.Nat.{ℕ, zero, suc, ◌*◌, ◌%◌, ◌<◌}
use native.Mathlib.Omega.{arith}
use lib.Dec.{ltb, eqb}
use lib.ListN.{length}
use Rattle.refusal.specs.declared.Refusal.{Refusal}
use Rattle.refusal.specs.First.{refusal, no_refusal}
use Rattle.grammar.specs.Grammar.{max_rules, rules, kind_of, b_of, c_of, rule_right, grammar_rules_from, grammar_refusal}
use Rattle.grammar.specs.Conditions.{GrammarLengthRight, last_of, GrammarRuleRight, sequence_right, choice_right, not_right, empty_right, range_right, GrammarRulesRight, GrammarRight, FirstWrongRule, GrammarRow, unrefused_grammar, wrong_grammar_length, wrong_grammar_rule}
use Rattle.refusal.proofs.Reflects.{Reflects, restated, equal, less, both, either, by_cases, Refuses, when_passed, when_refused, passing, refuses_as, unless, if_so, over, any_of}
use Rattle.refusal.proofs.Searching.{Looked, all_have, lacking, look, Search, none_found, first_found}
use Rattle.refusal.proofs.Rows.{SomeRow, Table, exactly, Check, checks}

-- whether rule k is right, by the test
abbrev pub right_at : List ℕ → (k : ℕ) → Bool
right_at gs k = rule_right (rules gs) (kind_of gs k) (b_of gs k) (c_of gs k) (last_of gs k)

-- ONE RULE, nested as the test is
module _ (gs : List ℕ) (k : ℕ) where
  abbrev Two : Type 0
  Two = (b_of gs k < rules gs) × (c_of gs k < rules gs)

  abbrev One : Type 0
  One = (b_of gs k < rules gs) × (c_of gs k ≡ 0)

  abbrev None : Type 0
  None = (b_of gs k ≡ 0) × (c_of gs k ≡ 0)

  abbrev Other : Type 0
  Other = (kind_of gs k ≡ 3 → One) × ((kind_of gs k ≡ 3 → ⊥) → (kind_of gs k ≡ 4 → None) × ((kind_of gs k ≡ 4 → ⊥) → kind_of gs k ≡ 5))

  abbrev Named : Type 0
  Named = ((kind_of gs k ≡ 1) ⊎ (kind_of gs k ≡ 2) → Two) × (((kind_of gs k ≡ 1) ⊎ (kind_of gs k ≡ 2) → ⊥) → Other)

  nested_test : Reflects ((last_of gs k ≡ 0) × Named) (right_at gs k)
  unfolding rule_right
  nested_test =
      both (equal _ _)
      (by_cases (either (equal _ _) (equal _ _)) (both (less _ _) (less _ _))
      (by_cases (equal _ _) (both (less _ _) (equal _ _))
      (by_cases (equal _ _) (both (equal _ _) (equal _ _)) (equal _ _))))

  -- a kind that is neither 1 nor 2
  module _ {d : ℕ} (e : kind_of gs k ≡ d) (f : d ≡ 1 → ⊥) (g : d ≡ 2 → ⊥) where
    neither : (kind_of gs k ≡ 1) ⊎ (kind_of gs k ≡ 2) → ⊥
    neither (inl h) = f (sym e ∙ h)
    neither (inr h) = g (sym e ∙ h)

    to_other : Named → Other
    to_other n = n.1 neither

    from_other : Other → Named
    from_other o = (λ h. absurd (neither h), λ h. o)

  by_kind : (last_of gs k ≡ 0) × Named → (d : ℕ) → kind_of gs k ≡ d → GrammarRuleRight gs k
  by_kind (z, n) zero e =
      let o = to_other e (λ h. omega arith) (λ h. omega arith) n in
      absurd (omega (arith, (o.1 (λ h. omega arith)).1 (λ h. omega arith)))
  by_kind (z, n) (suc zero) e = let t = n.0 (inl e) in sequence_right e t.0 t.1 z
  by_kind (z, n) (suc (suc zero)) e = let t = n.0 (inr e) in choice_right e t.0 t.1 z
  by_kind (z, n) (suc (suc (suc zero))) e =
      let o = (to_other e (λ h. omega arith) (λ h. omega arith) n).0 e in
      not_right e o.0 o.1 z
  by_kind (z, n) (suc (suc (suc (suc zero)))) e =
      let o = ((to_other e (λ h. omega arith) (λ h. omega arith) n).1 (λ h. omega arith)).0 e in
      empty_right e o.0 o.1 z
  by_kind (z, n) (suc (suc (suc (suc (suc d))))) e =
      let o = ((to_other e (λ h. omega arith) (λ h. omega arith) n).1 (λ h. omega arith)).1 (λ h. omega arith) in
      range_right o z

  nested : GrammarRuleRight gs k → (last_of gs k ≡ 0) × Named
  nested (sequence_right e b c z) = (z, (λ h. (b, c), λ h. absurd (h (inl e))))
  nested (choice_right e b c z) = (z, (λ h. (b, c), λ h. absurd (h (inr e))))
  nested (not_right e b c z) =
      (z, from_other e (λ h. omega arith) (λ h. omega arith) (λ f. (b, c), λ f. absurd (f e)))
  nested (empty_right e b c z) =
      (z, from_other e (λ h. omega arith) (λ h. omega arith) (λ f. absurd (omega arith), λ f. (λ g. (b, c), λ g. absurd (g e))))
  nested (range_right e z) =
      (z, from_other e (λ h. omega arith) (λ h. omega arith) (λ f. absurd (omega arith), λ f. (λ g. absurd (omega arith), λ g. e)))

  rule_test : Refuses (GrammarRuleRight gs k) (not (right_at gs k))
  rule_test = unless (restated (λ n. by_kind n (kind_of gs k) refl) nested nested_test)

module _ (gs : List ℕ) where
  -- THE LENGTH
  length_test :
      Refuses (GrammarLengthRight gs) (eqb (length gs) 0 || (ltb (4 * max_rules) (length gs) || not (eqb (length gs % 4) 0)))
  unfolding rules
  length_test =
      refuses_as
      (λ p. record { some = p.0; most = p.1.0; whole = omega (arith, p.1.1) })
      (λ r. (r.some, (r.most, omega (arith, r.whole))))
      (any_of (if_so (equal (length gs) 0)) (any_of (over (4 * max_rules) (length gs)) (unless (equal (length gs % 4) 0))))

  -- THE RULES
  turned : (b : Bool) (f g : Refusal) → cond b g f ≡ cond (not b) f g
  turned true f g = refl
  turned false f g = refl

  rules_search : Search (λ (n k : ℕ). grammar_rules_from n k gs) (λ (k : ℕ). refusal 12 (4 * k)) (GrammarRuleRight gs)
  unfolding grammar_rules_from
  rules_search =
      record {
        refuses = λ k. not (right_at gs k);
        tests = rule_test gs;
        none_left = λ k. refl;
        one_more = λ n k. turned (right_at gs k) (refusal 12 (4 * k)) (grammar_rules_from n (suc k) gs);
      }

  rules_fine : GrammarRulesRight gs → grammar_rules_from (rules gs) 0 gs ≡ no_refusal
  rules_fine h = none_found rules_search (rules gs) 0 (λ k least most. h k (omega arith))

  rules_wrong : (o : ℕ) → FirstWrongRule gs o → grammar_rules_from (rules gs) 0 gs ≡ refusal 12 o
  rules_wrong o f =
      first_found rules_search (rules gs) 0 f.rule (omega arith) (omega (arith, f.rule_below)) f.wrong
      (λ k least less. f.before k less)
      ∙ ap (refusal 12) (sym f.place_is)

  -- EACH GRAMMAR HAS A ROW
  some_row : SomeRow (GrammarRow gs)
  some_row = by_length (passing length_test)
    where
      by_rules : GrammarLengthRight gs → Looked (GrammarRuleRight gs) (rules gs) → SomeRow (GrammarRow gs)
      by_rules l (all_have r) = (0, 0, unrefused_grammar (record { long = l; rules_right = r }))
      by_rules l (lacking k f) =
          (12, 4 * k, wrong_grammar_rule l (record { rule = k; rule_below = f.below; place_is = refl; wrong = f.lacks; before = f.before }))

      by_length : Dec (GrammarLengthRight gs) → SomeRow (GrammarRow gs)
      by_length (yes l) = by_rules l (look (GrammarRuleRight gs) (λ k. passing (rule_test gs k)) (rules gs))
      by_length (no n) = (11, length gs, wrong_grammar_length n)

  -- AND ITS ROW IS THE CHECK'S ANSWER
  row_answers : (n o : ℕ) → GrammarRow gs n o → grammar_refusal gs ≡ refusal n o
  unfolding grammar_refusal
  row_answers n o (unrefused_grammar r) = simp (when_passed length_test r.long, rules_fine r.rules_right)
  row_answers n o (wrong_grammar_length w) = simp (when_refused length_test w)
  row_answers n o (wrong_grammar_rule l f) = simp (when_passed length_test l, rules_wrong o f)

  grammar_table : Table (grammar_refusal gs) (GrammarRow gs)
  grammar_table = record { row = some_row; answers = row_answers }

  -- A NUMBER AND A PLACE ARE THE CHECK'S ANSWER EXACTLY IF THE GRAMMAR HAS THEIR ROW
  pub grammar_answer : (n o : ℕ) → (grammar_refusal gs ≡ refusal n o) ↔ GrammarRow gs n o
  grammar_answer = exactly grammar_table

  -- 0: no refusal is given exactly if all conditions hold
  pub grammar_check : Check (grammar_refusal gs) (GrammarRight gs) (GrammarRow gs)
  grammar_check = checks grammar_table right unrefused_grammar
    where
      right : (o : ℕ) → GrammarRow gs 0 o → GrammarRight gs
      right o (unrefused_grammar r) = r

  pub grammar_right : (grammar_refusal gs).number ≡ 0 → GrammarRight gs
  grammar_right = grammar_check.right
