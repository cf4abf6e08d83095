-- The loop over a grammar's rules that checks them: what a turn leaves to be looked at. Assumes nothing.
use mathlib.Core.Path.{◌≡◌, refl, sym, ap, ◌∙◌}
use mathlib.Core.Bool.{true, false}
use mathlib.Core.List.{List}
use Prim.Native.Nat.{ℕ, suc, ◌+◌, ◌*◌, ◌-◌, ◌<◌, ◌≤◌}
use native.Mathlib.Omega.{arith}
use Rattle.refusal.specs.First.{refusal, no_refusal}
use Rattle.grammar.specs.Grammar.{rules, grammar_rules_from}
use Rattle.grammar.proofs.GrammarGood.{right_at}

-- THE CHECK, with the rules from k on still to be checked
from_wrong : (n k : ℕ) (gs : List ℕ) → right_at gs k ≡ false → grammar_rules_from (suc n) k gs ≡ refusal 12 (4 * k)
unfolding grammar_rules_from
from_wrong n k gs e = simp e

from_right : (n k : ℕ) (gs : List ℕ) → right_at gs k ≡ true → grammar_rules_from (suc n) k gs ≡ grammar_rules_from n (suc k) gs
unfolding grammar_rules_from
from_right n k gs e = simp e

from_none : (k : ℕ) (gs : List ℕ) → grammar_rules_from 0 k gs ≡ no_refusal
unfolding grammar_rules_from
from_none k gs = refl

abbrev pub RulesLeft : List ℕ → (k : ℕ) → Type 0
RulesLeft gs k = grammar_rules_from (rules gs) 0 gs ≡ grammar_rules_from (rules gs - k) k gs

module _ (gs : List ℕ) (k : ℕ) (left : RulesLeft gs k) where
  pub check_end : rules gs ≤ k → no_refusal ≡ grammar_rules_from (rules gs) 0 gs
  check_end h =
      let nothing : rules gs - k ≡ 0 = omega arith in
      sym (left ∙ ap (λ (n : ℕ). grammar_rules_from n k gs) nothing ∙ from_none k gs)

  module _ (more : k < rules gs) where
    one_more : rules gs - k ≡ suc (rules gs - (k + 1))
    one_more = omega arith

    pub check_stop : right_at gs k ≡ false → refusal 12 (4 * k) ≡ grammar_rules_from (rules gs) 0 gs
    check_stop e = sym (left ∙ ap (λ (n : ℕ). grammar_rules_from n k gs) one_more ∙ from_wrong _ k gs e)

    pub check_next : right_at gs k ≡ true → RulesLeft gs (k + 1)
    check_next e =
        left ∙ ap (λ (n : ℕ). grammar_rules_from n k gs) one_more ∙ from_right _ k gs e
        ∙ ap (λ (i : ℕ). grammar_rules_from (rules gs - (k + 1)) i gs) (omega arith)
