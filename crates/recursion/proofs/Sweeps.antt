-- The rules that may match nothing, as the code finds them: sweeps over all rules, each rule by what is known when its turn comes, until one finds no more. Assumes nothing.
use mathlib.Core.Path.{◌≡◌, refl, sym, ap, ◌∙◌}
use mathlib.Core.Bool.{Bool, true, false, ◌||◌, ◌&&◌, false≢true}
use mathlib.Core.List.{List}
use mathlib.Core.Logic.{◌⊎◌, inl, inr}
use Prim.Native.Nat.{ℕ, ◌+◌, ◌-◌, ◌<◌, ◌≤◌}
use native.Mathlib.Decide.{dec_lt, dec_le}
use native.Mathlib.Omega.{arith}
use lib.Dec.{eqb}
use borrow.Author.Tests.{eqb-true, eq-eqb}
use Rattle.grammar.specs.declared.Expression.{Expression}
use Rattle.grammar.specs.Parsing.{Rules}
use Rattle.grammar.specs.Grammar.{rules, expression, PartsBelow, grammar_refusal}
use Rattle.grammar.proofs.GrammarGood.{good_grammar}
use Rattle.grammar.proofs.Bools.{both_true, both_hold, first_holds, second_holds}
use Rattle.recursion.specs.Computed.{nothing_by, nothing_after, nothing_of}
use Rattle.recursion.specs.Code.Sets.{member, LookedAt, Sweepable, Swept}
use Rattle.recursion.proofs.Members.{no_members}
use Rattle.recursion.proofs.NothingLeast.{one_true, nothing_grows, stable_after, found_may, closed_has}

same_truth : (a b : Bool) → (a ≡ true → b ≡ true) → (b ≡ true → a ≡ true) → a ≡ b
same_truth true b f g = sym (f refl)
same_truth false true f g = g refl
same_truth false false f g = refl

-- a rule looked at, by what its expression is
pub looked_right :
    (E : Rules) (k known found : ℕ) (e : Expression) (matches : Bool) → e ≡ E k → matches ≡ nothing_by (member known) e →
    ((l : ℕ) → member found l ≡ (member known l || (matches && eqb l k))) × (known ≤ found) → LookedAt E k known found
looked_right E k known found e matches is so (adds, grown) =
    record {
      adds = λ l. adds l ∙ ap (λ (b : Bool). member known l || (b && eqb l k)) (so ∙ ap (nothing_by (member known)) is);
      grown = grown;
    }

-- A SWEEP SO FAR: the rules that Seen says were looked at; none would be new, if no more were found
pub record Sweeping (gs : List ℕ) (known found : ℕ) (Seen : ℕ → Type 0) : Type 0 where
  pub grown : known ≤ found
  pub kept : (l : ℕ) → member known l ≡ true → member found l ≡ true
  pub only : (l : ℕ) → l < rules gs → member found l ≡ true → nothing_of gs l ≡ true
  pub no_more :
      ((l : ℕ) → member found l ≡ true → member known l ≡ true) → (k : ℕ) → k < rules gs → Seen k →
      nothing_by (member known) (expression gs k) ≡ true → member known k ≡ true

pub at_or_after : (k l : ℕ) → k - 1 ≤ l → (k ≤ l) ⊎ (l ≡ k - 1)
at_or_after k l h = go (dec_le k l)
  where
    go : Dec (k ≤ l) → (k ≤ l) ⊎ (l ≡ k - 1)
    go (yes g) = inl g
    go (no g) = inr (omega arith)

pub before_or_at : (k l : ℕ) → l < k + 1 → (l < k) ⊎ (l ≡ k)
before_or_at k l h = go (dec_lt l k)
  where
    go : Dec (l < k) → (l < k) ⊎ (l ≡ k)
    go (yes g) = inl g
    go (no g) = inr (omega arith)

module _ (gs : List ℕ) (good : (grammar_refusal gs).number ≡ 0) where
  closed : (k : ℕ) → k < rules gs → PartsBelow (rules gs) (expression gs k)
  closed = (good_grammar gs good).parts

  -- ONE RULE MORE
  pub sweep_looks :
      (known found now k : ℕ) (Seen Seen-now : ℕ → Type 0) → k < rules gs → ((l : ℕ) → l < rules gs → Seen-now l → Seen l ⊎ (l ≡ k)) →
      Sweeping gs known found Seen → LookedAt (expression gs) k found now → Sweeping gs known now Seen-now
  unfolding nothing_after
  sweep_looks known found now k Seen Seen-now below seen s look =
      record {
        grown = omega (arith, s.grown, look.grown);
        kept = λ l t. in_now l (s.kept l t);
        only = λ l h t. by_part l h (one_true (member found l) (nothing_by (member found) (expression gs k) && eqb l k) (sym (look.adds l) ∙ t));
        no_more = λ same l h there may. by_rule same l h may (seen l h there);
      }
    where
      in_now : (l : ℕ) → member found l ≡ true → member now l ≡ true
      in_now l t = look.adds l ∙ first_holds (member found l) (nothing_by (member found) (expression gs k) && eqb l k) t

      by_part : (l : ℕ) → l < rules gs → (member found l ≡ true) ⊎ ((nothing_by (member found) (expression gs k) && eqb l k) ≡ true) → nothing_of gs l ≡ true
      by_part l h (inl t) = s.only l h t
      by_part l h (inr t) =
          let (may, here) = both_true (nothing_by (member found) (expression gs k)) (eqb l k) t in
          rw (eqb-true l k here)
          (stable_after (expression gs) (rules gs) closed k below
          (nothing_grows (rules gs) (member found) (nothing_of gs) s.only (expression gs k) (closed k below) may))

      by_rule :
          ((l : ℕ) → member now l ≡ true → member known l ≡ true) → (l : ℕ) → l < rules gs → nothing_by (member known) (expression gs l) ≡ true →
          Seen l ⊎ (l ≡ k) → member known l ≡ true
      by_rule same l h may (inl before) = s.no_more (λ j t. same j (in_now j t)) l h before may
      by_rule same l h may (inr here) =
          let found_may_too = nothing_grows (rules gs) (member known) (member found) (λ j b t. s.kept j t) (expression gs l) (closed l h) may in
          same l
          (look.adds l
          ∙ second_holds (member found l) (nothing_by (member found) (expression gs k) && eqb l k)
          (both_hold (nothing_by (member found) (expression gs k)) (eqb l k) (rw (← here) found_may_too) (eq-eqb l k here)))

  -- ALL RULES
  pub sweep_ends : (known found : ℕ) (Seen : ℕ → Type 0) → ((k : ℕ) → k < rules gs → Seen k) → Sweeping gs known found Seen → Swept gs known found
  sweep_ends known found Seen all s =
      record {
        grown = s.grown;
        next = record { good = good; only = s.only };
        over = λ same k h. same_truth (member found k) (nothing_of gs k) (s.only k h) (λ t. in_found same k h t);
      }
    where
      in_found : found ≡ known → (k : ℕ) → k < rules gs → nothing_of gs k ≡ true → member found k ≡ true
      in_found same k h t =
          s.kept k
          (closed_has (expression gs) (rules gs) closed (member known)
          (λ l b. s.no_more (λ j u. rw (← same) u) l b (all l b)) k h (found_may (expression gs) (rules gs) k t))

-- AT FIRST none is known
pub sweep_from_none : (gs : List ℕ) → (grammar_refusal gs).number ≡ 0 → Sweepable gs 0
sweep_from_none gs good = record { good = good; only = λ l h t. absurd (false≢true (sym (no_members l) ∙ t)) }
