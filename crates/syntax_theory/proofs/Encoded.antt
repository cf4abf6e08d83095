-- Encoded rules read back: rule k of the bytes is the k-th of the rules, and its four bytes are right where the rules that it names are there. Assumes nothing.
use mathlib.Core.Path.{◌≡◌, refl, ap, ◌∙◌}
use mathlib.Core.List.{List, [], ◌∷◌, ◌++◌}
use Prim.Native.Nat.{ℕ, zero, suc, ◌+◌, ◌*◌, ◌<◌}
use native.Mathlib.Omega.{arith}
use lib.ListN.{length, get_or}
use Rattle.codec.specs.Bytes.{byte}
use Rattle.grammar.specs.declared.Expression.{Expression}
use Rattle.grammar.specs.declared.Expression.TheVariants.{Sequence, Choice, Not, Empty, Range}
use Rattle.grammar.specs.Grammar.{rules, kind_of, b_of, c_of, expression, expression_by, PartsBelow}
use Rattle.grammar.specs.Conditions.{last_of, GrammarRuleRight, sequence_right, choice_right, not_right, empty_right, range_right}
use Rattle.syntax.specs.Compile.{rule_bytes, encode}
use Rattle.syntax_theory.proofs.Numbering.{Holds, holds_all}

-- the four bytes of rule k are those of x
pub record Written (gs : List ℕ) (k : ℕ) (x : Expression) : Type 0 where
  pub kind : kind_of gs k ≡ byte (rule_bytes x) 0
  pub first : b_of gs k ≡ byte (rule_bytes x) 1
  pub second : c_of gs k ≡ byte (rule_bytes x) 2
  pub last : last_of gs k ≡ 0

-- the bytes after a rule's
after_rule : (x : Expression) (bs : List ℕ) (i : ℕ) → byte (rule_bytes x ++ bs) (suc (suc (suc (suc i)))) ≡ byte bs i
unfolding rule_bytes
after_rule (Sequence b c) bs i = refl
after_rule (Choice b c) bs i = refl
after_rule (Not b) bs i = refl
after_rule Empty bs i = refl
after_rule (Range b c) bs i = refl

first_written : (x : Expression) (bs : List ℕ) → Written (rule_bytes x ++ bs) 0 x
unfolding rule_bytes kind_of b_of c_of
first_written (Sequence b c) bs = record { kind = refl; first = refl; second = refl; last = refl }
first_written (Choice b c) bs = record { kind = refl; first = refl; second = refl; last = refl }
first_written (Not b) bs = record { kind = refl; first = refl; second = refl; last = refl }
first_written Empty bs = record { kind = refl; first = refl; second = refl; last = refl }
first_written (Range b c) bs = record { kind = refl; first = refl; second = refl; last = refl }

later_written : (x y : Expression) (bs : List ℕ) (k : ℕ) → Written bs k y → Written (rule_bytes x ++ bs) (suc k) y
unfolding kind_of b_of c_of
later_written x y bs k w =
    record {
      kind = moved (4 * suc k) (4 * k) (omega arith) ∙ w.kind;
      first = moved (4 * suc k + 1) (4 * k + 1) (omega arith) ∙ w.first;
      second = moved (4 * suc k + 2) (4 * k + 2) (omega arith) ∙ w.second;
      last = moved (4 * suc k + 3) (4 * k + 3) (omega arith) ∙ w.last;
    }
  where
    moved : (i j : ℕ) → i ≡ suc (suc (suc (suc j))) → byte (rule_bytes x ++ bs) i ≡ byte bs j
    moved i j e = ap (λ h. byte (rule_bytes x ++ bs) h) e ∙ after_rule x bs j

pub written : (xs : List Expression) (k : ℕ) → k < length xs → Written (encode xs) k (get_or xs k Empty)
unfolding encode
written [] k h = absurd (omega arith)
written (x ∷ xs) zero h = first_written x (encode xs)
written (x ∷ xs) (suc k) h = later_written x (get_or xs k Empty) (encode xs) k (written xs k (omega arith))

-- WHAT RULE k IS
pub written_is : {gs : List ℕ} {k : ℕ} (x : Expression) → Written gs k x → expression gs k ≡ x
unfolding expression expression_by rule_bytes
written_is (Sequence b c) w = simp (w.kind, w.first, w.second)
written_is (Choice b c) w = simp (w.kind, w.first, w.second)
written_is (Not b) w = simp (w.kind, w.first, w.second)
written_is Empty w = simp (w.kind, w.first, w.second)
written_is (Range b c) w = simp (w.kind, w.first, w.second)

pub encoded_holds : (xs : List Expression) → Holds (expression (encode xs)) 0 xs
encoded_holds xs =
    let from_none : (k : ℕ) → 0 + k ≡ k = λ k. omega arith in
    holds_all 0 xs Empty (λ k h. ap (expression (encode xs)) (from_none k) ∙ written_is (get_or xs k Empty) (written xs k h))

-- AND IT IS RIGHT
pub written_right : {gs : List ℕ} {k : ℕ} (x : Expression) → Written gs k x → PartsBelow (rules gs) x → GrammarRuleRight gs k
unfolding rule_bytes PartsBelow
written_right (Sequence b c) w p = sequence_right w.kind (omega (arith, w.first, p.0)) (omega (arith, w.second, p.1)) w.last
written_right (Choice b c) w p = choice_right w.kind (omega (arith, w.first, p.0)) (omega (arith, w.second, p.1)) w.last
written_right (Not b) w p = not_right w.kind (omega (arith, w.first, p)) w.second w.last
written_right Empty w p = empty_right w.kind w.first w.second w.last
written_right (Range b c) w p = range_right w.kind w.last
