-- The rules that each rule leads to, and leads on to, as the code finds them: a row for each rule, and one rule after another to pass through. Assumes nothing.
use mathlib.Core.Path.{◌≡◌, refl, sym, ap, subst, ◌∙◌}
use mathlib.Core.Bool.{Bool, true, false, ◌||◌, ◌&&◌}
use mathlib.Core.List.{List}
use mathlib.Core.Logic.{◌⊎◌, inl, inr}
use Prim.Native.Nat.{ℕ, suc, ◌+◌, ◌<◌, ◌≤◌}
use native.Mathlib.Omega.{arith}
use native.Mathlib.Decide.{dec_lt}
use lib.Dec.{eqb}
use lib.ListN.{length, get_or, set, length-set}
use lib.Seq.{get_or-set_same, get_or-set_other}
use Rattle.grammar.specs.declared.Expression.{Expression}
use Rattle.grammar.specs.declared.Expression.TheVariants.{Sequence, Choice, Not, Empty, Range}
use Rattle.grammar.specs.Grammar.{rules, expression, PartsBelow, grammar_refusal}
use Rattle.grammar.proofs.GrammarGood.{good_grammar}
use Rattle.recursion.specs.Computed.{Set, nothing_of, leads_by, leads_through, leads_on}
use Rattle.recursion.specs.Code.Sets.{member, IsSet, AreSets, row_count, PassedThrough}
use Rattle.recursion.proofs.Members.{no_members, or_false, and_false}

-- AN EXPRESSION'S ROW, by its cases
module _ (s : Set) (e : Expression) (r : ℕ) where
  abbrev LeadsSo : Type 0
  LeadsSo = (l : ℕ) → member r l ≡ leads_by s e l

  pub sequence_leads :
      (one : ℕ) {b c : ℕ} {second : Bool} → e ≡ Sequence b c → ((l : ℕ) → member r l ≡ (member one l || (second && eqb l c))) →
      ((l : ℕ) → member one l ≡ eqb l b) → second ≡ s b → LeadsSo
  unfolding leads_by
  sequence_leads one is adds single second l = rw is (adds l ∙ simp (single l, second))

  pub choice_leads :
      (one : ℕ) {b c : ℕ} → e ≡ Choice b c → ((l : ℕ) → member r l ≡ (member one l || (true && eqb l c))) → ((l : ℕ) → member one l ≡ eqb l b) → LeadsSo
  unfolding leads_by
  choice_leads one is adds single l = rw is (adds l ∙ simp (single l))

  pub not_leads : {b : ℕ} → e ≡ Not b → ((l : ℕ) → member r l ≡ eqb l b) → LeadsSo
  unfolding leads_by
  not_leads is single l = rw is (single l)

-- what is empty or a range leads to none
pub neither_leads : (s : Set) (e : Expression) → (e ≡ Empty) ⊎ ((b : ℕ) × (c : ℕ) × (e ≡ Range b c)) → (l : ℕ) → member 0 l ≡ leads_by s e l
unfolding leads_by
neither_leads s e (inl is) l = rw is (no_members l)
neither_leads s e (inr (b, c, is)) l = rw is (no_members l)

-- a row of an expression that is another
pub row_of : (s : Set) (row : ℕ) (e f : Expression) → e ≡ f → ((l : ℕ) → member row l ≡ leads_by s e l) → (l : ℕ) → member row l ≡ leads_by s f l
row_of s row e f is leads l = leads l ∙ ap (λ (x : Expression). leads_by s x l) is

-- THE ROWS, of which those below k are made
pub record RowsSoFar (R : ℕ → Set) (k : ℕ) (rows : List ℕ) : Type 0 where
  pub room : length rows ≡ row_count
  pub made : (l : ℕ) → l < k → (j : ℕ) → member (get_or rows l 0) j ≡ R l j

pub rows_next :
    (R : ℕ → Set) (k : ℕ) (rows : List ℕ) (row : ℕ) → k < row_count → RowsSoFar R k rows → ((j : ℕ) → member row j ≡ R k j) → RowsSoFar R (k + 1) (set rows k row)
rows_next R k rows row few so_far now =
    record { room = length-set rows k row ∙ so_far.room; made = λ l h j. go l h j (dec_lt l k) }
  where
    go : (l : ℕ) → l < k + 1 → (j : ℕ) → Dec (l < k) → member (get_or (set rows k row) l 0) j ≡ R l j
    go l h j (yes p) = ap (λ (n : ℕ). member n j) (get_or-set_other rows k l row 0 (omega arith)) ∙ so_far.made l p j
    go l h j (no n) =
        let here : l ≡ k = omega arith in
        rw here (ap (λ (n : ℕ). member n j) (get_or-set_same rows k row 0 (omega (arith, so_far.room))) ∙ now j)

-- PASSING RULE n, with the rows from k on still as they were
abbrev through : (rows : List ℕ) → (n onward k l : ℕ) → Bool
through rows n onward k l = member (get_or rows k 0) l || (member (get_or rows k 0) n && member onward l)

pub record Passing (before : List ℕ) (n onward k : ℕ) (rows : List ℕ) : Type 0 where
  pub room : length rows ≡ row_count
  pub done : (l : ℕ) → l < k → (j : ℕ) → member (get_or rows l 0) j ≡ through before n onward l j
  pub ahead : (l : ℕ) → k ≤ l → get_or rows l 0 ≡ get_or before l 0

-- a rule that leads to none changes no row
pub passing_none : (before : List ℕ) (n : ℕ) → length before ≡ row_count → get_or before n 0 ≡ 0 → PassedThrough n before before
passing_none before n room none =
    record {
      room = room;
      passed = λ l h j.
          let nowhere : member (get_or before n 0) j ≡ false = ap (λ (m : ℕ). member m j) none ∙ no_members j in
          sym (or_false (member (get_or before l 0) j))
          ∙ ap (λ (b : Bool). member (get_or before l 0) j || b) (sym (ap (λ (b : Bool). member (get_or before l 0) n && b) nowhere ∙ and_false (member (get_or before l 0) n)));
    }

-- THE ROWS OF A GRAMMAR, with the rules below n to pass through
pub record Closing (gs : List ℕ) (count n : ℕ) (rows : List ℕ) : Type 0 where
  pub counted : count ≡ rules gs
  pub upto : n ≤ count
  pub room : length rows ≡ row_count
  pub sets : AreSets (rules gs) rows (leads_through (expression gs) (nothing_of gs) n)

leads_agrees :
    {m : ℕ} {s t : Set} (e : Expression) → PartsBelow m e → ((k : ℕ) → k < m → s k ≡ t k) → (l : ℕ) → leads_by s e l ≡ leads_by t e l
unfolding leads_by PartsBelow
leads_agrees (Sequence b c) (p, q) same l = simp (same b p)
leads_agrees (Choice b c) p same l = refl
leads_agrees (Not b) p same l = refl
leads_agrees Empty p same l = refl
leads_agrees (Range b c) p same l = refl

pub closing_start :
    (gs : List ℕ) (nothing count : ℕ) (rows : List ℕ) → (grammar_refusal gs).number ≡ 0 → IsSet (rules gs) nothing (nothing_of gs) → count ≡ rules gs →
    AreSets (rules gs) rows (λ k. leads_by (member nothing) (expression gs k)) × (length rows ≡ row_count) → Closing gs count 0 rows
unfolding leads_through
closing_start gs nothing count rows good is counted (are, room) =
    record {
      counted = counted;
      upto = omega arith;
      room = room;
      sets = λ k h l g. are k h l g ∙ leads_agrees (expression gs k) ((good_grammar gs good).parts k h) is l;
    }

pub closing_next :
    (gs : List ℕ) (count n : ℕ) (rows now : List ℕ) → count ≤ 31 → Closing gs count n rows → n < count → PassedThrough n rows now → Closing gs count (n + 1) now
unfolding leads_through
closing_next gs count n rows now few c more p =
    let one : n + 1 ≡ suc n = omega arith in
    record {
      counted = c.counted;
      upto = omega arith;
      room = p.room;
      sets = rw one
          (λ k h l g.
          p.passed k (omega (arith, c.counted)) l
          ∙ simp (c.sets k h l g, c.sets k h n (omega (arith, c.counted)), c.sets n (omega (arith, c.counted)) l g));
    }

pub closing_end : (gs : List ℕ) (count n : ℕ) (rows : List ℕ) → Closing gs count n rows → count ≤ n → AreSets (rules gs) rows (leads_on gs)
unfolding leads_on
closing_end gs count n rows c over =
    let all : n ≡ rules gs = omega (arith, c.counted, c.upto) in
    subst (λ (m : ℕ). AreSets (rules gs) rows (leads_through (expression gs) (nothing_of gs) m)) all c.sets
