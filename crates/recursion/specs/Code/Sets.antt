-- Sets of rules as numbers: bit k for rule k; and the rows of the check, one set for each rule. Assumes nothing: these are definitions.
use Rattle.std.specs.Prelude.{◌≡◌, true, ◌&&◌, ◌||◌, cond, List, ℕ, zero, suc, ◌/◌, ◌%◌, ◌^◌, ◌<◌, ◌≤◌, eqb, length, get_or}
use Rattle.refusal.specs.declared.Refusal.{Refusal}
use Rattle.refusal.specs.First.{refusal, no_refusal}
use Rattle.grammar.specs.Grammar.{rules, grammar_refusal}
use Rattle.grammar.specs.Parsing.{Rules}
use Rattle.recursion.specs.Computed.{Set, nothing_by, nothing_of}

unfoldable pub member : (set : ℕ) → Set
member n k = eqb (n / 2 ^ k % 2) 1

-- a number is this set, as far as the rules below m go
abbrev pub IsSet : (m set : ℕ) → Set → Type 0
IsSet m n s = (k : ℕ) → k < m → member n k ≡ s k

-- so are the rows
abbrev pub AreSets : (m : ℕ) → (rows : List ℕ) → (ℕ → Set) → Type 0
AreSets m rows r = (k : ℕ) → k < m → IsSet m (get_or rows k 0) (r k)

-- there is a row for each rule, and one to spare
abbrev pub row_count : ℕ
row_count = 32

-- ROWS THAT PASSED RULE n: a row that has n also has what n's row had
pub record PassedThrough (n : ℕ) (rows now : List ℕ) : Type 0 where
  pub room : length now ≡ row_count
  pub passed :
      (k : ℕ) → k < row_count → (l : ℕ) →
      member (get_or now k 0) l ≡ (member (get_or rows k 0) l || (member (get_or rows k 0) n && member (get_or rows n 0) l))

-- RULE k LOOKED AT, by the rules that are known
pub record LookedAt (E : Rules) (k known found : ℕ) : Type 0 where
  pub adds : (l : ℕ) → member found l ≡ (member known l || (nothing_by (member known) (E k) && eqb l k))
  pub grown : known ≤ found

-- no rule is known that may not match nothing
pub record Sweepable (gs : List ℕ) (known : ℕ) : Type 0 where
  pub good : (grammar_refusal gs).number ≡ 0
  pub only : (l : ℕ) → l < rules gs → member known l ≡ true → nothing_of gs l ≡ true

-- EVERY RULE LOOKED AT ONCE: and where no more are found, there are no more
pub record Swept (gs : List ℕ) (known found : ℕ) : Type 0 where
  pub grown : known ≤ found
  pub next : Sweepable gs found
  pub over : found ≡ known → IsSet (rules gs) found (nothing_of gs)

-- the first row from k on, of so many, that has its own rule, as refusal 19
unfoldable pub lowest_from : (left k : ℕ) → (rows : List ℕ) → Refusal
lowest_from zero k rows = no_refusal
lowest_from (suc n) k rows = cond (member (get_or rows k 0) k) (refusal 19 k) (lowest_from n (suc k) rows)
