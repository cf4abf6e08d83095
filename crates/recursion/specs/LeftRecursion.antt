-- Left recursion, in the request's words: which rules may match nothing, which rules a rule leads to, and which lead back to themselves; and what the check of a grammar refuses for it. Assumes nothing: these are definitions.
use Rattle.std.specs.Prelude.{◌≡◌, Bool, true, List, ◌⊎◌, ℕ, ◌<◌}
use Rattle.grammar.specs.declared.Expression.TheVariants.{Sequence, Choice, Not, Empty}
use Rattle.grammar.specs.Grammar.{rules, expression}
use Rattle.grammar.specs.Conditions.{GrammarRight, GrammarRow}
use Rattle.grammar.specs.Parsing.{Rules}

-- A RULE MAY MATCH NOTHING (the field's nullable) if it is empty, a not, a sequence of two such, or a choice with one such; these are the least such set
pub data MayMatchNothing (E : Rules) : (k : ℕ) → Type 0 where
  empty : {k : ℕ} → E k ≡ Empty → MayMatchNothing E k
  a_not : {k b : ℕ} → E k ≡ Not b → MayMatchNothing E k
  sequence : {k b c : ℕ} → E k ≡ Sequence b c → MayMatchNothing E b → MayMatchNothing E c → MayMatchNothing E k
  choice : {k b c : ℕ} → E k ≡ Choice b c → MayMatchNothing E b → MayMatchNothing E k
  choice_other : {k b c : ℕ} → E k ≡ Choice b c → MayMatchNothing E c → MayMatchNothing E k

-- such a set: it has each rule that is empty, a not, a sequence of two of its own, or a choice with one of its own
pub record SuchSet (E : Rules) (S : ℕ → Bool) : Type 0 where
  pub has_empty : (k : ℕ) → E k ≡ Empty → S k ≡ true
  pub has_not : (k b : ℕ) → E k ≡ Not b → S k ≡ true
  pub has_sequence : (k b c : ℕ) → E k ≡ Sequence b c → S b ≡ true → S c ≡ true → S k ≡ true
  pub has_choice : (k b c : ℕ) → E k ≡ Choice b c → (S b ≡ true) ⊎ (S c ≡ true) → S k ≡ true

-- A SEQUENCE LEADS to its first part, and to its second if the first may match nothing; a choice to both parts, a not to its own
pub data Leads (E : Rules) : (from into : ℕ) → Type 0 where
  first_part : {k b c : ℕ} → E k ≡ Sequence b c → Leads E k b
  second_part : {k b c : ℕ} → E k ≡ Sequence b c → MayMatchNothing E b → Leads E k c
  one : {k b c : ℕ} → E k ≡ Choice b c → Leads E k b
  other : {k b c : ℕ} → E k ≡ Choice b c → Leads E k c
  its_own : {k b : ℕ} → E k ≡ Not b → Leads E k b

-- in one step or more
pub data LeadsOn (E : Rules) : (from into : ℕ) → Type 0 where
  last : {k l : ℕ} → Leads E k l → LeadsOn E k l
  more : {k l n : ℕ} → Leads E k l → LeadsOn E l n → LeadsOn E k n

-- A RULE THAT LEADS BACK TO ITSELF
abbrev pub LeftRecursive : (grammar : List ℕ) → (k : ℕ) → Type 0
LeftRecursive gs k = LeadsOn (expression gs) k k

-- the lowest one
pub record LowestRecursive (gs : List ℕ) (k : ℕ) : Type 0 where
  pub below : k < rules gs
  pub leads_back : LeftRecursive gs k
  pub before : (j : ℕ) → j < k → LeftRecursive gs j → ⊥

-- A GRAMMAR THAT PASSES: right by 11 and 12, and no rule leads back to itself
pub record Passes (gs : List ℕ) : Type 0 where
  pub right : GrammarRight gs
  pub none_back : (k : ℕ) → k < rules gs → LeftRecursive gs k → ⊥

-- THE ROWS of the check, a constructor each: 11 and 12 come first, then 19 at the lowest rule that leads back to itself
pub data RecursionRow (gs : List ℕ) : (number place : ℕ) → Type 0 where
  no_recursion : Passes gs → RecursionRow gs 0 0
  bad_grammar : {number place : ℕ} → (number ≡ 0 → ⊥) → GrammarRow gs number place → RecursionRow gs number place
  recursive : {k : ℕ} → GrammarRight gs → LowestRecursive gs k → RecursionRow gs 19 k
