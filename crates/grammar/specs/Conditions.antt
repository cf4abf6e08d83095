-- When a grammar is right, condition by condition as the paper's prose has them, whatever the order in which a check tests them; and the rows that the paper's table of refusals has for a grammar. Assumes nothing: these are definitions.
use Rattle.std.specs.Prelude.{◌≡◌, List, ℕ, ◌+◌, ◌*◌, ◌<◌, ◌≤◌, length}
use Rattle.codec.specs.Bytes.{byte}
use Rattle.grammar.specs.Grammar.{max_rules, rules, kind_of, b_of, c_of, kind_sequence, kind_choice, kind_not, kind_empty, kind_range}

-- THE LENGTH: not 0, not over 124, and m rules of four bytes
pub record GrammarLengthRight (gs : List ℕ) : Type 0 where
  pub some : length gs ≡ 0 → ⊥
  pub most : length gs ≤ 4 * max_rules
  pub whole : length gs ≡ 4 * rules gs

-- the last of a rule's four bytes
abbrev pub last_of : List ℕ → (k : ℕ) → ℕ
last_of gs k = byte gs (4 * k + 3)

-- A RULE, by its kind. What it names is a rule below m, a range may have any two bytes, and a byte that it has no use for is 0
pub data GrammarRuleRight (gs : List ℕ) (k : ℕ) : Type 0 where
  sequence_right : kind_of gs k ≡ kind_sequence → b_of gs k < rules gs → c_of gs k < rules gs → last_of gs k ≡ 0 → GrammarRuleRight gs k
  choice_right : kind_of gs k ≡ kind_choice → b_of gs k < rules gs → c_of gs k < rules gs → last_of gs k ≡ 0 → GrammarRuleRight gs k
  not_right : kind_of gs k ≡ kind_not → b_of gs k < rules gs → c_of gs k ≡ 0 → last_of gs k ≡ 0 → GrammarRuleRight gs k
  empty_right : kind_of gs k ≡ kind_empty → b_of gs k ≡ 0 → c_of gs k ≡ 0 → last_of gs k ≡ 0 → GrammarRuleRight gs k
  range_right : kind_of gs k ≡ kind_range → last_of gs k ≡ 0 → GrammarRuleRight gs k

abbrev pub GrammarRulesRight : List ℕ → Type 0
GrammarRulesRight gs = (k : ℕ) → k < rules gs → GrammarRuleRight gs k

-- THE GRAMMAR
pub record GrammarRight (gs : List ℕ) : Type 0 where
  pub long : GrammarLengthRight gs
  pub rules_right : GrammarRulesRight gs

-- the first rule that is wrong, by its place
pub record FirstWrongRule (gs : List ℕ) (place : ℕ) : Type 0 where
  pub rule : ℕ
  pub rule_below : rule < rules gs
  pub place_is : place ≡ 4 * rule
  pub wrong : GrammarRuleRight gs rule → ⊥
  pub before : (k : ℕ) → k < rule → GrammarRuleRight gs k

-- THE TABLE'S ROWS, a constructor each, by number and place; number 0 at place 0 is no refusal. The lowest number decides: 12 is given where the length is right
pub data GrammarRow (gs : List ℕ) : (number place : ℕ) → Type 0 where
  unrefused_grammar : GrammarRight gs → GrammarRow gs 0 0
  wrong_grammar_length : (GrammarLengthRight gs → ⊥) → GrammarRow gs 11 (length gs)
  wrong_grammar_rule : {place : ℕ} → GrammarLengthRight gs → FirstWrongRule gs place → GrammarRow gs 12 place
