-- What reading the lines of a legal text answers: the bytes of their grammar, if 31 rules are enough. Assumes nothing: these are definitions.
use Rattle.std.specs.Prelude.{◌≡◌, Bool, true, false, cond, List, [], ◌∷◌, ◌++◌, ℕ, suc, ◌+◌, ◌-◌, ◌<◌, ◌≤◌, leb, length, get_or, Result, Ok, Err}
use Rattle.grammar.specs.Grammar.{max_rules}
use Rattle.grammar.specs.declared.Expression.TheVariants.{Sequence, Choice, Empty}
use Rattle.syntax.specs.declared.Node.{Node}
use Rattle.syntax.specs.declared.Node.TheVariants.{Numbered, Operator, Repetition}
use Rattle.syntax.specs.declared.Sign.TheVariants.{Equals, Semicolon}
use Rattle.syntax.specs.Tokens.{Token, name, sign}
use Rattle.syntax.specs.Trees.{Tree, Definition, choices, Derives, Reads, LegalText, max_depth}
use Rattle.syntax.specs.Needs.{line_need, needs}
use Rattle.syntax.specs.Compile.{compile, line_rule, line_helpers, named_from, helpers_from, encode}
use Rattle.syntax.specs.RuleLines.{first_helper, LineOfRule}
use Rattle.syntax.specs.Code.Heads.{heads}
use Rattle.expressions.specs.declared.Rules.{Rules}
use Rattle.expressions.specs.declared.Unfit.{Unfit}
use Rattle.refusal.specs.declared.Refusal.{Refusal}
use Rattle.reader.specs.declared.GrammarBytes.{GrammarBytes}
use Rattle.reader.specs.declared.Lines.{Lines}
use Rattle.reader.specs.declared.ReadText.{ReadText}
use Rattle.expressions.specs.Code.Building.{rule_put, put_rules, advanced, placed_at}
use Rattle.expressions.specs.Code.Operators.{Part}
use Rattle.reader.specs.Calls.{padded, ReadTells}
use Rattle.scanner.specs.Code.Scanning.{tokens_at}
use Rattle.expressions.specs.Code.Levels.{NameRoom}

-- a line that was read, and the rules with its own
pub record LineRead : Type 0 where
  pub fits : Bool
  pub at : ℕ
  pub rules : Rules

-- the rules that a line may need: those that are left, and its own
abbrev pub with_left : Rules → Rules
with_left r = record { bytes = r.bytes; next = r.next; left = suc max_rules - r.next }

abbrev pub line_with : (at : ℕ) → Rules → LineRead
line_with i r = record { fits = true; at = i; rules = r }

-- what the code answers, over the rules that were lent: the place after the line
abbrev pub line_of : Result ℕ Unfit → Rules → LineRead
line_of (Ok i) r = line_with i r
line_of (Err e) r = record { fits = false; at = e.at; rules = r }

-- the place after the first two tokens from a place on
abbrev pub PassesTwo : (text : List ℕ) → (at to : ℕ) → Type 0
PassesTwo text i j = (t u : Token) (us : List Token) → tokens_at text i ≡ t ∷ u ∷ us → tokens_at text j ≡ us

-- a line's own rule at its number k, and the helper rules that it needs besides
unfoldable pub topped_by : Node → Rules → (k at : ℕ) → LineRead
topped_by (Numbered i) r k at =
    cond (leb max_rules r.next) (record { fits = false; at = at; rules = r })
    (line_with at (placed_at (advanced r (Empty ∷ []) 0) k (Sequence i r.next)))
topped_by (Operator x) r k at = line_with at (placed_at r k x)
topped_by (Repetition i) r k at =
    line_with at (placed_at (advanced r (Sequence i k ∷ Empty ∷ []) 0) k (Choice r.next (suc r.next)))

abbrev pub topped : Part → (k at : ℕ) → LineRead
topped x k at = topped_by x.node x.rules k at

-- what reading line k needs
pub record LineRoom (text : List ℕ) (k : ℕ) (r : Rules) : Type 0 where
  pub few : NameRoom text
  pub below : k < max_rules
  pub fit : r.next ≤ max_rules

-- A LINE READ: its own rule at its number, its helper rules after those before, and what follows
pub record LineDone (text : List ℕ) (before : Rules) (k : ℕ) (e : Tree) (us : List Token) (r : LineRead) : Type 0 where
  pub bytes :
      let c = compile (heads text) e before.next in
      r.rules.bytes ≡ rule_put (put_rules before.bytes before.next (line_helpers c k)) k (line_rule c before.next)
  pub next : r.rules.next ≡ before.next + length (line_helpers (compile (heads text) e before.next) k)
  pub rest : tokens_at text r.at ≡ us

-- whatever line the tokens from the place on are; and whatever they are, the rules have room
pub record LineIsRead (text : List ℕ) (at k : ℕ) (before : Rules) (r : LineRead) : Type 0 where
  pub fits :
      (n : List ℕ) (ts us : List Token) (e : Tree) → tokens_at text at ≡ name n ∷ sign Equals ∷ ts → Derives choices max_depth ts e (sign Semicolon ∷ us) →
      r.fits ≡ leb (line_need e) (suc max_rules - before.next)
  pub done :
      (n : List ℕ) (ts us : List Token) (e : Tree) → tokens_at text at ≡ name n ∷ sign Equals ∷ ts → Derives choices max_depth ts e (sign Semicolon ∷ us) →
      r.fits ≡ true → LineDone text before k e us r
  pub room : r.fits ≡ true → r.rules.next ≤ max_rules

-- what reading so many lines needs: as few as there are rules, and that the text has no more names
pub record LinesRoom (text : List ℕ) (lines : ℕ) : Type 0 where
  pub few : lines ≤ max_rules
  pub names : length (heads text) ≡ lines

-- the numbers after the helper rules of the first k lines
abbrev pub EndsKept : (ds : List Definition) → (k : ℕ) → (ends : List ℕ) → Type 0
EndsKept ds k ends = (j : ℕ) → j < k → get_or ends j 0 ≡ first_helper ds (suc j)

pub record LinesMade (text : List ℕ) (ds : List Definition) (r : Lines) : Type 0 where
  pub enough : needs ds ≤ max_rules
  pub count : r.rules.next ≡ needs ds
  pub bytes : r.rules.bytes ≡ padded (encode (named_from (heads text) 0 (length ds) ds ++ helpers_from (heads text) 0 (length ds) ds))
  pub ends : EndsKept ds (length ds) r.ends

-- the lines are read if 31 rules are enough, and only then
abbrev pub LinesRight : (text : List ℕ) → List Definition → Result Lines Unfit → Type 0
LinesRight text ds (Ok r) = LinesMade text ds r
LinesRight text ds (Err e) = max_rules < needs ds

-- whatever so many lines the tokens from a place on are
abbrev pub LinesRead : (text : List ℕ) → (at lines : ℕ) → Result Lines Unfit → Type 0
LinesRead text i n r = (ds : List Definition) → Reads max_depth (tokens_at text i) ds → length ds ≡ n → LinesRight text ds r

-- WHAT READING KEEPS OF THE LINES: how many there are, and where each line's rules end
pub record LinesKept (ds : List Definition) (lines : ℕ) (numbers : List ℕ) : Type 0 where
  pub count : lines ≡ length ds
  pub ends : EndsKept ds (length ds) numbers

-- the grammar alone
abbrev pub grammar_in : Result ReadText Refusal → Result GrammarBytes Refusal
grammar_in (Ok t) = Ok t.grammar
grammar_in (Err f) = Err f

-- of a text that was read: whatever lines it is, they are kept
pub record TextKept (text : List ℕ) (t : ReadText) : Type 0 where
  pub few : t.lines ≤ max_rules
  pub kept : (ds : List Definition) → LegalText text ds → LinesKept ds t.lines t.ends

abbrev pub KeptIfRead : (text : List ℕ) → Result ReadText Refusal → Type 0
KeptIfRead text (Ok t) = TextKept text t
KeptIfRead text (Err f) = Unit {0}

pub record TextRead (text : List ℕ) (r : Result ReadText Refusal) : Type 0 where
  pub tells : ReadTells text (grammar_in r)
  pub kept : KeptIfRead text r

-- the line that a rule is of, whatever lines were kept
abbrev pub RuleOfLine : (lines : ℕ) → (ends : List ℕ) → (rule line : ℕ) → Type 0
RuleOfLine n ends k line = (ds : List Definition) → LinesKept ds n ends → k < needs ds → LineOfRule ds k line
