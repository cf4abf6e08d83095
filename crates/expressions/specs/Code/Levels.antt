-- What reading an expression answers, level by level of the grammar of texts: the node and the rules that the definitions give for its tree, if no more rules are needed than were left. Assumes nothing: these are definitions.
use Rattle.std.specs.Prelude.{◌≡◌, Bool, true, false, cond, List, [], ◌∷◌, ◌++◌, map, ℕ, suc, ◌+◌, ◌≤◌, eqb, leb, length}
use Rattle.codec.specs.Bytes.{section}
use Rattle.grammar.specs.Grammar.{max_rules}
use Rattle.grammar.specs.declared.Expression.{Expression}
use Rattle.grammar.specs.declared.Expression.TheVariants.{Sequence, Choice}
use Rattle.syntax.specs.declared.Node.TheVariants.{Numbered, Operator}
use Rattle.syntax.specs.declared.Suffix.{Suffix}
use Rattle.syntax.specs.declared.Sign.{Sign}
use Rattle.syntax.specs.declared.Sign.TheVariants.{Operand, Before, After, Slash, Opening, Closing, Equals, Semicolon}
use Rattle.syntax.specs.Tokens.{Token, name, sign, range, unknown}
use Rattle.syntax.specs.Trees.{Tree, suffixed, Level, choices, parts, prefixes, suffixes, operand, Derives}
use Rattle.syntax.specs.Needs.{need}
use Rattle.syntax.specs.Compile.{index_of, compile, owed}
use Rattle.syntax.specs.Code.Heads.{heads}
use Rattle.expressions.specs.declared.Rules.{Rules}
use Rattle.expressions.specs.declared.Level as Code
use Rattle.expressions.specs.declared.Level.TheVariants.{Sequences, Choices}
use Rattle.expressions.specs.declared.lookahead.Role.{Role}
use Rattle.expressions.specs.Code.Lookahead.{starts, parts_choice}
use Rattle.scanner.specs.Code.Scanning.{tokens_at}
use Rattle.expressions.specs.Code.Building.{advanced}
use Rattle.expressions.specs.Code.Operators.{Part, over, part}

-- a line's number fits where there are as few lines as rules
abbrev pub NameRoom : (text : List ℕ) → Type 0
NameRoom text = length (heads text) ≤ max_rules

-- what reading needs: few lines, and room for the rules that are left, the line's own among them
pub record Room (text : List ℕ) (r : Rules) : Type 0 where
  pub few : NameRoom text
  pub fit : r.next + r.left ≤ suc max_rules

-- THE LEVELS THAT JOIN PARTS, as the code has them: a sequence of parts, a choice of sequences
abbrev pub level_of : Code.Level → Level
level_of Sequences = parts
level_of Choices = choices

-- the level that it begins with
abbrev pub inner_of : Code.Level → Level
inner_of Sequences = prefixes
inner_of Choices = parts

-- whether another part follows a token's place, where it begins, and the rule of the two
abbrev pub follows : Code.Level → Role → Bool
follows Sequences r = starts r
follows Choices r = parts_choice r

abbrev pub rest_from : Code.Level → (at next : ℕ) → ℕ
rest_from Sequences at next = at
rest_from Choices at next = next

abbrev pub pair : Code.Level → (first rest : ℕ) → Expression
pair Sequences a b = Sequence a b
pair Choices a b = Choice a b

-- operands
unfoldable pub leaf_made : Expression → Rules → (at : ℕ) → Part
leaf_made x r i = cond (eqb r.left 0) (over r i) (part i (Operator x) (advanced r [] 1))

abbrev pub name_made : (text : List ℕ) → (name long : ℕ) → Rules → (at : ℕ) → Part
name_made text n k r i = part i (Numbered (index_of (section text n k) (heads text))) r

-- WHAT GOES ON: a token after an expression with which the expression itself would go on, at a level
unfoldable pub suffix_sign : Sign → Bool
suffix_sign (Operand a) = false
suffix_sign (Before p) = false
suffix_sign (After x) = true
suffix_sign Slash = false
suffix_sign Opening = false
suffix_sign Closing = false
suffix_sign Equals = false
suffix_sign Semicolon = false

unfoldable pub start_sign : Sign → Bool
start_sign (Operand a) = true
start_sign (Before p) = true
start_sign (After x) = false
start_sign Slash = false
start_sign Opening = true
start_sign Closing = false
start_sign Equals = false
start_sign Semicolon = false

unfoldable pub slash_sign : Sign → Bool
slash_sign (Operand a) = false
slash_sign (Before p) = false
slash_sign (After x) = false
slash_sign Slash = true
slash_sign Opening = false
slash_sign Closing = false
slash_sign Equals = false
slash_sign Semicolon = false

-- of a token: by its sign; a name or a range starts a part
unfoldable pub by_sign : (Sign → Bool) → (other : Bool) → Token → Bool
by_sign f b (name n) = b
by_sign f b (sign s) = f s
by_sign f b (range l h) = b
by_sign f b unknown = false

abbrev pub is_suffix : Token → Bool
is_suffix t = by_sign suffix_sign false t

abbrev pub is_start : Token → Bool
is_start t = by_sign start_sign true t

abbrev pub is_slash : Token → Bool
is_slash t = by_sign slash_sign false t

-- after prefixes no suffix follows, after parts no part either, and after choices no slash
unfoldable pub Stops : Level → List Token → Type 0
Stops v [] = Unit {0}
Stops choices (t ∷ ts) = (is_suffix t ≡ false) × (is_start t ≡ false) × (is_slash t ≡ false)
Stops parts (t ∷ ts) = (is_suffix t ≡ false) × (is_start t ≡ false)
Stops prefixes (t ∷ ts) = is_suffix t ≡ false
Stops suffixes (t ∷ ts) = is_suffix t ≡ false
Stops operand (t ∷ ts) = Unit {0}

-- AN EXPRESSION READ: its node, the rules with those of its parts, and what follows
pub record ReadsTo (text : List ℕ) (before : Rules) (e : Tree) (us : List Token) (r : Part) : Type 0 where
  pub node : r.node ≡ (compile (heads text) e before.next).node
  pub rules : r.rules ≡ advanced before (compile (heads text) e before.next).helpers (need e)
  pub rest : tokens_at text r.at ≡ us

pub record PartRight (text : List ℕ) (before : Rules) (e : Tree) (us : List Token) (r : Part) : Type 0 where
  pub fits : r.fits ≡ leb (need e) before.left
  pub reads : need e ≤ before.left → ReadsTo text before e us r

-- whatever tree the tokens from the place on begin with, at a level, with so many brackets more allowed to be open
abbrev pub LevelRight : Level → (text : List ℕ) → (at deep : ℕ) → Rules → Part → Type 0
LevelRight v text i d before r = (e : Tree) (us : List Token) → Derives v d (tokens_at text i) e us → Stops v us → PartRight text before e us r

-- suffixes after an expression that was read
unfoldable pub suffixed_all : List Suffix → Tree → Tree
suffixed_all [] e = e
suffixed_all (s ∷ ss) e = suffixed_all ss (suffixed s e)

abbrev pub suffix_tokens : List Suffix → List Token
suffix_tokens ss = map (λ s. sign (After s)) ss

abbrev pub SuffixesRight : (text : List ℕ) → Part → Part → Type 0
SuffixesRight text x r =
    (before : Rules) (e : Tree) (ss : List Suffix) (us : List Token) → x.fits ≡ true → need e ≤ before.left →
    ReadsTo text before e (suffix_tokens ss ++ us) x → Stops suffixes us → PartRight text before (suffixed_all ss e) us r

-- the place after the first token from a place on
abbrev pub Passes : (text : List ℕ) → (at to : ℕ) → Type 0
Passes text i j = (t : Token) (us : List Token) → tokens_at text i ≡ t ∷ us → tokens_at text j ≡ us

-- WHATEVER THE TOKENS ARE, an expression that fits has spent no more rules than there were, its own among them
pub record Spent (before : Rules) (own : ℕ) (r : Part) : Type 0 where
  pub room : r.rules.next + r.rules.left + owed r.node ≤ before.next + before.left + own
  pub left : r.rules.left ≤ before.left

pub record LevelRead (v : Level) (text : List ℕ) (at deep : ℕ) (before : Rules) (r : Part) : Type 0 where
  pub right : LevelRight v text at deep before r
  pub spent : r.fits ≡ true → Spent before 0 r

pub record SuffixesRead (text : List ℕ) (x r : Part) : Type 0 where
  pub right : SuffixesRight text x r
  pub spent : r.fits ≡ true → Spent x.rules (owed x.node) r
