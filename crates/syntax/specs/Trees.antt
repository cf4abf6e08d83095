-- Syntax trees, and the grammar of texts: which tokens are an expression, with its tree, and which are the lines of a grammar. Assumes nothing: these are definitions.
use Rattle.std.specs.Prelude.{List, [], ◌∷◌, map, ℕ, suc}
use Rattle.machine.specs.Verdicts.{Distinct}
use Rattle.syntax.specs.declared.Leaf.{Leaf}
use Rattle.syntax.specs.declared.Prefix.{Prefix}
use Rattle.syntax.specs.declared.Suffix.{Suffix}
use Rattle.syntax.specs.declared.Sign.TheVariants.{Operand, Before, After, Slash, Opening, Closing, Equals, Semicolon}
use Rattle.syntax.specs.Tokens.{Token, name, sign, range, lexemes, tokens}

-- SYNTAX TREES; brackets leave no trace
pub data Tree : Type 0 where
  nonterminal : (letters : List ℕ) → Tree
  leaf : Leaf → Tree
  bytes : (low high : ℕ) → Tree
  prefixed : Prefix → Tree → Tree
  suffixed : Suffix → Tree → Tree
  sequence : Tree → Tree → Tree
  choice : Tree → Tree → Tree

pub record Definition : Type 0 where
  pub letters : List ℕ
  pub body : Tree

abbrev pub names : List Definition → List (List ℕ)
names ds = map (λ d. d.letters) ds

-- line k is n = e
pub data Defines : List Definition → (k : ℕ) → (letters : List ℕ) → Tree → Type 0 where
  here : {n : List ℕ} {e : Tree} {ds : List Definition} → Defines (record { letters = n; body = e } ∷ ds) 0 n e
  there : {d : Definition} {ds : List Definition} {k : ℕ} {n : List ℕ} {e : Tree} → Defines ds k n e → Defines (d ∷ ds) (suc k) n e

-- THE GRAMMAR OF TEXTS, loosest level first: choices of sequences of parts with prefixes, then suffixes, then operands
pub data Level : Type 0 where
  choices parts prefixes suffixes operand : Level

-- Derives v d ts e rest: at level v, with d brackets more allowed to be open, the tokens ts begin with the tree e, and rest follows it
pub data Derives : Level → (deep : ℕ) → List Token → Tree → (rest : List Token) → Type 0 where
  last_choice : {d : ℕ} {ts us : List Token} {e : Tree} → Derives parts d ts e us → Derives choices d ts e us
  more_choices :
      {d : ℕ} {ts us vs : List Token} {e f : Tree} → Derives parts d ts e (sign Slash ∷ us) → Derives choices d us f vs →
      Derives choices d ts (choice e f) vs
  last_part : {d : ℕ} {ts us : List Token} {e : Tree} → Derives prefixes d ts e us → Derives parts d ts e us
  more_parts :
      {d : ℕ} {ts us vs : List Token} {e f : Tree} → Derives prefixes d ts e us → Derives parts d us f vs → Derives parts d ts (sequence e f) vs
  no_prefix : {d : ℕ} {ts us : List Token} {e : Tree} → Derives suffixes d ts e us → Derives prefixes d ts e us
  a_prefix :
      {d : ℕ} {ts us : List Token} {e : Tree} {p : Prefix} → Derives prefixes d ts e us →
      Derives prefixes d (sign (Before p) ∷ ts) (prefixed p e) us
  no_suffix : {d : ℕ} {ts us : List Token} {e : Tree} → Derives operand d ts e us → Derives suffixes d ts e us
  a_suffix :
      {d : ℕ} {ts us : List Token} {e : Tree} {s : Suffix} → Derives suffixes d ts e (sign (After s) ∷ us) →
      Derives suffixes d ts (suffixed s e) us
  a_name : {d : ℕ} {n : List ℕ} {us : List Token} → Derives operand d (name n ∷ us) (nonterminal n) us
  a_leaf : {d : ℕ} {a : Leaf} {us : List Token} → Derives operand d (sign (Operand a) ∷ us) (leaf a) us
  a_range : {d l h : ℕ} {us : List Token} → Derives operand d (range l h ∷ us) (bytes l h) us
  brackets :
      {d : ℕ} {ts us : List Token} {e : Tree} → Derives choices d ts e (sign Closing ∷ us) → Derives operand (suc d) (sign Opening ∷ ts) e us

-- lines: a name, =, an expression and ; each
pub data Reads (deep : ℕ) : List Token → List Definition → Type 0 where
  last_line :
      {n : List ℕ} {ts : List Token} {e : Tree} → Derives choices deep ts e (sign Semicolon ∷ []) →
      Reads deep (name n ∷ sign Equals ∷ ts) (record { letters = n; body = e } ∷ [])
  more_lines :
      {n : List ℕ} {ts us : List Token} {e : Tree} {ds : List Definition} → Derives choices deep ts e (sign Semicolon ∷ us) →
      Reads deep us ds → Reads deep (name n ∷ sign Equals ∷ ts) (record { letters = n; body = e } ∷ ds)

-- LEGAL: lines, and no name is defined twice
pub record Legal (deep : ℕ) (ts : List Token) (ds : List Definition) : Type 0 where
  pub reads : Reads deep ts ds
  pub distinct : Distinct (names ds)

-- the brackets that may be open at once
abbrev pub max_depth : ℕ
max_depth = 16

abbrev pub LegalText : (text : List ℕ) → List Definition → Type 0
LegalText text ds = Legal max_depth (tokens (lexemes text)) ds
