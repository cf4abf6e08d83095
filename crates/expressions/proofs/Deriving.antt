-- How an expression's derivation begins and is put together: by its first token, its suffixes, its first part and the rest. Assumes nothing.
use mathlib.Core.Path.{◌≡◌, refl, sym, ap, subst, ◌∙◌}
use mathlib.Core.Bool.{true, false}
use mathlib.Core.List.{List, [], ◌∷◌, ◌++◌}
use Prim.Native.Nat.{ℕ}
use native.Mathlib.Omega.{arith}
use Rattle.syntax.specs.declared.Prefix.{Prefix}
use Rattle.syntax.specs.declared.Suffix.{Suffix}
use Rattle.syntax.specs.declared.Sign.TheVariants.{Operand, Before, After, Slash, Opening, Closing, Equals, Semicolon}
use Rattle.syntax.specs.Tokens.{Token, name, sign, range, unknown}
use Rattle.syntax.specs.Trees.{Tree, suffixed, sequence, choice, Level, choices, parts, prefixes, suffixes, operand, Derives, last_choice, more_choices, last_part, more_parts, no_prefix, a_prefix, no_suffix, a_suffix, a_name, a_leaf, a_range, brackets}
use Rattle.expressions.specs.Code.Levels.{suffix_sign, start_sign, slash_sign, by_sign, is_suffix, is_start, Stops, suffixed_all, suffix_tokens}

-- the first token of an expression starts a part
pub record Begins (ts : List Token) : Type 0 where
  pub token : Token
  pub later : List Token
  pub is : ts ≡ token ∷ later
  pub starts : is_start token ≡ true

pub begins : {v : Level} {d : ℕ} {ts us : List Token} {e : Tree} → Derives v d ts e us → Begins ts
unfolding by_sign start_sign
begins (last_choice x) = begins x
begins (more_choices x y) = begins x
begins (last_part x) = begins x
begins (more_parts x y) = begins x
begins (no_prefix x) = begins x
begins (a_prefix x) = record { token = _; later = _; is = refl; starts = refl }
begins (no_suffix x) = begins x
begins (a_suffix x) = begins x
begins a_name = record { token = _; later = _; is = refl; starts = refl }
begins a_leaf = record { token = _; later = _; is = refl; starts = refl }
begins a_range = record { token = _; later = _; is = refl; starts = refl }
begins (brackets x) = record { token = _; later = _; is = refl; starts = refl }

start_no_suffix : (t : Token) → is_start t ≡ true → is_suffix t ≡ false
unfolding by_sign start_sign suffix_sign
start_no_suffix (name n) e = refl
start_no_suffix (sign (Operand a)) e = refl
start_no_suffix (sign (Before p)) e = refl
start_no_suffix (sign (After x)) e = sym e
start_no_suffix (sign Slash) e = refl
start_no_suffix (sign Opening) e = refl
start_no_suffix (sign Closing) e = refl
start_no_suffix (sign Equals) e = refl
start_no_suffix (sign Semicolon) e = refl
start_no_suffix (range l h) e = refl
start_no_suffix unknown e = refl

-- WHAT STOPS a looser level stops a tighter one
pub stops_parts : (us : List Token) → Stops choices us → Stops parts us
unfolding Stops
stops_parts [] s = tt
stops_parts (t ∷ us) s = (s.0, s.1)

pub stops_prefixes : (us : List Token) → Stops parts us → Stops prefixes us
unfolding Stops
stops_prefixes [] s = tt
stops_prefixes (t ∷ us) s = s.0

pub stops_suffixes : (us : List Token) → Stops prefixes us → Stops suffixes us
unfolding Stops
stops_suffixes [] s = tt
stops_suffixes (t ∷ us) s = s

pub stops_operand : (us : List Token) → Stops operand us
unfolding Stops
stops_operand [] = tt
stops_operand (t ∷ us) = tt

pub slash_stops : (us : List Token) → Stops parts (sign Slash ∷ us)
unfolding Stops by_sign suffix_sign start_sign
slash_stops us = (refl, refl)

pub closing_stops : (us : List Token) → Stops choices (sign Closing ∷ us)
unfolding Stops by_sign suffix_sign start_sign slash_sign
closing_stops us = (refl, refl, refl)

pub semicolon_stops : (us : List Token) → Stops choices (sign Semicolon ∷ us)
unfolding Stops by_sign suffix_sign start_sign slash_sign
semicolon_stops us = (refl, refl, refl)

pub start_stops : (us : List Token) → Begins us → Stops prefixes us
unfolding Stops
start_stops us b = subst (λ (ts : List Token). Stops prefixes ts) (sym b.is) (start_no_suffix b.token b.starts)

-- A SEQUENCE OR CHOICE: one part, or a first part and the rest. What follows the first part, and from where the rest is read
abbrev pub AfterSlash : (mid rest : List Token) → Type 0
AfterSlash mid rest = mid ≡ sign Slash ∷ rest

abbrev pub AfterPart : (mid rest : List Token) → Type 0
AfterPart mid rest = (mid ≡ rest) × Begins mid

pub record Two (inner outer : Level) (follows : List Token → List Token → Type 0) (join : Tree → Tree → Tree) (d : ℕ) (ts : List Token) (e : Tree) (us : List Token) : Type 0 where
  pub one : Tree
  pub other : Tree
  pub mid : List Token
  pub rest : List Token
  pub tree : e ≡ join one other
  pub first : Derives inner d ts one mid
  pub stops : Stops inner mid
  pub between : follows mid rest
  pub second : Derives outer d rest other us

pub data Parted (inner outer : Level) (follows : List Token → List Token → Type 0) (join : Tree → Tree → Tree) (d : ℕ) (ts : List Token) (e : Tree) (us : List Token) : Type 0 where
  alone : Derives inner d ts e us → Stops inner us → ((rest : List Token) → follows us rest → ⊥) → Parted inner outer follows join d ts e us
  two : Two inner outer follows join d ts e us → Parted inner outer follows join d ts e us

no_slash_after : (us : List Token) → Stops choices us → (rest : List Token) → AfterSlash us rest → ⊥
unfolding Stops by_sign slash_sign
no_slash_after [] s rest f = let z : ◌≡◌ {A = ℕ} 0 1 = cc in omega arith
no_slash_after (t ∷ us) s rest f =
    let is : t ≡ sign Slash = cc in
    let z : ◌≡◌ {A = ℕ} 0 1 = cc (s.2, ap (λ (x : Token). by_sign slash_sign false x) is) in
    omega arith

no_part_after : (us : List Token) → Stops parts us → (rest : List Token) → AfterPart us rest → ⊥
unfolding Stops
no_part_after [] s rest f = let z : ◌≡◌ {A = ℕ} 0 1 = cc f.1.is in omega arith
no_part_after (t ∷ us) s rest f =
    let is : t ≡ f.1.token = cc f.1.is in
    let z : ◌≡◌ {A = ℕ} 0 1 = cc (s.1, f.1.starts) in
    omega arith

pub choices_parted : {d : ℕ} {ts us : List Token} {e : Tree} → Derives choices d ts e us → Stops choices us → Parted parts choices AfterSlash choice d ts e us
choices_parted {us = us} (last_choice x) s = alone x (stops_parts us s) (no_slash_after us s)
choices_parted (more_choices {us = ws} x y) s =
    two (record { one = _; other = _; mid = _; rest = ws; tree = refl; first = x; stops = slash_stops ws; between = refl; second = y })

pub parts_parted : {d : ℕ} {ts us : List Token} {e : Tree} → Derives parts d ts e us → Stops parts us → Parted prefixes parts AfterPart sequence d ts e us
parts_parted {us = us} (last_part x) s = alone x (stops_prefixes us s) (no_part_after us s)
parts_parted (more_parts {us = ws} x y) s =
    two (record { one = _; other = _; mid = ws; rest = ws; tree = refl; first = x; stops = start_stops ws (begins y); between = (refl, begins y); second = y })

-- SUFFIXES: an operand, and those after it
pub record OperandOf (d : ℕ) (ts : List Token) (e : Tree) (us : List Token) : Type 0 where
  pub tree : Tree
  pub suffixes_after : List Suffix
  pub derived : Derives operand d ts tree (suffix_tokens suffixes_after ++ us)
  pub is : e ≡ suffixed_all suffixes_after tree

suffixed_last : (ss : List Suffix) (s : Suffix) (e : Tree) → suffixed s (suffixed_all ss e) ≡ suffixed_all (ss ++ (s ∷ [])) e
unfolding suffixed_all
suffixed_last [] s e = refl
suffixed_last (x ∷ ss) s e = suffixed_last ss s (suffixed x e)

tokens_last : (ss : List Suffix) (s : Suffix) (us : List Token) → suffix_tokens ss ++ (sign (After s) ∷ us) ≡ suffix_tokens (ss ++ (s ∷ [])) ++ us
tokens_last [] s us = refl
tokens_last (x ∷ ss) s us = ap (λ (ts : List Token). sign (After x) ∷ ts) (tokens_last ss s us)

pub operand_of : {d : ℕ} {ts us : List Token} {e : Tree} → Derives suffixes d ts e us → OperandOf d ts e us
unfolding suffixed_all
operand_of (no_suffix x) = record { tree = _; suffixes_after = []; derived = x; is = refl }
operand_of {d} {ts} {us} (a_suffix {s = s} x) =
    let o = operand_of x in
    record {
      tree = o.tree;
      suffixes_after = o.suffixes_after ++ (s ∷ []);
      derived = subst (λ (vs : List Token). Derives operand d ts o.tree vs) (tokens_last o.suffixes_after s us) o.derived;
      is = ap (λ (e : Tree). suffixed s e) o.is ∙ suffixed_last o.suffixes_after s o.tree;
    }

-- an operand does not begin with a prefix
operand_prefix : {d : ℕ} {ts us : List Token} {e : Tree} → Derives operand d ts e us → (p : Prefix) (ws : List Token) → ts ≡ sign (Before p) ∷ ws → ⊥
operand_prefix a_name p ws f = let z : ◌≡◌ {A = ℕ} 0 1 = cc in omega arith
operand_prefix a_leaf p ws f = let z : ◌≡◌ {A = ℕ} 0 1 = cc in omega arith
operand_prefix a_range p ws f = let z : ◌≡◌ {A = ℕ} 0 1 = cc in omega arith
operand_prefix (brackets x) p ws f = let z : ◌≡◌ {A = ℕ} 0 1 = cc in omega arith

pub suffixes_prefix : {d : ℕ} {ts us : List Token} {e : Tree} → Derives suffixes d ts e us → (p : Prefix) (ws : List Token) → ts ≡ sign (Before p) ∷ ws → ⊥
suffixes_prefix x p ws f = operand_prefix (operand_of x).derived p ws f
