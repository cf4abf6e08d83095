-- Tokens have one tree: two derivations of an expression that both end where no token goes on have the same tree and the same rest. Assumes nothing.
use mathlib.Core.Path.{◌≡◌, refl, sym, ap}
use mathlib.Core.List.{List, ◌∷◌}
use Prim.Native.Nat.{ℕ}
use Rattle.syntax.specs.declared.Leaf.{Leaf}
use Rattle.syntax.specs.declared.Prefix.{Prefix}
use Rattle.syntax.specs.declared.Suffix.{Suffix}
use Rattle.syntax.specs.declared.Sign.TheVariants.{Operand, Before, After, Slash, Opening, Closing, Semicolon}
use Rattle.syntax.specs.Tokens.{Token, name, sign, range}
use Rattle.syntax.specs.Trees.{Tree, nonterminal, leaf, bytes, prefixed, suffixed, sequence, choice, Level, choices, parts, prefixes, suffixes, operand, Derives, last_choice, more_choices, last_part, more_parts, no_prefix, a_prefix, no_suffix, a_suffix, a_name, a_leaf, a_range, brackets}

-- TOKENS THAT BEGIN NO EXPRESSION
data Follows : Token → Type 0 where
  closing : Follows (sign Closing)
  semicolon : Follows (sign Semicolon)
  slash : Follows (sign Slash)
  suffix : {x : Suffix} → Follows (sign (After x))

begins_none : {v : Level} {d : ℕ} {t : Token} {us vs : List Token} {e : Tree} → Derives v d (t ∷ us) e vs → Follows t → ⊥
begins_none (last_choice x) f = begins_none x f
begins_none (more_choices x y) f = begins_none x f
begins_none (last_part x) f = begins_none x f
begins_none (more_parts x y) f = begins_none x f
begins_none (no_prefix x) f = begins_none x f
begins_none (a_prefix x) f = elim f [ ]
begins_none (no_suffix x) f = begins_none x f
begins_none (a_suffix x) f = begins_none x f
begins_none a_name f = elim f [ ]
begins_none a_leaf f = elim f [ ]
begins_none a_range f = elim f [ ]
begins_none (brackets x) f = elim f [ ]

prefix_first : {d : ℕ} {p : Prefix} {us vs : List Token} {e : Tree} → Derives suffixes d (sign (Before p) ∷ us) e vs → ⊥
prefix_first (no_suffix x) = elim x [ ]
prefix_first (a_suffix x) = prefix_first x

-- WHERE A LEVEL STOPS: nothing that follows goes on at that level
data Stops : Level → List Token → Type 0 where
  by_closing : {v : Level} {us : List Token} → Stops v (sign Closing ∷ us)
  by_semicolon : {v : Level} {us : List Token} → Stops v (sign Semicolon ∷ us)
  parts_by_slash : {us : List Token} → Stops parts (sign Slash ∷ us)
  prefixes_by_slash : {us : List Token} → Stops prefixes (sign Slash ∷ us)
  by_part : {d : ℕ} {us vs : List Token} {e : Tree} → Derives parts d us e vs → Stops prefixes us

stops_choice : {us : List Token} → Stops choices us → Stops parts us
stops_choice by_closing = by_closing
stops_choice by_semicolon = by_semicolon

stops_part : {us : List Token} → Stops parts us → Stops prefixes us
stops_part by_closing = by_closing
stops_part by_semicolon = by_semicolon
stops_part parts_by_slash = prefixes_by_slash

not_by_slash : {us : List Token} → Stops choices (sign Slash ∷ us) → ⊥
not_by_slash s = elim s [ ]

not_by_suffix : {x : Suffix} {us : List Token} → Stops prefixes (sign (After x) ∷ us) → ⊥
not_by_suffix (by_part p) = begins_none p suffix

no_part : {d : ℕ} {us vs : List Token} {e : Tree} → Stops parts us → Derives parts d us e vs → ⊥
no_part by_closing p = begins_none p closing
no_part by_semicolon p = begins_none p semicolon
no_part parts_by_slash p = begins_none p slash

-- the same tree, and the same rest
pub record Agree (e f : Tree) (us vs : List Token) : Type 0 where
  pub tree : e ≡ f
  pub rest : us ≡ vs

-- A TREE AND THE SUFFIXES THAT FOLLOW IT make another
data Wraps : Tree → List Token → Tree → List Token → Type 0 where
  as_it_is : {e : Tree} {us : List Token} → Wraps e us e us
  wrap : {e f : Tree} {x : Suffix} {us vs : List Token} → Wraps (suffixed x e) us f vs → Wraps e (sign (After x) ∷ us) f vs

wrap_last : {e f : Tree} {x : Suffix} {us vs : List Token} → Wraps e us f (sign (After x) ∷ vs) → Wraps e us (suffixed x f) vs
wrap_last as_it_is = wrap as_it_is
wrap_last (wrap w) = wrap (wrap_last w)

wraps_agree :
    {e f g : Tree} {ts us vs : List Token} → Wraps e ts f us → Wraps e ts g vs → Stops prefixes us → Stops prefixes vs → Agree f g us vs
wraps_agree as_it_is as_it_is s t = record { tree = refl; rest = refl }
wraps_agree as_it_is (wrap w) s t = absurd (not_by_suffix s)
wraps_agree (wrap w) as_it_is s t = absurd (not_by_suffix t)
wraps_agree (wrap w) (wrap z) s t = wraps_agree w z s t

record OperandFirst (d : ℕ) (ts : List Token) (e : Tree) (us : List Token) : Type 0 where
  tree : Tree
  rest : List Token
  derived : Derives operand d ts tree rest
  wraps : Wraps tree rest e us

operand_first : {d : ℕ} {ts us : List Token} {e : Tree} → Derives suffixes d ts e us → OperandFirst d ts e us
operand_first (no_suffix x) = record { tree = _; rest = _; derived = x; wraps = as_it_is }
operand_first (a_suffix x) =
    let r = operand_first x in
    record { tree = r.tree; rest = r.rest; derived = r.derived; wraps = wrap_last r.wraps }

-- ONE TREE, level by level: what a derivation says of every other of the same tokens
abbrev Unique : Level → List Token → Tree → List Token → Type 0
Unique choices ts e us = (d : ℕ) (f : Tree) (vs : List Token) → Derives choices d ts f vs → Stops choices us → Stops choices vs → Agree e f us vs
Unique parts ts e us = (d : ℕ) (f : Tree) (vs : List Token) → Derives parts d ts f vs → Stops parts us → Stops parts vs → Agree e f us vs
Unique prefixes ts e us = (d : ℕ) (f : Tree) (vs : List Token) → Derives prefixes d ts f vs → Stops prefixes us → Stops prefixes vs → Agree e f us vs
Unique suffixes ts e us = (d : ℕ) (f : Tree) (vs : List Token) → Derives operand d ts f vs → Wraps f vs e us
Unique operand ts e us = (d : ℕ) (f : Tree) (vs : List Token) → Derives operand d ts f vs → Agree e f us vs

one_last_choice : {ts us : List Token} {e : Tree} → Unique parts ts e us → Unique choices ts e us
one_last_choice u d f vs (last_choice y) s t = u _ _ _ y (stops_choice s) (stops_choice t)
one_last_choice u d f vs (more_choices y z) s t = absurd (not_by_slash (rw (u _ _ _ y (stops_choice s) parts_by_slash).rest at s))

one_more_choices :
    {ts us ws : List Token} {e f : Tree} → Unique parts ts e (sign Slash ∷ us) → Unique choices us f ws → Unique choices ts (choice e f) ws
one_more_choices u v d g vs (last_choice y) s t = absurd (not_by_slash (rw (sym (u _ _ _ y parts_by_slash (stops_choice t)).rest) at t))
one_more_choices {us = us} u v d g vs (more_choices {us = xs} y z) s t =
    let q = u _ _ _ y parts_by_slash parts_by_slash in
    let same_rest : xs ≡ us = cc in
    let r = v _ _ _ (rw same_rest at z) s t in
    record { tree = cc; rest = r.rest }

one_last_part : {ts us : List Token} {e : Tree} → Unique prefixes ts e us → Unique parts ts e us
one_last_part u d f vs (last_part y) s t = u _ _ _ y (stops_part s) (stops_part t)
one_last_part u d f vs (more_parts y z) s t = absurd (no_part s (rw (sym (u _ _ _ y (stops_part s) (by_part z)).rest) at z))

one_more_parts :
    {c : ℕ} {ts us ws : List Token} {e f : Tree} → Unique prefixes ts e us → Unique parts us f ws → Derives parts c us f ws →
    Unique parts ts (sequence e f) ws
one_more_parts u v x d g vs (last_part y) s t = absurd (no_part t (rw (u _ _ _ y (by_part x) (stops_part t)).rest at x))
one_more_parts u v x d g vs (more_parts y z) s t =
    let q = u _ _ _ y (by_part x) (by_part z) in
    let r = v _ _ _ (rw (sym q.rest) at z) s t in
    record { tree = cc; rest = r.rest }

one_no_prefix : {c : ℕ} {ts us : List Token} {e : Tree} → Derives suffixes c ts e us → Unique suffixes ts e us → Unique prefixes ts e us
one_no_prefix x u d f vs (no_prefix y) s t = let r = operand_first y in wraps_agree (u _ _ _ r.derived) r.wraps s t
one_no_prefix x u d f vs (a_prefix y) s t = absurd (prefix_first x)

one_prefix : {p : Prefix} {ts us : List Token} {e : Tree} → Unique prefixes ts e us → Unique prefixes (sign (Before p) ∷ ts) (prefixed p e) us
one_prefix u d f vs (no_prefix y) s t = absurd (prefix_first y)
one_prefix {p} u d f vs (a_prefix y) s t = let r = u _ _ _ y s t in record { tree = ap (prefixed p) r.tree; rest = r.rest }

one_operand : {ts us : List Token} {e : Tree} → Unique operand ts e us → Unique suffixes ts e us
one_operand u d f vs y = let r = u _ _ _ y in rw (r.tree, r.rest) as_it_is

one_name : {n : List ℕ} {us : List Token} → Unique operand (name n ∷ us) (nonterminal n) us
one_name d f vs a_name = record { tree = refl; rest = refl }

one_leaf : {a : Leaf} {us : List Token} → Unique operand (sign (Operand a) ∷ us) (leaf a) us
one_leaf d f vs a_leaf = record { tree = refl; rest = refl }

one_range : {l h : ℕ} {us : List Token} → Unique operand (range l h ∷ us) (bytes l h) us
one_range d f vs a_range = record { tree = refl; rest = refl }

one_brackets : {ts us : List Token} {e : Tree} → Unique choices ts e (sign Closing ∷ us) → Unique operand (sign Opening ∷ ts) e us
one_brackets u d f vs (brackets y) = let r = u _ _ _ y by_closing by_closing in record { tree = r.tree; rest = cc }

one_tree : {v : Level} {d : ℕ} {ts us : List Token} {e : Tree} → Derives v d ts e us → Unique v ts e us
one_tree (last_choice x) = one_last_choice (one_tree x)
one_tree (more_choices x y) = one_more_choices (one_tree x) (one_tree y)
one_tree (last_part x) = one_last_part (one_tree x)
one_tree (more_parts x y) = one_more_parts (one_tree x) (one_tree y) y
one_tree (no_prefix x) = one_no_prefix x (one_tree x)
one_tree (a_prefix x) = one_prefix (one_tree x)
one_tree (no_suffix x) = one_operand (one_tree x)
one_tree (a_suffix x) = λ d f vs y. wrap_last (one_tree x d f vs y)
one_tree a_name = one_name
one_tree a_leaf = one_leaf
one_tree a_range = one_range
one_tree (brackets x) = one_brackets (one_tree x)

-- OF AN EXPRESSION THAT A SEMICOLON ENDS
pub one_body :
    {c d : ℕ} {ts us vs : List Token} {e f : Tree} → Derives choices c ts e (sign Semicolon ∷ us) → Derives choices d ts f (sign Semicolon ∷ vs) →
    Agree e f us vs
one_body x y = let r = one_tree x _ _ _ y by_semicolon by_semicolon in record { tree = r.tree; rest = cc }
