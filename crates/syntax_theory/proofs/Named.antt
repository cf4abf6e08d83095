-- Names that are defined: where a legal text has no undefined name, each name in a line's body is that of a line; and of one only, as names are distinct. Assumes nothing.
use mathlib.Core.Path.{◌≡◌, refl, sym, ap, subst, ◌∙◌}
use mathlib.Core.Bool.{Bool, true, false, cond}
use mathlib.Core.List.Memᴰ
use mathlib.Core.List.{List, [], ◌∷◌, Memᴰ}
use Prim.Native.Nat.{ℕ, suc, ◌<◌}
use native.Mathlib.Omega.{arith}
use lib.ListN.{length, get_or}
use Rattle.machine.specs.Verdicts.{Distinct}
use Rattle.refusal.specs.First.{refusal}
use Rattle.syntax.specs.declared.Leaf.TheVariants.{EmptyString}
use Rattle.syntax.specs.Tokens.{Token, Lexeme, same, tokens}
use Rattle.syntax.specs.Trees.{Tree, nonterminal, leaf, bytes, prefixed, suffixed, sequence, choice, Definition, names, Defines, Level, Derives, Reads}
use Rattle.syntax.specs.Faults.{not_in, undefined_in, first_undefined}
use Rattle.syntax.specs.Compile.{index_of}
use Rattle.syntax.proofs.NamesApart.{same_is, same_itself}
use Rattle.syntax_theory.proofs.Numbering.{Each, no_element, an_element, each_first, each_rest}

clash : {A : Type 0} → false ≡ true → A
clash e = let z : ◌≡◌ {A = ℕ} 0 1 = cc in absurd (omega arith)

-- a name that is among those of the lines is that of the line it is found at
pub found : (n : List ℕ) (ds : List Definition) → not_in n (names ds) ≡ false → (e : Tree) × Defines ds (index_of n (names ds)) n e
unfolding not_in index_of
found n [] h = clash (sym h)
found n (d ∷ ds) h = go (same n d.letters) refl (found n ds) h
  where
    go :
        (t : Bool) → same n d.letters ≡ t → (not_in n (names ds) ≡ false → (e : Tree) × Defines ds (index_of n (names ds)) n e) →
        cond t false (not_in n (names ds)) ≡ false → (e : Tree) × Defines (d ∷ ds) (cond t 0 (suc (index_of n (names ds)))) n e
    go true f rest g = (d.body, subst (λ (m : List ℕ). Defines (d ∷ ds) 0 m d.body) (sym (same_is n d.letters f)) Defines.here)
    go false f rest g = let r = rest g in (r.0, Defines.there r.1)

pub defines_below : {ds : List Definition} {k : ℕ} {n : List ℕ} {e : Tree} → Defines ds k n e → k < length ds
defines_below Defines.here = omega arith
defines_below (Defines.there d) = omega (arith, defines_below d)

-- ONE LINE A NAME
module _ {n : List ℕ} {e : Tree} where
  pub defines_named : {ds : List Definition} {k : ℕ} → Defines ds k n e → Memᴰ n (names ds)
  defines_named Defines.here = Memᴰ.head refl
  defines_named (Defines.there d) = Memᴰ.tail (defines_named d)

  pub defines_index : {ds : List Definition} {k : ℕ} → Defines ds k n e → Distinct (names ds) → index_of n (names ds) ≡ k
  unfolding index_of
  defines_index Defines.here h = simp (same_itself n)
  defines_index (Defines.there {d} {ds} {k} l) (Distinct.cons other h) = go (same n d.letters) refl (defines_index l h)
    where
      go : (t : Bool) → same n d.letters ≡ t → index_of n (names ds) ≡ k → cond t 0 (suc (index_of n (names ds))) ≡ suc k
      go true f rest = absurd (other (Memᴰ.cast (sym (same_is n d.letters f)) (defines_named l)))
      go false f rest = ap suc rest

  defines_body : {ds : List Definition} {k : ℕ} → Defines ds k n e → (get_or ds k (record { letters = []; body = leaf EmptyString })).body ≡ e
  defines_body Defines.here = refl
  defines_body (Defines.there d) = defines_body d

pub one_number :
    {ds : List Definition} {k h : ℕ} {n : List ℕ} {e f : Tree} → Distinct (names ds) → Defines ds k n e → Defines ds h n f → k ≡ h
one_number u d c = sym (defines_index d u) ∙ defines_index c u

pub one_body :
    {ds : List Definition} {k h : ℕ} {n : List ℕ} {e f : Tree} → Distinct (names ds) → Defines ds k n e → Defines ds h n f → e ≡ f
one_body {ds = ds} u d c =
    sym (defines_body d)
    ∙ ap (λ (i : ℕ). (get_or ds i (record { letters = []; body = leaf EmptyString })).body) (one_number u d c)
    ∙ defines_body c

-- THE NAMES OF A TREE are those of lines
unfoldable pub Closed : List Definition → Tree → Type 0
Closed ds (nonterminal n) = (e : Tree) × Defines ds (index_of n (names ds)) n e
Closed ds (leaf a) = Unit {0}
Closed ds (bytes l h) = Unit {0}
Closed ds (prefixed p e) = Closed ds e
Closed ds (suffixed s e) = Closed ds e
Closed ds (sequence e f) = Closed ds e × Closed ds f
Closed ds (choice e f) = Closed ds e × Closed ds f

module _ (ds : List Definition) where
  abbrev pub Known : Token → Type 0
  Known t = undefined_in (names ds) t ≡ false

  derived : {v : Level} {d : ℕ} {ts us : List Token} {e : Tree} → Derives v d ts e us → Each Known ts → Closed ds e × Each Known us
  unfolding Closed undefined_in
  derived (Derives.last_choice p) k = derived p k
  derived (Derives.more_choices p q) k = let a = derived p k in let b = derived q (each_rest a.1) in ((a.0, b.0), b.1)
  derived (Derives.last_part p) k = derived p k
  derived (Derives.more_parts p q) k = let a = derived p k in let b = derived q a.1 in ((a.0, b.0), b.1)
  derived (Derives.no_prefix p) k = derived p k
  derived (Derives.a_prefix p) k = derived p (each_rest k)
  derived (Derives.no_suffix p) k = derived p k
  derived (Derives.a_suffix p) k = let a = derived p k in (a.0, each_rest a.1)
  derived (Derives.a_name {n = n}) k = (found n ds (each_first k), each_rest k)
  derived Derives.a_leaf k = (record {}, each_rest k)
  derived Derives.a_range k = (record {}, each_rest k)
  derived (Derives.brackets p) k = let a = derived p (each_rest k) in (a.0, each_rest a.1)

  abbrev pub ClosedLine : Definition → Type 0
  ClosedLine d = Closed ds d.body

  pub read_closed : {deep : ℕ} {ts : List Token} {es : List Definition} → Reads deep ts es → Each Known ts → Each ClosedLine es
  read_closed (Reads.last_line p) k = an_element (derived p (each_rest (each_rest k))).0 no_element
  read_closed (Reads.more_lines p r) k =
      let a = derived p (each_rest (each_rest k)) in
      an_element a.0 (read_closed r (each_rest a.1))

  pub all_known : (ls : List Lexeme) → (first_undefined (names ds) ls).number ≡ 0 → Each Known (tokens ls)
  unfolding first_undefined tokens
  all_known [] h = no_element
  all_known (l ∷ ls) h = go (undefined_in (names ds) l.token) refl (all_known ls) h
    where
      go :
          (t : Bool) → undefined_in (names ds) l.token ≡ t → ((first_undefined (names ds) ls).number ≡ 0 → Each Known (tokens ls)) →
          (cond t (refusal 15 l.offset) (first_undefined (names ds) ls)).number ≡ 0 → Each Known (l.token ∷ tokens ls)
      go true f rest g = absurd (omega arith)
      go false f rest g = an_element f (rest g)
