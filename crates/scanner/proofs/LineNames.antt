-- A legal text has each line's name where the line begins. Assumes nothing.
use mathlib.Core.Path.{◌≡◌, refl, sym, ap, subst, ◌∙◌}
use mathlib.Core.Bool.{Bool, true, false, cond}
use mathlib.Core.List.{List, [], ◌∷◌}
use Prim.Native.Nat.{ℕ, zero, suc, ◌+◌, ◌<◌, ◌≤◌}
use native.Mathlib.Decide.{dec_lt}
use native.Mathlib.Omega.{arith}
use lib.ListN.{length, get_or, drop}
use Rattle.refusal.specs.declared.Refusal.{Refusal}
use Rattle.codec.specs.Bytes.{byte, section}
use Rattle.syntax.specs.declared.Sign.{Sign}
use Rattle.syntax.specs.Tokens.{Token, name, sign, range, unknown, ends_line, Lexeme, letter, letters, word, token_at, width_at, skipped, lexemes, tokens}
use Rattle.syntax.specs.Trees.{Tree, Definition, names, Defines, here, there, LegalText}
use Rattle.syntax.specs.Faults.{Spot, at_line, at_equals, inside, Next, to, wrong, next, defined_after, first_wrong, fault}
use Rattle.syntax.specs.RuleLines.{line_offsets, NameAt}
use Rattle.syntax.specs.Code.Heads.{head_of, heads_from}
use Rattle.syntax.proofs.Heads.{heads_are}
use Rattle.syntax.proofs.FaultsRight.{legal_faultless}
use Rattle.scanner.specs.Code.Scanning.{lexemes_at, reserved}
use Rattle.scanner.specs.Code.Stepping.{begins}
use Rattle.scanner.proofs.Lexing.{front, letters_taken, lexemes_end, lexemes_skipped, lexemes_token, width_there}
use Rattle.scanner.proofs.Tokenizing.{NoName, a_sign, never_name, no_name_there, word_is}
use Rattle.scanner.proofs.Faulting.{begins_next, wrong_some, fault_later, fault_here}

-- A NAME AT A PLACE is the letters there
word_stands : (ls n : List ℕ) → word ls ≡ name n → n ≡ ls
word_stands ls n e = go (reserved ls) _ (sym (word_is ls) ∙ e)
  where
    go : (b : Bool) (t : Sign) → cond b (sign t) (name ls) ≡ name n → n ≡ ls
    go true t q = absurd (never_name (subst NoName q a_sign))
    go false t q = cc

name_stands : (text : List ℕ) (o : ℕ) (n : List ℕ) → token_at (drop o text) ≡ name n → section text o (length n) ≡ n
unfolding token_at
name_stands text o n e = go (letter (byte text o)) refl
  where
    go : (b : Bool) → letter (byte text o) ≡ b → section text o (length n) ≡ n
    go false q = absurd (never_name (subst NoName e (no_name_there text o q)))
    go true q =
        let is : n ≡ letters (drop o text) = word_stands (letters (drop o text)) n (sym (rw (front text o, q)) ∙ e) in
        rw is (letters_taken (drop o text))

-- NAMES STAND AT OFFSETS, one at each
data Stand (text : List ℕ) : (names : List (List ℕ)) → (offsets : List ℕ) → Type 0 where
  none_left : Stand text [] []
  one_more :
      {n : List ℕ} {o : ℕ} {ns : List (List ℕ)} {os : List ℕ} → section text o (length n) ≡ n → Stand text ns os → Stand text (n ∷ ns) (o ∷ os)

abbrev LinesStand : (text : List ℕ) → Spot → List Lexeme → Type 0
LinesStand text s ls = Stand text (heads_from (begins s) (tokens ls)) (line_offsets (begins s) ls)

-- a token that the check passes: a name where a line begins, or a token inside a line
token_stands :
    (text : List ℕ) (ns : List (List ℕ)) (s u : Spot) (l : Lexeme) (ls : List Lexeme) →
    ((n : List ℕ) → l.token ≡ name n → section text l.offset (length n) ≡ n) → next ns s l.token ≡ to u → LinesStand text u ls →
    LinesStand text s (l ∷ ls)
unfolding heads_from head_of line_offsets begins tokens next
token_stands text ns s u l ls stands e rest = go s l.token stands e (rw (← begins_next ns s l.token u e) at rest)
  where
    go : (s : Spot) (t : Token) → ((n : List ℕ) → t ≡ name n → section text l.offset (length n) ≡ n) → next ns s t ≡ to u →
        Stand text (heads_from (ends_line t) (tokens ls)) (line_offsets (ends_line t) ls) →
        LinesStand text s (record { offset = l.offset; token = t } ∷ ls)
    go at_line (name n) stands e rest = one_more (stands n refl) rest
    go at_line (sign g) stands e rest = absurd (let z : ◌≡◌ {A = ℕ} 0 1 = cc in omega arith)
    go at_line (range m h) stands e rest = absurd (let z : ◌≡◌ {A = ℕ} 0 1 = cc in omega arith)
    go at_line unknown stands e rest = absurd (let z : ◌≡◌ {A = ℕ} 0 1 = cc in omega arith)
    go at_equals t stands e rest = rest
    go (inside c k) t stands e rest = rest

-- THE CHECK FINDS NO FAULT in the tokens left
abbrev Passed : (text : List ℕ) → (defined : List (List ℕ)) → Spot → List Lexeme → Type 0
Passed text ns s ls = (first_wrong ns s ls (length text)).number ≡ 0

stand_next :
    (text : List ℕ) (ns : List (List ℕ)) (s : Spot) (l : Lexeme) (ls : List Lexeme) →
    ((n : List ℕ) → l.token ≡ name n → section text l.offset (length n) ≡ n) → Passed text ns s (l ∷ ls) →
    ((ms : List (List ℕ)) (u : Spot) → Passed text ms u ls → LinesStand text u ls) → LinesStand text s (l ∷ ls)
stand_next text ns s l ls stands fine rest = go (next ns s l.token) refl
  where
    go : (x : Next) → next ns s l.token ≡ x → LinesStand text s (l ∷ ls)
    go (wrong m) e =
        absurd (wrong_some ns s l.token m e (sym (ap (λ (f : Refusal). f.number) (fault_here ns s l ls (length text) m e)) ∙ fine))
    go (to u) e =
        let later = sym (ap (λ (f : Refusal). f.number) (fault_later ns s l ls (length text) u e)) ∙ fine in
        token_stands text ns s u l ls stands e (rest (defined_after ns s l.token) u later)

stand_end : (text : List ℕ) (s : Spot) (i : ℕ) → length text ≤ i → LinesStand text s (lexemes_at text i)
unfolding heads_from line_offsets tokens
stand_end text s i h = rw (lexemes_end text i h) none_left

-- from a place on: the text's end, a skipped byte, or a token
stand_from :
    (fuel : ℕ) (text : List ℕ) (ns : List (List ℕ)) (s : Spot) (i : ℕ) → length text ≤ i + fuel → Passed text ns s (lexemes_at text i) →
    LinesStand text s (lexemes_at text i)
stand_from zero text ns s i h fine = stand_end text s i (omega arith)
stand_from (suc n) text ns s i h fine =
    go (dec_lt i (length text)) (skipped (byte text i)) refl (λ ms u k. stand_from n text ms u k)
  where
    go : Dec (i < length text) → (b : Bool) → skipped (byte text i) ≡ b →
        ((ms : List (List ℕ)) (u : Spot) (k : ℕ) → length text ≤ k + n → Passed text ms u (lexemes_at text k) → LinesStand text u (lexemes_at text k)) →
        LinesStand text s (lexemes_at text i)
    go (no g) b e later = stand_end text s i (omega arith)
    go (yes g) true e later =
        let same = lexemes_skipped text i g e in
        rw same (later ns s (suc i) (omega arith) (rw same at fine))
    go (yes g) false e later =
        let first = lexemes_token text i g e in
        rw first (stand_next text ns s _ _ (name_stands text i) (rw first at fine)
        (λ ms u p. later ms u (i + width_at (drop i text)) (omega (arith, width_there text i g)) p))

-- EACH LINE OF A LEGAL TEXT has its name where it begins
stand_all : (text : List ℕ) (ds : List Definition) → LegalText text ds → Stand text (names ds) (line_offsets true (lexemes text))
unfolding fault lexemes lexemes_at begins
stand_all text ds legal =
    subst (λ (ns : List (List ℕ)). Stand text ns (line_offsets true (lexemes text))) (heads_are legal.reads)
    (stand_from (length text) text [] at_line 0 (omega arith) (legal_faultless text ds legal))

one_of :
    (text : List ℕ) (ds : List Definition) (os : List ℕ) (k : ℕ) → Stand text (names ds) os → k < length ds →
    (n : List ℕ) × (e : Tree) × Defines ds k n e × (section text (get_or os k 0) (length n) ≡ n)
one_of text [] os k s h = absurd (omega arith)
one_of text (d ∷ ds) os zero (one_more x rest) h = (d.letters, d.body, here, x)
one_of text (d ∷ ds) os (suc k) (one_more {os = more} x rest) h =
    let (n, e, defined, stands) = one_of text ds more k rest (omega arith) in
    (n, e, there defined, stands)

pub name_at :
    (text : List ℕ) (ds : List Definition) (line offset : ℕ) → LegalText text ds → line < length ds →
    offset ≡ get_or (line_offsets true (lexemes text)) line 0 → NameAt text ds line offset
name_at text ds line offset legal h e =
    let (n, body, defined, stands) = one_of text ds _ line (stand_all text ds legal) h in
    record { name = n; body = body; defined = defined; there = rw e stands; begins = e }
