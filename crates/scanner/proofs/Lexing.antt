-- The lexemes of a text from a place on: none past its end, the same after a skipped byte, one more at a token. Assumes nothing.
use mathlib.Core.Path.{◌≡◌, refl, sym, ap, ◌∙◌}
use mathlib.Core.Bool.{Bool, true, false, cond}
use mathlib.Core.List.{List, [], ◌∷◌}
use Prim.Native.Nat.{ℕ, zero, suc, ◌+◌, ◌-◌, ◌<◌, ◌≤◌}
use native.Mathlib.Nat.{add-zero}
use native.Mathlib.Numerals.{add-one}
use native.Mathlib.Decide.{dec_lt}
use native.Mathlib.Omega.{arith}
use lib.Dec.{eqb}
use lib.ListN.{length, take, drop, length-drop, drop_of_length-le, get_or-eq_default}
use lib.Seq.{take-length, drop-nil, drop-cons, drop-drop, get_or-drop}
use borrow.Author.Tests.{eqb-true}
use Rattle.codec.specs.Bytes.{byte}
use Rattle.syntax.specs.Tokens.{letter, letters, range_there, token_at, width_at, skipped, lexemes_from}
use Rattle.grammar.proofs.Bools.{both_true}
use Rattle.scanner.specs.Code.Scanning.{lexemes_at}

-- A RUN OF LETTERS
pub letters_fit : (bs : List ℕ) → length (letters bs) ≤ length bs
unfolding letters
letters_fit [] = omega arith
letters_fit (b ∷ bs) = go (letter b) (letters_fit bs)
  where
    go : (t : Bool) → length (letters bs) ≤ length bs → length (cond t (b ∷ letters bs) []) ≤ suc (length bs)
    go true h = omega arith
    go false h = omega arith

pub letters_taken : (bs : List ℕ) → take (length (letters bs)) bs ≡ letters bs
unfolding letters
letters_taken [] = refl
letters_taken (b ∷ bs) = go (letter b) (letters_taken bs)
  where
    go : (t : Bool) → take (length (letters bs)) bs ≡ letters bs →
        take (length (cond t (b ∷ letters bs) [])) (b ∷ bs) ≡ cond t (b ∷ letters bs) []
    go true h = ap (λ (ls : List ℕ). b ∷ ls) h
    go false h = refl

module _ (text : List ℕ) (i : ℕ) where
  pub front : byte (drop i text) 0 ≡ byte text i
  front = get_or-drop i text 0 0 ∙ ap (byte text) (add-zero i)

  pub no_letters : length text ≤ i → length (letters (drop i text)) ≡ 0
  unfolding letters
  no_letters h = rw (drop_of_length-le text h)

  module _ (more : i < length text) where
    pub letters_more : letter (byte text i) ≡ true → length (letters (drop i text)) ≡ suc (length (letters (drop (suc i) text)))
    unfolding letters
    letters_more e = rw (drop-cons text i 0 more, e)

    pub letters_stop : letter (byte text i) ≡ false → length (letters (drop i text)) ≡ 0
    unfolding letters
    letters_stop e = rw (drop-cons text i 0 more, e)

-- HOW WIDE A TOKEN IS
pub range_fits : (bs : List ℕ) → range_there bs ≡ true → 5 ≤ length bs
unfolding range_there
range_fits bs e = go (dec_lt (length bs) 5) (eqb-true (byte bs 4) 39 (both_true (eqb (byte bs 2) 45) _ (both_true (eqb (byte bs 0) 39) _ e).1).1)
  where
    go : Dec (length bs < 5) → byte bs 4 ≡ 39 → 5 ≤ length bs
    go (yes h) last = omega (arith, get_or-eq_default bs 0 {n = 4} (omega arith))
    go (no h) last = omega arith

pub width_fits : (b : ℕ) (bs : List ℕ) → width_at (b ∷ bs) ≤ length (b ∷ bs)
unfolding width_at
width_fits b bs = go (letter b) (range_there (b ∷ bs)) refl (letters_fit (b ∷ bs))
  where
    go : (t u : Bool) → range_there (b ∷ bs) ≡ u → length (letters (b ∷ bs)) ≤ suc (length bs) →
        cond t (length (letters (b ∷ bs))) (cond u 5 1) ≤ suc (length bs)
    go true u q h = h
    go false true q h = range_fits (b ∷ bs) q
    go false false q h = omega arith

pub width_some : (b : ℕ) (bs : List ℕ) → 1 ≤ width_at (b ∷ bs)
unfolding width_at letters
width_some b bs = go (letter b) (range_there (b ∷ bs))
  where
    go : (t u : Bool) → 1 ≤ cond t (length (cond t (b ∷ letters bs) [])) (cond u 5 1)
    go true u = omega arith
    go false true = omega arith
    go false false = omega arith

-- THE LEXEMES, after so many bytes of the token before
jump : (k o : ℕ) (bs : List ℕ) → lexemes_from k o bs ≡ lexemes_from 0 (o + k) (drop k bs)
unfolding lexemes_from
jump k o [] = ap (lexemes_from 0 (o + k)) (sym (drop-nil k))
jump zero o (b ∷ bs) = ap (λ (n : ℕ). lexemes_from 0 n (b ∷ bs)) (sym (add-zero o))
jump (suc k) o (b ∷ bs) = jump k (suc o) bs ∙ ap (λ (n : ℕ). lexemes_from 0 n (drop k bs)) (omega arith)

module _ (text : List ℕ) (i : ℕ) where
  pub lexemes_end : length text ≤ i → lexemes_at text i ≡ []
  unfolding lexemes_at lexemes_from
  lexemes_end h = rw (drop_of_length-le text h)

  module _ (more : i < length text) where
    pub lexemes_skipped : skipped (byte text i) ≡ true → lexemes_at text i ≡ lexemes_at text (suc i)
    unfolding lexemes_at lexemes_from
    lexemes_skipped e = rw (drop-cons text i 0 more, e)

    -- a token's width, seen from its first byte
    wide : ℕ
    wide = width_at (byte text i ∷ drop (suc i) text)

    after : lexemes_from (wide - 1) (suc i) (drop (suc i) text) ≡ lexemes_at text (i + wide)
    unfolding lexemes_at wide
    after =
        let some : 1 ≤ wide = width_some _ _ in
        let there : suc i + (wide - 1) ≡ i + wide = omega arith in
        jump _ _ _ ∙ ap (lexemes_from 0 _) (drop-drop (wide - 1) (suc i) text) ∙ ap (λ (n : ℕ). lexemes_from 0 n (drop n text)) there

    front_token :
        skipped (byte text i) ≡ false →
        lexemes_at text i ≡
        record { offset = i; token = token_at (byte text i ∷ drop (suc i) text) } ∷ lexemes_from (wide - 1) (suc i) (drop (suc i) text)
    unfolding lexemes_at lexemes_from wide
    front_token e = rw (drop-cons text i 0 more, e)

    pub lexemes_token :
        skipped (byte text i) ≡ false →
        lexemes_at text i ≡ record { offset = i; token = token_at (drop i text) } ∷ lexemes_at text (i + width_at (drop i text))
    unfolding wide
    lexemes_token e = rw (drop-cons text i 0 more, front_token e, after)

    pub width_there : 1 ≤ width_at (drop i text)
    width_there = rw (drop-cons text i 0 more) (width_some _ _)

    pub width_within : i + width_at (drop i text) ≤ length text
    width_within = rw (drop-cons text i 0 more) (omega (arith, width_fits (byte text i) (drop (suc i) text), length-drop (suc i) text))

-- SKIPPING, as far as a place
abbrev pub Skipping : (text : List ℕ) → (at i : ℕ) → Type 0
Skipping text at i = (lexemes_at text at ≡ lexemes_at text i) × (at ≤ i)

module _ (text : List ℕ) (at i : ℕ) (come : Skipping text at i) where
  pub skip_next : i < length text → skipped (byte text i) ≡ true → Skipping text at (i + 1)
  skip_next more e = (come.0 ∙ lexemes_skipped text i more e ∙ ap (lexemes_at text) (sym (add-one i)), omega arith)

-- what is left of a text from a place on, if the place is in it
module _ (text : List ℕ) (at : ℕ) where
  pub letters_past : length text ≤ at → [] ≡ letters (drop at text)
  unfolding letters
  letters_past h = rw (drop_of_length-le text h)

  pub letters_left : (rest : List ℕ) → rest ≡ take (length text - at) (drop at text) → letters rest ≡ letters (drop at text)
  letters_left rest q = ap letters (q ∙ rw (← length-drop at text) (take-length (drop at text)))

-- COUNTING LETTERS, as far as a place
abbrev pub LettersLeft : (bs : List ℕ) → (i : ℕ) → Type 0
LettersLeft bs i = length (letters bs) ≡ i + length (letters (drop i bs))

module _ (bs : List ℕ) (i : ℕ) (come : LettersLeft bs i) where
  pub letters_whole : length bs ≤ i → bs ≡ letters bs
  letters_whole h =
      let all : length bs ≡ length (letters bs) = omega (arith, come, no_letters bs i h, letters_fit bs) in
      sym (take-length bs) ∙ rw all (letters_taken bs)

  module _ (more : i < length bs) where
    pub letters_stopped : letter (byte bs i) ≡ false → take i bs ≡ letters bs
    letters_stopped e =
        let passed : i ≡ length (letters bs) = omega (arith, come, letters_stop bs i more e) in
        rw passed (letters_taken bs)

    pub count_next : letter (byte bs i) ≡ true → LettersLeft bs (i + 1)
    count_next e = rw add-one (omega (arith, come, letters_more bs i more e))
