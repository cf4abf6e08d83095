-- What the scanner's functions find, a range, a word or a sign; and that the lexeme found is the first from a place on. Assumes nothing.
use mathlib.Core.Path.{◌≡◌, refl, sym, ap, subst, ◌∙◌}
use mathlib.Core.Bool.{Bool, true, false, ◌&&◌, ◌||◌, cond}
use mathlib.Core.List.{List, [], ◌∷◌}
use Prim.Native.Nat.{ℕ, ◌+◌, ◌-◌, ◌<◌, ◌≤◌}
use native.Mathlib.Omega.{arith}
use lib.Dec.{eqb, leb}
use lib.ListN.{length, drop, length-drop}
use lib.Seq.{get_or-drop}
use Rattle.std.specs.Cmp.Lexicographic.{pointwise}
use Rattle.std.specs.Prelude.{nat_eq}
use borrow.Author.Tests.{leb-true, ne_eqb}
use Rattle.codec.specs.Bytes.{byte, section}
use Rattle.syntax.specs.Tokens.{Token, name, sign, range, unknown, letter, letters, same, empty_word, fail_word, word, sign_of, range_there, token_at, width_at, skipped}
use Rattle.syntax.specs.declared.Token as Code
use Rattle.syntax.specs.declared.Token.TheVariants.{Name, Sign, Range}
use Rattle.syntax.specs.declared.Sign as CodeSign
use Rattle.syntax.specs.declared.Sign.TheVariants.{Operand}
use Rattle.syntax.specs.declared.Leaf.TheVariants.{EmptyString, Failure}
use Rattle.grammar.proofs.Bools.{both_true}
use Rattle.scanner.specs.declared.Lexeme as Scanner
use Rattle.scanner.specs.Code.Scanning.{lexemes_at, token_of, reserved, Skips, ScansWord, ScansToken, ScansTo}
use Rattle.scanner.proofs.Lexing.{letters_fit, letters_taken, front, range_fits, lexemes_token, width_there, width_within}

-- WHETHER A RANGE IS THERE, byte after byte
module _ (text : List ℕ) (i : ℕ) where
  pub range_short : length text - i < 5 → false ≡ range_there (drop i text)
  range_short h = go (range_there (drop i text)) refl
    where
      go : (t : Bool) → range_there (drop i text) ≡ t → false ≡ t
      go false q = refl
      go true q = absurd (omega (arith, range_fits (drop i text) q, length-drop i text))

  pub range_first : (byte text i ≡ 39 → ⊥) → false ≡ range_there (drop i text)
  unfolding range_there
  range_first d = rw (front text i, ne_eqb _ _ d)

  pub range_is : (eqb (byte text i) 39 && (eqb (byte text (i + 2)) 45 && eqb (byte text (i + 4)) 39)) ≡ range_there (drop i text)
  unfolding range_there
  range_is = rw (front text i, get_or-drop i text 2 0, get_or-drop i text 4 0)

pub range_within : (text : List ℕ) (i : ℕ) → true ≡ range_there (drop i text) → i + 5 ≤ length text
range_within text i e = omega (arith, range_fits (drop i text) (sym e), length-drop i text)

pub letters_room : (text : List ℕ) (i : ℕ) (w : List ℕ) → w ≡ letters (drop i text) → length w ≤ length text - i
letters_room text i w q = omega (arith, ap length q, letters_fit (drop i text), length-drop i text)

-- THE SAME BYTES, as the code compares them
pub same_bytes : (xs ys : List ℕ) → pointwise nat_eq xs ys ≡ same xs ys
unfolding same
same_bytes [] [] = refl
same_bytes [] (y ∷ ys) = refl
same_bytes (x ∷ xs) [] = refl
same_bytes (x ∷ xs) (y ∷ ys) = ap (λ (t : Bool). eqb x y && t) (same_bytes xs ys)

-- THE RESERVED WORDS, and a name
module _ (w : List ℕ) where
  pub word_empty : true ≡ same w empty_word → ScansWord w (Sign (Operand EmptyString))
  unfolding token_of word
  word_empty e = record { stands = λ text i s. rw (← e); named = λ k q. cc }

  module _ (other : false ≡ same w empty_word) where
    pub word_fail : true ≡ same w fail_word → ScansWord w (Sign (Operand Failure))
    unfolding token_of word
    word_fail e = record { stands = λ text i s. rw (← other, ← e); named = λ k q. cc }

    pub word_name : false ≡ same w fail_word → ScansWord w (Name (length w))
    unfolding token_of word
    word_name e = record { stands = λ text i s. rw (← other, ← e) (ap name s); named = λ k q. cc }

-- letters are a name exactly where they are not reserved
pub word_is : (ls : List ℕ) → word ls ≡ cond (reserved ls) (sign (Operand (cond (same ls empty_word) EmptyString Failure))) (name ls)
unfolding word reserved
word_is ls = go (same ls empty_word) (same ls fail_word)
  where
    go : (b c : Bool) →
        cond b (sign (Operand EmptyString)) (cond c (sign (Operand Failure)) (name ls)) ≡
        cond (b || c) (sign (Operand (cond b EmptyString Failure))) (name ls)
    go true c = refl
    go false true = refl
    go false false = refl

-- NO SIGN AND NO RANGE IS A NAME
pub data NoName : Token → Type 0 where
  a_sign : {s : CodeSign.Sign} → NoName (sign s)
  a_range : {low high : ℕ} → NoName (range low high)
  no_token : NoName unknown

pub never_name : {n : List ℕ} → NoName (name n) → ⊥
never_name = λ x. elim x [ ]

neither : (c : Bool) {t u : Token} → NoName t → NoName u → NoName (cond c t u)
neither true p q = p
neither false p q = q

pub no_name : (b : ℕ) → NoName (sign_of b)
unfolding sign_of
no_name b =
    neither (eqb b 61) a_sign (neither (eqb b 59) a_sign (neither (eqb b 47) a_sign (neither (eqb b 40) a_sign (neither (eqb b 41) a_sign
    (neither (eqb b 46) a_sign (neither (eqb b 33) a_sign (neither (eqb b 38) a_sign (neither (eqb b 42) a_sign
    (neither (eqb b 43) a_sign (neither (eqb b 63) a_sign no_token))))))))))

pub never_named : (text : List ℕ) (i b : ℕ) (t : Code.Token) → token_of text i t ≡ sign_of b → (k : ℕ) → t ≡ Name k → ⊥
unfolding token_of
never_named text i b t stands k q = never_name (subst NoName (sym stands ∙ ap (token_of text i) q) (no_name b))

-- a name begins with a letter
pub no_name_there : (text : List ℕ) (i : ℕ) → letter (byte text i) ≡ false → NoName (token_at (drop i text))
unfolding token_at
no_name_there text i e = rw (front text i, e) (neither (range_there (drop i text)) a_range (no_name (byte text i)))

-- THE TOKEN THAT BEGINS AT A PLACE, and how wide it is
module _ (text : List ℕ) (i : ℕ) where
  pub letters_section : (w : List ℕ) → w ≡ letters (drop i text) → section text i (length w) ≡ w
  letters_section w q = rw q (letters_taken (drop i text))

  pub word_there :
      (w : List ℕ) → true ≡ letter (byte text i) → w ≡ letters (drop i text) →
      (token_at (drop i text) ≡ word w) × (width_at (drop i text) ≡ length w)
  unfolding token_at width_at
  word_there w e q = (rw (q, front text i, ← e), rw (q, front text i, ← e))

  module _ (other : false ≡ letter (byte text i)) where
    pub range_token :
        true ≡ range_there (drop i text) →
        (token_at (drop i text) ≡ range (byte text (i + 1)) (byte text (i + 3))) × (width_at (drop i text) ≡ 5)
    unfolding token_at width_at
    range_token e =
        (rw (front text i, ← other, ← e, get_or-drop i text 1 0, get_or-drop i text 3 0), rw (front text i, ← other, ← e))

    pub sign_token :
        false ≡ range_there (drop i text) → (token_at (drop i text) ≡ sign_of (byte text i)) × (width_at (drop i text) ≡ 1)
    unfolding token_at width_at
    sign_token e = (rw (front text i, ← other, ← e), rw (front text i, ← other, ← e))

-- no letter is skipped
pub letter_kept : (b : ℕ) → letter b ≡ true → skipped b ≡ false
unfolding letter skipped
letter_kept b e =
    let low : 97 ≤ b = leb-true 97 b (both_true (leb 97 b) _ e).0 in
    rw (ne_eqb b 32 (λ q. omega arith), ne_eqb b 10 (λ q. omega arith))

pub lexemes_word :
    (text : List ℕ) (i : ℕ) (w : List ℕ) → i < length text → letter (byte text i) ≡ true → w ≡ letters (drop i text) →
    lexemes_at text i ≡ record { offset = i; token = word w } ∷ lexemes_at text (i + length w)
lexemes_word text i w more e q =
    let there = word_there text i w (sym e) q in
    lexemes_token text i more (letter_kept _ e) ∙ rw (there.0, there.1)

-- WHAT THE SCANNER'S LEXEME SAYS of a token that begins at a place
module _ (text : List ℕ) (i : ℕ) (more : i < length text) where
  pub word_scanned :
      (w : List ℕ) (t : Code.Token) → true ≡ letter (byte text i) → w ≡ letters (drop i text) →
      ScansWord w t → ScansToken text i (record { token = t; offset = i; next = i + length w })
  word_scanned w t e q s =
      let there = word_there text i w e q in
      record {
        there = refl;
        stands = s.stands text i (letters_section text i w q) ∙ sym there.0;
        wide = ap (λ (n : ℕ). i + n) (sym there.1);
        named = λ k n. omega (arith, s.named k n);
      }

  module _ (other : false ≡ letter (byte text i)) where
    pub range_scanned :
        true ≡ range_there (drop i text) →
        ScansToken text i (record { token = Range (record { low = byte text (i + 1); high = byte text (i + 3) }); offset = i; next = i + 5 })
    unfolding token_of
    range_scanned e =
        let there = range_token text i other e in
        record { there = refl; stands = sym there.0; wide = ap (λ (n : ℕ). i + n) (sym there.1); named = λ k q. cc }

    pub sign_scanned :
        (t : Code.Token) → false ≡ range_there (drop i text) → token_of text i t ≡ sign_of (byte text i) →
        ScansToken text i (record { token = t; offset = i; next = i + 1 })
    sign_scanned t e stands =
        let there = sign_token text i other e in
        record {
          there = refl;
          stands = stands ∙ sym there.0;
          wide = ap (λ (n : ℕ). i + n) (sym there.1);
          named = λ k q. absurd (never_named text i _ t stands k q);
        }

  -- THE SCAN: the token at the place that the skipped bytes lead to
  pub scanned : (at : ℕ) (l : Scanner.Lexeme) → Skips text at i → ScansToken text i l → ScansTo text at l
  scanned at l s t =
      record {
        first =
            s.rest ∙ lexemes_token text i more (s.stops more) ∙ rw (t.there, t.wide, t.stands);
        from = omega (arith, s.from, t.there);
        some = omega (arith, t.there, t.wide, width_there text i more);
        within = omega (arith, width_within text i more, t.wide);
        named = λ k q. omega (arith, t.there, t.named k q);
      }
