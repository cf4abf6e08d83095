-- The heads of a text from inside a line on: a semicolon ends the line, a range is passed as a whole, any other byte alone; and from a line's start on, where letters may be its head. Assumes nothing.
use mathlib.Core.Path.{◌≡◌, refl, sym, ap, ◌∙◌}
use mathlib.Core.Bool.{Bool, true, false, cond}
use mathlib.Core.List.{List}
use Prim.Native.Nat.{ℕ, suc, ◌+◌, ◌-◌, ◌<◌, ◌≤◌}
use native.Mathlib.Nat.{add-zero}
use native.Mathlib.Numerals.{add-one}
use native.Mathlib.Decide.{dec_lt}
use native.Mathlib.Omega.{arith}
use lib.ListN.{length, drop}
use borrow.Author.Tests.{ne_eqb}
use Rattle.codec.specs.Bytes.{byte}
use Rattle.syntax.specs.Tokens.{Token, letter, letters, word, sign_of, range_there, token_at, width_at, skipped, tokens, ends_line}
use Rattle.syntax.specs.Code.Heads.{head_of, heads_from}
use Rattle.scanner.specs.Code.Scanning.{tokens_at}
use Rattle.scanner.specs.Code.Naming.{stops, PassesHeads}
use Rattle.scanner.proofs.Lexing.{front, no_letters, letters_more, letters_stop, lexemes_end, lexemes_skipped, lexemes_token, width_there}
use Rattle.scanner.proofs.Tokenizing.{NoName, a_sign, a_range, no_token, no_name_there, letter_kept, range_first, range_token, sign_token}

-- WHICH TOKENS END NO LINE
ends_cond : (c : Bool) (t u : Token) → ends_line (cond c t u) ≡ cond c (ends_line t) (ends_line u)
ends_cond true t u = refl
ends_cond false t u = refl

cond_false : (c : Bool) → cond c false false ≡ false
cond_false true = refl
cond_false false = refl

word_goes_on : (ls : List ℕ) → ends_line (word ls) ≡ false
unfolding word ends_line
word_goes_on ls = simp (ends_cond, cond_false)

sign_goes_on : (b : ℕ) → (b ≡ 59 → ⊥) → ends_line (sign_of b) ≡ false
unfolding sign_of ends_line
sign_goes_on b d = simp (ne_eqb b 59 d, ends_cond, cond_false)

-- THE HEADS FROM INSIDE A LINE ON
abbrev left_from : (text : List ℕ) → (i : ℕ) → List (List ℕ)
left_from text i = heads_from false (tokens_at text i)

module _ (text : List ℕ) (i : ℕ) where
  left_end : length text ≤ i → left_from text i ≡ heads_from true (tokens_at text i)
  unfolding heads_from tokens
  left_end h = rw (lexemes_end text i h)

  module _ (more : i < length text) where
    left_skipped : skipped (byte text i) ≡ true → left_from text i ≡ left_from text (suc i)
    left_skipped e = ap (λ ls. heads_from false (tokens ls)) (lexemes_skipped text i more e)

    left_token :
        skipped (byte text i) ≡ false →
        left_from text i ≡ heads_from (ends_line (token_at (drop i text))) (tokens_at text (i + width_at (drop i text)))
    unfolding heads_from head_of tokens
    left_token e = rw (lexemes_token text i more e)

    left_word : letter (byte text i) ≡ true → left_from text i ≡ left_from text (i + length (letters (drop i text)))
    unfolding token_at width_at
    left_word e = left_token (letter_kept _ e) ∙ rw (front text i, e, word_goes_on)

    module _ (kept : skipped (byte text i) ≡ false) (other : letter (byte text i) ≡ false) where
      left_range : range_there (drop i text) ≡ true → left_from text i ≡ left_from text (i + 5)
      unfolding token_at width_at ends_line
      left_range e = left_token kept ∙ rw (front text i, other, e)

      left_sign : range_there (drop i text) ≡ false → left_from text i ≡ heads_from (ends_line (sign_of (byte text i))) (tokens_at text (i + 1))
      unfolding token_at width_at
      left_sign e = left_token kept ∙ rw (front text i, other, e)

-- a run of letters is passed whole or letter after letter
letters_left : (text : List ℕ) (i : ℕ) → left_from text i ≡ left_from text (i + length (letters (drop i text)))
letters_left text i = go (dec_lt i (length text)) (letter (byte text i)) refl
  where
    go : Dec (i < length text) → (t : Bool) → letter (byte text i) ≡ t → left_from text i ≡ left_from text (i + length (letters (drop i text)))
    go (no h) t e = rw (no_letters text i (omega arith), add-zero)
    go (yes h) true e = left_word text i h e
    go (yes h) false e = rw (letters_stop text i h e, add-zero)

module _ (text : List ℕ) (i : ℕ) (more : i < length text) where
  left_letter : letter (byte text i) ≡ true → left_from text i ≡ left_from text (suc i)
  left_letter e =
      let same_end : i + length (letters (drop i text)) ≡ suc i + length (letters (drop (suc i) text)) = omega (arith, letters_more text i more e) in
      left_word text i more e ∙ ap (left_from text) same_end ∙ sym (letters_left text (suc i))

  -- a byte that is no semicolon, where no range begins
  left_byte : (byte text i ≡ 59 → ⊥) → range_there (drop i text) ≡ false → left_from text i ≡ left_from text (i + 1)
  left_byte d e = go (skipped (byte text i)) (letter (byte text i)) refl refl
    where
      go : (s t : Bool) → skipped (byte text i) ≡ s → letter (byte text i) ≡ t → left_from text i ≡ left_from text (i + 1)
      go true t p q = rw add-one (left_skipped text i more p)
      go false true p q = rw add-one (left_letter q)
      go false false p q = left_sign text i more p q e ∙ rw (sign_goes_on (byte text i) d)

  -- a quote is passed with the range that it begins, or alone
  left_quote : byte text i ≡ 39 → left_from text i ≡ left_from text (i + width_at (drop i text))
  unfolding skipped letter
  left_quote e = go (range_there (drop i text)) refl
    where
      go : (t : Bool) → range_there (drop i text) ≡ t → left_from text i ≡ left_from text (i + width_at (drop i text))
      go true q = left_range text i more (rw e) (rw e) q ∙ ap (λ (n : ℕ). left_from text (i + n)) (sym (range_token text i (rw e) (sym q)).1)
      go false q = left_byte (λ s. omega arith) q ∙ ap (λ (n : ℕ). left_from text (i + n)) (sym (sign_token text i (rw e) (sym q)).1)

  left_semicolon : byte text i ≡ 59 → left_from text i ≡ heads_from true (tokens_at text (i + 1))
  unfolding skipped letter range_there sign_of ends_line
  left_semicolon e = left_sign text i more (rw e) (rw e) (rw (front text i, e)) ∙ rw e

-- PASSING, from one place inside a line to another, and to where the next line begins
module _ (text : List ℕ) (at : ℕ) where
  module _ (i : ℕ) (come : PassesHeads text false at false i) where
    pub pass_end : length text ≤ i → PassesHeads text false at true i × (at < length text → at < i)
    pass_end h = (record { left = come.left ∙ left_end text i h; from = come.from }, λ l. omega arith)

    pub pass_on : {to : ℕ} → PassesHeads text false i false to → PassesHeads text false at false to
    pass_on go = record { left = come.left ∙ go.left; from = omega (arith, come.from, go.from) }

    module _ (more : i < length text) where
      pub pass_semicolon : byte text i ≡ 59 → PassesHeads text false at true (i + 1) × (at < length text → at < i + 1)
      pass_semicolon e = (record { left = come.left ∙ left_semicolon text i more e; from = omega (arith, come.from) }, λ l. omega (arith, come.from))

      pub pass_quote : byte text i ≡ 39 → (to : ℕ) → to ≡ i + width_at (drop i text) → PassesHeads text false at false to
      pass_quote e to q = record { left = come.left ∙ left_quote text i more e ∙ ap (left_from text) (sym q); from = omega (arith, come.from) }

      pub pass_less : (to : ℕ) → to ≡ i + width_at (drop i text) → length text - to < length text - i
      pass_less to q = omega (arith, width_there text i more)

      pub pass_byte : (byte text i ≡ 59 → ⊥) → (byte text i ≡ 39 → ⊥) → PassesHeads text false at false (i + 1)
      pass_byte d q = record { left = come.left ∙ left_byte text i more d (sym (range_first text i q)); from = omega arith }

-- FOUR BYTES inside a line, passed one after the other while none stops
no_stop : (b s : ℕ) → stops b ≡ false → stops s ≡ true → b ≡ s → ⊥
no_stop b s d e q = let z : ◌≡◌ {A = ℕ} 0 1 = cc in omega arith

module _ (text : List ℕ) (at : ℕ) where
  pass_plain : (i to : ℕ) → PassesHeads text false at false i → i < length text → to ≡ i + 1 → stops (byte text i) ≡ false → PassesHeads text false at false to
  unfolding stops
  pass_plain i to come more q e = rw q (pass_byte text at i come more (no_stop _ 59 e refl) (no_stop _ 39 e refl))

  module _ (i : ℕ) (come : PassesHeads text false at false i) (room : i + 3 < length text) (one : stops (byte text i) ≡ false) where
    pub pass_one : PassesHeads text false at false (i + 1)
    pass_one = pass_plain i (i + 1) come (omega arith) refl one

    module _ (two : stops (byte text (i + 1)) ≡ false) where
      pub pass_two : PassesHeads text false at false (i + 2)
      pass_two = pass_plain (i + 1) (i + 2) pass_one (omega arith) (omega arith) two

      module _ (three : stops (byte text (i + 2)) ≡ false) where
        pub pass_three : PassesHeads text false at false (i + 3)
        pass_three = pass_plain (i + 2) (i + 3) pass_two (omega arith) (omega arith) three

        pub pass_four : stops (byte text (i + 3)) ≡ false → PassesHeads text false at false (i + 4)
        pass_four = pass_plain (i + 3) (i + 4) pass_three room (omega arith)

-- FROM A LINE'S START ON: letters there are its head, or a reserved word; with anything else it has none
no_head : {t : Token} → NoName t → (hs : List (List ℕ)) → head_of true t hs ≡ hs
unfolding head_of
no_head a_sign hs = refl
no_head a_range hs = refl
no_head no_token hs = refl

module _ (text : List ℕ) (i : ℕ) (more : i < length text) where
  pub start_word :
      letter (byte text i) ≡ true →
      heads_from true (tokens_at text i) ≡ head_of true (word (letters (drop i text))) (heads_from false (tokens_at text (i + length (letters (drop i text)))))
  unfolding heads_from tokens token_at width_at
  start_word e = rw (lexemes_token text i more (letter_kept _ e), front text i, e, word_goes_on)

  pub start_other :
      skipped (byte text i) ≡ false → letter (byte text i) ≡ false → heads_from true (tokens_at text i) ≡ heads_from false (tokens_at text i)
  unfolding heads_from tokens head_of
  start_other kept other = rw (lexemes_token text i more kept) (no_head (no_name_there text i other) _)

pub start_end : (text : List ℕ) (i : ℕ) → length text ≤ i → heads_from true (tokens_at text i) ≡ heads_from false (tokens_at text i)
start_end text i h = sym (left_end text i h)
