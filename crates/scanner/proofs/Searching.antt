-- The search for the line that a name names, line after line: what the lines passed and the lines left say of its number. Assumes nothing.
use mathlib.Core.Path.{◌≡◌, refl, sym, ap, ◌∙◌}
use mathlib.Core.Bool.{Bool, true, false, cond}
use mathlib.Core.List.{List, [], ◌∷◌}
use Prim.Native.Nat.{ℕ, suc, ◌+◌, ◌<◌, ◌≤◌}
use native.Mathlib.Nat.{add-zero}
use native.Mathlib.Decide.{dec_lt}
use native.Mathlib.Omega.{arith}
use lib.ListN.{length, drop}
use lib.Dec.{eqb}
use borrow.Author.Tests.{eq-eqb, ne_eqb}
use Rattle.codec.specs.Bytes.{byte}
use Rattle.syntax.specs.Tokens.{Token, name, sign, range, unknown, letter, letters, same, skipped, lexemes, tokens}
use Rattle.syntax.specs.Compile.{index_of}
use Rattle.syntax.specs.Code.Heads.{head_of, heads_from, heads}
use Rattle.scanner.specs.declared.Lexeme as Scanner
use Rattle.scanner.specs.declared.Head.{Head}
use Rattle.scanner.specs.declared.Head.TheVariants.{Sought, Other, Nothing}
use Rattle.scanner.specs.Code.Scanning.{lexemes_at, token_of, reserved, ScansTo, Skips}
use Rattle.scanner.specs.Code.Scanning.{tokens_at}
use Rattle.scanner.specs.Code.Naming.{head_by, head_in, PassesHeads}
use Rattle.scanner.proofs.Lexing.{no_letters, letters_more, letters_stop}
use Rattle.scanner.proofs.Tokenizing.{word_is}
use Rattle.scanner.proofs.Passing.{start_word, start_other, start_end}

-- THE TOKENS FROM A PLACE ON
pub tokens_start : (text : List ℕ) → tokens (lexemes text) ≡ tokens_at text 0
unfolding lexemes lexemes_at
tokens_start text = refl

pub tokens_end : (text : List ℕ) (at : ℕ) → lexemes_at text at ≡ [] → tokens_at text at ≡ []
unfolding tokens
tokens_end text at e = rw e

pub tokens_next :
    (text : List ℕ) (at : ℕ) (l : Scanner.Lexeme) → ScansTo text at l →
    tokens_at text at ≡ token_of text l.offset l.token ∷ tokens_at text l.next
unfolding tokens
tokens_next text at l s = rw s.first

-- A TOKEN BEFORE THE HEADS LEFT
by_head : Head → ℕ → ℕ
by_head Sought n = 0
by_head Other n = suc n
by_head Nothing n = n

by_test : (b : Bool) (n : ℕ) → cond b 0 (suc n) ≡ by_head (cond b Sought Other) n
unfolding by_head
by_test true n = refl
by_test false n = refl

index_of_head :
    (n : List ℕ) (t : Token) (hs : List (List ℕ)) → index_of n (head_of true t hs) ≡ by_head (head_by n t) (index_of n hs)
unfolding index_of head_of by_head head_by
index_of_head n (name m) hs = by_test (same n m) (index_of n hs)
index_of_head n (sign s) hs = refl
index_of_head n (range l h) hs = refl
index_of_head n unknown hs = refl

-- THE LETTERS WHERE A LINE BEGINS, as the code compares them
module _ (sought w : List ℕ) where
  pub head_none : length w ≡ 0 → Nothing ≡ head_in sought w
  unfolding head_in
  head_none z = rw (eq-eqb _ _ z)

  pub head_reserved : true ≡ reserved w → Nothing ≡ head_in sought w
  unfolding head_in head_by
  head_reserved e = rw (word_is, ← e) (sym (either (eqb (length w) 0)))
    where
      either : (t : Bool) → cond t Nothing Nothing ≡ Nothing
      either true = refl
      either false = refl

  pub head_named :
      (length w ≡ 0 → ⊥) → false ≡ reserved w → (b : Bool) → b ≡ same sought w → cond b Sought Other ≡ head_in sought w
  unfolding head_in head_by
  head_named some e b t = rw (ne_eqb _ _ some, word_is, ← e, ← t)

-- what they are to the search, before the heads left
index_line :
    (text sought : List ℕ) (o : ℕ) → (o < length text → skipped (byte text o) ≡ false) →
    index_of sought (heads_from true (tokens_at text o)) ≡
    by_head (head_in sought (letters (drop o text))) (index_of sought (heads_from false (tokens_at text (o + length (letters (drop o text))))))
unfolding head_in by_head
index_line text sought o stops = go (dec_lt o (length text)) (letter (byte text o)) refl
  where
    go : Dec (o < length text) → (t : Bool) → letter (byte text o) ≡ t →
        index_of sought (heads_from true (tokens_at text o)) ≡
        by_head (head_in sought (letters (drop o text))) (index_of sought (heads_from false (tokens_at text (o + length (letters (drop o text))))))
    go (no h) t e = rw (no_letters text o (omega arith), add-zero) (ap (index_of sought) (start_end text o (omega arith)))
    go (yes h) true e =
        rw (ne_eqb (length (letters (drop o text))) 0 (λ z. omega (arith, letters_more text o h e)))
        (ap (index_of sought) (start_word text o h e) ∙ index_of_head sought _ _)
    go (yes h) false e = rw (letters_stop text o h e, add-zero) (ap (index_of sought) (start_other text o h (stops h) e))

-- THE SEARCH, after so many lines, at a place where a line begins
pub record Searching (text sought : List ℕ) (at line : ℕ) : Type 0 where
  pub left : index_of sought (heads text) ≡ line + index_of sought (heads_from true (tokens_at text at))
  pub few : line ≤ at

module _ (text sought : List ℕ) where
  pub search_start : Searching text sought 0 0
  search_start = record { left = ap (λ (ts : List Token). index_of sought (heads_from true ts)) (tokens_start text) ∙ omega arith; few = omega arith }

  module _ (at line : ℕ) (come : Searching text sought at line) where
    pub search_end : lexemes_at text at ≡ [] → line ≡ index_of sought (heads text)
    unfolding heads_from index_of
    search_end e = sym (come.left ∙ rw (tokens_end text at e) (omega arith))

    module _
        (o : ℕ) (s : Skips text at o) (w : List ℕ) (q : w ≡ letters (drop o text)) (h : Head) (is : h ≡ head_in sought w)
      where
        rest : ℕ
        rest = index_of sought (heads_from false (tokens_at text (o + length w)))

        by : (k : Head) → h ≡ k → index_of sought (heads text) ≡ line + by_head k rest
        unfolding rest tokens
        by k e =
            come.left ∙ rw s.rest
            (ap (λ (n : ℕ). line + n) (index_line text sought o s.stops) ∙ rw (← q, ← is, e))

        pub search_found : h ≡ Sought → line ≡ index_of sought (heads text)
        unfolding by_head
        search_found e = omega (arith, by Sought e)

        module _ (to : ℕ) (p : PassesHeads text false (o + length w) true to) (on : at < to) where
          after : rest ≡ index_of sought (heads_from true (tokens_at text to))
          unfolding rest
          after = ap (index_of sought) p.left

          pub search_other : h ≡ Other → (n : ℕ) → n ≡ line + 1 → Searching text sought to n
          unfolding by_head
          search_other e n r = record { left = omega (arith, by Other e, after); few = omega (arith, come.few) }

          pub search_nothing : h ≡ Nothing → (n : ℕ) → n ≡ line → Searching text sought to n
          unfolding by_head
          search_nothing e n r = record { left = omega (arith, by Nothing e, after); few = omega (arith, come.few) }

-- the next line begins further on
pub line_further :
    (text : List ℕ) (at o wide to : ℕ) → at < length text → Skips text at o →
    PassesHeads text false (o + wide) true to × (o + wide < length text → o + wide < to) → at < to
line_further text at o wide to more s p = go (dec_lt (o + wide) (length text))
  where
    go : Dec (o + wide < length text) → at < to
    go (yes h) = omega (arith, s.from, p.1 h)
    go (no h) = omega (arith, p.0.from)
