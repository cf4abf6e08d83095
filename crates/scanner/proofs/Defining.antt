-- The search for the first name that no line defines, word after word: no other token is a name. Assumes nothing.
use mathlib.Core.Path.{◌≡◌, refl, sym, ap, ◌∙◌}
use mathlib.Core.Bool.{Bool, true, false, cond}
use mathlib.Core.List.{List, [], ◌∷◌}
use Prim.Native.Nat.{ℕ, zero, suc, ◌+◌, ◌-◌, ◌<◌, ◌≤◌}
use native.Mathlib.Numerals.{add-one}
use native.Mathlib.Omega.{arith}
use lib.Dec.{leb, leb-suc-suc}
use lib.ListN.{length, take, drop}
use lib.Seq.{take-length}
use borrow.Author.Tests.{le-leb, lt-leb}
use Rattle.codec.specs.Bytes.{byte}
use Rattle.std.specs.Prelude.{Ok, Err}
use Rattle.refusal.specs.First.{refusal, no_refusal}
use Rattle.refusal.specs.Checking.{checked}
use Rattle.syntax.specs.Tokens.{Token, letter, letters, same, word, width_at, skipped, lexemes}
use Rattle.syntax.specs.Faults.{not_in, undefined_in, first_undefined}
use Rattle.syntax.specs.Compile.{index_of}
use Rattle.syntax.specs.Code.Heads.{heads}
use Rattle.scanner.specs.Code.Scanning.{lexemes_at, reserved}
use Rattle.scanner.specs.Code.Naming.{PassesNames}
use Rattle.scanner.proofs.Lexing.{letters_more, lexemes_end, lexemes_skipped, lexemes_token, width_there}
use Rattle.scanner.proofs.Tokenizing.{word_is, NoName, a_sign, a_range, no_token, no_name_there, range_first, sign_token, lexemes_word}

-- A NAME IS NEW where none of the first k lines has it
new_name : (n : List ℕ) (k : ℕ) (hs : List (List ℕ)) → k ≤ length hs → leb k (index_of n hs) ≡ not_in n (take k hs)
unfolding not_in index_of
new_name n zero hs h = le-leb 0 (index_of n hs) (omega arith)
new_name n (suc k) [] h = absurd (omega (arith, h))
new_name n (suc k) (m ∷ ms) h = go (same n m) (new_name n k ms (omega (arith, h)))
  where
    go : (t : Bool) → leb k (index_of n ms) ≡ not_in n (take k ms) →
        leb (suc k) (cond t 0 (suc (index_of n ms))) ≡ cond t false (not_in n (take k ms))
    go true e = lt-leb (suc k) 0 (omega arith)
    go false e = leb-suc-suc k (index_of n ms) ∙ e

module _ (w : List ℕ) where
  pub reserved_old : (ms : List (List ℕ)) → true ≡ reserved w → false ≡ undefined_in ms (word w)
  unfolding undefined_in
  reserved_old ms e = rw (word_is w, ← e)

  pub named_new :
      (hs : List (List ℕ)) (k : ℕ) → k ≤ length hs → false ≡ reserved w → (line : ℕ) → line ≡ index_of w hs →
      leb k line ≡ undefined_in (take k hs) (word w)
  unfolding undefined_in
  named_new hs k h e line q = rw (word_is w, ← e, q) (new_name w k hs h)

-- PASSING WHAT IS NO WORD
never_undefined : (ms : List (List ℕ)) {t : Token} → NoName t → undefined_in ms t ≡ false
unfolding undefined_in
never_undefined ms a_sign = refl
never_undefined ms a_range = refl
never_undefined ms no_token = refl

module _ (text : List ℕ) (i : ℕ) (more : i < length text) (other : letter (byte text i) ≡ false) (ms : List (List ℕ)) where
  token_passed :
      skipped (byte text i) ≡ false → first_undefined ms (lexemes_at text i) ≡ first_undefined ms (lexemes_at text (i + width_at (drop i text)))
  unfolding first_undefined
  token_passed kept = rw (lexemes_token text i more kept, never_undefined ms (no_name_there text i other))

  byte_passed : (byte text i ≡ 39 → ⊥) → first_undefined ms (lexemes_at text i) ≡ first_undefined ms (lexemes_at text (i + 1))
  byte_passed d = go (skipped (byte text i)) refl
    where
      go : (t : Bool) → skipped (byte text i) ≡ t → first_undefined ms (lexemes_at text i) ≡ first_undefined ms (lexemes_at text (i + 1))
      go true e = rw add-one (ap (first_undefined ms) (lexemes_skipped text i more e))
      go false e =
          token_passed e ∙ ap (λ (n : ℕ). first_undefined ms (lexemes_at text (i + n))) (sign_token text i (sym other) (range_first text i d)).1

module _ (text : List ℕ) (at i : ℕ) (come : PassesNames text at i) (more : i < length text) (other : letter (byte text i) ≡ false) where
  pub names_quote : byte text i ≡ 39 → (to : ℕ) → to ≡ i + width_at (drop i text) → PassesNames text at to
  unfolding skipped
  names_quote e to q =
      record {
        left = λ ms. come.left ms ∙ token_passed text i more other ms (rw e) ∙ ap (λ (n : ℕ). first_undefined ms (lexemes_at text n)) (sym q);
        from = omega (arith, come.from);
      }

  pub names_less : (to : ℕ) → to ≡ i + width_at (drop i text) → length text - to < length text - i
  names_less to q = omega (arith, width_there text i more)

  pub names_byte : (byte text i ≡ 39 → ⊥) → PassesNames text at (i + 1)
  names_byte d = record { left = λ ms. come.left ms ∙ byte_passed text i more other ms d; from = omega (arith, come.from) }

-- THE SEARCH, with the words from a place on still to be looked at, where the first begins
pub record UndefinedLeft (text : List ℕ) (at : ℕ) : Type 0 where
  pub left : first_undefined (heads text) (lexemes text) ≡ first_undefined (heads text) (lexemes_at text at)
  pub starts : at < length text → letter (byte text at) ≡ true

pub undefined_start :
    (text : List ℕ) (to : ℕ) → PassesNames text 0 to × (to < length text → letter (byte text to) ≡ true) → UndefinedLeft text to
unfolding lexemes lexemes_at
undefined_start text to p = record { left = p.0.left (heads text); starts = p.1 }

module _ (text : List ℕ) (at : ℕ) (come : UndefinedLeft text at) where
  pub undefined_end : length text ≤ at → Ok tt ≡ checked (first_undefined (heads text) (lexemes text))
  unfolding first_undefined checked
  undefined_end h =
      let e : first_undefined (heads text) (lexemes text) ≡ no_refusal = come.left ∙ rw (lexemes_end text at h) in
      rw e

  module _
      (lines : ℕ) (all : lines ≡ length (heads text)) (more : at < length text) (w : List ℕ) (q : w ≡ letters (drop at text))
    where
      all_lines : take lines (heads text) ≡ heads text
      all_lines = rw all (take-length (heads text))

      pub undefined_here :
          true ≡ undefined_in (take lines (heads text)) (word w) → Err (refusal 15 at) ≡ checked (first_undefined (heads text) (lexemes text))
      unfolding first_undefined checked
      undefined_here new =
          let e : true ≡ undefined_in (heads text) (word w) = new ∙ ap (λ (hs : List (List ℕ)). undefined_in hs (word w)) all_lines in
          let found : first_undefined (heads text) (lexemes text) ≡ refusal 15 at = come.left ∙ rw (lexemes_word text at w more (come.starts more) q, ← e) in
          rw found

      pub undefined_next :
          false ≡ undefined_in (take lines (heads text)) (word w) → (to : ℕ) →
          PassesNames text (at + length w) to × (to < length text → letter (byte text to) ≡ true) → UndefinedLeft text to
      unfolding first_undefined
      undefined_next old to p =
          let e : false ≡ undefined_in (heads text) (word w) = old ∙ ap (λ (hs : List (List ℕ)). undefined_in hs (word w)) all_lines in
          record {
            left = come.left ∙ rw (lexemes_word text at w more (come.starts more) q, ← e) (p.0.left (heads text));
            starts = p.1;
          }

      -- a word has a letter
      pub word_some : 0 < length w
      word_some = omega (arith, ap length q, letters_more text at more (come.starts more))
