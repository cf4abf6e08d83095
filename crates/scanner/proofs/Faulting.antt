-- The check of a text, token after token: what the tokens left say of its earliest fault and of the count of its lines. Assumes nothing.
use mathlib.Core.Path.{◌≡◌, refl, sym, ap, subst, ◌∙◌}
use mathlib.Core.Bool.{Bool, true, false, ◌&&◌, cond}
use mathlib.Core.List.{List, [], ◌∷◌, ◌++◌}
use Prim.Native.Nat.{ℕ, zero, suc, ◌+◌, ◌-◌, ◌<◌, ◌≤◌}
use native.Mathlib.Nat.{add-zero}
use native.Mathlib.Numerals.{add-one}
use native.Mathlib.Omega.{arith}
use lib.Dec.{ltb, eqb}
use lib.ListN.{length, take, drop, length-drop}
use lib.Seq.{length-take-le}
use borrow.Author.Tests.{ne_eqb}
use Rattle.refusal.specs.declared.Refusal.{Refusal}
use Rattle.refusal.specs.First.{refusal}
use Rattle.syntax.specs.declared.Sign.{Sign}
use Rattle.syntax.specs.declared.Sign.TheVariants.{Operand, Before, After, Slash, Opening, Closing, Equals, Semicolon}
use Rattle.syntax.specs.Tokens.{Token, name, sign, range, unknown, Lexeme, token_at, width_at, lexemes, tokens, is_semicolon, ends_line}
use Rattle.syntax.specs.Faults.{Spot, at_line, at_equals, inside, Next, to, wrong, to_if, by_sign, is_equals, not_in, next, name_of, defined_after, at_end, first_wrong, fault}
use Rattle.syntax.specs.Code.Heads.{head_of, heads_from, heads}
use Rattle.std.specs.Prelude.{Result, Ok, Err}
use Rattle.refusal.specs.declared.Kind.{Kind}
use Rattle.refusal.specs.Kinds.{number_of}
use Rattle.refusal.specs.Checking.{checked}
use Rattle.scanner.specs.declared.faults.Moved.{Moved}
use Rattle.scanner.specs.Code.Scanning.{lexemes_at, Skips}
use Rattle.scanner.specs.Code.Stepping.{spot_of, next_of, begins, lines_begun, Moves, TextChecked}
use Rattle.scanner.specs.Code.Scanning.{tokens_at}
use Rattle.scanner.proofs.Lexing.{lexemes_token, width_there, width_within}
use Rattle.scanner.proofs.Searching.{tokens_start, tokens_end}

-- WHAT A TOKEN LEADS TO: a line's start exactly after the token that ends one, or a refusal
data Leads (ends : Bool) : Next → Type 0 where
  on : {s : Spot} → begins s ≡ ends → Leads ends (to s)
  off : {m : ℕ} → (m ≡ 0 → ⊥) → Leads ends (wrong m)

off_15 : {e : Bool} → Leads e (wrong 15)
off_15 = off {m = 15} (λ q. omega arith)

leads_if : {e : Bool} (b : Bool) (s : Spot) → begins s ≡ e → Leads e (to_if b s)
unfolding to_if
leads_if true s h = on h
leads_if false s h = off_15

leads_equals : (s : Sign) → Leads (is_semicolon s) (to_if (is_equals s) (inside false 0))
unfolding to_if is_equals begins
leads_equals (Operand a) = off_15
leads_equals (Before p) = off_15
leads_equals (After x) = off_15
leads_equals Slash = off_15
leads_equals Opening = off_15
leads_equals Closing = off_15
leads_equals Equals = on refl
leads_equals Semicolon = off_15

leads_sign : (s : Sign) (c : Bool) (k : ℕ) → Leads (is_semicolon s) (by_sign s c k)
unfolding by_sign begins
leads_sign (Operand a) c k = on refl
leads_sign (Before p) c k = on refl
leads_sign (After x) c k = leads_if c (inside true k) refl
leads_sign Slash c k = leads_if c (inside false k) refl
leads_sign Opening c k = go (ltb k 16)
  where
    go : (t : Bool) → Leads false (cond t (to (inside false (suc k))) (wrong 17))
    go true = on refl
    go false = off {m = 17} (λ q. omega arith)
leads_sign Closing c k = leads_if (c && ltb 0 k) (inside true (k - 1)) refl
leads_sign Equals c k = off_15
leads_sign Semicolon c k = leads_if (c && eqb k 0) at_line refl

leads : (ns : List (List ℕ)) (s : Spot) (t : Token) → Leads (ends_line t) (next ns s t)
unfolding next ends_line begins
leads ns at_line (name n) = leads_if (not_in n ns) at_equals refl
leads ns at_line (sign s) = off_15
leads ns at_line (range l h) = off_15
leads ns at_line unknown = off_15
leads ns at_equals (name n) = off_15
leads ns at_equals (sign s) = leads_equals s
leads ns at_equals (range l h) = off_15
leads ns at_equals unknown = off_15
leads ns (inside c k) (name n) = on refl
leads ns (inside c k) (sign s) = leads_sign s c k
leads ns (inside c k) (range l h) = on refl
leads ns (inside c k) unknown = off_15

pub begins_next : (ns : List (List ℕ)) (s : Spot) (t : Token) (u : Spot) → next ns s t ≡ to u → ends_line t ≡ begins u
begins_next ns s t u e = go (subst (Leads (ends_line t)) e (leads ns s t))
  where
    go : {b : Bool} → Leads b (to u) → b ≡ begins u
    go (on h) = sym h

pub wrong_some : (ns : List (List ℕ)) (s : Spot) (t : Token) (m : ℕ) → next ns s t ≡ wrong m → m ≡ 0 → ⊥
wrong_some ns s t m e = go (subst (Leads (ends_line t)) e (leads ns s t))
  where
    go : {b : Bool} → Leads b (wrong m) → m ≡ 0 → ⊥
    go (off h) = h

-- THE NAMES OF THE LINES SO FAR, after a token
record Advanced (hs ns : List (List ℕ)) (k : ℕ) (left : List (List ℕ)) : Type 0 where
  taken : take k hs ≡ ns
  after : drop k hs ≡ left
  there : k ≤ length hs

one_name :
    (k : ℕ) (hs : List (List ℕ)) (n : List ℕ) (rest : List (List ℕ)) → drop k hs ≡ n ∷ rest → Advanced hs (take k hs ++ (n ∷ [])) (k + 1) rest
one_name k hs n rest e = rw (add-one k) (go k hs e)
  where
    go : (k : ℕ) (hs : List (List ℕ)) → drop k hs ≡ n ∷ rest → Advanced hs (take k hs ++ (n ∷ [])) (suc k) rest
    go zero [] e = absurd (let z : ◌≡◌ {A = ℕ} 0 1 = cc in omega arith)
    go zero (h ∷ hs) e = record { taken = cc; after = cc; there = omega arith }
    go (suc k) [] e = absurd (let z : ◌≡◌ {A = ℕ} 0 1 = cc in omega arith)
    go (suc k) (h ∷ hs) e =
        let a = go k hs e in
        record { taken = ap (λ (ms : List (List ℕ)). h ∷ ms) a.taken; after = a.after; there = omega (arith, a.there) }

no_name : (k : ℕ) (hs left : List (List ℕ)) → drop k hs ≡ left → k ≤ length hs → Advanced hs (take k hs) (k + 0) left
no_name k hs left e h = rw (add-zero k) (record { taken = refl; after = e; there = h })

advance :
    (hs : List (List ℕ)) (k : ℕ) (s : Spot) (t : Token) (ts : List Token) (u : Spot) → next (take k hs) s t ≡ to u → k ≤ length hs →
    drop k hs ≡ heads_from (begins s) (t ∷ ts) →
    Advanced hs (defined_after (take k hs) s t) (k + lines_begun s) (heads_from (ends_line t) ts)
unfolding next heads_from head_of ends_line begins defined_after name_of lines_begun
advance hs k at_line (name n) ts u e h q = one_name k hs n _ q
advance hs k at_line (sign s) ts u e h q = absurd (let z : ◌≡◌ {A = ℕ} 0 1 = cc in omega arith)
advance hs k at_line (range l g) ts u e h q = absurd (let z : ◌≡◌ {A = ℕ} 0 1 = cc in omega arith)
advance hs k at_line unknown ts u e h q = absurd (let z : ◌≡◌ {A = ℕ} 0 1 = cc in omega arith)
advance hs k at_equals t ts u e h q = no_name k hs _ q h
advance hs k (inside c o) t ts u e h q = no_name k hs _ q h

-- THE EARLIEST FAULT, after a token
module _ (ns : List (List ℕ)) (s : Spot) (l : Lexeme) (ls : List Lexeme) (n : ℕ) where
  pub fault_later : (u : Spot) → next ns s l.token ≡ to u → first_wrong ns s (l ∷ ls) n ≡ first_wrong (defined_after ns s l.token) u ls n
  unfolding first_wrong
  fault_later u e = rw (e, first_wrong)

  pub fault_here : (m : ℕ) → next ns s l.token ≡ wrong m → first_wrong ns s (l ∷ ls) n ≡ refusal m l.offset
  unfolding first_wrong
  fault_here m e = rw (e, first_wrong)

-- THE CHECK, with the tokens from a place on still to be looked at, after so many lines
pub record Checking (text : List ℕ) (at : ℕ) (s : Spot) (lines : ℕ) : Type 0 where
  pub there : lines ≤ length (heads text)
  pub left : drop lines (heads text) ≡ heads_from (begins s) (tokens_at text at)
  pub first : fault text ≡ first_wrong (take lines (heads text)) s (lexemes_at text at) (length text)
  pub few : lines ≤ at

few_begun : (s : Spot) → lines_begun s ≤ 1
unfolding lines_begun begins
few_begun at_line = omega arith
few_begun at_equals = omega arith
few_begun (inside c k) = omega arith

pub begun_few : (s : Spot) (b : ℕ) → b ≡ lines_begun s → b ≤ 1
begun_few s b q = omega (arith, few_begun s)

module _ (text : List ℕ) where
  pub check_start : Checking text 0 at_line 0
  unfolding begins fault lexemes lexemes_at
  check_start =
      record { there = omega arith; left = ap (heads_from true) (tokens_start text); first = refl; few = omega arith }

  module _ (at : ℕ) (s : Spot) (lines : ℕ) (come : Checking text at s lines) where
    pub check_end :
        lexemes_at text at ≡ [] → (r : Result Unit Refusal) → ((ns : List (List ℕ)) → length ns ≡ lines → r ≡ checked (at_end ns s (length text))) →
        (checked (fault text) ≡ r) × (lines ≡ length (heads text))
    unfolding first_wrong heads_from
    check_end e r is =
        let none_left : drop lines (heads text) ≡ [] = come.left ∙ rw (tokens_end text at e) in
        let all : length (heads text) - lines ≡ 0 = sym (length-drop lines (heads text)) ∙ ap length none_left in (
          ap checked (come.first ∙ rw e) ∙ sym (is (take lines (heads text)) (length-take-le lines (heads text) come.there)),
          omega (arith, come.there),
        )

    module _ (o : ℕ) (skips : Skips text at o) (more : o < length text) where
      first_token : lexemes_at text at ≡ record { offset = o; token = token_at (drop o text) } ∷ lexemes_at text (o + width_at (drop o text))
      first_token = skips.rest ∙ lexemes_token text o more (skips.stops more)

      pub check_wrong : (k : Kind) → Moves text lines s o (Err k) → TextChecked text (Err (refusal (number_of k) o))
      unfolding next_of checked
      check_wrong k led =
          let e : next (take lines (heads text)) s (token_at (drop o text)) ≡ wrong (number_of k) = sym led in
          let found : fault text ≡ refusal (number_of k) o = come.first ∙ rw first_token (fault_here _ s _ _ (length text) _ e) in
          rw (found, ne_eqb (number_of k) 0 (wrong_some _ s _ _ e))

      module _ (m : Moved) (moves : Moves text lines s o (Ok m)) where
        pub check_further : (at < m.next) × (m.next ≤ length text)
        check_further =
            (omega (arith, skips.from, width_there text o more, moves.1), omega (arith, width_within text o more, moves.1))

        token_then : lexemes_at text at ≡ record { offset = o; token = token_at (drop o text) } ∷ lexemes_at text m.next
        token_then = first_token ∙ rw moves.1

        pub check_next : (b : ℕ) → b ≡ lines_begun s → Checking text m.next (spot_of m.spot) (lines + b)
        unfolding next_of tokens
        check_next b q =
            let e : next (take lines (heads text)) s (token_at (drop o text)) ≡ to (spot_of m.spot) = sym moves.0 in
            let passed : drop lines (heads text) ≡ heads_from (begins s) (token_at (drop o text) ∷ tokens_at text m.next) =
            come.left ∙ rw token_then
            in
            let a = advance (heads text) lines s _ _ (spot_of m.spot) e come.there passed in
            rw q (record {
              there = a.there;
              left = a.after ∙ ap (λ (t : Bool). heads_from t (tokens_at text m.next)) (begins_next _ s _ (spot_of m.spot) e);
              first = come.first ∙ rw (token_then, a.taken) (fault_later _ s _ _ (length text) (spot_of m.spot) e);
              few = omega (arith, come.few, check_further.0, few_begun s);
            })
