-- The step that the token at a place leads to, told from its first byte: of a word, of a range, of any other byte. Assumes nothing.
use mathlib.Core.Path.{◌≡◌, refl, sym, ap, ◌∙◌}
use mathlib.Core.Bool.{Bool, true, false, cond}
use mathlib.Core.List.{List}
use Prim.Native.Nat.{ℕ, ◌+◌}
use lib.ListN.{length, take, drop}
use Rattle.codec.specs.Bytes.{byte}
use Rattle.syntax.specs.Tokens.{Token, name, sign, range, unknown, letter, letters, word, sign_of, range_there, token_at, width_at}
use Rattle.syntax.specs.Faults.{Spot, at_line, at_equals, inside, Next, to, wrong, to_if, by_sign, is_equals, undefined_in, next}
use Rattle.syntax.specs.Code.Heads.{heads}
use Rattle.std.specs.Prelude.{Result, Ok, Err}
use Rattle.refusal.specs.declared.Kind.{Kind}
use Rattle.scanner.specs.declared.Spot as Code
use Rattle.scanner.specs.declared.faults.Moved.{Moved}
use Rattle.syntax.specs.declared.Token as CodeToken
use Rattle.syntax.specs.declared.Token.TheVariants.{Name, Sign, Range, Unknown}
use Rattle.scanner.specs.Code.Scanning.{token_of, equals}
use Rattle.scanner.specs.Code.Stepping.{next_of, Moves}
use Rattle.scanner.proofs.Tokenizing.{NoName, a_sign, a_range, no_token, no_name, word_there, range_token, sign_token}

-- A WORD is a name or an operand: at a line's start a reserved word is refused, elsewhere no word differs from another
next_cond : (ns : List (List ℕ)) (s : Spot) (c : Bool) (t u : Token) → next ns s (cond c t u) ≡ cond c (next ns s t) (next ns s u)
next_cond ns s true t u = refl
next_cond ns s false t u = refl

cond_next : (c : Bool) (n : Next) → cond c n n ≡ n
cond_next true n = refl
cond_next false n = refl

pub line_token : (ns : List (List ℕ)) (t : Token) → to_if (undefined_in ns t) at_equals ≡ next ns at_line t
unfolding next to_if undefined_in
line_token ns (name n) = refl
line_token ns (sign s) = refl
line_token ns (range l h) = refl
line_token ns unknown = refl

pub equals_token :
    (ns : List (List ℕ)) (text : List ℕ) (o : ℕ) (t : CodeToken.Token) → to_if (equals t) (inside false 0) ≡ next ns at_equals (token_of text o t)
unfolding next to_if token_of
equals_token ns text o (Name k) = refl
equals_token ns text o (Sign s) = refl
equals_token ns text o (Range r) = refl
equals_token ns text o Unknown = refl

module _ (ns : List (List ℕ)) (ls : List ℕ) where
  pub equals_word : next ns at_equals (word ls) ≡ wrong 15
  unfolding word next to_if is_equals
  equals_word = simp (next_cond, cond_next)

  pub inside_word : (c : Bool) (k : ℕ) → next ns (inside c k) (word ls) ≡ to (inside true k)
  unfolding word next by_sign
  inside_word c k = simp (next_cond, cond_next)

-- a token that is no name begins no line
other_wrong : (ns : List (List ℕ)) {t : Token} → NoName t → next ns at_line t ≡ wrong 15
unfolding next
other_wrong ns a_sign = refl
other_wrong ns a_range = refl
other_wrong ns no_token = refl

pub line_byte : (ns : List (List ℕ)) (b : ℕ) → next ns at_line (sign_of b) ≡ wrong 15
line_byte ns b = other_wrong ns (no_name b)

-- THE STEP AT A PLACE: of a word, of a range, of any other byte
abbrev pub moved_to : Result Code.Spot Kind → (next : ℕ) → Result Moved Kind
moved_to (Ok u) n = Ok (record { spot = u; next = n })
moved_to (Err k) n = Err k

module _ (text : List ℕ) (lines : ℕ) (s : Spot) (o : ℕ) where
  move_by :
      (r : Result Code.Spot Kind) (t : Token) (w : ℕ) → next_of r ≡ next (take lines (heads text)) s t → token_at (drop o text) ≡ t →
      width_at (drop o text) ≡ w → Moves text lines s o (moved_to r (o + w))
  move_by (Ok u) t w is token wide =
      (is ∙ ap (next (take lines (heads text)) s) (sym token), ap (λ (n : ℕ). o + n) (sym wide))
  move_by (Err k) t w is token wide = is ∙ ap (next (take lines (heads text)) s) (sym token)

  pub move_word :
      true ≡ letter (byte text o) → (w : List ℕ) → w ≡ letters (drop o text) →
      (r : Result Code.Spot Kind) → next_of r ≡ next (take lines (heads text)) s (word w) → Moves text lines s o (moved_to r (o + length w))
  move_word e w q r is =
      let there = word_there text o w e q in
      move_by r _ _ is there.0 there.1

  module _ (other : false ≡ letter (byte text o)) where
    pub move_range :
        true ≡ range_there (drop o text) → (r : Result Code.Spot Kind) →
        ((ns : List (List ℕ)) (low high : ℕ) → next_of r ≡ next ns s (range low high)) → Moves text lines s o (moved_to r (o + 5))
    move_range e r is =
        let there = range_token text o other e in
        move_by r _ _ (is _ _ _) there.0 there.1

    pub move_sign :
        false ≡ range_there (drop o text) → (r : Result Code.Spot Kind) →
        ((ns : List (List ℕ)) → next_of r ≡ next ns s (sign_of (byte text o))) → Moves text lines s o (moved_to r (o + 1))
    move_sign e r is =
        let there = sign_token text o other e in
        move_by r _ _ (is _) there.0 there.1
