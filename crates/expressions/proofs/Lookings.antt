-- What looking ahead tells of the tokens from a place on. Assumes nothing.
use mathlib.Core.Path.{◌≡◌, refl, sym, ap, subst, ◌∙◌}
use mathlib.Core.Bool.{Bool, true, false}
use mathlib.Core.List.{List, [], ◌∷◌}
use mathlib.Core.Logic.{◌⊎◌, inl, inr, ⊎_elim}
use Prim.Native.Nat.{ℕ}
use native.Mathlib.Omega.{arith}
use Rattle.codec.specs.Bytes.{section}
use Rattle.syntax.specs.declared.Prefix.{Prefix}
use Rattle.syntax.specs.declared.Suffix.{Suffix}
use Rattle.syntax.specs.declared.Sign.TheVariants.{Operand, Before, After, Slash, Opening, Closing, Equals, Semicolon}
use Rattle.syntax.specs.declared.Token as Code
use Rattle.syntax.specs.declared.Token.TheVariants.{Name, Sign, Range, Unknown}
use Rattle.syntax.specs.Tokens.{Token, name, sign, range, unknown}
use Rattle.scanner.specs.declared.Lexeme.{Lexeme}
use Rattle.scanner.specs.Code.Scanning.{token_of, Peeks, tokens_at}
use Rattle.scanner.proofs.Searching.{tokens_next, tokens_end}
use Rattle.expressions.specs.declared.lookahead.Role.{Role}
use Rattle.expressions.specs.declared.lookahead.Role.TheVariants as Roles
use Rattle.expressions.specs.Code.Lookahead.{role, starts, parts_choice}
use Rattle.expressions.specs.Code.Levels.{suffix_sign, start_sign, slash_sign, by_sign, is_suffix, is_start, is_slash}

-- two constructors that are equal
pub clash : {A : Type 0} → ◌≡◌ {A = ℕ} 0 1 → A
clash e = absurd (omega arith)

-- THE TOKENS FROM A PLACE ON, by the lexeme that is there
peeked :
    (text : List ℕ) (at : ℕ) (l : Lexeme) → Peeks text at l →
    (tokens_at text at ≡ token_of text l.offset l.token ∷ tokens_at text l.next) ⊎ ((tokens_at text at ≡ []) × (l.token ≡ Unknown))
peeked text at l p = ⊎_elim (λ s. inl (tokens_next text at l s)) (λ n. inr (tokens_end text at n.0, n.1)) p

-- THE TOKEN of a role, at an offset
abbrev pub role_token : (text : List ℕ) → (offset : ℕ) → Role → Token
role_token text o (Roles.Name k) = name (section text o k)
role_token text o (Roles.Range r) = range r.low r.high
role_token text o (Roles.Leaf a) = sign (Operand a)
role_token text o Roles.Opening = sign Opening
role_token text o (Roles.Prefix p) = sign (Before p)
role_token text o (Roles.Suffix s) = sign (After s)
role_token text o Roles.Slash = sign Slash
role_token text o Roles.Other = unknown

role_is : (text : List ℕ) (o : ℕ) (t : Code.Token) → (role t ≡ Roles.Other → ⊥) → token_of text o t ≡ role_token text o (role t)
unfolding token_of
role_is text o (Name k) some = refl
role_is text o (Sign (Operand a)) some = refl
role_is text o (Sign (Before p)) some = refl
role_is text o (Sign (After x)) some = refl
role_is text o (Sign Slash) some = refl
role_is text o (Sign Opening) some = refl
role_is text o (Sign Closing) some = absurd (some refl)
role_is text o (Sign Equals) some = absurd (some refl)
role_is text o (Sign Semicolon) some = absurd (some refl)
role_is text o (Range r) some = refl
role_is text o Unknown some = refl

-- what a role tells of its token: whether it is a suffix, starts a part, is a slash
abbrev pub suffix_role : Role → Bool
suffix_role (Roles.Name k) = false
suffix_role (Roles.Range r) = false
suffix_role (Roles.Leaf a) = false
suffix_role Roles.Opening = false
suffix_role (Roles.Prefix p) = false
suffix_role (Roles.Suffix s) = true
suffix_role Roles.Slash = false
suffix_role Roles.Other = false

pub record Told (r : Role) (t : Token) : Type 0 where
  pub suffix : is_suffix t ≡ suffix_role r
  pub start : is_start t ≡ starts r
  pub slash : is_slash t ≡ parts_choice r

tells : (text : List ℕ) (o : ℕ) (t : Code.Token) → Told (role t) (token_of text o t)
unfolding token_of by_sign suffix_sign start_sign slash_sign
tells text o (Name k) = record { suffix = refl; start = refl; slash = refl }
tells text o (Sign (Operand a)) = record { suffix = refl; start = refl; slash = refl }
tells text o (Sign (Before p)) = record { suffix = refl; start = refl; slash = refl }
tells text o (Sign (After x)) = record { suffix = refl; start = refl; slash = refl }
tells text o (Sign Slash) = record { suffix = refl; start = refl; slash = refl }
tells text o (Sign Opening) = record { suffix = refl; start = refl; slash = refl }
tells text o (Sign Closing) = record { suffix = refl; start = refl; slash = refl }
tells text o (Sign Equals) = record { suffix = refl; start = refl; slash = refl }
tells text o (Sign Semicolon) = record { suffix = refl; start = refl; slash = refl }
tells text o (Range r) = record { suffix = refl; start = refl; slash = refl }
tells text o Unknown = record { suffix = refl; start = refl; slash = refl }

-- WHAT IS LOOKED AT
module _ (text : List ℕ) (at : ℕ) (a : Lexeme) (l : Peeks text at a) where
  -- a token that is something to an expression is the first one
  pub role_there : (r : Role) → role a.token ≡ r → (r ≡ Roles.Other → ⊥) → tokens_at text at ≡ role_token text a.offset r ∷ tokens_at text a.next
  role_there r f some =
      ⊎_elim
      (λ g. g ∙ ap (λ (t : Token). t ∷ tokens_at text a.next)
      (role_is text a.offset a.token (λ o. some (sym f ∙ o)) ∙ ap (λ (q : Role). role_token text a.offset q) f))
      (λ n. absurd (some (sym f ∙ ap role n.1)))
      (peeked text at a l)

  -- what it tells of the first token, if there is one
  pub role_tells : (t : Token) (us : List Token) → tokens_at text at ≡ t ∷ us → Told (role a.token) t
  role_tells t us f =
      ⊎_elim
      (λ g. let same : token_of text a.offset a.token ≡ t = cc in
      subst (λ (u : Token). Told (role a.token) u) same (tells text a.offset a.token))
      (λ n. clash (cc n.0))
      (peeked text at a l)

  pub none_there : tokens_at text at ≡ [] → role a.token ≡ Roles.Other
  none_there f = ⊎_elim (λ g. clash (cc)) (λ n. ap role n.1) (peeked text at a l)

  -- the place after it
  pub passes : (t : Token) (us : List Token) → tokens_at text at ≡ t ∷ us → tokens_at text a.next ≡ us
  passes t us f = ⊎_elim (λ g. cc) (λ n. clash (cc n.0)) (peeked text at a l)

-- NOT SOME ROLE
abbrev pub NoSuffix : Role → Type 0
NoSuffix r = (s : Suffix) → r ≡ Roles.Suffix s → ⊥

abbrev pub NoPrefix : Role → Type 0
NoPrefix r = (p : Prefix) → r ≡ Roles.Prefix p → ⊥

no_suffix_role : (r : Role) → NoSuffix r → suffix_role r ≡ false
no_suffix_role (Roles.Name k) h = refl
no_suffix_role (Roles.Range b) h = refl
no_suffix_role (Roles.Leaf z) h = refl
no_suffix_role Roles.Opening h = refl
no_suffix_role (Roles.Prefix p) h = refl
no_suffix_role (Roles.Suffix s) h = absurd (h s refl)
no_suffix_role Roles.Slash h = refl
no_suffix_role Roles.Other h = refl

module _ (text : List ℕ) (at : ℕ) (a : Lexeme) (l : Peeks text at a) where
  pub suffix_here : (s : Suffix) → role a.token ≡ Roles.Suffix s → tokens_at text at ≡ sign (After s) ∷ tokens_at text a.next
  suffix_here s e = role_there text at a l (Roles.Suffix s) e (λ o. clash (cc))

  pub prefix_here : (p : Prefix) → role a.token ≡ Roles.Prefix p → tokens_at text at ≡ sign (Before p) ∷ tokens_at text a.next
  prefix_here p e = role_there text at a l (Roles.Prefix p) e (λ o. clash (cc))

  pub suffix_not_here : NoSuffix (role a.token) → (t : Token) (us : List Token) → tokens_at text at ≡ t ∷ us → is_suffix t ≡ false
  suffix_not_here h t us f = (role_tells text at a l t us f).suffix ∙ no_suffix_role (role a.token) h

  pub prefix_not_here : NoPrefix (role a.token) → (q : Prefix) (us : List Token) → tokens_at text at ≡ sign (Before q) ∷ us → ⊥
  unfolding by_sign start_sign
  prefix_not_here h q us f = go (role a.token) refl
    where
      first : (r : Role) → role a.token ≡ r → (r ≡ Roles.Other → ⊥) → role_token text a.offset r ≡ sign (Before q)
      first r e some = let g = role_there text at a l r e some in cc

      unstarted : (r : Role) → role a.token ≡ r → starts r ≡ false → ⊥
      unstarted r e g = clash (cc ((role_tells text at a l _ us f).start, ap starts e))

      go : (r : Role) → role a.token ≡ r → ⊥
      go (Roles.Name k) e = clash (cc (first _ e (λ o. clash (cc))))
      go (Roles.Range b) e = clash (cc (first _ e (λ o. clash (cc))))
      go (Roles.Leaf z) e = clash (cc (first _ e (λ o. clash (cc))))
      go Roles.Opening e = clash (cc (first _ e (λ o. clash (cc))))
      go (Roles.Prefix p) e = h p e
      go (Roles.Suffix s) e = unstarted _ e refl
      go Roles.Slash e = unstarted _ e refl
      go Roles.Other e = unstarted _ e refl
