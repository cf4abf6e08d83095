-- Parts and operands: what the functions of the descent answer, way by way through their code. Assumes nothing.
use mathlib.Core.Path.{◌≡◌, refl, sym, ap, subst, ◌∙◌}
use mathlib.Core.Bool.{true, false}
use mathlib.Core.List.{List, [], ◌∷◌}
use Prim.Native.Nat.{ℕ, ◌-◌, ◌<◌, ◌≤◌}
use native.Mathlib.Omega.{arith}
use Rattle.grammar.specs.declared.Expression.{Expression}
use Rattle.grammar.specs.declared.Expression.TheVariants.{Range}
use Rattle.syntax.specs.declared.Leaf.{Leaf}
use Rattle.syntax.specs.declared.Prefix.{Prefix}
use Rattle.syntax.specs.declared.Sign.TheVariants.{Before, Opening}
use Rattle.grammar.specs.declared.ByteRange.{ByteRange}
use Rattle.syntax.specs.Tokens.{Token, sign}
use Rattle.syntax.specs.Trees.{Tree, choices, prefixes, operand, Derives, no_suffix, a_name, a_leaf, a_range, brackets}
use Rattle.syntax.specs.Needs.{prefix_need}
use Rattle.syntax.specs.Compile.{compile_leaf}
use Rattle.scanner.specs.Code.Scanning.{Peeks, tokens_at}
use Rattle.expressions.specs.declared.Rules.{Rules}
use Rattle.expressions.specs.declared.lookahead.Role.{Role}
use Rattle.expressions.specs.declared.lookahead.Role.TheVariants as Roles
use Rattle.scanner.specs.declared.Lexeme.{Lexeme}
use Rattle.expressions.specs.Code.Lookahead.{role, starts}
use Rattle.expressions.specs.Code.Building.{advanced}
use Rattle.expressions.specs.Code.Operators.{Part, over, PrefixRoom, prefix_made}
use Rattle.expressions.specs.Code.Levels.{leaf_made, name_made, Room, PartRight, LevelRight, Spent, Passes, LevelRead}
use Rattle.expressions.proofs.Lookings.{clash, role_token, role_there, role_tells}
use Rattle.expressions.proofs.Deriving.{begins, suffixes_prefix}
use Rattle.expressions.proofs.Operating.{prefix_some}
use Rattle.expressions.proofs.Operands.{prefix_over, prefixed_over, prefixed_fits, prefix_spent, prefix_room, less_room}
use Rattle.expressions.proofs.Leaves.{FirstRight, name_read, range_read, leaf_read, brackets_read, brackets_over, nothing_spent, leaf_spent, name_spent}

-- AN OPERAND by its first token
module _ (text : List ℕ) (at d : ℕ) (before : Rules) (a : Lexeme) (l : Peeks text at a) where
  -- a token that begins one
  begun_by :
      (q : Role) (r s : Part) → role a.token ≡ q → (q ≡ Roles.Other → ⊥) → r ≡ s → FirstRight text (role_token text a.offset q) a.next d before s →
      LevelRight operand text at d before r
  begun_by q r s e some is read g us x stops =
      subst (λ (y : Part). PartRight text before g us y) (sym is)
      (read g us (subst (λ (ts : List Token). Derives operand d ts g us) (role_there text at a l q e some) x))

  pub named_operand : (k : ℕ) (r : Part) → role a.token ≡ Roles.Name k → r ≡ name_made text a.offset k before a.next → LevelRead operand text at d before r
  named_operand k r e is =
      record {
        right = begun_by _ r _ e (λ o. clash (cc)) is (name_read text d before a.next a.offset k);
        spent = λ f. subst (λ (q : Part). Spent before 0 q) (sym is) (name_spent text a.offset k before a.next);
      }

  pub ranged_operand : (b : ByteRange) (r : Part) → role a.token ≡ Roles.Range b → r ≡ leaf_made (Range b.low b.high) before a.next → LevelRead operand text at d before r
  ranged_operand b r e is =
      record {
        right = begun_by _ r _ e (λ o. clash (cc)) is (range_read text d before a.next b.low b.high);
        spent = leaf_spent _ before a.next r is;
      }

  pub leaf_operand : (z : Leaf) (x : Expression) (r : Part) → role a.token ≡ Roles.Leaf z → x ≡ compile_leaf z → r ≡ leaf_made x before a.next → LevelRead operand text at d before r
  leaf_operand z x r e f is =
      record {
        right = begun_by _ r _ e (λ o. clash (cc)) (is ∙ ap (λ (y : Expression). leaf_made y before a.next) f) (leaf_read text d before a.next z);
        spent = leaf_spent x before a.next r is;
      }

  pub bracket_operand :
      (inner : Part) (to : ℕ) → role a.token ≡ Roles.Opening → (d ≡ 0 → ⊥) → LevelRead choices text a.next (d - 1) before inner → Passes text inner.at to →
      LevelRead operand text at d before (record { fits = inner.fits; at = to; node = inner.node; rules = inner.rules })
  bracket_operand inner to e some read passes =
      record {
        right = begun_by _ _ _ e (λ o. clash (cc)) refl (brackets_read text d before a.next inner to some read.right passes);
        spent = λ f. let p = read.spent f in record { room = p.room; left = p.left };
      }

  -- the inside does not fit
  pub bracket_unread :
      (inner : Part) → role a.token ≡ Roles.Opening → (d ≡ 0 → ⊥) → LevelRead choices text a.next (d - 1) before inner → inner.fits ≡ false →
      LevelRead operand text at d before inner
  bracket_unread inner e some read gone =
      record {
        right = begun_by _ _ _ e (λ o. clash (cc)) refl (brackets_over text d before a.next inner some read.right gone);
        spent = nothing_spent before 0 inner gone;
      }

  -- nothing is read where none begins
  nothing : (i : ℕ) (r : Part) → r ≡ over before i → ((e : Tree) (us : List Token) → Derives operand d (tokens_at text at) e us → ⊥) → LevelRead operand text at d before r
  nothing i r is never =
      record { right = λ e us x s. absurd (never e us x); spent = nothing_spent before 0 r (ap (λ (q : Part). q.fits) is) }

  pub bracket_over : (i : ℕ) (r : Part) → role a.token ≡ Roles.Opening → d ≡ 0 → r ≡ over before i → LevelRead operand text at d before r
  bracket_over i r e none is = nothing i r is (λ g us x. go x refl (role_there text at a l _ e (λ o. clash (cc))))
    where
      go : {c : ℕ} {ts : List Token} {g : Tree} {us : List Token} → Derives operand c ts g us → c ≡ d → ts ≡ sign Opening ∷ tokens_at text a.next → ⊥
      go a_name k f = clash (cc)
      go a_leaf k f = clash (cc)
      go a_range k f = clash (cc)
      go (brackets y) k f = omega arith

  pub no_operand :
      (i : ℕ) (r : Part) → ((k : ℕ) → role a.token ≡ Roles.Name k → ⊥) → ((b : ByteRange) → role a.token ≡ Roles.Range b → ⊥) → ((z : Leaf) → role a.token ≡ Roles.Leaf z → ⊥)
      → (role a.token ≡ Roles.Opening → ⊥) → r ≡ over before i → LevelRead operand text at d before r
  no_operand i r no_name no_range no_leaf no_bracket is = nothing i r is (λ e us x. go x (role a.token) refl)
    where
      unstarted : {e : Tree} {us : List Token} → Derives operand d (tokens_at text at) e us → starts (role a.token) ≡ false → ⊥
      unstarted x f =
          let b = begins x in
          clash (cc ((role_tells text at a l b.token b.later b.is).start, b.starts))

      go : {e : Tree} {us : List Token} → Derives operand d (tokens_at text at) e us → (r : Role) → role a.token ≡ r → ⊥
      go x (Roles.Name k) e = no_name k e
      go x (Roles.Range b) e = no_range b e
      go x (Roles.Leaf z) e = no_leaf z e
      go x Roles.Opening e = no_bracket e
      go x (Roles.Prefix p) e = suffixes_prefix (no_suffix x) p (tokens_at text a.next) (role_there text at a l _ e (λ o. clash (cc)))
      go x (Roles.Suffix s) e = unstarted x (ap starts e)
      go x Roles.Slash e = unstarted x (ap starts e)
      go x Roles.Other e = unstarted x (ap starts e)

-- A PREFIX, whose cost is known
module _ (text : List ℕ) (at d : ℕ) (before : Rules) (q : Prefix) (next : ℕ) (here : tokens_at text at ≡ sign (Before q) ∷ tokens_at text next) (k : ℕ) (cost : k ≡ prefix_need q) where
  pub prefix_over_read : before.left < k → (i : ℕ) (r : Part) → r ≡ over before i → LevelRead prefixes text at d before r
  prefix_over_read lt i r is =
      let gone : r.fits ≡ false = ap (λ (x : Part). x.fits) is in
      record { right = prefix_over text at d before q next here r (omega arith) gone; spent = nothing_spent before 0 r gone }

  module _ (less : Rules) (took : less ≡ advanced before [] k) (enough : k ≤ before.left) (x : Part) (read : LevelRead prefixes text next d less x) where
    took_need : less ≡ advanced before [] (prefix_need q)
    took_need = took ∙ ap (λ (n : ℕ). advanced before [] n) cost

    need_enough : prefix_need q ≤ before.left
    need_enough = omega arith

    pub prefix_inner_over : x.fits ≡ false → LevelRead prefixes text at d before x
    prefix_inner_over f =
        record { right = prefixed_over text at d before q next here less took_need need_enough x read.right f; spent = nothing_spent before 0 x f }

    pub prefix_read : x.fits ≡ true → (r : Part) → r ≡ prefix_made q x → LevelRead prefixes text at d before r
    prefix_read f r made =
        record {
          right = prefixed_fits text at d before q next here less took_need need_enough x read.right f r made;
          spent = λ g. prefix_spent before less q x r took_need need_enough (read.spent f) made;
        }

-- the room for what a prefix stands before, which is read with fewer rules; and for the prefix itself
pub prefix_taken :
    (text : List ℕ) (before less : Rules) (q : Prefix) (k : ℕ) → k ≡ prefix_need q → less ≡ advanced before [] k → k ≤ before.left → Room text before →
    Room text less × (less.left < before.left)
prefix_taken text before less q k cost took enough room = less_room text before less k took (omega (arith, prefix_some q)) enough room

pub prefix_fits_room :
    (text : List ℕ) (before less : Rules) (q : Prefix) (k : ℕ) (x : Part) → k ≡ prefix_need q → less ≡ advanced before [] k → k ≤ before.left → Room text before →
    Spent less 0 x → PrefixRoom q x
prefix_fits_room text before less q k x cost took enough room p =
    prefix_room before less q x (took ∙ ap (λ (n : ℕ). advanced before [] n) cost) (omega arith) p room.fit
