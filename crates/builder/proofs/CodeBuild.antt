-- What building answers: the first refusal of 11 to 13, or the image and the later bytes. Assumes nothing.
use Rattle.std.specs.Prelude.{Result, Err, Ok}
use mathlib.Core.Path.{◌≡◌, refl, sym, ap, subst, ◌∙◌}
use mathlib.Core.Bool.{false}
use mathlib.Core.List.{List, ◌++◌}
use Prim.Native.Nat.{ℕ, zero, suc, ◌≤◌}
use native.Mathlib.Omega.{arith}
use lib.ListN.{length, drop}
use lib.Dec.{eqb}
use borrow.Author.Tests.{eqb-false, eq-eqb, le-ltb, ltb-false}
use Rattle.refusal.specs.declared.Refusal.{Refusal}
use Rattle.refusal.specs.First.{no_refusal, or_else, refuse_if}
use Rattle.refusal.specs.Checking.{checked}
use Rattle.refusal.proofs.Checked.{checked-passes, checked-refuses, checked-refused, checked-none, refused-first, passed-first}
use Rattle.refusal.proofs.Refused.{not_refused as room_there}
use Rattle.builder.specs.declared.Matching.{Matching}
use Rattle.builder.specs.Answers.{Built}
use Rattle.grammar.specs.Grammar.{grammar_refusal}
use Rattle.builder.specs.Image.{built, built_length}
use Rattle.builder.specs.Calls.{room_refusal, build_refusal, BuildAs, BuildSays}

-- A REFUSAL changes no byte
refused_as : (how : Matching) (gs a : List ℕ) (f : Refusal) (n : ℕ) → (n ≡ 0 → ⊥) → BuildAs n f how gs (Err f) a a
unfolding BuildAs
refused_as how gs a f zero h = absurd (h refl)
refused_as how gs a f (suc n) h = (refl, refl)

pub says_refused : (how : Matching) (gs a : List ℕ) (f : Refusal) → Err f ≡ checked (build_refusal gs (length a)) → BuildSays how gs (Err f) a a
unfolding BuildSays
says_refused how gs a f e =
    let is : f ≡ build_refusal gs (length a) = checked-refuses _ _ (sym e) in
    let some : eqb (build_refusal gs (length a)).number 0 ≡ false = checked-refused _ _ (sym e) in
    subst (λ (g : Refusal). BuildAs g.number g how gs (Err f) a a) is
    (refused_as how gs a f f.number (λ z. eqb-false _ _ some (ap (λ (g : Refusal). g.number) (sym is) ∙ z)))

-- A GRAMMAR THAT IS REFUSED decides alone
pub grammar_decides : (gs : List ℕ) (n : ℕ) (f : Refusal) → Err f ≡ checked (grammar_refusal gs) → Err f ≡ checked (build_refusal gs n)
unfolding build_refusal
grammar_decides gs n f e = refused-first (grammar_refusal gs) (room_refusal (built_length gs) n) f (sym e)

-- ROOM: what it says of a grammar that is not refused
module _ (gs : List ℕ) (good : (grammar_refusal gs).number ≡ 0) where
  pub room_decides : (n : ℕ) {long : ℕ} {r : Result Unit Refusal} → long ≡ built_length gs → r ≡ checked (room_refusal long n) → r ≡ checked (build_refusal gs n)
  unfolding build_refusal
  room_decides n {long} {r} l e =
      subst (λ (m : ℕ). r ≡ checked (room_refusal m n)) l e ∙ passed-first (grammar_refusal gs) (room_refusal (built_length gs) n) (checked-none (grammar_refusal gs) good)

  refusal_none : (n : ℕ) → built_length gs ≤ n → build_refusal gs n ≡ no_refusal
  unfolding build_refusal or_else refuse_if
  refusal_none n enough = simp (eq-eqb _ _ good, le-ltb n (built_length gs) enough)

  -- the image, and the later bytes as they were
  built_as :
      (how : Matching) (a c : List ℕ) (r : Built) → r ≡ Ok (built_length gs) → c ≡ built how gs ++ drop (built_length gs) a → BuildAs 0 no_refusal how gs r a c
  unfolding BuildAs
  built_as how a c r x y = (x, y)

  pub image_built :
      (a : List ℕ) (long : ℕ) → long ≡ built_length gs → long ≤ length a →
      (how : Matching) (b c : List ℕ) → b ≡ built how gs → c ≡ b ++ drop long a → BuildSays how gs (Ok long) a c
  unfolding BuildSays
  image_built a long l fits how b c q k =
      subst (λ (g : Refusal). BuildAs g.number g how gs (Ok long) a c)
      (sym (refusal_none (length a) (omega arith)))
      (built_as how a c (Ok long) (ap Ok l)
      (k ∙ ap (λ (x : List ℕ). x ++ drop long a) q ∙ ap (λ (n : ℕ). built how gs ++ drop n a) l))

pub room_passed : (n long : ℕ) → Ok tt ≡ checked (room_refusal long n) → long ≤ n
room_passed n long e = ltb-false n long (room_there _ 12 long (record { none_such = checked-passes _ (sym e) }))
