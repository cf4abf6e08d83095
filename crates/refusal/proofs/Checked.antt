-- A check's answer, of one refusal after another: the first refuses, or it passes and the second decides. Assumes nothing.
use mathlib.Core.Path.{◌≡◌, refl, sym}
use mathlib.Core.Bool.{Bool, true, false, cond}
use lib.Dec.{eqb}
use borrow.Author.Tests.{eqb-true}
use Rattle.std.specs.Prelude.{Result, Ok, Err}
use Rattle.refusal.specs.declared.Refusal.{Refusal}
use Rattle.refusal.specs.First.{or_else}
use Rattle.refusal.specs.Checking.{checked}

abbrev Checks : (a b : Result Unit Refusal) → Type 0
Checks a b = a ≡ b

-- what a check that passes says, and one that refuses
pub checked-passes : (f : Refusal) → checked f ≡ Ok tt → f.number ≡ 0
unfolding checked
checked-passes f = go (eqb f.number 0) refl
  where
    go : (t : Bool) → eqb f.number 0 ≡ t → Checks (cond t (Ok tt) (Err f)) (Ok tt) → f.number ≡ 0
    go true q h = eqb-true _ _ q
    go false q h = cc

pub checked-refuses : (f e : Refusal) → checked f ≡ Err e → e ≡ f
unfolding checked
checked-refuses f e = go (eqb f.number 0)
  where
    go : (t : Bool) → Checks (cond t (Ok tt) (Err f)) (Err e) → e ≡ f
    go true h = cc
    go false h = cc

pub checked-refused : (f e : Refusal) → checked f ≡ Err e → eqb f.number 0 ≡ false
unfolding checked
checked-refused f e = go (eqb f.number 0)
  where
    go : (t : Bool) → Checks (cond t (Ok tt) (Err f)) (Err e) → t ≡ false
    go true h = cc
    go false h = refl

pub checked-none : (f : Refusal) → f.number ≡ 0 → checked f ≡ Ok tt
unfolding checked
checked-none f e = simp e

-- a refusal that is made is the definition's
pub refuses-made : (e f : Refusal) → e ≡ f → eqb f.number 0 ≡ false → Err e ≡ checked f
unfolding checked
refuses-made e f is some = rw (is, some) refl

-- ONE AFTER ANOTHER
pub refused-first : (f g e : Refusal) → checked f ≡ Err e → Err e ≡ checked (or_else f g)
unfolding or_else
refused-first f g e h = rw (checked-refused f e h) (sym h)

pub passed-first : (f g : Refusal) → checked f ≡ Ok tt → checked g ≡ checked (or_else f g)
unfolding or_else
passed-first f g h = rw (checked-passes f h) refl

-- for functions that check one thing after another
pub ruleset in_turn = (refused-first, passed-first, checked-passes)
