-- A table of refusals by rows: if there is a row, and a row's number and place are the answer, then a number and a place are the answer exactly if there is their row. And one check after another: the first refuses, or all is right by it and the second decides. Assumes nothing.
use mathlib.Core.Path.{◌≡◌, subst}
use mathlib.Core.Logic.{◌↔◌}
use Prim.Native.Nat.{ℕ}
use native.Mathlib.Decide.{ℕ_discrete}
use borrow.Author.Tests.{ne_eqb}
use Rattle.refusal.specs.declared.Refusal.{Refusal}
use Rattle.refusal.specs.First.{refusal, no_refusal, or_else}

abbrev pub SomeRow : ((number place : ℕ) → Type 0) → Type 0
SomeRow Row = (number : ℕ) × (place : ℕ) × Row number place

pub record Table (answer : Refusal) (Row : (number place : ℕ) → Type 0) : Type 0 where
  pub row : SomeRow Row
  pub answers : (number place : ℕ) → Row number place → answer ≡ refusal number place

module _ {answer : Refusal} {Row : (number place : ℕ) → Type 0} (t : Table answer Row) where
  pub row_there : Row answer.number answer.place
  row_there = go t.row
    where
      go : SomeRow Row → Row answer.number answer.place
      go (n, o, r) = rw (t.answers n o r) r

  pub row_of : {n o : ℕ} → answer ≡ refusal n o → Row n o
  row_of e = subst (λ (f : Refusal). Row f.number f.place) e row_there

  pub row_numbered : {n : ℕ} → answer.number ≡ n → Row n answer.place
  row_numbered e = subst (λ (n : ℕ). Row n answer.place) e row_there

  pub exactly : (n o : ℕ) → (answer ≡ refusal n o) ↔ Row n o
  exactly n o = (row_of, t.answers n o)

-- A CHECK by its table: it gives no refusal exactly if all is right
pub record Check (answer : Refusal) (Right : Type 0) (Row : (number place : ℕ) → Type 0) : Type 0 where
  pub table : Table answer Row
  pub right : answer.number ≡ 0 → Right
  pub accepted : Right → answer ≡ no_refusal

pub checks :
    {answer : Refusal} {Right : Type 0} {Row : (number place : ℕ) → Type 0} → Table answer Row → ((o : ℕ) → Row 0 o → Right) →
    (Right → Row 0 0) → Check answer Right Row
checks t right unrefused =
    record { table = t; right = λ e. right _ (row_numbered t e); accepted = λ r. t.answers 0 0 (unrefused r) }

-- ANOTHER CHECK AFTER IT
module _ {answer : Refusal} {Right : Type 0} {Row : (number place : ℕ) → Type 0} (c : Check answer Right Row) where
  pub stops : (next : Refusal) {n o : ℕ} → Row n o → (n ≡ 0 → ⊥) → or_else answer next ≡ refusal n o
  unfolding or_else
  stops next {n} {o} r some = rw (c.table.answers n o r, ne_eqb n 0 some)

  pub goes_on : (next : Refusal) {f : Refusal} → Right → next ≡ f → or_else answer next ≡ f
  unfolding or_else
  goes_on next r e = rw (c.accepted r) e

  pub then_row :
      {Next : (number place : ℕ) → Type 0} → ((n o : ℕ) → Row n o → (n ≡ 0 → ⊥) → Next n o) → (Right → SomeRow Next) → SomeRow Next
  then_row {Next} refused next = go (ℕ_discrete answer.number 0)
    where
      go : Dec (answer.number ≡ 0) → SomeRow Next
      go (yes e) = next (c.right e)
      go (no some) = (answer.number, answer.place, refused _ _ (row_there c.table) some)
