-- The checks' answers by the numbers that a C caller is told: number and place are those of the row, and the count of cells is what judging needs. Assumes nothing.
use Rattle.std.specs.Prelude.{Err, Ok}
use mathlib.Core.Path.{◌≡◌, refl, sym, ap, subst, ◌∙◌}
use mathlib.Core.Bool.{Bool, true, false, cond}
use mathlib.Core.List.{List}
use mathlib.Core.Logic.{◌↔◌}
use Prim.Native.Nat.{ℕ, ◌≤◌}
use native.Mathlib.Decide.{ℕ_discrete}
use lib.Dec.{eqb}
use lib.ListN.{length, get_or}
use borrow.Author.Tests.{eq-eqb, ne_eqb}
use Rattle.refusal.specs.declared.Refusal.{Refusal}
use Rattle.refusal.specs.First.{no_refusal}
use Rattle.refusal.specs.Checking.{checked}
use Rattle.machine.specs.declared.Reply.{Reply}
use Rattle.machine.specs.Run.{how_many}
use Rattle.machine.specs.Replies.{of_checked, refusal_reply, count_reply}
use Rattle.image.specs.Image.{machine}
use Rattle.image.specs.Refusals.{image_refusal, capture_refusal}
use Rattle.image.specs.Conditions.{ImageRow, CaptureRow}
use Rattle.image.proofs.ConditionsMet.{image_check, image_answer}
use Rattle.image.proofs.CaptureMet.{capture_check, capture_answer}
use Rattle.simulator.specs.Calls.{cells_needed, needs, judge_refusal}
use Rattle.simulator.specs.Replies.{of_needs}
use Rattle.simulator.proofs.ConditionsMet.{judging_check}
use Rattle.simulator.proofs.Needing.{cells_are}
use Rattle.recursion.specs.LeftRecursion.{RecursionRow, no_recursion}
use Rattle.recursion.specs.Computed.{recursion_refusal}
use Rattle.recursion.proofs.RecursionRows.{recursion_answer, passes}
use Rattle.sejimakpu.specs.Cells.{cells, ReplyWritten}
use Rattle.promises.specs.Calls.{CheckTold, CellsTold, RecursionTold}

-- WHAT A CHECK REPLIES: its refusal, or with number 0 a count
abbrev reply : Refusal → (count : ℕ) → Reply
reply f n = cond (eqb f.number 0) (count_reply n) (refusal_reply f)

checked_reply : (f : Refusal) → of_checked (checked f) ≡ reply f 0
unfolding of_checked checked
checked_reply f = go (eqb f.number 0)
  where
    go : (b : Bool) → of_checked (cond b (Ok tt) (Err f)) ≡ cond b (count_reply 0) (refusal_reply f)
    go true = refl
    go false = refl

needs_reply : (f : Refusal) (n : ℕ) → of_needs (needs f n) ≡ reply f n
unfolding of_needs needs
needs_reply f n = go (eqb f.number 0)
  where
    go : (b : Bool) → of_needs (cond b (Ok n) (Err f)) ≡ cond b (count_reply n) (refusal_reply f)
    go true = refl
    go false = refl

-- returned and left are the refusal's own number and place, where none is 0 at 0; with none, the count
module _
    (f : Refusal) (n : ℕ) {returned : ℕ} {answer : List ℕ} (none_whole : f.number ≡ 0 → f ≡ no_refusal)
    (w : ReplyWritten (reply f n) returned answer)
  where
    reply_refused : (f.number ≡ 0 → ⊥) → reply f n ≡ refusal_reply f
    reply_refused some = simp (ne_eqb _ _ some)

    reply_counted : f.number ≡ 0 → reply f n ≡ count_reply n
    reply_counted e = simp (eq-eqb _ _ e)

    told_refusal : ((reply f n).refusal ≡ f.number) × ((reply f n).place ≡ f.place)
    told_refusal = go (ℕ_discrete f.number 0)
      where
        go : Dec (f.number ≡ 0) → ((reply f n).refusal ≡ f.number) × ((reply f n).place ≡ f.place)
        go (yes e) = rw (reply_counted e) (sym e, sym (ap (λ (g : Refusal). g.place) (none_whole e)))
        go (no some) = rw (reply_refused some) (refl, refl)

    told_row : (R : (number place : ℕ) → Type 0) → R f.number f.place → R returned (get_or answer 0 0)
    unfolding cells
    told_row R r =
        let (number, place) = told_refusal in
        let there : get_or answer 0 0 ≡ f.place = ap (λ (l : List ℕ). get_or l 0 0) w.written ∙ place in
        rw (w.number ∙ number, there) r

    told_count : returned ≡ 0 → (f.number ≡ 0) × (get_or answer 2 0 ≡ n)
    unfolding cells
    told_count z =
        let none = sym told_refusal.0 ∙ sym w.number ∙ z in
        (none, ap (λ (l : List ℕ). get_or l 2 0) w.written ∙ ap (λ (p : Reply). p.count) (reply_counted none))

pub check_told : CheckTold
check_told image returned answer t =
    let c = image_check image in
    let f = image_refusal image in
    told_row f 0 (λ e. c.accepted (c.right e)) (subst (λ (p : Reply). ReplyWritten p returned answer) (checked_reply f) t) (ImageRow image)
    ((image_answer image _ _).0 refl)

pub recursion_told : RecursionTold
recursion_told grammar returned answer t =
    let f = recursion_refusal grammar in
    told_row f 0 (λ e. (recursion_answer grammar 0 0).1 (no_recursion (passes grammar e)))
    (subst (λ (p : Reply). ReplyWritten p returned answer) (checked_reply f) t) (RecursionRow grammar) ((recursion_answer grammar _ _).0 refl)

pub cells_told : CellsTold
cells_told image capture returned answer t = (told_row f k none w (CaptureRow image n) ((capture_answer image n _ _).0 refl), λ z. (count z, room z))
  where
    n : ℕ
    n = length capture

    k : ℕ
    k = cells_needed image n

    f : Refusal
    f = capture_refusal image n

    none : f.number ≡ 0 → f ≡ no_refusal
    none e = let c = capture_check image n in c.accepted (c.right e)

    w : ReplyWritten (reply f k) returned answer
    w = subst (λ (p : Reply). ReplyWritten p returned answer) (needs_reply f k) t

    count : returned ≡ 0 → get_or answer 2 0 ≡ how_many (machine image capture)
    count z = (told_count f k none w z).1 ∙ cells_are image capture

    room : returned ≡ 0 → (a b : ℕ) → ((judge_refusal image capture a b).number ≡ 0) ↔ ((get_or answer 2 0 ≤ a) × (get_or answer 2 0 ≤ b))
    room z a b =
        let j = judging_check image capture a b in
        let right = (capture_check image n).right (told_count f k none w z).0 in
        let enough = count z in (
          λ e. let r = j.right e in (rw enough r.notes_room, rw enough r.work_room),
          λ (notes, work). ap (λ (g : Refusal). g.number)
              (j.accepted (record { capture = right; notes_room = rw (sym enough) notes; work_room = rw (sym enough) work })),
        )
