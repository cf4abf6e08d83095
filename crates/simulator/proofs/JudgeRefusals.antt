-- Which refusal the call `judge` gives, by the tests that its code makes, and what its answer says then. Assumes nothing.
use Rattle.std.specs.Prelude.{Err, Ok}
use mathlib.Core.Path.{◌≡◌, refl, sym, ap, ◌∙◌}
use mathlib.Core.Bool.{Bool, true, false, cond}
use mathlib.Core.List.{List, ◌++◌}
use Prim.Native.Nat.{ℕ, zero, suc, ◌<◌, ◌≤◌}
use native.Mathlib.Omega.{arith}
use lib.Dec.{ltb}
use lib.ListN.{length, take, drop}
use lib.Seq.{length-take-le}
use borrow.Author.Tests.{lt-ltb, le-ltb, ltb-true, ltb-false, eq-eqb, ne_eqb, eqb-false}
use Rattle.refusal.specs.declared.Refusal.{Refusal}
use Rattle.machine.specs.Run.{how_many}
use Rattle.codec.specs.Bytes.{byte}
use Rattle.image.specs.Image.{machine}
use Rattle.image.proofs.CaptureRefused.{unrefused_by, image_first, capture_fine, then_length}
use Rattle.refusal.specs.First.{refusal, no_refusal, or_else, refuse_if}
use Rattle.refusal.specs.Checking.{checked as checks}
use Rattle.refusal.proofs.Checked.{checked-passes, checked-refuses, checked-refused, checked-none, passed-first}
use Rattle.refusal.proofs.Refused.{neither, not_refused as unrefused}
use Rattle.image.specs.Format
use Rattle.image.specs.Refusals.{image_refusal, capture_refusal}
use Rattle.simulator.specs.declared.Judgement.{Judgement}
use Rattle.simulator.specs.Answers.{Judged}
use Rattle.simulator.specs.Code.Checked.{Checked, Sized}
use Rattle.simulator.proofs.Needing.{cells_are}
use Rattle.simulator.specs.Calls.{cells_needed, short_refusal, judge_refusal, JudgementRight, JudgedRight, JudgeAs, JudgeSays}

module _ (bs cs : List ℕ) (a b : ℕ) where
  pub cells_refused : ((capture_refusal bs (length cs)).number ≡ 0 → ⊥) → judge_refusal bs cs a b ≡ capture_refusal bs (length cs)
  unfolding judge_refusal or_else
  cells_refused h = rw (ne_eqb _ _ h)

  module _ (fine_so_far : (capture_refusal bs (length cs)).number ≡ 0) where
    pub notes_refused : a < how_many (machine bs cs) → judge_refusal bs cs a b ≡ refusal 8 (how_many (machine bs cs))
    unfolding judge_refusal or_else refuse_if
    notes_refused h = rw (eq-eqb _ _ fine_so_far, lt-ltb _ _ h)

    module _ (enough : how_many (machine bs cs) ≤ a) where
      pub work_refused : b < how_many (machine bs cs) → judge_refusal bs cs a b ≡ refusal 9 (how_many (machine bs cs))
      unfolding judge_refusal or_else refuse_if
      work_refused h = rw (eq-eqb _ _ fine_so_far, le-ltb _ _ enough, lt-ltb _ _ h)

      pub not_refused : how_many (machine bs cs) ≤ b → judge_refusal bs cs a b ≡ no_refusal
      unfolding judge_refusal or_else refuse_if
      not_refused h = rw (eq-eqb _ _ fine_so_far, le-ltb _ _ enough, le-ltb _ _ h)

-- what the call says: a refusal with its cells as they were, or a right answer
pub as_refused :
    (n : ℕ) → (n ≡ 0 → ⊥) → (bs cs x y : List ℕ) {r : Judged} {f : Refusal} → r ≡ Err f → JudgeAs n f bs cs r x x y y
unfolding JudgeAs
as_refused zero h bs cs x y e = absurd (h refl)
as_refused (suc n) h bs cs x y e = (e, refl, refl)

pub as_right :
    (n : ℕ) → n ≡ 0 → (f : Refusal) (bs cs : List ℕ) {r : Judged} {a x b y : List ℕ} → JudgedRight bs cs r a x b y →
    JudgeAs n f bs cs r a x b y
unfolding JudgeAs
as_right zero e f bs cs s = s
as_right (suc n) e f bs cs s = absurd (omega (arith, e))

refused_says :
    (bs cs x y : List ℕ) {r : Judged} {f : Refusal} → judge_refusal bs cs (length x) (length y) ≡ f → (f.number ≡ 0 → ⊥) →
    r ≡ Err f → JudgeSays bs cs r x x y y
unfolding JudgeSays
refused_says bs cs x y {r} {f} e h q = rw e (as_refused f.number h bs cs x y q)

-- the cells that image and capture need
enough_are : {bs cs : List ℕ} {n : ℕ} → Sized bs cs n → n ≡ how_many (machine bs cs)
enough_are {bs} {cs} sized = sized.counted ∙ cells_are bs cs

-- what judging of checked input asks, of the lent parts
pub checked :
    (bs cs x y : List ℕ) {n : ℕ} → Sized bs cs n → ((i : ℕ) → byte cs i < 256) → n ≤ length x → n ≤ length y →
    Checked bs cs (take n x) (take n y)
checked bs cs x y {n} sized bytes h k =
    record {
      unrefused = unrefused_by bs cs bytes sized.no_refusal;
      notes_long = length-take-le n x h ∙ enough_are sized;
      work_long = length-take-le n y k ∙ enough_are sized;
    }

-- image and capture are not refused, and so many cells are needed for them
module _ (bs : List ℕ) (n : ℕ) (good : (image_refusal bs).number ≡ 0) (passed : checks (refuse_if (ltb Format.max_capture n) (refusal 7 n)) ≡ Ok tt) where
  length_fine : (capture_refusal bs n).number ≡ 0
  length_fine = ap (λ (f : Refusal). f.number) (sym (then_length bs n (image_refusal bs) refl good refl)) ∙ checked-passes _ passed

  pub length_short : ((image_refusal bs).number ≡ 0) × (n ≤ Format.max_capture)
  length_short = capture_fine bs n length_fine

  pub sized : (cs : List ℕ) → n ≡ length cs → {k : ℕ} → k ≡ cells_needed bs n → Sized bs cs k
  sized cs e counted = record { no_refusal = rw (← e) length_fine; counted = rw (← e) counted }

module _ (bs cs x y : List ℕ) {r : Judged} {e : Refusal} (q : r ≡ Err e) where
  capture_says : (f : Refusal) → f ≡ capture_refusal bs (length cs) → (f.number ≡ 0 → ⊥) → e ≡ f → JudgeSays bs cs r x x y y
  capture_says f is some z =
      let h : (capture_refusal bs (length cs)).number ≡ 0 → ⊥ = λ none. some (ap (λ (g : Refusal). g.number) is ∙ none) in
      refused_says bs cs x y (cells_refused bs cs (length x) (length y) h ∙ sym is) some (q ∙ ap Err z)

  pub image_says : checks (image_refusal bs) ≡ Err e → JudgeSays bs cs r x x y y
  image_says h =
      let some = eqb-false _ _ (checked-refused _ _ h) in
      capture_says (image_refusal bs) (image_first bs (length cs) _ refl some) some (checked-refuses _ _ h)

  pub long_says :
      (image_refusal bs).number ≡ 0 → checks (refuse_if (ltb Format.max_capture (length cs)) (refusal 7 (length cs))) ≡ Err e →
      JudgeSays bs cs r x x y y
  long_says good h =
      capture_says _ (then_length bs (length cs) (image_refusal bs) refl good refl) (eqb-false _ _ (checked-refused _ _ h)) (checked-refuses _ _ h)

module _ (bs cs x y : List ℕ) {r : Judged} where
  module _ {n : ℕ} (sized : Sized bs cs n) where
    pub notes_says : length x < n → r ≡ Err (refusal 8 n) → JudgeSays bs cs r x x y y
    notes_says h q =
        let e : n ≡ how_many (machine bs cs) = enough_are sized in
        refused_says bs cs x y (notes_refused bs cs (length x) (length y) sized.no_refusal (omega arith)) (λ z. omega arith) (rw e at q)

    pub work_says : n ≤ length x → length y < n → r ≡ Err (refusal 9 n) → JudgeSays bs cs r x x y y
    work_says h k q =
        let e : n ≡ how_many (machine bs cs) = enough_are sized in
        refused_says bs cs x y (work_refused bs cs (length x) (length y) sized.no_refusal (omega arith) (omega arith)) (λ z. omega arith) (rw e at q)

    -- an answer over the lent part is one over the whole
    pub answer_says :
        n ≤ length x → n ≤ length y → {x' y' : List ℕ} {j : Judgement} → r ≡ Ok j → JudgementRight bs cs j x' y' →
        JudgeSays bs cs r x (x' ++ drop n x) y (y' ++ drop n y)
    unfolding JudgeSays JudgeAs
    answer_says h k {x'} {y'} {j} q a =
        let e : n ≡ how_many (machine bs cs) = enough_are sized in
        rw
        (not_refused bs cs (length x) (length y) sized.no_refusal (omega arith) (omega arith))
        (record {
          judgement = j;
          notes = x';
          work = y';
          answers = q;
          right = a;
          notes_now = rw e;
          work_now = rw e;
        })

-- BY THE TEST of the lent cells: refused, or they are enough
pub short_says :
    (bs cs x y : List ℕ) {n : ℕ} → Sized bs cs n → (e : Refusal) → Err e ≡ checks (short_refusal n (length x) (length y)) →
    JudgeSays bs cs (Err e) x x y y
unfolding short_refusal or_else refuse_if checks
short_says bs cs x y {n} known e = go (ltb (length x) n) refl (ltb (length y) n) refl
  where
    go :
        (t : Bool) → ltb (length x) n ≡ t → (u : Bool) → ltb (length y) n ≡ u →
        Err e ≡ checks (or_else (cond t (refusal 8 n) no_refusal) (cond u (refusal 9 n) no_refusal)) → JudgeSays bs cs (Err e) x x y y
    go true p u q h =
        let is : e ≡ refusal 8 n = cc in
        notes_says bs cs x y known (ltb-true _ _ p) (ap Err is)
    go false p true q h =
        let is : e ≡ refusal 9 n = cc in
        work_says bs cs x y known (ltb-false _ _ p) (ltb-true _ _ q) (ap Err is)
    go false p false q h = absurd (let z : ◌≡◌ {A = ℕ} 0 1 = cc in omega arith)

pub enough_cells : (n a b : ℕ) → Ok tt ≡ checks (short_refusal n a b) → (n ≤ a) × (n ≤ b)
unfolding short_refusal
enough_cells n a b e =
    let (notes, work) = neither _ _ (record { none_such = checked-passes _ (sym e) }) in
    (ltb-false _ _ (unrefused _ 7 n notes), ltb-false _ _ (unrefused _ 8 n work))

-- where nothing is refused before, that test decides
pub short_decides :
    (bs cs : List ℕ) (a b : ℕ) {n : ℕ} → (capture_refusal bs (length cs)).number ≡ 0 → n ≡ how_many (machine bs cs) →
    checks (short_refusal n a b) ≡ checks (judge_refusal bs cs a b)
unfolding short_refusal judge_refusal
short_decides bs cs a b {n} fine is = rw is (passed-first (capture_refusal bs (length cs)) _ (checked-none _ fine))
