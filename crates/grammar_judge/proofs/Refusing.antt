-- The refusals of a grammar and a capture, from the tests that the code makes before it writes. Assumes nothing.
use mathlib.Core.Path.{◌≡◌, refl, sym, ap, subst, ◌∙◌}
use mathlib.Core.Bool.{false}
use mathlib.Core.List.{List}
use Prim.Native.Nat.{ℕ, ◌<◌, ◌≤◌}
use native.Mathlib.Omega.{arith}
use lib.Dec.{ltb, eqb}
use lib.ListN.{length}
use borrow.Author.Tests.{eq-eqb, eqb-false, ltb-false}
use Rattle.std.specs.Prelude.{Result, Ok, Err}
use Rattle.refusal.specs.declared.Refusal.{Refusal}
use Rattle.image.specs.Format
use Rattle.machine.specs.Run.{how_many}
use Rattle.image.specs.Image.{machine}
use Rattle.refusal.specs.First.{refusal, or_else, refuse_if}
use Rattle.image.specs.Refusals.{image_refusal, capture_refusal}
use Rattle.refusal.specs.Checking.{checked}
use Rattle.refusal.proofs.Checked.{checked-refuses, checked-refused, refused-first, passed-first}
use Rattle.refusal.proofs.Refused.{neither, not_refused as passed}
use Rattle.image.proofs.CaptureRefused.{capture_fine, then_long, then_fine}
use Rattle.simulator.specs.Calls.{short_refusal, judge_refusal}
use Rattle.simulator.proofs.JudgeRefusals.{cells_refused, short_decides}
use Rattle.grammar.specs.Grammar.{grammar_refusal}
use Rattle.builder.specs.declared.Matching.{Matching}
use Rattle.builder.specs.declared.Matching.TheVariants.{Whole}
use Rattle.builder.specs.Image.{built, built_length}
use Rattle.builder.specs.Calls.{build_refusal}
use Rattle.builder.proofs.Answered.{build_fine}
use Rattle.builder.proofs.BuiltGood.{built_good}
use Rattle.grammar_judge.specs.Calls.{Lent, parts_refusal, lent_refusal, JudgesBy, refused}

-- 7 TO 9, by the tests on the capture and on the cells that the machine needs
module _ (gs cs : List ℕ) (good : (grammar_refusal gs).number ≡ 0) (a b : ℕ) where
  pub refused_long : Format.max_capture < length cs → refusal 7 (length cs) ≡ judge_refusal (built Whole gs) cs a b
  refused_long h =
      let e = sym (then_long (built Whole gs) (length cs) (image_refusal (built Whole gs)) refl (built_good Whole gs good) h) in
      sym (cells_refused (built Whole gs) cs a b (λ z. absurd (omega (arith, ap (λ (f : Refusal). f.number) e))) ∙ e)

  module _ (short : length cs ≤ Format.max_capture) (cells : ℕ) (is : cells ≡ how_many (machine (built Whole gs) cs)) where
    fine_so_far : (capture_refusal (built Whole gs) (length cs)).number ≡ 0
    fine_so_far = ap (λ (f : Refusal). f.number) (sym (then_fine (built Whole gs) (length cs) (image_refusal (built Whole gs)) refl (built_good Whole gs good) short))

    cells_decide : checked (short_refusal cells a b) ≡ checked (judge_refusal (built Whole gs) cs a b)
    cells_decide = short_decides (built Whole gs) cs a b fine_so_far is

    -- the same of counts that are shown to be those that were lent
    pub cells_decided : (m n : ℕ) → m ≡ a → n ≡ b → {r : Result Unit Refusal} → r ≡ checked (short_refusal cells m n) → r ≡ checked (judge_refusal (built Whole gs) cs a b)
    cells_decided m n notes work h =
        h
        ∙ ap (λ (k : ℕ). checked (short_refusal cells k n)) notes
        ∙ ap (λ (k : ℕ). checked (short_refusal cells a k)) work
        ∙ cells_decide

-- 11 TO 13 first
pub first_refused : (gs cs : List ℕ) (m a b : ℕ) (f : Refusal) → Err f ≡ checked (build_refusal gs m) → Err f ≡ checked (parts_refusal gs cs m a b)
unfolding parts_refusal
first_refused gs cs m a b f e = refused-first (build_refusal gs m) (judge_refusal (built Whole gs) cs a b) f (sym e)

pub then_refused :
    (gs cs : List ℕ) (m a b : ℕ) {r : Result Unit Refusal} → Ok tt ≡ checked (build_refusal gs m) → r ≡ checked (judge_refusal (built Whole gs) cs a b) →
    r ≡ checked (parts_refusal gs cs m a b)
unfolding parts_refusal
then_refused gs cs m a b e h = h ∙ passed-first (build_refusal gs m) (judge_refusal (built Whole gs) cs a b) (sym e)

-- and nothing is written then
pub lent_refuses : (gs cs : List ℕ) (x : Lent) (f : Refusal) → Err f ≡ checked (lent_refusal gs cs x) → JudgesBy gs cs (Err f) x x
lent_refuses gs cs x f e =
    let is : f ≡ lent_refusal gs cs x = checked-refuses _ _ (sym e) in
    let some : eqb (lent_refusal gs cs x).number 0 ≡ false = checked-refused _ _ (sym e) in
    subst (λ (g : Refusal). JudgesBy gs cs (Err g) x x) (sym is) (refused (eqb-false _ _ some))

-- the same of counts that are shown to be those that were lent
pub counts_lent :
    (gs cs : List ℕ) (x : Lent) (m a b : ℕ) → m ≡ length x.image → a ≡ length x.notes → b ≡ length x.work → {r : Result Unit Refusal} →
    r ≡ checked (parts_refusal gs cs m a b) → r ≡ checked (lent_refusal gs cs x)
counts_lent gs cs x m a b image notes work h =
    h
    ∙ ap (λ (k : ℕ). checked (parts_refusal gs cs k a b)) image
    ∙ ap (λ (k : ℕ). checked (parts_refusal gs cs (length x.image) k b)) notes
    ∙ ap (λ (k : ℕ). checked (parts_refusal gs cs (length x.image) (length x.notes) k)) work

-- NOTHING REFUSED: room for the image, a good image with a short capture, and cells enough
pub record Roomy (gs cs : List ℕ) (x : Lent) : Type 0 where
  pub image_room : built_length gs ≤ length x.image
  pub no_refusal : (capture_refusal (built Whole gs) (length cs)).number ≡ 0
  pub short : length cs ≤ Format.max_capture
  pub notes_room : how_many (machine (built Whole gs) cs) ≤ length x.notes
  pub work_room : how_many (machine (built Whole gs) cs) ≤ length x.work

pub roomy : (gs cs : List ℕ) (x : Lent) → (lent_refusal gs cs x).number ≡ 0 → Roomy gs cs x
unfolding parts_refusal build_refusal judge_refusal
roomy gs cs x e =
    let (building, judging) = neither _ _ (record { none_such = e }) in
    let room = (neither (grammar_refusal gs) _ building).1 in
    let (capture, cells) = neither (capture_refusal (built Whole gs) (length cs)) _ judging in
    let (notes, work) = neither _ _ cells in
    record {
      image_room = ltb-false _ _ (passed _ 12 _ room);
      no_refusal = capture.none_such;
      short = (capture_fine (built Whole gs) (length cs) capture.none_such).1;
      notes_room = ltb-false _ _ (passed _ 7 _ notes);
      work_room = ltb-false _ _ (passed _ 8 _ work);
    }

-- no refusal of the parts: a grammar that is right, and judging that is not refused
pub parts_fine :
    (gs cs : List ℕ) (m a b : ℕ) → (parts_refusal gs cs m a b).number ≡ 0 →
    ((grammar_refusal gs).number ≡ 0) × ((judge_refusal (built Whole gs) cs a b).number ≡ 0)
unfolding parts_refusal
parts_fine gs cs m a b e =
    let (build, judge) = neither (build_refusal gs m) _ (record { none_such = e }) in
    ((build_fine gs m build.none_such).0, judge.none_such)

-- of a grammar that is right, judging refuses by 7, 8 and 9 alone
pub refusals_left :
    (how : Matching) (gs cs : List ℕ) (notes work : ℕ) → (grammar_refusal gs).number ≡ 0 →
    judge_refusal (built how gs) cs notes work
    ≡ or_else (refuse_if (ltb Format.max_capture (length cs)) (refusal 7 (length cs)))
    (or_else (refuse_if (ltb notes (how_many (machine (built how gs) cs))) (refusal 8 (how_many (machine (built how gs) cs))))
    (refuse_if (ltb work (how_many (machine (built how gs) cs))) (refusal 9 (how_many (machine (built how gs) cs)))))
unfolding judge_refusal capture_refusal or_else
refusals_left how gs cs a b h = simp (eq-eqb _ _ (built_good how gs h))
