-- The captures judged so far: the lines that stand, their totals, and that judging the others in order completes them. Assumes nothing.
use mathlib.Core.Path.{◌≡◌, refl, ap, ◌∙◌}
use mathlib.Core.List.{List, [], ◌∷◌, ◌++◌, append-nil, append_assoc}
use Prim.Native.Nat.{ℕ, suc, ◌+◌, ◌*◌, ◌<◌, ◌≤◌}
use native.Mathlib.Omega.{arith}
use lib.ListN.{length, drop, length-append, length-drop}
use Rattle.codec.specs.Bytes.{written}
use Rattle.machine.specs.declared.Reply.{Reply}
use Rattle.simulator.specs.Answers.{Judged}
use Rattle.simulator.specs.Calls.{JudgeSays}
use Rattle.simulator.specs.Replies.{of_judged}
use Rattle.bundle.specs.declared.Totals.{Totals}
use Rattle.bundle.specs.Answers as answers
use Rattle.bundle.specs.Format.{max_captures, count, capture}
use Rattle.bundle.specs.Report.{line_width, line_cells, lines_cells, sum, totals}
use Rattle.bundle.specs.Calls.{InOrder, done, next, BundleJudged}
use Rattle.bundle.specs.Code.Judging.{RoomAfter, with_line}
use Rattle.bundle.proofs.LineCells.{lines_long as cells_of_lines}
use Rattle.bundle.proofs.LinesWritten.{line_behind}
use Rattle.simulator.proofs.LengthsKept.{lengths_kept}
use Rattle.bundle.proofs.Adding.{room_added, room_for}
use Rattle.bundle.proofs.FewReadings.{readings_few}

sum_snoc : (f : Judged → ℕ) (rs : List Judged) (r : Judged) → sum f (rs ++ (r ∷ [])) ≡ sum f rs + f r
unfolding sum
sum_snoc f [] r = omega arith
sum_snoc f (q ∷ rs) r = let h = sum_snoc f rs r in omega (arith, h)

pub totals_snoc : (rs : List Judged) (r : Judged) → with_line (totals rs) r ≡ totals (rs ++ (r ∷ []))
unfolding totals
totals_snoc rs r =
    simp sum_snoc

pub record SoFar (bs xs : List ℕ) (i : ℕ) (t : Totals) (l l_now a a_now b b_now : List ℕ) : Type 0 where
  pub lines : List Judged
  pub many : length lines ≡ i
  pub within : i ≤ count xs
  pub completed :
      (qs : List Judged) (x y : List ℕ) → InOrder bs xs i qs a_now x b_now y → InOrder bs xs 0 (lines ++ qs) a x b y
  pub totals_are : t ≡ totals lines
  pub room : RoomAfter i t
  pub lines_now : l_now ≡ lines_cells lines ++ drop (line_width * i) l
  pub notes_long : length a_now ≡ length a
  pub work_long : length b_now ≡ length b

abbrev totals_of : (accepted ended stuck looping halted refused readings : ℕ) → Totals
totals_of a e s l h f n = record { accepted = a; ended = e; stuck = s; looping = l; halted = h; refused = f; readings = n }

all_zero :
    (t : Totals) → t.accepted ≡ 0 → t.ended ≡ 0 → t.stuck ≡ 0 → t.looping ≡ 0 → t.halted ≡ 0 → t.refused ≡ 0 → t.readings ≡ 0 →
    t ≡ totals []
unfolding totals sum
all_zero t a e s l h f n =
    let same : totals_of t.accepted t.ended t.stuck t.looping t.halted t.refused t.readings ≡ totals_of 0 0 0 0 0 0 0 = cc in same

-- of default totals, all of them 0
pub none_yet :
    {bs xs l a b : List ℕ} {t : Totals} →
    (t.accepted ≡ 0) × ((t.ended ≡ 0) × ((t.stuck ≡ 0) × ((t.looping ≡ 0) × ((t.halted ≡ 0) × ((t.refused ≡ 0) × ((t.readings ≡ 0) × Unit {0})))))) →
    SoFar bs xs 0 t l l a a b b
unfolding totals sum lines_cells
none_yet {bs} {xs} {l} {a} {b} {t} (accepted, (ended, (stuck, (looping, (halted, (refused, (readings, _))))))) =
    record {
      lines = [];
      many = refl;
      within = omega arith;
      completed = λ qs x y s. s;
      totals_are = all_zero t accepted ended stuck looping halted refused readings;
      room =
          record {
            accepted = omega (arith, accepted);
            ended = omega (arith, ended);
            stuck = omega (arith, stuck);
            looping = omega (arith, looping);
            halted = omega (arith, halted);
            refused = omega (arith, refused);
            readings = omega (arith, readings);
          };
      lines_now = refl;
      notes_long = refl;
      work_long = refl;
    }

module _ {bs xs l m a x b y : List ℕ} {i : ℕ} {t : Totals} (so : SoFar bs xs i t l m a x b y) where
  pub totals_room : {n : ℕ} → i < n → n ≤ max_captures → RoomAfter max_captures t
  totals_room h few = room_for (omega (arith, h, few)) so.room

  module _ (room : line_width * count xs ≤ length l) where
    -- the lent lines keep their length
    lines_long : length m ≡ length l
    lines_long =
        let w = so.within in
        let rest = length-drop (line_width * i) l in
        let front = cells_of_lines so.lines ∙ ap (λ (n : ℕ). line_width * n) so.many in
        let both = length-append (lines_cells so.lines) (drop (line_width * i) l) in
        ap length so.lines_now ∙ (omega (arith, room, w, rest, front, both))

    pub line_room : {n : ℕ} → n ≡ count xs → i < n → n ≤ max_captures → (i < max_captures) × (line_width * i + line_width ≤ length m)
    line_room e h few =
        let same = lines_long in
        (omega (arith, h, few), omega (arith, e, h, room, same))

pub all_done :
    {bs xs l m a x b y : List ℕ} {i : ℕ} {t : Totals} → SoFar bs xs i t l m a x b y → {n : ℕ} → n ≡ count xs → n ≤ i →
    BundleJudged bs xs (answers.lines (count xs) t) l m a x b y
all_done {bs} {xs} {l} {m} {a} {x} {b} {y} {i} {t} so e h =
    let all : i ≡ count xs = let w = so.within in omega (arith, h, w) in
    let whole : SoFar bs xs (count xs) t l m a x b y = rw all at so in
    record {
      lines = whole.lines;
      judged = rw (append-nil whole.lines) at (whole.completed [] x y done);
      answers = ap (answers.lines (count xs)) whole.totals_are;
      lines_now = whole.lines_now;
    }

-- one capture more is judged, its line written and counted
pub one_more :
    {bs xs cs l m k a x z b y w : List ℕ} {i : ℕ} {t u : Totals} {p : Reply} (r : Judged) → SoFar bs xs i t l m a x b y → i < count xs →
    cs ≡ capture xs i → JudgeSays bs cs r x z y w → p ≡ of_judged r → k ≡ written m (line_width * i) (line_cells p) → u ≡ with_line t r →
    SoFar bs xs (i + 1) u l k a z b w
one_more {bs} {xs} {cs} {l} {m} {k} {a} {x} {z} {b} {y} {w} {i} {t} {u} {p} r so h e s q written_now counted =
    let own : JudgeSays bs (capture xs i) r x z y w = rw e at s in
    let more : i + 1 ≡ suc i = omega arith in
    record {
      lines = so.lines ++ (r ∷ []);
      many = length-append so.lines (r ∷ []) ∙ ap (λ (n : ℕ). n + 1) so.many;
      within = omega (arith, h);
      completed =
          λ qs v o rest.
          rw (append_assoc so.lines (r ∷ []) qs)
          (so.completed (r ∷ qs) v o (next h own (rw more at rest)));
      totals_are = counted ∙ ap (λ (t : Totals). with_line t r) so.totals_are ∙ totals_snoc so.lines r;
      room = rw counted (room_added r (readings_few bs cs r x z y w s) so.room);
      notes_long = (lengths_kept bs cs r x z y w s).0 ∙ so.notes_long;
      work_long = (lengths_kept bs cs r x z y w s).1 ∙ so.work_long;
      lines_now = written_now ∙ (rw (so.lines_now, q) (line_behind l so.lines r i so.many));
    }

-- for the function that judges the captures in order
pub ruleset in_order = (none_yet, totals_room, line_room, one_more, all_done)
