-- Writing a text into a buffer byte after byte, as far as there is room. Assumes nothing.
use mathlib.Core.Path.{◌≡◌, refl, sym, subst, ap, ◌∙◌}
use mathlib.Core.List.{List, [], ◌∷◌, ◌++◌, append-nil}
use Prim.Native.Nat.{ℕ, zero, suc, ◌+◌, ◌-◌, ◌≤◌, ◌<◌, min}
use native.Mathlib.Nat.{le_of_suc-le-suc, not-suc-le-zero, min-eq_left}
use native.Mathlib.Omega.{arith}
use native.Mathlib.Numerals.{add-one}
use lib.ListN.{length, get_or, set, take, drop, length-append, take-append-drop, drop_of_length-le}
use lib.Seq.{take-suc, take_all, take-nil, drop-nil, drop-cons, set_split}
use Rattle.answer_line.specs.declared.Line.{Line}
use Rattle.answer_line.specs.Line.{written, BufferHolds, Lined, max_line}
use Rattle.answer_line.specs.Code.Writing.{Adds, Writes}

-- no room
written_none : (text : List ℕ) → written text [] ≡ []
unfolding written
written_none [] = refl
written_none (a ∷ text) = refl

-- what has room stands there whole
written_fits : (text buffer : List ℕ) → length text ≤ length buffer → written text buffer ≡ text ++ drop (length text) buffer
unfolding written
written_fits [] bs h = refl
written_fits (a ∷ text) [] h = absurd (not-suc-le-zero h)
written_fits (a ∷ text) (b ∷ bs) h = ap (λ (r : List ℕ). a ∷ r) (written_fits text bs (le_of_suc-le-suc h))

-- two texts one after the other, from the first byte on and from a place on; j is the place after the first
both_first :
    (a b buffer : List ℕ) (j : ℕ) → j ≡ min (length a) (length buffer) →
    take j (written a buffer) ++ written b (drop j (written a buffer)) ≡ written (a ++ b) buffer
unfolding written
both_first [] b bs zero e = refl
both_first [] b bs (suc j) e = absurd (omega arith)
both_first (c ∷ a) b [] zero e = written_none b
both_first (c ∷ a) b [] (suc j) e = absurd (omega arith)
both_first (c ∷ a) b (d ∷ bs) zero e = absurd (omega arith)
both_first (c ∷ a) b (d ∷ bs) (suc j) e = ap (λ (r : List ℕ). c ∷ r) (both_first a b bs j (omega arith))

both_at :
    (i : ℕ) (a b buffer : List ℕ) (j : ℕ) → j ≡ i + min (length a) (length buffer - i) →
    take j (take i buffer ++ written a (drop i buffer)) ++ written b (drop j (take i buffer ++ written a (drop i buffer)))
    ≡ take i buffer ++ written (a ++ b) (drop i buffer)
both_at zero a b bs j e = both_first a b bs j (omega arith)
both_at (suc i) a b [] j e = rw (written_none a, written_none (a ++ b), take-nil j, drop-nil j) (written_none b)
both_at (suc i) a b (c ∷ bs) zero e = absurd (omega arith)
both_at (suc i) a b (c ∷ bs) (suc j) e = ap (λ (r : List ℕ). c ∷ r) (both_at i a b bs j (omega arith))

length_written : (text buffer : List ℕ) → length (written text buffer) ≡ length buffer
unfolding written
length_written [] bs = refl
length_written (a ∷ text) [] = refl
length_written (a ∷ text) (b ∷ bs) = ap suc (length_written text bs)

length_added : {text before after : List ℕ} {at at_now : ℕ} → Adds text before at after at_now → length after ≡ length before
length_added {text} {before} {at = at} f =
    ap length f.bytes
    ∙ length-append (take at before) (written text (drop at before))
    ∙ ap (λ (n : ℕ). length (take at before) + n) (length_written text (drop at before))
    ∙ sym (length-append (take at before) (drop at before))
    ∙ ap length (take-append-drop at before)

-- ADDING a byte, nothing, one text after the other
module _ (b : ℕ) (before : List ℕ) (at : ℕ) where
  pub put_full : length before ≤ at → Adds (b ∷ []) before at before at
  put_full full =
      record {
        bytes = sym (rw (take_all at before full, drop_of_length-le before full, written_none (b ∷ [])) (append-nil before));
        counted = omega arith;
      }

  pub put_room : at < length before → Adds (b ∷ []) before at (set before at b) (at + 1)
  unfolding written
  put_room room =
      record { bytes = set_split before at b room ∙ sym (rw (drop-cons before at 0 room)); counted = omega arith }

pub add_nothing : (before : List ℕ) (at : ℕ) → Adds [] before at before at
unfolding written
add_nothing x i = record { bytes = sym (take-append-drop i x); counted = omega arith }

pub add_both :
    {a b x : List ℕ} {i : ℕ} {y : List ℕ} {j : ℕ} {z : List ℕ} {k : ℕ} → Adds a x i y j → Adds b y j z k → Adds (a ++ b) x i z k
add_both {a} {b} {x} {i} {y} {j} {z} f g =
    record {
      bytes = g.bytes ∙ ap (λ (l : List ℕ). take j l ++ written b (drop j l)) f.bytes ∙ both_at i a b x j f.counted;
      counted = omega (arith, f.counted, g.counted, length_added f, length-append a b);
    }

-- the same of a line
pub write_nothing : (x : Line) → Writes [] x x
write_nothing x = record { adds = add_nothing x.out.now x.at; same_buffer = refl }

pub write_both : {a b : List ℕ} {x y z : Line} → Writes a x y → Writes b y z → Writes (a ++ b) x z
write_both f g = record { adds = add_both f.adds g.adds; same_buffer = g.same_buffer ∙ f.same_buffer }

-- a word, one byte more
pub word_more :
    (word : List ℕ) (i : ℕ) {x y z : Line} → i < length word → Writes (take i word) x y → Writes (get_or word i 0 ∷ []) y z → Writes (take (i + 1) word) x z
word_more word i h f g = rw (add-one i, take-suc word i 0 h) (write_both f g)

-- a text that is written from the first byte on is the text held
pub line_held :
    {text out : List ℕ} {first last : Line} → Writes text first last → length text ≤ max_line → first.at ≡ 0 →
    (first.out.ghost_name ≡ last.out.ghost_name → out ≡ last.out.now) → Lined text first.out.now out last.at
line_held {text} {out} {first} {last} w short start same =
    let f : Adds text first.out.now 0 last.out.now last.at = subst (λ (n : ℕ). Adds text first.out.now n last.out.now last.at) start w.adds in
    record { holds = record { bytes = same (sym w.same_buffer) ∙ f.bytes; counted = omega (arith, f.counted) }; short = short }

-- a text that has room is counted whole, and the later bytes are as they were
pub record Whole (text buffer buffer_now : List ℕ) (count : ℕ) : Type 0 where
  pub counted : count ≡ length text
  pub bytes : buffer_now ≡ text ++ drop (length text) buffer

pub written_whole : {text buffer buffer_now : List ℕ} {count : ℕ} → BufferHolds text buffer buffer_now count → length text ≤ length buffer → Whole text buffer buffer_now count
written_whole {text} {buffer} h fits =
    record { counted = h.counted ∙ min-eq_left fits; bytes = h.bytes ∙ written_fits text buffer fits }

-- no more is counted than there is room for
pub count_within : {text buffer buffer_now : List ℕ} {count : ℕ} → BufferHolds text buffer buffer_now count → count ≤ length buffer
count_within h = omega (arith, h.counted)
