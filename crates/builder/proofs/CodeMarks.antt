-- Marking: the marks that one range sets, and the loop over a grammar's rules that sets them all. Assumes nothing.
use mathlib.Core.Path.{◌≡◌, refl, sym, ap, ◌∙◌}
use mathlib.Core.Bool.{Bool, true, false, ◌||◌, cond, and-true, and-false, or-false}
use mathlib.Core.List.{List}
use Prim.Native.Nat.{ℕ, suc, ◌+◌, ◌-◌, ◌<◌, ◌≤◌}
use native.Mathlib.Decide.{ℕ_discrete}
use native.Mathlib.Nat.{sub-zero}
use native.Mathlib.Omega.{arith}
use lib.Dec.{eqb}
use lib.ListN.{length, set, length-set, replicate, length-replicate, get_or-replicate}
use lib.Seq.{get_or-set_same, get_or-set_other}
use borrow.Author.Tests.{eq-eqb, ne_eqb, le-leb, lt-leb}
use Rattle.image.specs.Format
use Rattle.codec.specs.Bytes.{byte}
use Rattle.grammar.specs.declared.ByteRange.{ByteRange}
use Rattle.std.specs.Prelude.{Option, None}
use Rattle.grammar.proofs.Matches.{between}
use Rattle.grammar.specs.Grammar.{rules, expression, range_of}
use Rattle.builder.specs.Classes.{cuts_at, cut_from, cut}
use Rattle.builder.specs.Code.Marking.{MarksRange, MarksCuts}

-- one test after another, or both together
marks_either : (s t : Bool) (m : ℕ) → cond (s || t) 1 m ≡ cond t 1 (cond s 1 m)
marks_either true true m = refl
marks_either true false m = refl
marks_either false t m = refl

-- ONE MARK
mark_set : (ms : List ℕ) (i v : ℕ) → i < length ms → byte (set ms i 1) v ≡ cond (eqb i v) 1 (byte ms v)
mark_set ms i v h = go (ℕ_discrete i v)
  where
    go : Dec (i ≡ v) → byte (set ms i 1) v ≡ cond (eqb i v) 1 (byte ms v)
    go (yes e) = rw (eq-eqb i v e, ← e) (get_or-set_same ms i 1 0 h)
    go (no n) = rw (ne_eqb i v n) (get_or-set_other ms i v 1 0 (λ e. n (sym e)))

-- ONE RANGE: a rule that is none, one that is not in order, one to the last byte value, and any other
pub marks_none : (ms : List ℕ) (r : Option ByteRange) → r ≡ None → MarksRange r ms ms
unfolding cuts_at
marks_none ms r e = record { mark = λ v h. rw e }

module _ (ms : List ℕ) (r : Option ByteRange) (b c : ℕ) (is : r ≡ between b c) where
  pub marks_inverted : c < b → MarksRange r ms ms
  unfolding cuts_at
  marks_inverted l = record { mark = λ v h. rw (is, lt-leb b c l, and-false (eqb b v || eqb (c + 1) v)) }

  module _ (long : length ms ≡ Format.map_length) (order : b ≤ c) where
    ends : (v : ℕ) → cuts_at r v ≡ (eqb b v || eqb (c + 1) v)
    unfolding cuts_at
    ends v = rw (is, le-leb b c order) (and-true (eqb b v || eqb (c + 1) v))

    pub marks_both : c < 255 → MarksRange r ms (set (set ms b 1) (c + 1) 1)
    marks_both l =
        record {
          mark = λ v h. mark_set (set ms b 1) (c + 1) v (omega (arith, length-set ms b 1))
              ∙ ap (cond (eqb (c + 1) v) 1) (mark_set ms b v (omega arith)) ∙ sym (marks_either (eqb b v) (eqb (c + 1) v) (byte ms v))
              ∙ ap (λ (t : Bool). cond t 1 (byte ms v)) (sym (ends v));
        }

    -- no byte value is after the last
    pub marks_first : 255 ≤ c → b < Format.map_length → MarksRange r ms (set ms b 1)
    marks_first l below = record { mark = λ v h. mark_set ms b v (omega arith) ∙ ap (λ (t : Bool). cond t 1 (byte ms v)) (sym (only v h)) }
      where
        only : (v : ℕ) → v < Format.map_length → cuts_at r v ≡ eqb b v
        only v h = ends v ∙ rw (ne_eqb (c + 1) v (λ e. omega arith)) (or-false (eqb b v))

-- ALL RANGES, with those of the rules from k on still to be marked
pub record Marking (gs ms : List ℕ) (k : ℕ) : Type 0 where
  pub long : length ms ≡ Format.map_length
  pub left : (v : ℕ) → v < Format.map_length → cond (cut gs v) 1 0 ≡ cond (cut_from (rules gs - k) k gs v) 1 (byte ms v)

-- a new array has no mark
pub marking_start : (gs : List ℕ) → Marking gs (replicate Format.map_length 0) 0
unfolding cut
marking_start gs =
    record {
      long = length-replicate {A = ℕ} Format.map_length 0;
      left = λ v h. rw (sub-zero (rules gs), get_or-replicate {A = ℕ} Format.map_length v 0 0 h) refl;
    }

from_rule : (n k : ℕ) (gs : List ℕ) (v m : ℕ) →
    cond (cut_from (suc n) k gs v) 1 m ≡ cond (cut_from n (suc k) gs v) 1 (cond (cuts_at (range_of (expression gs k)) v) 1 m)
unfolding cut_from
from_rule n k gs v m = marks_either (cuts_at (range_of (expression gs k)) v) (cut_from n (suc k) gs v) m

from_none : (k : ℕ) (gs : List ℕ) (v m : ℕ) → cond (cut_from 0 k gs v) 1 m ≡ m
unfolding cut_from
from_none k gs v m = refl

module _ (gs ms : List ℕ) (k : ℕ) (w : Marking gs ms k) where
  pub marking_next :
      (ns : List ℕ) (r : Option ByteRange) → k < rules gs → r ≡ range_of (expression gs k) → MarksRange r ms ns → length ns ≡ length ms → Marking gs ns (k + 1)
  marking_next ns r more is marks kept = record { long = kept ∙ w.long; left = next }
    where
      next : (v : ℕ) → v < Format.map_length → cond (cut gs v) 1 0 ≡ cond (cut_from (rules gs - (k + 1)) (k + 1) gs v) 1 (byte ns v)
      next v h =
          let one_more : rules gs - k ≡ suc (rules gs - (k + 1)) = omega arith in
          let following : suc k ≡ k + 1 = omega arith in
          let here : cond (cuts_at (range_of (expression gs k)) v) 1 (byte ms v) ≡ byte ns v = sym (marks.mark v h ∙ ap (λ (x : Option ByteRange). cond (cuts_at x v) 1 (byte ms v)) is) in
          w.left v h ∙ ap (λ (n : ℕ). cond (cut_from n k gs v) 1 (byte ms v)) one_more ∙ from_rule (rules gs - (k + 1)) k gs v (byte ms v)
          ∙ ap (cond (cut_from (rules gs - (k + 1)) (suc k) gs v) 1) here
          ∙ ap (λ (j : ℕ). cond (cut_from (rules gs - (k + 1)) j gs v) 1 (byte ns v)) following

  pub marking_end : rules gs ≤ k → MarksCuts gs ms
  marking_end h =
      let nothing : rules gs - k ≡ 0 = omega arith in
      record {
        mark = λ v l. sym (w.left v l ∙ ap (λ (n : ℕ). cond (cut_from n k gs v) 1 (byte ms v)) nothing ∙ from_none k gs v (byte ms v));
      }

-- what mark_range leaves, case by case
pub ruleset mark_laws = (marks_none, marks_inverted, marks_both, marks_first)
