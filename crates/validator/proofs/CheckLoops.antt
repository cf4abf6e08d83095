-- The loops over the class map and over the rules: what a turn leaves to be checked. Assumes nothing.
use mathlib.Core.Path.{◌≡◌, refl, sym, ap, ◌∙◌}
use mathlib.Core.Bool.{Bool, true, false}
use mathlib.Core.List.{List}
use Prim.Native.Nat.{ℕ, suc, ◌+◌, ◌*◌, ◌-◌, ◌<◌, ◌≤◌}
use native.Mathlib.Omega.{arith}
use lib.ListN.{length}
use borrow.Author.Tests.{le-leb, lt-leb}
use Rattle.image.specs.declared.Selector.{Selector}
use Rattle.image.specs.Format
use Rattle.codec.specs.Bytes.{byte}
use Rattle.image.specs.Image.{classes, symbols, rule_from}
use Rattle.refusal.specs.First.{refusal, no_refusal}
use Rattle.image.specs.Refusals.{map_from, rule_bad, index_class, rule_count, rules_refusal_from}
use Rattle.image.specs.Code.Counting.{first_selector, next_selector, Selects, CountsOn}
use Rattle.image.proofs.CountingOn.{selects_first, selects_next, class_of, counts_on}

-- THE CLASS MAP, with the bytes from i on still to be checked
map_refused : (k i : ℕ) (bs : List ℕ) → classes bs ≤ byte bs i → map_from (suc k) i bs ≡ refusal 5 i
unfolding map_from
map_refused k i bs h = simp (le-leb (classes bs) (byte bs i) h)

map_passed : (k i : ℕ) (bs : List ℕ) → byte bs i < classes bs → map_from (suc k) i bs ≡ map_from k (suc i) bs
unfolding map_from
map_passed k i bs h = simp (lt-leb (classes bs) (byte bs i) h)

map_empty : (i : ℕ) (bs : List ℕ) → map_from 0 i bs ≡ no_refusal
unfolding map_from
map_empty i bs = refl

abbrev pub MapLeft : (bs : List ℕ) → (at : ℕ) → Type 0
MapLeft bs at = map_from Format.map_length Format.map_offset bs ≡ map_from (Format.rules_offset - at) at bs

pub map_stop : (bs : List ℕ) (at : ℕ) → MapLeft bs at → at < Format.rules_offset → classes bs ≤ byte bs at → refusal 5 at ≡ map_from Format.map_length Format.map_offset bs
map_stop bs at e h bad =
    let one_more : Format.rules_offset - at ≡ suc (Format.rules_offset - suc at) = omega arith in
    sym (e ∙ ap (λ (k : ℕ). map_from k at bs) one_more ∙ map_refused (Format.rules_offset - suc at) at bs bad)

pub map_next : (bs : List ℕ) (at : ℕ) → MapLeft bs at → at < Format.rules_offset → byte bs at < classes bs → MapLeft bs (at + 1)
map_next bs at e h good =
    let one_more : Format.rules_offset - at ≡ suc (Format.rules_offset - suc at) = omega arith in
    let less : Format.rules_offset - suc at ≡ Format.rules_offset - (at + 1) = omega arith in
    let further : suc at ≡ at + 1 = omega arith in
    e ∙ ap (λ (k : ℕ). map_from k at bs) one_more ∙ map_passed (Format.rules_offset - suc at) at bs good
    ∙ ap (λ (k : ℕ). map_from k (suc at) bs) less
    ∙ ap (λ (i : ℕ). map_from (Format.rules_offset - (at + 1)) i bs) further

pub map_end : (bs : List ℕ) (at : ℕ) → MapLeft bs at → Format.rules_offset ≤ at → no_refusal ≡ map_from Format.map_length Format.map_offset bs
map_end bs at e h =
    let nothing : Format.rules_offset - at ≡ 0 = omega arith in
    sym (e ∙ ap (λ (k : ℕ). map_from k at bs) nothing ∙ map_empty at bs)

-- THE RULES, with those from the one at a place on still to be checked; s selects that one
pub record RulesLeft (bs : List ℕ) (s : Selector) (at : ℕ) : Type 0 where
  pub index : ℕ
  pub left : ℕ
  pub at_is : at ≡ Format.rules_offset + Format.rule_length * index
  pub left_is : index + left ≡ rule_count bs
  pub selects : Selects s (classes bs + 2) (symbols bs) index
  pub same : rules_refusal_from (rule_count bs) 0 bs ≡ rules_refusal_from left index bs

rules_refused :
    (n i : ℕ) (bs : List ℕ) → rule_bad bs (index_class bs i) (rule_from bs (Format.rules_offset + Format.rule_length * i)) ≡ true →
    rules_refusal_from (suc n) i bs ≡ refusal 6 (Format.rules_offset + Format.rule_length * i)
unfolding rules_refusal_from
rules_refused n i bs e = simp e

rules_passed :
    (n i : ℕ) (bs : List ℕ) → rule_bad bs (index_class bs i) (rule_from bs (Format.rules_offset + Format.rule_length * i)) ≡ false →
    rules_refusal_from (suc n) i bs ≡ rules_refusal_from n (suc i) bs
unfolding rules_refusal_from
rules_passed n i bs e = simp e

rules_empty : (i : ℕ) (bs : List ℕ) → rules_refusal_from 0 i bs ≡ no_refusal
unfolding rules_refusal_from
rules_empty i bs = refl

pub rules_start : (bs : List ℕ) → 1 ≤ symbols bs → RulesLeft bs first_selector Format.rules_offset
rules_start bs h =
    record {
      index = 0;
      left = rule_count bs;
      at_is = refl;
      left_is = omega arith;
      selects = selects_first (classes bs + 2) (symbols bs) (omega arith) h;
      same = refl;
    }

pub left_as : {bs : List ℕ} {s t : Selector} {at : ℕ} → t ≡ s → RulesLeft bs s at → RulesLeft bs t at
left_as e w = rw e w

index_class_is : (bs : List ℕ) (s : Selector) (at : ℕ) (w : RulesLeft bs s at) → index_class bs w.index ≡ s.class
unfolding index_class
index_class_is bs s at w = class_of s (classes bs + 2) (symbols bs) w.index w.selects

-- the turn of the loop at which these are left
module _ (bs : List ℕ) (s : Selector) (at : ℕ) (w : RulesLeft bs s at) (long : length bs ≡ Format.rules_offset + Format.rule_length * rule_count bs) where
  at_index :
      (t : Bool) → t ≡ rule_bad bs s.class (rule_from bs at) →
      rule_bad bs (index_class bs w.index) (rule_from bs (Format.rules_offset + Format.rule_length * w.index)) ≡ t
  at_index t e = rw (index_class_is bs s at w, ← w.at_is) (sym e)

  pub rules_end : length bs ≤ at → no_refusal ≡ rules_refusal_from (rule_count bs) 0 bs
  rules_end h =
      let nothing : w.left ≡ 0 = omega arith in
      sym (w.same ∙ ap (λ (n : ℕ). rules_refusal_from n w.index bs) nothing ∙ rules_empty w.index bs)

  module _ (more : at < length bs) where
    one_more : w.left ≡ suc (w.left - 1)
    one_more = omega arith

    -- there are few rules, so that counting on fits
    pub rules_count : rule_count bs ≤ 4294967295 → CountsOn s (classes bs + 2) (symbols bs)
    rules_count h = counts_on s (classes bs + 2) (symbols bs) w.index w.selects (omega (arith, w.at_is))

    pub rules_stop : true ≡ rule_bad bs s.class (rule_from bs at) → refusal 6 at ≡ rules_refusal_from (rule_count bs) 0 bs
    rules_stop e =
        sym
        (w.same ∙ ap (λ (n : ℕ). rules_refusal_from n w.index bs) one_more
        ∙ rules_refused (w.left - 1) w.index bs (at_index true e)
        ∙ ap (refusal 6) (sym w.at_is))

    pub rules_next :
        false ≡ rule_bad bs s.class (rule_from bs at) → RulesLeft bs (next_selector s (classes bs + 2) (symbols bs)) (at + Format.rule_length)
    rules_next good =
        record {
          index = w.index + 1;
          left = w.left - 1;
          at_is = omega (arith, w.at_is);
          left_is = omega (arith, one_more, w.left_is);
          selects = selects_next s (classes bs + 2) (symbols bs) w.index w.selects;
          same =
              w.same ∙ ap (λ (n : ℕ). rules_refusal_from n w.index bs) one_more
              ∙ rules_passed (w.left - 1) w.index bs (at_index false good)
              ∙ ap (λ (i : ℕ). rules_refusal_from (w.left - 1) i bs) (omega arith);
        }
