-- A range whose low byte is above its high byte cuts nowhere: the byte classes are those of the grammar without it. Assumes nothing.
use mathlib.Core.Path.{◌≡◌, refl, sym, ap, subst, ◌∙◌}
use mathlib.Core.Bool.{Bool, true, false}
use mathlib.Core.List.{List, ◌++◌}
use Prim.Native.Nat.{ℕ, zero, suc, ◌+◌, ◌*◌, ◌-◌, ◌/◌, ◌%◌, ◌<◌, ◌≤◌}
use native.Mathlib.Decide.{dec_lt}
use native.Mathlib.Omega.{arith}
use lib.ListN.{length, length-append}
use Rattle.codec.specs.Bytes.{byte}
use Rattle.codec.proofs.Reading.{byte_past, byte_within}
use Rattle.grammar.specs.declared.Expression.TheVariants.{Range}
use Rattle.grammar.specs.Grammar.{Inverted, rules, kind_of, b_of, c_of, range_bytes, expression}
use Rattle.grammar.proofs.Inverted.{inverted_is}
use Rattle.builder.specs.Classes.{cut, class_of, class_count}
use Rattle.builder.specs.ClassMeaning.{RangeCut}
use Rattle.builder.proofs.RangeClasses.{cut_found, cut_holds}

-- ITS CUTS: there are none
never_cuts : (gs : List ℕ) (u : ℕ) (x : RangeCut gs u) → Inverted gs x.rule → ⊥
never_cuts gs u x i =
    let same : Range x.low x.high ≡ Range (b_of gs x.rule) (c_of gs x.rule) = sym x.is ∙ inverted_is gs x.rule i in
    let low : x.low ≡ b_of gs x.rule = cc in
    let high : x.high ≡ c_of gs x.rule = cc in
    omega (arith, x.in_order, i.low_above)

-- a rule by its bytes
same_rule :
    (gs hs : List ℕ) (j l : ℕ) → byte gs (4 * j) ≡ byte hs (4 * l) → byte gs (4 * j + 1) ≡ byte hs (4 * l + 1) →
    byte gs (4 * j + 2) ≡ byte hs (4 * l + 2) → expression gs j ≡ expression hs l
unfolding expression kind_of b_of c_of
same_rule gs hs j l kind low high = rw (kind, low, high)

-- a cut of another grammar's rule that is the same
cut_moves : (gs hs : List ℕ) (u : ℕ) (x : RangeCut gs u) (j : ℕ) → j < rules hs → expression hs j ≡ expression gs x.rule → RangeCut hs u
cut_moves gs hs u x j below same =
    record { rule = j; low = x.low; high = x.high; there = below; is = same ∙ x.is; in_order = x.in_order; at_end = x.at_end }

-- two tests that say the same
same_test : (s t : Bool) → (s ≡ true → t ≡ true) → (t ≡ true → s ≡ true) → s ≡ t
same_test true t f g = sym (f refl)
same_test false true f g = g refl
same_test false false f g = refl

-- THE GRAMMAR WITHOUT IT has the same cuts, and so the same classes
module _ (before after : List ℕ) (b c : ℕ) (whole : length before % 4 ≡ 0) (above : c < b) where
  abbrev with : List ℕ
  with = before ++ range_bytes b c ++ after

  abbrev without : List ℕ
  without = before ++ after

  -- its number
  abbrev at : ℕ
  at = length before / 4

  front : length (before ++ range_bytes b c) ≡ length before + 4
  front = length-append before (range_bytes b c)

  rules_with : rules with ≡ suc (rules without)
  unfolding rules
  rules_with =
      let long : length with ≡ length before + 4 + length after = length-append (before ++ range_bytes b c) after ∙ ap (λ (n : ℕ). n + length after) front in
      let less : length without ≡ length before + length after = length-append before after in
      omega arith

  -- bytes before it, its own, and bytes after it
  byte_before : (n : ℕ) → n < length before → byte with n ≡ byte without n
  byte_before n h =
      byte_within (before ++ range_bytes b c) after n (omega (arith, front)) ∙ byte_within before (range_bytes b c) n h
      ∙ sym (byte_within before after n h)

  byte_own : (n i : ℕ) → n ≡ length before + i → i < 4 → byte with n ≡ byte (range_bytes b c) i
  byte_own n i e h = byte_within (before ++ range_bytes b c) after n (omega (arith, front)) ∙ byte_past before (range_bytes b c) n i e

  byte_after : (n m : ℕ) → m ≡ n + 4 → length before ≤ n → byte with m ≡ byte without n
  byte_after n m e h =
      byte_past (before ++ range_bytes b c) after m (n - length before) (omega (arith, front))
      ∙ sym (byte_past before after n (n - length before) (omega arith))

  -- so its rules
  rule_before : (j : ℕ) → j < at → expression with j ≡ expression without j
  rule_before j h = same_rule with without j j (byte_before _ (omega arith)) (byte_before _ (omega arith)) (byte_before _ (omega arith))

  rule_after : (j : ℕ) → at ≤ j → expression with (suc j) ≡ expression without j
  rule_after j h =
      same_rule with without (suc j) j
      (byte_after (4 * j) (4 * suc j) (omega arith) (omega arith))
      (byte_after (4 * j + 1) (4 * suc j + 1) (omega arith) (omega arith))
      (byte_after (4 * j + 2) (4 * suc j + 2) (omega arith) (omega arith))

  rule_own : Inverted with at
  unfolding kind_of b_of c_of
  rule_own =
      record {
        is_range = byte_own (4 * at) 0 (omega arith) (omega arith);
        low_above = rw (byte_own (4 * at + 1) 1 (omega arith) (omega arith), byte_own (4 * at + 2) 2 (omega arith) (omega arith)) above;
      }

  at_there : at ≤ rules without
  unfolding rules
  at_there = omega (arith, length-append before after)

  -- a cut of one is a cut of the other
  cut_with : (u : ℕ) → RangeCut without u → RangeCut with u
  cut_with u x = go (dec_lt x.rule at)
    where
      go : Dec (x.rule < at) → RangeCut with u
      go (yes h) = cut_moves without with u x x.rule (omega (arith, x.there, rules_with)) (rule_before x.rule h)
      go (no h) = cut_moves without with u x (suc x.rule) (omega (arith, x.there, rules_with)) (rule_after x.rule (omega arith))

  cut_without : (u : ℕ) → RangeCut with u → RangeCut without u
  cut_without u x = go (dec_lt x.rule at) (dec_lt at x.rule)
    where
      go : Dec (x.rule < at) → Dec (at < x.rule) → RangeCut without u
      go (yes h) later = cut_moves with without u x x.rule (omega (arith, at_there)) (sym (rule_before x.rule h))
      go (no h) (yes l) =
          let one_less : suc (x.rule - 1) ≡ x.rule = omega arith in
          cut_moves with without u x (x.rule - 1) (omega (arith, x.there, rules_with))
          (sym (rule_after (x.rule - 1) (omega arith)) ∙ ap (expression with) one_less)
      go (no h) (no l) =
          let its : at ≡ x.rule = omega arith in
          absurd (never_cuts with u x (subst (Inverted with) its rule_own))

  same_cut : (u : ℕ) → cut with u ≡ cut without u
  same_cut u =
      same_test (cut with u) (cut without u) (λ e. cut_holds without u (cut_without u (cut_found with u e)))
      (λ e. cut_holds with u (cut_with u (cut_found without u e)))

  same_class : (v : ℕ) → class_of with v ≡ class_of without v
  unfolding class_of
  same_class zero = refl
  same_class (suc v) = rw (same_class v, same_cut (suc v))

pub inverted_adds_none :
    (before after : List ℕ) (b c : ℕ) → length before % 4 ≡ 0 → c < b →
    (class_count (before ++ range_bytes b c ++ after) ≡ class_count (before ++ after))
    × ((v : ℕ) → class_of (before ++ range_bytes b c ++ after) v ≡ class_of (before ++ after) v)
unfolding class_count
inverted_adds_none before after b c whole above =
    let same = same_class before after b c whole above in
    (ap (λ (n : ℕ). n + 1) (same 255), same)
