-- What an image that is not refused has: lengths, counts, finals and class map within their bounds. Assumes nothing.
use mathlib.Core.Path.{◌≡◌, refl, ap}
use mathlib.Core.Bool.{Bool, true, false, ◌||◌}
use mathlib.Core.List.{List}
use Prim.Native.Nat.{ℕ, ◌+◌, ◌*◌, ◌^◌, ◌<◌, ◌≤◌}
use native.Mathlib.Omega.{arith}
use lib.Dec.{ltb, eqb}
use lib.ListN.{length}
use borrow.Author.Tests.{ltb-true, ltb-false, eqb-false}
use Rattle.refusal.specs.declared.Refusal.{Refusal}
use Rattle.image.specs.Format
use Rattle.codec.specs.Bytes.{byte}
use Rattle.codec.specs.Numbers.{u32_at}
use Rattle.image.specs.Image.{states, classes, symbols}
use Rattle.image.specs.Refusals.{count_wrong, counts, rule_count, image_refusal}
use Rattle.image.specs.Conditions.{CountsRight, FirstWrongCount}
use Rattle.refusal.proofs.Reflects.{when_holds}
use Rattle.image.proofs.Bits.{bits_test}
use Rattle.image.proofs.ImageParts.{Part, part_right, part_wrong, counts_part, counts_wrong}
use Rattle.image.proofs.ConditionsMet.{image_right}

pub record GoodImage (bs : List ℕ) : Type 0 where
  pub long : Format.rules_offset ≤ length bs
  pub length_is : length bs ≡ Format.rules_offset + Format.rule_length * rule_count bs
  pub states_least : 1 ≤ states bs
  pub states_most : states bs ≤ Format.max_states
  pub classes_least : 1 ≤ classes bs
  pub classes_most : classes bs ≤ Format.max_classes
  pub symbols_least : 1 ≤ symbols bs
  pub symbols_most : symbols bs ≤ Format.max_symbols
  pub finals_below : u32_at bs Format.finals_offset < 2 ^ states bs
  pub map_below : (i : ℕ) → i < Format.map_length → byte bs (Format.map_offset + i) < classes bs

pub good_image : (bs : List ℕ) → (image_refusal bs).number ≡ 0 → GoodImage bs
unfolding rule_count
good_image bs e =
    let r = image_right bs e in
    let c = r.counts in
    record {
      long = r.directory.rules_pair.long_enough;
      length_is = omega (arith, r.long);
      states_least = c.states_right.least;
      states_most = c.states_right.most;
      classes_least = c.classes_right.least;
      classes_most = c.classes_right.most;
      symbols_least = c.symbols_right.least;
      symbols_most = c.symbols_right.most;
      finals_below = ltb-true _ _ (when_holds (bits_test _ _) c.finals_right);
      map_below = r.map;
    }

-- WHAT THE CHECK KNOWS of a count, and after the counts
pub count_right : (n m : ℕ) → count_wrong n m ≡ false → (1 ≤ n) × (n ≤ m)
unfolding count_wrong
count_right n m e = go (eqb n 0) refl e
  where
    go : (t : Bool) → eqb n 0 ≡ t → (t || ltb m n) ≡ false → (1 ≤ n) × (n ≤ m)
    go true q h = absurd (let z : ◌≡◌ {A = ℕ} 0 1 = cc in omega arith)
    go false q h = (omega (arith, eqb-false n 0 q), ltb-false m n h)

pub some_symbol : (bs : List ℕ) → (counts bs).number ≡ 0 → 1 ≤ symbols bs
some_symbol bs e = go (counts_part bs)
  where
    go : Part (CountsRight bs) (FirstWrongCount bs) → 1 ≤ symbols bs
    go (part_right c) = c.symbols_right.least
    go (part_wrong o f) = absurd (omega (arith, e, ap (λ (g : Refusal). g.number) (counts_wrong bs o f)))
