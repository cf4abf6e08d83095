-- Lines are short: their numbers are of 32 bits, and a refusal's place of 64. Assumes nothing.
use mathlib.Core.Path.{◌≡◌, refl, subst}
use mathlib.Core.List.{List, [], ◌∷◌, ◌++◌}
use Prim.Native.Nat.{ℕ, suc, ◌+◌, ◌^◌, ◌≤◌, ◌<◌}
use native.Mathlib.Nat.{lt_of_lt_of_le}
use native.Mathlib.Omega.{arith}
use lib.Dec.{lit≤}
use lib.ListN.{length, length-append}
use Rattle.machine.specs.declared.Config.{Config}
use Rattle.refusal.specs.declared.Refusal.{Refusal}
use Rattle.machine.specs.declared.Verdict.{Verdict}
use Rattle.machine.specs.declared.Verdict.TheVariants.{Accepted, Ended, Stuck, Looping, Halted}
use Rattle.answer_line.specs.Line.{line_feed, digits, decimal, field, config_fields, verdict_word, refused_word, refusal_line, recursion_line, passes_line, answer_line, max_line}
use Rattle.answer_line.proofs.Decimal.{decimal_long}

-- a text of at most so many bytes
pub record Long (text : List ℕ) (count : ℕ) : Type 0 where
  pub most : length text ≤ count

joined : {xs ys : List ℕ} {a b : ℕ} → Long xs a → Long ys b → Long (xs ++ ys) (a + b)
joined {xs} {ys} h k = record { most = omega (arith, length-append xs ys, h.most, k.most) }

feed : Long (line_feed ∷ []) 1
feed = record { most = omega arith }

field_long : (n : ℕ) → length (field n) ≡ suc (length (decimal n))
unfolding field
field_long n = refl

-- a number of 32 bits has ten digits at most, one of 64 twenty
field_32 : {n : ℕ} → n < 2 ^ 32 → Long (field n) 11
field_32 {n} h = record { most = omega (arith, field_long n, decimal_long 9 n (lt_of_lt_of_le h (lit≤ tt))) }

field_64 : {n : ℕ} → n < 2 ^ 64 → Long (field n) 21
field_64 {n} h = record { most = omega (arith, field_long n, decimal_long 19 n (lt_of_lt_of_le h (lit≤ tt))) }

word_long : (v : Verdict) → Long (verdict_word v) 8
unfolding verdict_word
word_long Accepted = record { most = omega arith }
word_long Ended = record { most = omega arith }
word_long Stuck = record { most = omega arith }
word_long Looping = record { most = omega arith }
word_long Halted = record { most = omega arith }

refused_long : Long refused_word 7
unfolding refused_word
refused_long = record { most = omega arith }

pub refusal_short : (f : Refusal) → f.number < 2 ^ 32 → f.place < 2 ^ 64 → length (refusal_line f) ≤ max_line
unfolding refusal_line
refusal_short f h k =
    let whole : Long (refusal_line f) 40 = joined (joined (joined refused_long (field_32 h)) (field_64 k)) feed in
    omega (arith, whole.most)

-- the word and 19, by their bytes
abbrev refused_19 : List ℕ
refused_19 = 114 ∷ 101 ∷ 102 ∷ 117 ∷ 115 ∷ 101 ∷ 100 ∷ 32 ∷ 49 ∷ 57 ∷ []

pub refused_19_is : refused_19 ≡ refused_word ++ field 19
unfolding refused_word field decimal digits
refused_19_is = refl

pub recursion_short : (k o : ℕ) → k < 2 ^ 64 → o < 2 ^ 64 → length (recursion_line k o) ≤ max_line
unfolding recursion_line
recursion_short k o h g =
    let word : Long (refused_word ++ field 19) 10 = subst (λ (w : List ℕ). Long w 10) refused_19_is (record { most = omega arith }) in
    let whole : Long (recursion_line k o) 53 = joined (joined (joined word (field_64 h)) (field_64 g)) feed in
    omega (arith, whole.most)

pub passes_short : length passes_line ≤ max_line
unfolding passes_line
passes_short = omega arith

pub config_short : (d : Config) → d.state < 2 ^ 32 → d.head < 2 ^ 32 → d.symbol < 2 ^ 32 → length (config_fields d) ≤ 33
config_short d p i a =
    let whole : Long (config_fields d) 33 = joined (joined (field_32 p) (field_32 i)) (field_32 a) in
    whole.most

pub answer_short : (v : Verdict) (n : ℕ) (d : Config) → n < 2 ^ 32 → length (config_fields d) ≤ 33 → length (answer_line v n d) ≤ max_line
unfolding answer_line
answer_short v n d h k =
    let end : Long (config_fields d) 33 = record { most = k } in
    let whole : Long (answer_line v n d) 53 = joined (joined (joined (word_long v) (field_32 h)) end) feed in
    omega (arith, whole.most)
