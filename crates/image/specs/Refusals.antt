-- When an image is refused, with which number and at which place: refusals 1 to 6, and 7 of the capture. Assumes nothing: these are definitions.
use Rattle.std.specs.Prelude.{◌≡◌, Bool, true, ◌&&◌, ◌||◌, not, cond, List, ℕ, zero, suc, ◌+◌, ◌*◌, ◌-◌, ◌/◌, ◌%◌, ◌^◌, ◌≤◌, ltb, leb, eqb, length}
use Rattle.refusal.specs.declared.Refusal.{Refusal}
use Rattle.image.specs.Format
use Rattle.codec.specs.Bytes.{byte, Bytes}
use Rattle.codec.specs.Numbers.{u32_at, pair_at}
use Rattle.image.specs.Image.{states, classes, symbols, Rule, rule_from}
use Rattle.refusal.specs.First.{refusal, no_refusal, or_else, refuse_if}

-- the pair at a place is this offset and length
unfoldable pub pair_is : List ℕ → (at offset long : ℕ) → Bool
pair_is bs a o l = eqb (pair_at bs a).offset o && eqb (pair_at bs a).long l

-- 2: a pair of the directory
unfoldable pub directory : List ℕ → Refusal
directory bs =
    cond (not (pair_is bs Format.counts_pair Format.counts_offset Format.counts_length)) (refusal 2 Format.counts_pair)
    (cond (not (pair_is bs Format.map_pair Format.map_offset Format.map_length)) (refusal 2 Format.map_pair)
    (cond (leb Format.rules_offset (length bs) && pair_is bs Format.rules_pair Format.rules_offset (length bs - Format.rules_offset)) no_refusal
    (refusal 2 Format.rules_pair)))

unfoldable pub count_wrong : (count limit : ℕ) → Bool
count_wrong n m = eqb n 0 || ltb m n

-- 3: a count, the byte after the counts or the finals
unfoldable pub counts : List ℕ → Refusal
counts bs =
    cond (count_wrong (states bs) Format.max_states) (refusal 3 Format.states_offset)
    (cond (count_wrong (classes bs) Format.max_classes) (refusal 3 Format.classes_offset)
    (cond (count_wrong (symbols bs) Format.max_symbols) (refusal 3 Format.symbols_offset)
    (cond (not (eqb (byte bs Format.zero_offset) 0)) (refusal 3 Format.zero_offset)
    (cond (ltb (u32_at bs Format.finals_offset) (2 ^ states bs)) no_refusal (refusal 3 Format.finals_offset)))))

-- 5: the class map, byte by byte
unfoldable pub map_from : (left i : ℕ) → List ℕ → Refusal
map_from zero i bs = no_refusal
map_from (suc k) i bs = cond (leb (classes bs) (byte bs i)) (refusal 5 i) (map_from k (suc i) bs)

-- 6: a rule of no known kind, one that says more than its kind asks for, names what is not there, or moves off the tape; class is the one that it stands for
unfoldable pub move_off : List ℕ → (class direction : ℕ) → Bool
move_off bs k m = (eqb k (classes bs) && eqb m Format.direction_left) || (eqb k (classes bs + 1) && eqb m Format.direction_right)

-- the kinds that stop a run, and have no other byte
abbrev pub stops : (kind : ℕ) → Bool
stops k = eqb k Format.kind_none || eqb k Format.kind_halt

unfoldable pub rule_bad : List ℕ → (class : ℕ) → Rule → Bool
rule_bad bs k r =
    cond (ltb Format.kind_halt r.kind) true
    (cond (stops r.kind) (not (eqb r.state 0 && (eqb r.symbol 0 && eqb r.direction 0)))
    (cond (leb (states bs) r.state) true
    (cond (eqb r.kind Format.kind_pop) (not (eqb r.symbol 0) || ltb Format.pop_return r.direction)
    (leb (symbols bs) r.symbol || (ltb Format.direction_left r.direction || move_off bs k r.direction)))))

-- the rule with index i
unfoldable pub index_class : List ℕ → (i : ℕ) → ℕ
index_class bs i = i / symbols bs % (classes bs + 2)

unfoldable pub rules_refusal_from : (left i : ℕ) → List ℕ → Refusal
rules_refusal_from zero i bs = no_refusal
rules_refusal_from (suc n) i bs =
    let o = Format.rules_offset + Format.rule_length * i in
    cond (rule_bad bs (index_class bs i) (rule_from bs o)) (refusal 6 o) (rules_refusal_from n (suc i) bs)

unfoldable pub rule_count : List ℕ → ℕ
rule_count bs = states bs * (classes bs + 2) * symbols bs

-- 4 to 6, where directory and counts are right: the length, the class map, the rules
abbrev pub body_refusal : List ℕ → Refusal
body_refusal bs =
    cond (eqb (length bs) (Format.rules_offset + Format.rule_length * rule_count bs))
    (or_else (map_from Format.map_length Format.map_offset bs) (rules_refusal_from (rule_count bs) 0 bs)) (refusal 4 Format.rules_size)

unfoldable pub image_refusal : List ℕ → Refusal
image_refusal bs =
    cond (ltb (length bs) Format.map_offset) (refusal 1 (length bs)) (or_else (directory bs) (or_else (counts bs) (body_refusal bs)))

-- 7, after those of the image: a capture of n bytes
unfoldable pub capture_refusal : (image : List ℕ) → (n : ℕ) → Refusal
capture_refusal bs n = or_else (image_refusal bs) (refuse_if (ltb Format.max_capture n) (refusal 7 n))

-- NOT REFUSED by 1 to 7: a good image, and a capture of bytes that is not too long
pub record Unrefused (bs cs : List ℕ) : Type 0 where
  pub good : (image_refusal bs).number ≡ 0
  pub short : length cs ≤ Format.max_capture
  pub bytes : Bytes cs
