-- Writing the header part after part, and the class map from the front: what is written so far, with what is left to write, is the whole. Assumes nothing.
use mathlib.Core.Path.{◌≡◌, refl, sym, ap, subst, ◌∙◌}
use mathlib.Core.List.{List, [], ◌∷◌, ◌++◌, append-nil}
use Prim.Native.Nat.{ℕ, suc, ◌+◌, ◌*◌, ◌-◌, ◌<◌, ◌≤◌}
use native.Mathlib.Nat.{zero-add}
use native.Mathlib.Numerals.{add-one}
use native.Mathlib.Omega.{arith}
use lib.ListN.{length, take, drop, set, get_or, length-set, length-append, take-append-drop}
use lib.Seq.{take-suc-set, take-set-le, drop-set-lt, take_at, append_snoc, length-take-le, get_or-take, get_or-append-add}
use Rattle.codec.specs.Bytes.{written}
use Rattle.codec.specs.Numbers.{little_endian, pair, pair_width, pair_bytes}
use Rattle.codec.proofs.RoundTrips.{little_endian_length, pair_length}
use Rattle.codec.proofs.Writes.{written_next}
use Rattle.image.specs.Format
use Rattle.image.specs.Encoding.{header}
use Rattle.builder.specs.Classes.{class_of}
use Rattle.builder.specs.Image.{map_made}
use Rattle.builder.proofs.PartsMade.{map_length, map_reads}
use Rattle.builder.proofs.CodeClasses.{class_zero}

-- one byte more
write_one : (a : List ℕ) (o x : ℕ) → o < length a → take (o + 1) (set a o x) ≡ take o a ++ (x ∷ [])
write_one a o x h = ap (λ (n : ℕ). take n (set a o x)) (add-one o) ∙ take-suc-set a o x h

write_next : (a : List ℕ) (o x : ℕ) (r t : List ℕ) → o < length a → take o a ++ (x ∷ r) ≡ t → take (o + 1) (set a o x) ++ r ≡ t
write_next a o x r t h e = ap (λ (l : List ℕ). l ++ r) (write_one a o x h) ∙ append_snoc (take o a) x r ∙ e

-- THE HEADER: five parts, each right after the one before
pub header_written :
    (i0 i1 i2 i3 i4 i5 : List ℕ) (k g n size : ℕ) → size ≡ Format.rule_length * n → Format.map_offset ≤ length i0 →
    i1 ≡ written i0 Format.counts_pair (pair_bytes (pair Format.counts_offset Format.counts_length)) →
    i2 ≡ written i1 Format.map_pair (pair_bytes (pair Format.map_offset Format.map_length)) →
    i3 ≡ written i2 Format.rules_pair (pair_bytes (pair Format.rules_offset size)) →
    i4 ≡ written i3 Format.states_offset (5 ∷ k ∷ g ∷ 0 ∷ []) →
    i5 ≡ written i4 Format.finals_offset (little_endian Format.finals_length 16) → i5 ≡ written i0 0 (header 5 k g 16 n)
unfolding header
header_written i0 i1 i2 i3 i4 i5 k g n size es h e1 e2 e3 e4 e5 =
    let p : List ℕ = pair_bytes (pair Format.counts_offset Format.counts_length) in
    let q : List ℕ = pair_bytes (pair Format.map_offset Format.map_length) in
    let r : List ℕ = pair_bytes (pair Format.rules_offset (Format.rule_length * n)) in
    let c : List ℕ = 5 ∷ k ∷ g ∷ 0 ∷ [] in
    let f : List ℕ = little_endian Format.finals_length 16 in
    let lp : length p ≡ pair_width = pair_length _ in
    let lq : length q ≡ pair_width = pair_length _ in
    let lr : length r ≡ pair_width = pair_length _ in
    let lf : length f ≡ Format.finals_length = little_endian_length Format.finals_length 16 in
    let two : i2 ≡ written i0 0 (p ++ q) =
    e2 ∙ ap (λ (l : List ℕ). written l Format.map_pair q) e1 ∙ written_next i0 0 Format.map_pair p q (omega arith) (omega arith)
    in
    let three : i3 ≡ written i0 0 (p ++ q ++ r) =
    e3 ∙ ap (λ (l : List ℕ). written l Format.rules_pair (pair_bytes (pair Format.rules_offset size))) two
    ∙ ap (λ (x : ℕ). written (written i0 0 (p ++ q)) Format.rules_pair (pair_bytes (pair Format.rules_offset x))) es
    ∙ written_next i0 0 Format.rules_pair (p ++ q) r (omega (arith, length-append p q)) (omega arith)
    in
    let lthree : length (p ++ q ++ r) ≡ Format.states_offset = omega (arith, length-append p q, length-append (p ++ q) r) in
    let four : i4 ≡ written i0 0 (p ++ q ++ r ++ c) =
    e4 ∙ ap (λ (l : List ℕ). written l Format.states_offset c) three
    ∙ written_next i0 0 Format.states_offset (p ++ q ++ r) c (omega arith) (omega arith)
    in
    e5 ∙ ap (λ (l : List ℕ). written l Format.finals_offset f) four
    ∙ written_next i0 0 Format.finals_offset (p ++ q ++ r ++ c) f (omega (arith, lthree, length-append (p ++ q ++ r) c)) (omega arith)

-- THE CLASS MAP: the classes from v + 1 on are still to be written
map_step : (n v : ℕ) (gs : List ℕ) → map_made (suc n) v gs ≡ class_of gs v ∷ map_made n (suc v) gs
unfolding map_made
map_step n v gs = refl

map_none : (v : ℕ) (gs : List ℕ) → map_made 0 v gs ≡ []
unfolding map_made
map_none v gs = refl

pub record MapWritten (gs before now : List ℕ) (class v : ℕ) : Type 0 where
  pub within : v ≤ 255
  pub class_is : class ≡ class_of gs v
  pub long : length now ≡ length before
  pub written : take (Format.map_offset + v + 1) now ++ map_made (255 - v) (suc v) gs ≡ take Format.map_offset before ++ map_made Format.map_length 0 gs
  pub later : drop Format.rules_offset now ≡ drop Format.rules_offset before

-- the class of 0 is stored before the loop
pub map_start : (gs a : List ℕ) → Format.rules_offset ≤ length a → MapWritten gs (set a Format.map_offset 0) (set a Format.map_offset 0) 0 0
map_start gs a h =
    let room : Format.map_offset < length a = omega arith in
    let left : 0 ∷ map_made 255 1 gs ≡ map_made Format.map_length 0 gs =
    ap (λ (x : ℕ). x ∷ map_made 255 1 gs) (sym (class_zero gs)) ∙ sym (map_step 255 0 gs)
    in
    record {
      within = omega arith;
      class_is = sym (class_zero gs);
      long = refl;
      written =
          write_next a Format.map_offset 0 (map_made 255 1 gs) _ room (ap (λ (r : List ℕ). take Format.map_offset a ++ r) left)
          ∙ ap (λ (l : List ℕ). l ++ map_made Format.map_length 0 gs) (sym (take-set-le Format.map_offset a Format.map_offset 0 (omega arith)));
      later = refl;
    }

pub map_room : (gs a b : List ℕ) (class v : ℕ) → MapWritten gs (set a Format.map_offset 0) b class v → length b ≡ length a
map_room gs a b class v w = w.long ∙ length-set a Format.map_offset 0

map_next :
    (gs a b : List ℕ) (class v class' : ℕ) → MapWritten gs a b class v → Format.rules_offset ≤ length b → v < 255 → class' ≡ class_of gs (v + 1) →
    MapWritten gs a (set b (Format.map_offset + (v + 1)) class') class' (v + 1)
map_next gs a b class v class' w h more e =
    let rest : List ℕ = map_made (255 - (v + 1)) (suc (v + 1)) gs in
    let one_more : suc (255 - (v + 1)) ≡ 255 - v = omega arith in
    let place : Format.map_offset + (v + 1) ≡ Format.map_offset + v + 1 = omega arith in
    let inside : Format.map_offset + (v + 1) < length b = omega arith in
    let left : class' ∷ rest ≡ map_made (255 - v) (suc v) gs =
    ap (λ (x : ℕ). x ∷ rest) e ∙ sym (map_step (255 - (v + 1)) (v + 1) gs)
    ∙ ap (λ (n : ℕ). map_made n (v + 1) gs) one_more
    ∙ ap (λ (n : ℕ). map_made (255 - v) n gs) (add-one v)
    in
    record {
      within = omega arith;
      class_is = e;
      long = length-set b (Format.map_offset + (v + 1)) class' ∙ w.long;
      written =
          write_next b (Format.map_offset + (v + 1)) class' rest _ inside
          (ap (λ (r : List ℕ). take (Format.map_offset + (v + 1)) b ++ r) left
          ∙ ap (λ (n : ℕ). take n b ++ map_made (255 - v) (suc v) gs) place
          ∙ w.written);
      later = drop-set-lt Format.rules_offset b (Format.map_offset + (v + 1)) class' (omega arith) ∙ w.later;
    }

-- value v's class is stored where those before it are
pub map_more :
    (gs a b : List ℕ) (class v class' : ℕ) → MapWritten gs a b class (v - 1) → Format.rules_offset ≤ length b → 1 ≤ v → v < 256 → class' ≡ class_of gs v →
    MapWritten gs a (set b (Format.map_offset + v) class') class' (v + 1 - 1)
map_more gs a b class v class' w h least more e =
    let back : v - 1 + 1 ≡ v = omega arith in
    let on : v - 1 + 1 ≡ v + 1 - 1 = omega arith in
    subst (λ (n : ℕ). MapWritten gs a (set b (Format.map_offset + v) class') class' n) on
    (subst (λ (n : ℕ). MapWritten gs a (set b (Format.map_offset + n) class') class' (v - 1 + 1)) back
    (map_next gs a b class (v - 1) class' w h (omega arith) (e ∙ ap (class_of gs) (sym back))))

map_filled :
    (gs a b : List ℕ) (class v : ℕ) → MapWritten gs (set a Format.map_offset 0) b class v → 255 ≤ v → take Format.rules_offset b ≡ take Format.map_offset a ++ map_made Format.map_length 0 gs
map_filled gs a b class v w h =
    let nothing : 255 - v ≡ 0 = omega arith in
    let whole : Format.map_offset + v + 1 ≡ Format.rules_offset = omega (arith, w.within) in
    sym
    (ap (λ (r : List ℕ). take (Format.map_offset + v + 1) b ++ r) (ap (λ (n : ℕ). map_made n (suc v) gs) nothing ∙ map_none (suc v) gs)
    ∙ append-nil (take (Format.map_offset + v + 1) b)
    ∙ ap (λ (n : ℕ). take n b) whole)
    ∙ w.written
    ∙ ap (λ (l : List ℕ). l ++ map_made Format.map_length 0 gs) (take-set-le Format.map_offset a Format.map_offset 0 (omega arith))

-- the whole buffer after the last class
pub map_end :
    (gs a b : List ℕ) (class v : ℕ) → MapWritten gs (set a Format.map_offset 0) b class v → 255 ≤ v →
    b ≡ take Format.map_offset a ++ map_made Format.map_length 0 gs ++ drop Format.rules_offset a
map_end gs a b class v w h =
    let kept : drop Format.rules_offset b ≡ drop Format.rules_offset a = w.later ∙ drop-set-lt Format.rules_offset a Format.map_offset 0 (omega arith) in
    sym (take-append-drop Format.rules_offset b) ∙ ap (λ (l : List ℕ). l ++ drop Format.rules_offset b) (map_filled gs a b class v w h)
    ∙ ap (λ (l : List ℕ). take Format.map_offset a ++ map_made Format.map_length 0 gs ++ l) kept

-- what stands before the rules then
pub map_front :
    (gs a b : List ℕ) → Format.rules_offset ≤ length a →
    b ≡ take Format.map_offset a ++ map_made Format.map_length 0 gs ++ drop Format.rules_offset a →
    take Format.rules_offset b ≡ take Format.map_offset a ++ map_made Format.map_length 0 gs
map_front gs a b h e =
    ap (take Format.rules_offset) e
    ∙ take_at (take Format.map_offset a ++ map_made Format.map_length 0 gs) (drop Format.rules_offset a) Format.rules_offset
    (length-append (take Format.map_offset a) (map_made Format.map_length 0 gs) ∙ omega (arith, length-take-le Format.map_offset a (omega arith), map_length Format.map_length 0 gs))

-- the class map as it was written
pub map_read :
    (gs a b : List ℕ) → Format.map_offset ≤ length a → take Format.rules_offset b ≡ take Format.map_offset a ++ map_made Format.map_length 0 gs →
    (v : ℕ) → v < Format.map_length → get_or b (Format.map_offset + v) 0 ≡ class_of gs v
map_read gs a b h e v less =
    sym (get_or-take Format.rules_offset b (Format.map_offset + v) 0 (omega arith)) ∙ ap (λ (l : List ℕ). get_or l (Format.map_offset + v) 0) e
    ∙ ap (λ (n : ℕ). get_or (take Format.map_offset a ++ map_made Format.map_length 0 gs) (n + v) 0) (sym (length-take-le Format.map_offset a h))
    ∙ get_or-append-add (take Format.map_offset a) (map_made Format.map_length 0 gs) v 0
    ∙ map_reads Format.map_length 0 v v gs (zero-add v) less
