-- What building's contract comes to where it answers and where it refuses; and that its answer follows from the input, whatever the buffer held before. Assumes nothing.
use Rattle.std.specs.Prelude.{Err, Ok}
use mathlib.Core.Path.{◌≡◌, refl, sym, ◌∙◌, ap, subst}
use mathlib.Core.List.{List, ◌++◌}
use Prim.Native.Nat.{ℕ, zero, suc, ◌≤◌}
use native.Mathlib.Omega.{arith}
use lib.ListN.{length, take, drop}
use lib.Seq.{take_at}
use borrow.Author.Tests.{ltb-false}
use Rattle.refusal.specs.declared.Refusal.{Refusal}
use Rattle.refusal.proofs.Refused.{neither, not_refused}
use Rattle.builder.specs.declared.Matching.{Matching}
use Rattle.builder.specs.Answers.{Built}
use Rattle.grammar.specs.Grammar.{grammar_refusal}
use Rattle.builder.specs.Image.{built, built_length}
use Rattle.builder.specs.Calls.{build_refusal, BuildAs, BuildSays}
use Rattle.builder.proofs.BuiltImage.{built_length_is}

-- THE SAME ANSWER, whoever gives it
same_as :
    (n : ℕ) (f : Refusal) (how : Matching) (gs : List ℕ) (r s : Built) (a x y : List ℕ) → BuildAs n f how gs r a x → BuildAs n f how gs s a y → (r ≡ s) × (x ≡ y)
unfolding BuildAs
same_as zero f how gs r s a x y p q = (p.0 ∙ sym q.0, p.1 ∙ sym q.1)
same_as (suc n) f how gs r s a x y p q = (p.0 ∙ sym q.0, p.1 ∙ sym q.1)

pub build_determined : (how : Matching) (gs a : List ℕ) (r s : Built) (x y : List ℕ) → BuildSays how gs r a x → BuildSays how gs s a y → (r ≡ s) × (x ≡ y)
unfolding BuildSays
build_determined how gs a r s x y p q = same_as (build_refusal gs (length a)).number (build_refusal gs (length a)) how gs r s a x y p q

-- refused, the refusal is given and no byte changes
refused_as :
    (k : ℕ) (f : Refusal) (how : Matching) (gs : List ℕ) (r : Built) (a x : List ℕ) → (k ≡ 0 → ⊥) → BuildAs k f how gs r a x → (r ≡ Err f) × (x ≡ a)
unfolding BuildAs
refused_as zero f how gs r a x h s = absurd (h refl)
refused_as (suc k) f how gs r a x h s = s

pub build_refused :
    (how : Matching) (gs : List ℕ) (r : Built) (a x : List ℕ) → ((build_refusal gs (length a)).number ≡ 0 → ⊥) → BuildSays how gs r a x →
    (r ≡ Err (build_refusal gs (length a))) × (x ≡ a)
unfolding BuildSays
build_refused how gs r a x h s = refused_as (build_refusal gs (length a)).number (build_refusal gs (length a)) how gs r a x h s

-- not refused, the image is written, and later bytes stay
answered_as :
    (k : ℕ) (f : Refusal) (how : Matching) (gs : List ℕ) (r : Built) (a x : List ℕ) → k ≡ 0 → BuildAs k f how gs r a x →
    (r ≡ Ok (built_length gs)) × (x ≡ built how gs ++ drop (built_length gs) a)
unfolding BuildAs
answered_as zero f how gs r a x h s = s
answered_as (suc k) f how gs r a x h s = absurd (omega arith)

pub build_answered :
    (how : Matching) (gs : List ℕ) (r : Built) (a x : List ℕ) → (build_refusal gs (length a)).number ≡ 0 → BuildSays how gs r a x →
    (r ≡ Ok (built_length gs)) × (x ≡ built how gs ++ drop (built_length gs) a)
unfolding BuildSays
build_answered how gs r a x h s = answered_as (build_refusal gs (length a)).number (build_refusal gs (length a)) how gs r a x h s

-- no refusal: a grammar that is right, and room
pub build_fine : (gs : List ℕ) (n : ℕ) → (build_refusal gs n).number ≡ 0 → ((grammar_refusal gs).number ≡ 0) × (built_length gs ≤ n)
unfolding build_refusal
build_fine gs n e =
    let (good, room) = neither (grammar_refusal gs) _ (record { none_such = e }) in
    (good.none_such, ltb-false _ _ (not_refused _ 12 _ room))

-- EARLIER CONTENTS DON'T MATTER
independent_as :
    (k : ℕ) (f : Refusal) (how : Matching) (gs : List ℕ) (r s : Built) (a a' x y : List ℕ) → BuildAs k f how gs r a x → BuildAs k f how gs s a' y →
    (r ≡ s) × (k ≡ 0 → take (built_length gs) x ≡ take (built_length gs) y)
unfolding BuildAs
independent_as zero f how gs r s a a' x y p q =
    let n = built_length gs in
    let first = ap (take n) p.1 ∙ take_at (built how gs) (drop n a) n (built_length_is how gs) in
    let second = ap (take n) q.1 ∙ take_at (built how gs) (drop n a') n (built_length_is how gs) in
    (p.0 ∙ sym q.0, λ e. first ∙ sym second)
independent_as (suc k) f how gs r s a a' x y p q = (p.0 ∙ sym q.0, λ e. absurd (omega arith))

pub build_independent :
    (how : Matching) (gs : List ℕ) (r s : Built) (a a' x y : List ℕ) → length a ≡ length a' → BuildSays how gs r a x → BuildSays how gs s a' y →
    (r ≡ s) × ((build_refusal gs (length a)).number ≡ 0 → take (built_length gs) x ≡ take (built_length gs) y)
unfolding BuildSays
build_independent how gs r s a a' x y l p q =
    independent_as (build_refusal gs (length a)).number (build_refusal gs (length a)) how gs r s a a' x y p
    (subst (λ (m : ℕ). BuildAs (build_refusal gs m).number (build_refusal gs m) how gs s a' y) (sym l) q)
