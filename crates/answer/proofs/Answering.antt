-- From what building and judging say to what the line says of them. Assumes nothing.
use Rattle.std.specs.Prelude.{Ok, Err}
use mathlib.Core.Path.{◌≡◌, refl, sym, subst}
use mathlib.Core.List.{List}
use Prim.Native.Nat.{ℕ, zero, suc}
use native.Mathlib.Omega.{arith}
use borrow.Author.Tests.{eqb-false}
use Rattle.refusal.specs.declared.Refusal.{Refusal}
use Rattle.refusal.specs.Checking.{checked}
use Rattle.refusal.proofs.Checked.{checked-passes, checked-refuses, checked-refused}
use Rattle.simulator.specs.Answers.{Judged}
use Rattle.builder.proofs.CodeBuild.{grammar_decides}
use Rattle.grammar.specs.Grammar.{grammar_refusal}
use Rattle.grammar_judge.specs.Calls.{Lent, lent_refusal, JudgesBy, refused, judged}
use Rattle.grammar_judge.proofs.Refusing.{first_refused}
use Rattle.answer.specs.Input.{input_refusal, input_grammar, input_capture}
use Rattle.answer.specs.Calls.{judged_line, BuiltAndJudged, PartsAs, PartsSay, InputAs, InputSays}

some_refusal : (f g : Refusal) → Err g ≡ checked f → f.number ≡ 0 → ⊥
some_refusal f g e = eqb-false _ _ (checked-refused f g (sym e))

-- the parts were refused, with nothing written, or they are judged
parts_refused_as : (n : ℕ) (f : Refusal) (gs cs : List ℕ) (x : Lent) → (n ≡ 0 → ⊥) → PartsAs n f gs cs x x (judged_line (Err f))
unfolding PartsAs judged_line
parts_refused_as zero f gs cs x h = absurd (h refl)
parts_refused_as (suc n) f gs cs x h = record { says = refl; kept = refl }

parts_judged_as : (n : ℕ) (f : Refusal) (gs cs : List ℕ) (x y : Lent) (l : List ℕ) → n ≡ 0 → BuiltAndJudged gs cs x y l → PartsAs n f gs cs x y l
unfolding PartsAs
parts_judged_as zero f gs cs x y l e h = h
parts_judged_as (suc n) f gs cs x y l e h = absurd (omega arith)

pub parts_say : (gs cs : List ℕ) (x y : Lent) (r : Judged) → JudgesBy gs cs r x y → PartsSay gs cs x y (judged_line r)
unfolding PartsSay
parts_say gs cs x y r (refused h) = parts_refused_as _ (lent_refusal gs cs x) gs cs x h
parts_say gs cs x y r (judged {j = j} z b) =
    parts_judged_as _ _ gs cs x y _ z (record { judged = Ok j; image_now = b.image_now; judges = b.judges; says = refl })

pub grammar_says : (gs cs : List ℕ) (x : Lent) (f : Refusal) → Err f ≡ checked (grammar_refusal gs) → PartsSay gs cs x x (judged_line (Err f))
unfolding PartsSay
grammar_says gs cs x f e =
    let all : Err f ≡ checked (lent_refusal gs cs x) = first_refused gs cs _ _ _ f (grammar_decides gs _ f e) in
    subst (λ (g : Refusal). PartsAs (lent_refusal gs cs x).number (lent_refusal gs cs x) gs cs x x (judged_line (Err g)))
    (sym (checked-refuses _ f (sym all)))
    (parts_refused_as _ (lent_refusal gs cs x) gs cs x (some_refusal _ f all))

-- the input was refused, or its parts are judged
input_refused_as : (n : ℕ) (f : Refusal) (xs : List ℕ) (x : Lent) → (n ≡ 0 → ⊥) → InputAs n f xs x x (judged_line (Err f))
unfolding InputAs judged_line
input_refused_as zero f xs x h = absurd (h refl)
input_refused_as (suc n) f xs x h = record { says = refl; kept = refl }

pub input_says : (xs : List ℕ) (x : Lent) (f : Refusal) → Err f ≡ checked (input_refusal xs) → InputSays xs x x (judged_line (Err f))
unfolding InputSays
input_says xs x f e =
    subst (λ (g : Refusal). InputAs (input_refusal xs).number (input_refusal xs) xs x x (judged_line (Err g)))
    (sym (checked-refuses _ f (sym e)))
    (input_refused_as _ (input_refusal xs) xs x (some_refusal _ f e))

input_parts_as :
    (n : ℕ) (f : Refusal) (xs : List ℕ) (x y : Lent) (l : List ℕ) → n ≡ 0 → PartsSay (input_grammar xs) (input_capture xs) x y l → InputAs n f xs x y l
unfolding InputAs
input_parts_as zero f xs x y l e h = h
input_parts_as (suc n) f xs x y l e h = absurd (omega arith)

pub input_parts :
    (xs gs cs : List ℕ) (x y : Lent) (l : List ℕ) → Ok tt ≡ checked (input_refusal xs) → gs ≡ input_grammar xs → cs ≡ input_capture xs →
    PartsSay gs cs x y l → InputSays xs x y l
unfolding InputSays
input_parts xs gs cs x y l e g c s =
    let parts : PartsSay (input_grammar xs) (input_capture xs) x y l = rw (← g, ← c) s in
    input_parts_as _ _ xs x y l (checked-passes _ (sym e)) parts
