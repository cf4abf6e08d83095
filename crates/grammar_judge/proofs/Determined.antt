-- What building and judging leave follows from the grammar, the capture and what was lent; and earlier contents don't matter. Assumes nothing.
use mathlib.Core.Path.{◌≡◌, sym, ap, ◌∙◌}
use mathlib.Core.List.{List, ◌++◌}
use Prim.Native.Nat.{ℕ}
use lib.ListN.{length, take, drop}
use lib.Seq.{take_at}
use Rattle.simulator.specs.Answers.{Judged}
use Rattle.simulator.specs.Calls.{judge_refusal, JudgeSays}
use Rattle.simulator.proofs.Determined.{judge_determined, judge_independent}
use Rattle.builder.specs.declared.Matching.TheVariants.{Whole}
use Rattle.builder.specs.Image.{built, built_length}
use Rattle.builder.proofs.BuiltImage.{built_length_is}
use Rattle.grammar_judge.specs.Calls.{Lent, SameRoom, SameCells}

-- the image of the grammar, with later bytes as they were
abbrev ImageNow : (gs : List ℕ) (x y : Lent) → Type 0
ImageNow gs x y = y.image ≡ built Whole gs ++ drop (built_length gs) x.image

abbrev Judges : (gs cs : List ℕ) (r : Judged) (x y : Lent) → Type 0
Judges gs cs r x y = JudgeSays (built Whole gs) cs r x.notes y.notes x.work y.work

-- THE SAME ANSWER AND BUFFERS, whoever gives it
pub judged_determined :
    (gs cs : List ℕ) (x y z : Lent) (r s : Judged) → ImageNow gs x y → ImageNow gs x z → Judges gs cs r x y → Judges gs cs s x z →
    (r ≡ s) × (y ≡ z)
judged_determined gs cs x y z r s m n a b =
    let (same, notes, work) = judge_determined (built Whole gs) cs x.notes x.work r s y.notes y.work z.notes z.work a b in
    let image : y.image ≡ z.image = m ∙ sym n in
    (same, λ i. record { image = image i; notes = notes i; work = work i })

-- EARLIER CONTENTS DON'T MATTER
image_first : (gs : List ℕ) (x y : Lent) → ImageNow gs x y → take (built_length gs) y.image ≡ built Whole gs
image_first gs x y m = ap (take (built_length gs)) m ∙ take_at (built Whole gs) (drop (built_length gs) x.image) (built_length gs) (built_length_is Whole gs)

pub judged_independent :
    (gs cs : List ℕ) (x y z w : Lent) → SameRoom x z → (r s : Judged) → ImageNow gs x y → ImageNow gs z w → Judges gs cs r x y →
    Judges gs cs s z w → (r ≡ s) × ((judge_refusal (built Whole gs) cs (length x.notes) (length x.work)).number ≡ 0 → SameCells gs cs y w)
judged_independent gs cs x y z w room r s m n a b =
    let (same, cells) =
    judge_independent (built Whole gs) cs x.notes x.work z.notes z.work r s y.notes y.work w.notes w.work room.notes room.work a b
    in (
      same,
      λ no_refusal. let (notes, work) = cells no_refusal in
          record { image = image_first gs x y m ∙ sym (image_first gs z w n); notes = notes; work = work },
    )
