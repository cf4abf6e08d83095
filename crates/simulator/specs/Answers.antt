-- What the calls `cells` and `judge` answer: the answer, or a refusal.
use Rattle.std.specs.Prelude.{ℕ, Result}
use Rattle.refusal.specs.declared.Refusal.{Refusal}
use Rattle.simulator.specs.declared.Judgement.{Judgement}

abbrev pub Needs : Type 0
Needs = Result ℕ Refusal

abbrev pub Judged : Type 0
Judged = Result Judgement Refusal
