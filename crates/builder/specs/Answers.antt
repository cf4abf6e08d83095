-- What building answers: the image's length, or a refusal.
use Rattle.std.specs.Prelude.{ℕ, Result}
use Rattle.refusal.specs.declared.Refusal.{Refusal}

abbrev pub Built : Type 0
Built = Result ℕ Refusal
