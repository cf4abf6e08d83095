-- What the plain run answers: how it is left, or a refusal.
use Rattle.std.specs.Prelude.{Result}
use Rattle.refusal.specs.declared.Refusal.{Refusal}
use Rattle.interpreter.specs.declared.RunEnd.{RunEnd}

abbrev pub Ran : Type 0
Ran = Result RunEnd Refusal
