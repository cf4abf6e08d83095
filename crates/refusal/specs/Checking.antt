-- What a check answers, of an image or of a grammar, as a value of the code's own type. Assumes nothing: these are definitions.
use Rattle.std.specs.Prelude.{cond, eqb, Result, Ok, Err}
use Rattle.refusal.specs.declared.Refusal.{Refusal}

-- refusal number 0 is none
unfoldable pub checked : Refusal → Result Unit Refusal
checked f = cond (eqb f.number 0) (Ok tt) (Err f)
