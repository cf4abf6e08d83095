-- A refusal, by its number in the table and the place that it blames; and the first of several. Assumes nothing: these are definitions.
use Rattle.std.specs.Prelude.{Bool, cond, ℕ, eqb}
use Rattle.refusal.specs.declared.Refusal.{Refusal}

abbrev pub refusal : (number place : ℕ) → Refusal
refusal n p = record { number = n; place = p }

-- no refusal: number 0
abbrev pub no_refusal : Refusal
no_refusal = refusal 0 0

-- the first refusal of two
unfoldable pub or_else : Refusal → Refusal → Refusal
or_else a b = cond (eqb a.number 0) b a

unfoldable pub refuse_if : Bool → Refusal → Refusal
refuse_if b f = cond b f no_refusal
