-- What judging a bundle answers: how many lines there are and their totals, or a refusal.
use Rattle.std.specs.Prelude.{ℕ, Result, Ok}
use Rattle.refusal.specs.declared.Refusal.{Refusal}
use Rattle.bundle.specs.declared.Totals.{Totals}
use Rattle.bundle.specs.declared.Lines.{Lines}

abbrev pub Report : Type 0
Report = Result Lines Refusal

-- so many lines, and their totals
abbrev pub lines : ℕ → Totals → Report
lines n t = Ok (record { count = n; totals = t })
