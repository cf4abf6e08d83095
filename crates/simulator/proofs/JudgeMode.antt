-- A mode that is no Done has no verdict yet. Assumes nothing.
use Rattle.std.proofs.Common.{◌≡◌, refl}
use mathlib.Core.Option.{none}
use Rattle.machine.specs.declared.Verdict.{Verdict}
use Rattle.chain.specs.declared.Mode.{Mode}
use Rattle.chain.specs.declared.Mode.TheVariants.{Look, Unwind, Clear, Done}
use Rattle.chain.specs.Chain.{verdict_of}

pub not_done : (m : Mode) → ((v : Verdict) → m ≡ Done v → ⊥) → verdict_of m ≡ none
unfolding verdict_of
not_done Look h = refl
not_done Unwind h = refl
not_done (Clear v) h = refl
not_done (Done v) h = absurd (h v refl)
