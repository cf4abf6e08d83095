-- Left recursion that does no harm: two grammars that 19 refuses, though their machines terminate on every capture. So not every grammar that loops nowhere passes. Assumes nothing: these are definitions.
use Rattle.std.specs.Prelude.{List, [], ◌∷◌, ℕ}
use Rattle.codec.specs.Bytes.{Bytes}
use Rattle.machine.specs.Verdicts.{GoesOn}
use Rattle.image.specs.Image.{machine}
use Rattle.builder.specs.declared.Matching.{Matching}
use Rattle.builder.specs.Image.{built}
use Rattle.recursion.specs.LeftRecursion.{RecursionRow}

-- rule 0 is rule 1 then rule 0, rule 1 is not rule 2, rule 2 is empty: rule 1 may match nothing as far as its kind goes, but fails everywhere, so that rule 0 never tries its second part
unfoldable pub fails_first : List ℕ
fails_first = 1 ∷ 1 ∷ 0 ∷ 0 ∷ 3 ∷ 2 ∷ 0 ∷ 0 ∷ 4 ∷ 0 ∷ 0 ∷ 0 ∷ []

-- rule 0 is empty, rule 1 is rule 1 then rule 1, and nothing reaches it
unfoldable pub never_reached : List ℕ
never_reached = 4 ∷ 0 ∷ 0 ∷ 0 ∷ 1 ∷ 1 ∷ 1 ∷ 0 ∷ []

-- REFUSED, AND YET the machine terminates on every capture, by either choice of a match
pub record Harmless (gs : List ℕ) (k : ℕ) : Type 0 where
  pub refused : RecursionRow gs 19 k
  pub terminates : (how : Matching) (cs : List ℕ) → Bytes cs → GoesOn (machine (built how gs) cs) → ⊥
