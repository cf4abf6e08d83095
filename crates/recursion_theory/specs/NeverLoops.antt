-- What a grammar without left recursion has: a result of every rule at every place of a capture, and a machine that never loops. Assumes nothing: these are definitions.
use Rattle.std.specs.Prelude.{List, ℕ, ◌<◌}
use Rattle.std.proofs.Math.Option.{Option}
use Rattle.machine.specs.declared.Config.{Config}
use Rattle.machine.specs.declared.Verdict.TheVariants.{Looping}
use Rattle.machine.specs.Verdicts.{Says, GoesOn}
use Rattle.image.specs.Image.{machine}
use Rattle.grammar.specs.Grammar.{rules, expression}
use Rattle.grammar.specs.Parsing.{Parses}
use Rattle.builder.specs.declared.Matching.{Matching}
use Rattle.builder.specs.Image.{built}

-- A GRAMMAR THAT PASSES: every rule has a result at every place; by either choice of a match the run of its machine terminates, and no verdict on it is looping
pub record NeverLoops (gs cs : List ℕ) : Type 0 where
  pub results : (k i : ℕ) → k < rules gs → (o : Option ℕ) × Parses (expression gs) cs k i o
  pub terminates : (how : Matching) → GoesOn (machine (built how gs) cs) → ⊥
  pub not_looping : (how : Matching) (d : Config) → Says (machine (built how gs) cs) Looping d → ⊥
