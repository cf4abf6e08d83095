-- The program's line in a user's words: a verdict as parsing of the whole capture says, with few readings. Assumes nothing: this is a definition.
use Rattle.std.specs.Prelude.{◌≡◌, List, ℕ, ◌+◌, ◌*◌, ◌≤◌, length}
use Rattle.machine.specs.declared.Config.{Config}
use Rattle.machine.specs.declared.Verdict.{Verdict}
use Rattle.grammar.specs.Grammar.{rules}
use Rattle.builder.specs.declared.Matching.TheVariants.{Whole}
use Rattle.grammar_judge.specs.TwoCalls.{AsParsed}
use Rattle.answer_line.specs.Line.{answer_line}

-- the line is that of a verdict as parsing says, with few readings
pub record LineParsed (gs cs line : List ℕ) : Type 0 where
  pub verdict : Verdict
  pub readings : ℕ
  pub end : Config
  pub says : line ≡ answer_line verdict readings end
  pub parsed : AsParsed Whole gs cs verdict
  pub only : (v : Verdict) → AsParsed Whole gs cs v → v ≡ verdict
  pub few : readings ≤ 6 * rules gs * (length cs + 1) + 2
