-- The number that stands for each kind of rule. Assumes nothing: these are definitions.
use Rattle.std.specs.Prelude.{◌≡◌, ℕ, ◌<◌, ◌⊎◌, Result, MatchResult}
use Rattle.grammar.specs.Grammar.{kind_sequence, kind_choice, kind_not, kind_empty, kind_range}
use Rattle.grammar.specs.declared.kind.RuleKind.{RuleKind}
use Rattle.grammar.specs.declared.kind.RuleKind.TheVariants.{Sequence, Choice, Not, Empty, Range}
use Rattle.grammar.specs.declared.kind.UnknownKind.{UnknownKind}

abbrev pub number_of : RuleKind → ℕ
number_of Sequence = kind_sequence
number_of Choice = kind_choice
number_of Not = kind_not
number_of Empty = kind_empty
number_of Range = kind_range

-- the kind with this number, or an error with a number that no kind has
abbrev pub NamesKind : ℕ → Result RuleKind UnknownKind → Type 0
NamesKind n r = MatchResult r (λ kind. number_of kind ≡ n) (λ e. (e.0 ≡ n) × ((n < kind_sequence) ⊎ (kind_range < n)))
