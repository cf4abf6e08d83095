-- `builder::rows::first_rule` meets its contract: an arm for each kind of rule. Assumes nothing.
use Rattle.grammar.specs.Grammar.{PartsBelow}
use Rattle.builder.specs.Table.{rows, select}
use Rattle.builder.proofs.CodeRows.{parts_of}
use Rattle.builder.proofs.rows.first_rule.Goals as goal

pub push-requires : goal.push-requires
unfolding PartsBelow
push-requires c = (parts_of c.requires.parts_below c.in-Sequence.is).0

pub push-requires-in-Choice : goal.push-requires-in-Choice
unfolding PartsBelow
push-requires-in-Choice c = (parts_of c.requires.parts_below c.in-Choice.is).0

pub push-requires-in-Not : goal.push-requires-in-Not
unfolding PartsBelow
push-requires-in-Not c = parts_of c.requires.parts_below c.in-Not.is

pub returns-in-Sequence : goal.returns-in-Sequence
unfolding rows select
returns-in-Sequence c = simp (c.in-Sequence.is, ← c.push.ensures, ← c.change.ensures) c.by_state.ensures

pub returns-in-Choice : goal.returns-in-Choice
unfolding rows select
returns-in-Choice c = simp (c.in-Choice.is, ← c.push-in-Choice.ensures, ← c.change-in-Choice.ensures) c.by_state-in-Choice.ensures

pub returns-in-Not : goal.returns-in-Not
unfolding rows select
returns-in-Not c = simp (c.in-Not.is, ← c.push-in-Not.ensures) c.by_state-in-Not.ensures

pub returns-in-Empty : goal.returns-in-Empty
unfolding rows select
returns-in-Empty c = simp c.in-Empty.is c.by_state-in-Empty.ensures

pub returns-in-Range : goal.returns-in-Range
unfolding rows select
returns-in-Range c = simp (c.in-Range.is, ← c.one_byte.ensures) c.by_state-in-Range.ensures
