-- `builder::rows::second_rule` meets its contract: an arm for each kind of rule; only a sequence and a choice have rules here. Assumes nothing.
use Rattle.grammar.specs.Grammar.{PartsBelow}
use Rattle.builder.specs.Table.{rows, select}
use Rattle.builder.proofs.CodeRows.{parts_of, no_second}
use Rattle.builder.proofs.rows.second_rule.Goals as goal

pub push-requires : goal.push-requires
unfolding PartsBelow
push-requires c = (parts_of c.requires c.in-Sequence.is).1

pub push-requires-in-Choice : goal.push-requires-in-Choice
unfolding PartsBelow
push-requires-in-Choice c = (parts_of c.requires c.in-Choice.is).1

pub returns-in-Sequence : goal.returns-in-Sequence
unfolding rows select
returns-in-Sequence c = λ k inside. simp (c.in-Sequence.is, ← c.push.ensures) c.by_state.ensures

pub returns-in-Choice : goal.returns-in-Choice
unfolding rows select
returns-in-Choice c = λ k inside. simp (c.in-Choice.is, ← c.push-in-Choice.ensures) c.by_state-in-Choice.ensures

pub returns-in-Not : goal.returns-in-Not
returns-in-Not c = no_second _ c.in-Not.is _
