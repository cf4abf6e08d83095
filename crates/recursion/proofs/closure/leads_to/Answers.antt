-- `recursion::closure::leads_to` meets its contract, kind by kind. Assumes nothing.
use Rattle.recursion.proofs.Rows.{sequence_leads, choice_leads, not_leads, neither_leads}
use Rattle.recursion.proofs.Parts.{sequence_parts, choice_parts, not_part}
use Rattle.recursion.proofs.closure.leads_to.Goals as goal

pub contains-second-requires : goal.contains-second-requires
contains-second-requires c = (sequence_parts c.in-Sequence.is c.requires).0

pub single-requires : goal.single-requires
single-requires c = (sequence_parts c.in-Sequence.is c.requires).0

pub added-requires : goal.added-requires
added-requires c =
    (sequence_parts c.in-Sequence.is c.requires).1

pub single-requires-in-Choice : goal.single-requires-in-Choice
single-requires-in-Choice c = (choice_parts c.in-Choice.is c.requires).0

pub added-requires-in-Choice : goal.added-requires-in-Choice
added-requires-in-Choice c = (choice_parts c.in-Choice.is c.requires).1

pub single-requires-in-Not : goal.single-requires-in-Not
single-requires-in-Not c = not_part c.in-Not.is c.requires

pub returns-in-Sequence : goal.returns-in-Sequence
returns-in-Sequence c = sequence_leads _ _ _ _ c.in-Sequence.is c.added.ensures.0 c.single.ensures c.contains-second.ensures

pub returns-in-Choice : goal.returns-in-Choice
returns-in-Choice c = choice_leads _ _ _ _ c.in-Choice.is c.added-in-Choice.ensures.0 c.single-in-Choice.ensures

pub returns-in-Not : goal.returns-in-Not
returns-in-Not c = not_leads _ _ _ c.in-Not.is c.single-in-Not.ensures

pub returns-in-Empty : goal.returns-in-Empty
returns-in-Empty c l = rw c.empty.ensures (neither_leads _ _ c.in-Empty.is l)
