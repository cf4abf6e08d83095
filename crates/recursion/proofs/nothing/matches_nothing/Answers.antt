-- `recursion::nothing::matches_nothing` meets its contract: the parts of a rule have a bit each. Assumes nothing.
use Rattle.recursion.proofs.Parts.{sequence_parts, choice_parts}
use Rattle.recursion.proofs.nothing.matches_nothing.Goals as goal

pub contains-requires : goal.contains-requires
contains-requires c = (sequence_parts c.in-Sequence.is c.requires).0

pub contains-requires-then-contains : goal.contains-requires-then-contains
contains-requires-then-contains c = (sequence_parts c.in-Sequence.is c.requires).1

pub contains-requires-in-Choice : goal.contains-requires-in-Choice
contains-requires-in-Choice c = (choice_parts c.in-Choice.is c.requires).0

pub contains-requires-else-contains-2 : goal.contains-requires-else-contains-2
contains-requires-else-contains-2 c = (choice_parts c.in-Choice.is c.requires).1
