-- `reader::definitions::topped` meets its contract: a case for each kind of node. Assumes nothing.
use Rattle.reader.proofs.Lining.{line_by, bare_over, bare_fits, operator_top, repetition_top, repetition_room}
use Rattle.expressions.proofs.Emitting.{advanced_next}
use Rattle.expressions.specs.Code.Operators.{read_of}
use native.Mathlib.Omega.{arith}
use Rattle.reader.proofs.definitions.topped.Goals as goal
use Rattle.reader.proofs.definitions.topped.Goals.{in-Numbered+else-next-ge-MAX_RULES, in-Operator, in-Repetition}

pub returns-then-next-ge-MAX_RULES : goal.returns-then-next-ge-MAX_RULES
returns-then-next-ge-MAX_RULES c = bare_over (read_of c.args.x c.args.rules.now) _ _ _ c.in-Numbered.is c.if-next-ge-MAX_RULES.true

pub add-requires-in-Repetition : goal.add-requires-in-Repetition
add-requires-in-Repetition c = omega (arith, repetition_room (read_of c.args.x c.args.rules.now) _ c.in-Repetition.is c.requires.1)

pub add-requires-in-Repetition-2 : goal.add-requires-in-Repetition-2
add-requires-in-Repetition-2 c =
    omega (
      arith,
      repetition_room (read_of c.args.x c.args.rules.now) _ c.in-Repetition.is c.requires.1,
      advanced_next _ _ _ _ c.add-in-Repetition.ensures,
    )

pub returns : goal.returns
returns c = elim c.match-x.branch [
  | in-Numbered+else-next-ge-MAX_RULES w ↦
      bare_fits (read_of c.args.x c.args.rules.now) _ _ _ _ _ w.in-Numbered.is w.if-next-ge-MAX_RULES.false w.add.ensures
      (line_by _ _ _ _ _ _ _ c.put.ensures w.rules-is w.own-is)
  | in-Operator w ↦
      operator_top (read_of c.args.x c.args.rules.now) _ _ _ _ w.in-Operator.is (line_by _ _ _ _ _ _ _ c.put.ensures w.rules-is w.own-is)
  | in-Repetition w ↦
      repetition_top (read_of c.args.x c.args.rules.now) _ _ _ _ _ _ w.in-Repetition.is w.add-in-Repetition.ensures w.add-in-Repetition-2.ensures
      (line_by _ _ _ _ _ _ _ c.put.ensures w.rules-is w.own-is)
]
