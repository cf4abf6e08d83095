-- The measures of the descent: the remaining depth falls in brackets, and the rules that are left for a further part; else a lower level is read.
use Rattle.std.proofs.Common.{◌+◌, ◌*◌}
use Rattle.expressions.proofs.Joining.{rank}
use Rattle.expressions.proofs.descent.+descent.Given as goal

abbrev pub decreases-expression : goal.decreases-expression
decreases-expression l = (l.depth * 64 + l.rules.now.left) * 8 + 2 + 2 * rank l.level

abbrev pub decreases-first_part : goal.decreases-first_part
decreases-first_part l = (l.depth * 64 + l.rules.now.left) * 8 + 1 + 2 * rank l.level

abbrev pub decreases-operand : goal.decreases-operand
decreases-operand l = (l.depth * 64 + l.rules.now.left) * 8 + 1

abbrev pub decreases-part : goal.decreases-part
decreases-part l = (l.depth * 64 + l.rules.now.left) * 8 + 2
