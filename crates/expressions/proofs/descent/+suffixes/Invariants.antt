-- The measure of `expressions::descent::suffixes`: each suffix takes rules from those that are left.
use Rattle.expressions.proofs.descent.+suffixes.Given as goal

abbrev pub decreases-suffixes : goal.decreases-suffixes
decreases-suffixes l = l.rules.now.left
