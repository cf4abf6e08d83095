-- `grammar_judge::check_cells` meets its contract: the cells that the machine needs are those that the grammar gives, and they are asked of the counts that are lent. Assumes nothing.
use mathlib.Core.Path.{refl, ap, ◌∙◌}
use native.Mathlib.Omega.{arith}
use Rattle.refusal.specs.Checking.{checked}
use Rattle.refusal.proofs.Checked.{refuses-made}
use Rattle.builder.specs.declared.Matching.TheVariants.{Whole}
use Rattle.grammar_judge.proofs.Refusing.{refused_long, cells_decided}
use Rattle.grammar_judge.proofs.check_cells.Goals as goal

pub returns-then-n-gt-MAX_CAPTURE : goal.returns-then-n-gt-MAX_CAPTURE
returns-then-n-gt-MAX_CAPTURE c =
    refuses-made _ _ c.new.ensures refl
    ∙ ap checked (refused_long _ c.args.capture.now c.args.grammar.right _ _ c.if-n-gt-MAX_CAPTURE.true)

pub returns : goal.returns
returns c =
    cells_decided _ _ c.args.grammar.right _ _ c.if-n-gt-MAX_CAPTURE.false _ (c.cells_of.ensures Whole c.args.capture.now refl) _ _ (grind arith) (grind arith)
    c.check_cells.ensures
