-- `transfer::write_complaint` meets its contract: two parts and then two more, where the first two are written whole. Assumes nothing.
use Rattle.std.proofs.Common.{◌++◌, ◌∷◌, [], append_assoc}
use Rattle.transfer.proofs.Outcomes.{written_then, written_cut}
use Rattle.transfer.proofs.write_complaint.Goals as goal

pub returns-then-write_both : goal.returns-then-write_both
returns-then-write_both g c = simp append_assoc at (written_then _ _ _ _ _ _ (rw c.if-write_both.true at c.write_both.ensures) c.write_both-then-write_both.ensures)

pub returns-else-write_both : goal.returns-else-write_both
returns-else-write_both g c = rw c.if-write_both.false (simp append_assoc at (written_cut _ (c.args.why.now ++ (10 ∷ [])) _ _ _ c.write_both.ensures))
