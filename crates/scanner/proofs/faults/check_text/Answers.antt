-- `scanner::faults::check_text` meets its contract: the loop's invariant says that the tokens left decide. Assumes nothing.
use mathlib.Core.Path.{◌∙◌}
use native.Mathlib.Omega.{arith}
use Rattle.std.proofs.lemmas.Result.{err_from_is_err_and}
use Rattle.scanner.specs.Code.Stepping.{spot_of}
use Rattle.scanner.proofs.Lexing.{lexemes_end}
use Rattle.scanner.proofs.Faulting.{check_start, check_end, check_further, check_wrong, check_next, begun_few}
use Rattle.scanner.proofs.faults.check_text.Goals as goal

pub loop-at-init : goal.loop-at-init
unfolding spot_of
loop-at-init c = check_start _

pub overflow_add-lines : goal.overflow_add-lines
overflow_add-lines c =
    omega (arith, begun_few _ _ c.begun-lines.ensures, c.loop-at-test.true, c.loop-at.invariant.few)

pub loop-at-smaller : goal.loop-at-smaller
loop-at-smaller c =
    let further = check_further _ _ _ _ c.loop-at.invariant _ c.skip-offset.ensures c.if-text-offset.false _ c.in-Ok.ensures in
    omega (arith, further.0, further.1)

pub loop-at-preserved : goal.loop-at-preserved
loop-at-preserved c =
    check_next _ _ _ _ c.loop-at.invariant _ c.skip-offset.ensures c.if-text-offset.false _ c.in-Ok.ensures _ c.begun-lines.ensures

pub returns-in-Err : goal.returns-in-Err
returns-in-Err c =
    rw c.new.ensures
    (check_wrong _ _ _ _ c.loop-at.invariant _ c.skip-offset.ensures c.if-text-offset.false _ c.in-Err.ensures)

pub returns-in_err-at_end : goal.returns-in_err-at_end
returns-in_err-at_end c =
    let p = err_from_is_err_and c.from_residual.result c.from_residual.ensures.1 in
    rw (p.1, p.2)
    (check_end _ _ _ _ c.loop-at.invariant
    (elim c.loop-at-test.branch [
      | goal.else-loop-at-test w ↦ lexemes_end _ _ w.loop-at-test.false
      | goal.then-loop-at-test+then-text-offset w ↦ w.skip-offset.ensures.rest ∙ lexemes_end _ _ w.if-text-offset.true
    ])
    _ c.in_err-at_end.ensures).0

pub returns : goal.returns
returns c =
    check_end _ _ _ _ c.loop-at.invariant
    (elim c.loop-at-test.branch [
      | goal.else-loop-at-test w ↦ lexemes_end _ _ w.loop-at-test.false
      | goal.then-loop-at-test+then-text-offset w ↦ w.skip-offset.ensures.rest ∙ lexemes_end _ _ w.if-text-offset.true
    ])
    _ c.in_ok-at_end.ensures
