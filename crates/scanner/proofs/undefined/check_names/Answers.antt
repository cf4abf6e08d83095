-- `scanner::undefined::check_names` meets its contract: the loop's invariant says that the words left decide. Assumes nothing.
use native.Mathlib.Omega.{arith}
use Rattle.scanner.proofs.Defining.{undefined_start, undefined_end, undefined_here, undefined_next, word_some}
use Rattle.scanner.proofs.undefined.check_names.Goals as goal

pub loop-at-init : goal.loop-at-init
loop-at-init c = undefined_start _ _ c.next_word-at.ensures

pub returns-then-is_new : goal.returns-then-is_new
returns-then-is_new c =
    rw c.new.ensures
    (undefined_here _ _ c.loop-at.invariant _ c.requires c.loop-at-test.true _ c.letters_from-word.ensures c.if-is_new.ensures)

pub loop-at-smaller : goal.loop-at-smaller
loop-at-smaller c =
    let more = c.loop-at-test.true in
    omega (arith, more, c.next_word-at-in-loop-at.ensures.0.from, word_some _ _ c.loop-at.invariant _ c.requires more _ c.letters_from-word.ensures)

pub loop-at-preserved : goal.loop-at-preserved
loop-at-preserved c =
    undefined_next _ _ c.loop-at.invariant _ c.requires c.loop-at-test.true _ c.letters_from-word.ensures c.if-is_new.ensures _
    c.next_word-at-in-loop-at.ensures

pub returns : goal.returns
returns c = undefined_end _ _ c.loop-at.invariant c.loop-at-test.false
