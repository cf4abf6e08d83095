-- `scanner::names::line_of` meets its contract: the loop's invariant says that the lines passed are other ones. Assumes nothing.
use native.Mathlib.Omega.{arith}
use Rattle.scanner.proofs.Lexing.{lexemes_end}
use Rattle.scanner.proofs.Tokenizing.{letters_room}
use Rattle.scanner.proofs.Searching.{search_start, search_end, search_found, search_other, search_nothing, line_further}
use Rattle.scanner.proofs.names.line_of.Goals as goal

pub loop-at-init : goal.loop-at-init
loop-at-init c = search_start _ _

pub returns-in-Sought : goal.returns-in-Sought
returns-in-Sought c =
    search_found _ _ _ _ c.loop-at.invariant _ c.skip-offset.ensures _ c.letters_from-word.ensures _ c.head_of.ensures c.in-Sought.is

pub overflow_add-offset : goal.overflow_add-offset
overflow_add-offset c =
    omega (arith, letters_room c.args.text.now c.skip-offset.result _ c.letters_from-word.ensures, c.skip-offset.type_inv)

pub loop-at-preserved : goal.loop-at-preserved
loop-at-preserved c =
    let s = c.skip-offset.ensures in
    let letters = c.letters_from-word.ensures in
    let after = c.after_line-at.ensures in
    let further = line_further _ _ _ _ _ c.loop-at-test.true s after in
    elim c.match-head_of.branch [
      | goal.in-Other w ↦ search_other _ _ _ _ c.loop-at.invariant _ s _ letters _ c.head_of.ensures _ after.0 further w.in-Other.is _ w.line-is
      | goal.in-Nothing w ↦ search_nothing _ _ _ _ c.loop-at.invariant _ s _ letters _ c.head_of.ensures _ after.0 further w.in-Nothing.is _ w.line-is
    ]

pub returns : goal.returns
returns c = search_end _ _ _ _ c.loop-at.invariant (lexemes_end _ _ c.loop-at-test.false)
