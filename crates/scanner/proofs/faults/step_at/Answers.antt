-- `scanner::faults::step_at` meets its contract: a word, a range, or one byte, each of which leads on or is refused. Assumes nothing.
use Rattle.std.specs.Prelude.{Ok, Err}
use Rattle.std.proofs.lemmas.Result.{err_from_is_err_and}
use Rattle.scanner.proofs.Moving.{move_word, move_range, move_sign}
use Rattle.scanner.proofs.faults.step_at.Goals as goal

pub returns-in_err-after : goal.returns-in_err-after
returns-in_err-after c =
    let p = err_from_is_err_and c.from_residual.result c.from_residual.ensures.1 in
    rw (p.1, p.2) (move_word _ _ _ _ c.if-is_letter.ensures _ c.letters_from-word.ensures (Err _) c.in_err-after.ensures)

pub returns-then-is_letter : goal.returns-then-is_letter
returns-then-is_letter c = move_word _ _ _ _ c.if-is_letter.ensures _ c.letters_from-word.ensures (Ok c.in_ok-after.after) c.in_ok-after.ensures

pub returns-in_err-after-2 : goal.returns-in_err-after-2
returns-in_err-after-2 c =
    let p = err_from_is_err_and c.from_residual-in_err-after-2.result c.from_residual-in_err-after-2.ensures.1 in
    rw (p.1, p.2) (move_range _ _ _ _ c.if-is_letter.ensures c.if-range_at.ensures (Err _) c.in_err-after-2.ensures)

pub returns-then-range_at : goal.returns-then-range_at
returns-then-range_at c = move_range _ _ _ _ c.if-is_letter.ensures c.if-range_at.ensures (Ok c.in_ok-after-2.after) c.in_ok-after-2.ensures

pub returns-in_err-after-3 : goal.returns-in_err-after-3
returns-in_err-after-3 c =
    let p = err_from_is_err_and c.from_residual-in_err-after-3.result c.from_residual-in_err-after-3.ensures.1 in
    rw (p.1, p.2) (move_sign _ _ _ _ c.if-is_letter.ensures c.if-range_at.ensures (Err _) c.in_err-after-3.ensures)

pub returns : goal.returns
returns c = move_sign _ _ _ _ c.if-is_letter.ensures c.if-range_at.ensures (Ok c.in_ok-after-3.after) c.in_ok-after-3.ensures
