-- `typed::left_recursion::check_text_recursion` meets its contract: the text's refusal, or what the check of its grammar says. Assumes nothing.
use mathlib.Core.Path.{refl, sym}
use lib.Seq.{length-take-le}
use Rattle.std.proofs.lemmas.Result.{err_from_is_err_and}
use Rattle.refusal.proofs.Checked.{checked-passes, checked-refuses}
use Rattle.typed.specs.Recursion.{unread}
use Rattle.typed.proofs.ReadRight.{text_refused, grammar_read, good_read}
use Rattle.typed.proofs.RuleNamed.{refused_some, text_passes, text_recursive}
use Rattle.typed.proofs.left_recursion.check_text_recursion.Goals as goal

pub returns-in_err-read : goal.returns-in_err-read
returns-in_err-read c =
    let p = err_from_is_err_and c.from_residual.result c.from_residual.ensures.1 in
    rw (p.1, p.2) (unread (text_refused _ _ c.in_err-read.ensures.tells))

pub slice_bounds-bytes-end : goal.slice_bounds-bytes-end
slice_bounds-bytes-end c = (grammar_read _ _ c.in_ok-read.ensures.tells).fits

pub slice_bounds-grammar-end : goal.slice_bounds-grammar-end
slice_bounds-grammar-end c = sym (length-take-le _ _ (grammar_read _ _ c.in_ok-read.ensures.tells).fits)

pub invariant_of-grammar : goal.invariant_of-grammar
invariant_of-grammar c = record { right = (good_read _ _ c.in_ok-read.ensures.tells).good }

pub line_of-requires : goal.line_of-requires
line_of-requires c = c.in_ok-read.ensures.kept.few

pub returns-in-Err : goal.returns-in-Err
returns-in-Err c =
    let refuses = sym c.in-Err.ensures in
    rw c.place-rule.ensures
    (text_recursive _ _ (grammar_read _ _ c.in_ok-read.ensures.tells).says _ (checked-refuses _ _ refuses) (refused_some _ refuses) _ _ _ _
    c.in_ok-read.ensures.kept.kept (rw c.place-rule.ensures at c.line_of.ensures) c.line_offset-name.ensures)

pub returns : goal.returns
returns c =
    text_passes _ _ (grammar_read _ _ c.in_ok-read.ensures.tells).says _ refl (checked-passes _ (sym c.in_default.ensures))
