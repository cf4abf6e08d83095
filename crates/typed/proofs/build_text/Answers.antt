-- `typed::build_text` meets its contract: the text's refusal, or what building its grammar says. Assumes nothing.
use mathlib.Core.Path.{sym}
use lib.Seq.{length-take-le}
use Rattle.std.proofs.lemmas.Result.{err_from_is_err_and}
use Rattle.typed.specs.Calls.{unread, read}
use Rattle.typed.proofs.ReadRight.{text_refused, grammar_read, good_read}
use Rattle.typed.proofs.build_text.Goals as goal

pub returns-in_err-parsed : goal.returns-in_err-parsed
returns-in_err-parsed c =
    let p = err_from_is_err_and c.from_residual.result c.from_residual.ensures.1 in
    rw (p.1, p.2) (unread (text_refused _ _ c.in_err-parsed.ensures))

pub slice_bounds-bytes-end : goal.slice_bounds-bytes-end
slice_bounds-bytes-end c = (grammar_read _ _ c.in_ok-parsed.ensures).fits

pub slice_bounds-grammar-end : goal.slice_bounds-grammar-end
slice_bounds-grammar-end c = sym (length-take-le _ _ (grammar_read _ _ c.in_ok-parsed.ensures).fits)

pub invariant_of-grammar : goal.invariant_of-grammar
invariant_of-grammar c = record { right = (good_read _ _ c.in_ok-parsed.ensures).good }

pub returns : goal.returns
returns c = read (grammar_read _ _ c.in_ok-parsed.ensures).says (rw (sym c.plan_of.ensures) c.build_planned.ensures)
