-- `typed::judge_text` meets its contract: the text's refusal, or what judging by its grammar says. Assumes nothing.
use mathlib.Core.Path.{sym}
use lib.Seq.{length-take-le}
use Rattle.std.proofs.lemmas.Result.{err_from_is_err_and}
use Rattle.typed.specs.Calls.{unread}
use Rattle.typed.proofs.ReadRight.{text_refused, grammar_read, good_read}
use Rattle.typed.proofs.Determined.{judged_by}
use Rattle.typed.proofs.judge_text.Goals as goal

pub returns-in_err-read : goal.returns-in_err-read
returns-in_err-read c =
    let p = err_from_is_err_and c.from_residual.result c.from_residual.ensures.1 in
    rw (p.1, p.2) (unread (text_refused _ _ c.in_err-read.ensures))

pub slice_bounds-bytes-end : goal.slice_bounds-bytes-end
slice_bounds-bytes-end c = (grammar_read _ _ c.in_ok-read.ensures).fits

pub slice_bounds-grammar-end : goal.slice_bounds-grammar-end
slice_bounds-grammar-end c = sym (length-take-le _ _ (grammar_read _ _ c.in_ok-read.ensures).fits)

pub invariant_of-grammar : goal.invariant_of-grammar
invariant_of-grammar c = record { right = (good_read _ _ c.in_ok-read.ensures).good }

pub returns : goal.returns
returns c = judged_by (grammar_read _ _ c.in_ok-read.ensures).says c.judge_by_grammar.ensures
