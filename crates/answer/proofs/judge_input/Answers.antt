-- `answer::judge_input` meets its contract: 14, then what judging by the parts says. Assumes nothing.
use Rattle.std.proofs.lemmas.Result.{err_from_is_err_and}
use Rattle.answer.proofs.InputLaws.{parted, grammar_part, capture_part}
use Rattle.answer.proofs.Answering.{input_says, input_parts}
use Rattle.answer.proofs.judge_input.Goals as goal

pub returns-in_err-check_input : goal.returns-in_err-check_input
returns-in_err-check_input c =
    let p = err_from_is_err_and c.from_residual.result c.from_residual.ensures.1 in
    rw (p.1, p.2) (input_says _ _ _ c.in_err-check_input.ensures)

pub capture_offset-middle-requires : goal.capture_offset-middle-requires
capture_offset-middle-requires c = (parted _ c.in_ok-check_input.ensures).enough

pub slice_bounds-judge_parts-count : goal.slice_bounds-judge_parts-count
slice_bounds-judge_parts-count c = (parted _ c.in_ok-check_input.ensures).least _ c.capture_offset-middle.ensures

pub slice_bounds-judge_parts-start : goal.slice_bounds-judge_parts-start
slice_bounds-judge_parts-start c = (parted _ c.in_ok-check_input.ensures).least _ c.capture_offset-middle.ensures

pub slice_bounds-judge_parts-end : goal.slice_bounds-judge_parts-end
slice_bounds-judge_parts-end c = (parted _ c.in_ok-check_input.ensures).within _ c.capture_offset-middle.ensures

pub slice_bounds-judge_parts-count-2 : goal.slice_bounds-judge_parts-count-2
slice_bounds-judge_parts-count-2 c = (parted _ c.in_ok-check_input.ensures).within _ c.capture_offset-middle.ensures

pub slice_bounds-judge_parts-start-2 : goal.slice_bounds-judge_parts-start-2
slice_bounds-judge_parts-start-2 c = (parted _ c.in_ok-check_input.ensures).within _ c.capture_offset-middle.ensures

pub returns : goal.returns
returns c =
    input_parts _ _ _ _ _ _ c.in_ok-check_input.ensures (grammar_part _ _ c.capture_offset-middle.ensures)
    (capture_part _ _ c.capture_offset-middle.ensures)
    c.judge_parts.ensures
