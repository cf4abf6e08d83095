-- The refusal's line, or the grammar, which stands at the start of its bytes.
use Rattle.std.proofs.Common.{refl}
use Rattle.typed.proofs.ReadRight.{text_refused, grammar_read}
use Rattle.read_text.specs.Program.{refuses, gives}
use Rattle.read_text.proofs.output_of_text.Goals as goal

pub returns-in-Ok : goal.returns-in-Ok
returns-in-Ok c =
    let there = grammar_read _ _ c.in-Ok.ensures in
    record { output = _; right = gives there.says; held = record { is = refl; within = there.fits } }

pub returns-in-Err : goal.returns-in-Err
returns-in-Err c = record { output = _; right = refuses (text_refused _ _ c.in-Err.ensures); held = c.refused.ensures }
