-- By whether a read failed, then by the length.
use Rattle.std.proofs.Common.{sym, arith, ◌∙◌}
use Rattle.read_text.proofs.Outputs.{read_long}
use Rattle.read_text.specs.Program.{too_long, fits, unread, whole}
use Rattle.read_text.proofs.output_of.Goals as goal

pub returns-then-failed : goal.returns-then-failed
returns-then-failed g c = record {
  output = _;
  right = unread (sym c.failed.ensures ∙ c.if-failed.true);
  held = c.unread.ensures;
}

pub returns-then-count-gt-MAX_TEXT : goal.returns-then-count-gt-MAX_TEXT
returns-then-count-gt-MAX_TEXT g c =
    let long = read_long c.args.input.now c.args.stop c.requires in
    record {
      output = _;
      right = whole (sym c.failed.ensures ∙ c.if-failed.false) (too_long (omega (arith, long, c.if-count-gt-MAX_TEXT.true)));
      held = c.no_text.ensures;
    }

pub returns : goal.returns
returns g c =
    let long = read_long c.args.input.now c.args.stop c.requires in
    let said = c.output_by.ensures in
    record {
      output = said.output;
      right = whole (sym c.failed.ensures ∙ c.if-failed.false) (fits (omega (arith, long, c.if-count-gt-MAX_TEXT.false)) said.right);
      held = said.held;
    }
