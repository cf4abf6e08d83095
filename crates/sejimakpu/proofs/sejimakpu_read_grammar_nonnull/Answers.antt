-- `sejimakpu::sejimakpu_read_grammar_nonnull` meets its contract: the grammar's bytes are copied, and of a refused text none. Assumes nothing.
use mathlib.Core.Path.{◌∙◌}
use Rattle.sejimakpu.proofs.Told.{told_as, read_told}
use Rattle.sejimakpu.proofs.Reading.{nothing_left}
use Rattle.sejimakpu.proofs.sejimakpu_read_grammar_nonnull.Goals as goal

pub put_grammar-requires : goal.put_grammar-requires
put_grammar-requires c = (c.args.text.now, c.read-got.ensures)

pub returns : goal.returns
returns c =
    let tells = told_as (c.reply.ensures ∙ read_told c.read-got.result) c.write_reply.ensures in
    record {
      read = c.read-got.result;
      says = c.read-got.ensures;
      left = c.put_grammar.ensures;
      kept = nothing_left c.read-got.result _ _ c.put_grammar.ensures tells.number;
      tells = tells;
    }
