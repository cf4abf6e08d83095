-- `reader::reading::read_lines` meets its contract: the checks in their order, then the grammar. Assumes nothing.
-- What refuses too many lines is found by refusal_laws, and where lines are read no answer names the checks before: one that is turned round is refused at a goal that is then false.
use mathlib.Core.Path.{◌≡◌, refl, sym}
use native.Mathlib.Omega.{arith}
use Rattle.std.specs.Prelude.{Ok}
use Rattle.refusal.specs.Checking.{checked}
use Rattle.refusal.proofs.Checked.{checked-passes}
use Rattle.syntax.specs.Faults.{fault}
use Rattle.reader.proofs.ReadRight.{undefined_name, fault_handed, undefined_handed, many_rules_text, read_next, read_grammar}
use Rattle.reader.proofs.reading.read_lines.Goals as goal

pub returns-in_err-lines : goal.returns-in_err-lines
returns-in_err-lines c = fault_handed _ _ _ c.from_residual.ensures.1 c.in_err-lines.ensures

pub returns-in_err-check_names : goal.returns-in_err-check_names
returns-in_err-check_names c =
    undefined_handed _ _ _ c.from_residual-in_err-check_names.ensures.1 (grind arith) (sym c.in_err-check_names.ensures)

pub returns-in_default : goal.returns-in_default
returns-in_default c =
    many_rules_text _ _ c.new-too_many.ensures (grind arith) (grind arith) _ (grind arith) c.in_default.field-0 c.in_default.ensures

pub overflow_mul-result : goal.overflow_mul-result
overflow_mul-result c =
    let none : checked (fault c.args.text.now) ≡ Ok tt = grind arith in
    let defined : checked (undefined_name c.args.text.now) ≡ Ok tt = grind arith in
    omega (
      arith,
      read_next c.args.text.now (checked-passes _ none) (checked-passes _ defined) _ (grind arith) (Ok c.in-Ok.read) c.in-Ok.ensures c.in-Ok.read refl,
    )

pub returns : goal.returns
returns c =
    let none : checked (fault c.args.text.now) ≡ Ok tt = grind arith in
    let defined : checked (undefined_name c.args.text.now) ≡ Ok tt = grind arith in
    read_grammar c.args.text.now (checked-passes _ none) (checked-passes _ defined) _ (grind arith) (Ok c.in-Ok.read) c.in-Ok.ensures c.in-Ok.read refl
