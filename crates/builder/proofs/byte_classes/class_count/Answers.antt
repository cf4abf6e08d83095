-- `builder::byte_classes::class_count` meets its contract: the loop's invariant says that the count so far is the byte's class. Assumes nothing.
use mathlib.Core.Path.{sym, ap, ◌∙◌}
use Prim.Native.Nat.{◌-◌}
use native.Mathlib.Omega.{arith}
use Rattle.builder.specs.Classes.{class_of}
use Rattle.builder.proofs.CodeClasses.{class_zero, class_next, class_within, next_fits, classes_are}
use Rattle.builder.proofs.byte_classes.class_count.Goals as goal

pub loop-v-init : goal.loop-v-init
loop-v-init c = sym (class_zero _)

pub overflow_add-class : goal.overflow_add-class
overflow_add-class c =
    omega (arith, c.from-class.ensures, next_fits _ _ c.marked_cuts-marks.ensures _ _ c.loop-v.invariant c.loop-v.auto.v c.loop-v-test.true)

pub loop-v-preserved : goal.loop-v-preserved
loop-v-preserved c =
    let now = class_next _ _ c.marked_cuts-marks.ensures _ _ c.loop-v.invariant c.loop-v.auto.v c.loop-v-test.true in
    rw c.from-class.ensures (now ∙ ap (class_of c.args.grammar.now) (omega arith))

pub overflow_add-result : goal.overflow_add-result
overflow_add-result c = omega (arith, c.loop-v.invariant, class_within c.args.grammar.now (c.loop-v.v - 1), c.loop-v.auto.v-end)

pub returns : goal.returns
returns c = classes_are _ _ _ c.loop-v.invariant (omega (arith, c.loop-v-test.false, c.loop-v.auto.v-end))
