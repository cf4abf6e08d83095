-- `builder::byte_classes::write_map` meets its contract: the loop's invariant says that what is written, with the classes left, is the whole map. Assumes nothing.
use native.Mathlib.Omega.{arith}
use Rattle.builder.proofs.CodeWriting.{map_start, map_room, map_more, map_end}
use Rattle.builder.proofs.CodeClasses.{class_next, next_fits}
use Rattle.builder.proofs.byte_classes.write_map.Goals as goal

pub loop-v-init : goal.loop-v-init
loop-v-init c = map_start c.args.grammar.now c.args.image.now c.requires

pub overflow_add-class : goal.overflow_add-class
overflow_add-class c =
    omega (arith, next_fits _ _ c.marked_cuts-marks.ensures _ _ c.loop-v.invariant.class_is c.loop-v.auto.v c.loop-v-test.true)

pub loop-v-preserved : goal.loop-v-preserved
loop-v-preserved c =
    map_more c.args.grammar.now _ c.loop-v.image _ c.loop-v.v _ c.loop-v.invariant
    (omega (arith, c.requires, map_room c.args.grammar.now c.args.image.now c.loop-v.image _ _ c.loop-v.invariant))
    c.loop-v.auto.v c.loop-v-test.true
    (class_next _ _ c.marked_cuts-marks.ensures _ _ c.loop-v.invariant.class_is c.loop-v.auto.v c.loop-v-test.true)

pub returns : goal.returns
returns c =
    map_end c.args.grammar.now c.args.image.now c.loop-v.image _ _ c.loop-v.invariant (omega (arith, c.loop-v-test.false))
