-- `builder::build::build_planned` meets its contract: 13, or the image before the later bytes. Assumes nothing.
use mathlib.Core.Path.{refl, sym, ◌∙◌}
use lib.Seq.{length-take-le}
use Rattle.std.proofs.lemmas.Result.{err_from_is_err_and}
use Rattle.builder.proofs.CodeBuild.{room_passed, room_decides, says_refused, image_built}
use Rattle.builder.proofs.build.build_planned.Goals as goal

pub returns-in_err-check_room : goal.returns-in_err-check_room
returns-in_err-check_room c =
    let p = err_from_is_err_and c.from_residual.result c.from_residual.ensures.1 in
    rw (p.1, p.2) (says_refused _ _ _ _ (room_decides _ c.args.plan.grammar.right _ c.args.plan.long_is c.in_err-check_room.ensures))

pub slice_bounds-build_checked-end : goal.slice_bounds-build_checked-end
slice_bounds-build_checked-end c = room_passed _ _ c.in_ok-check_room.ensures

pub slice_bounds-build_checked-end-2 : goal.slice_bounds-build_checked-end-2
slice_bounds-build_checked-end-2 c = sym (length-take-le _ _ (room_passed _ _ c.in_ok-check_room.ensures))

pub build_checked-requires : goal.build_checked-requires
build_checked-requires c = length-take-le _ c.args.image.now (room_passed _ _ c.in_ok-check_room.ensures) ∙ c.args.plan.long_is

pub returns : goal.returns
returns c =
    image_built _ c.args.plan.grammar.right c.args.image.now _ c.args.plan.long_is (room_passed _ _ c.in_ok-check_room.ensures) _
    c.build_checked.new.image _ c.build_checked.ensures refl
