-- `builder::build::build_checked` meets its contract: the header, the class map and the rules, each after the one before. Assumes nothing.
use mathlib.Core.Path.{◌∙◌}
use Prim.Native.Nat.{◌≤◌}
use native.Mathlib.Omega.{arith}
use lib.ListN.{length}
use Rattle.image.specs.Format
use Rattle.builder.proofs.CodeWriting.{map_front}
use Rattle.builder.proofs.CodeRules.{length_is, ready_after, image_whole}
use Rattle.builder.proofs.CodeClasses.{grammar_short, classes_most, symbols_most, count_most}
use Rattle.builder.proofs.build.build_checked.Goals as goal

pub symbol_count-symbols-requires : goal.symbol_count-symbols-requires
symbol_count-symbols-requires c = grammar_short _ c.args.plan.grammar.right

pub overflow_cast-plan : goal.overflow_cast-plan
overflow_cast-plan c = omega (arith, c.args.plan.classes_are, classes_most _ c.args.plan.grammar.right)

pub overflow_cast-symbols : goal.overflow_cast-symbols
overflow_cast-symbols c = omega (arith, c.symbol_count-symbols.ensures, symbols_most _ c.args.plan.grammar.right)

pub write_header-requires : goal.write_header-requires
write_header-requires c =
    let gs = c.args.plan.grammar.bytes.now in (
      omega (arith, c.requires, length_is gs),
      omega (arith, c.args.plan.count_is, count_most gs c.args.plan.grammar.right),
    )

pub write_map-requires : goal.write_map-requires
write_map-requires c =
    omega (arith, c.write_header.auto.image, c.requires, length_is c.args.plan.grammar.bytes.now)

pub write_rules-requires : goal.write_rules-requires
write_rules-requires c =
    let gs = c.args.plan.grammar.bytes.now in
    let room : Format.rules_offset ≤ length c.write_header.new.image = omega (arith, c.write_header.auto.image, c.requires, length_is gs) in
    record {
      ready = ready_after gs c.write_header.new.image c.write_map.new.image _ c.args.plan.classes_are room c.write_map.auto.image
          (map_front gs c.write_header.new.image c.write_map.new.image room c.write_map.ensures);
      room = c.write_map.auto.image ∙ c.write_header.auto.image ∙ c.requires;
    }

pub returns : goal.returns
returns c =
    let gs = c.args.plan.grammar.bytes.now in
    let room : Format.rules_offset ≤ length c.write_header.new.image = omega (arith, c.write_header.auto.image, c.requires, length_is gs) in
    let before : Format.map_offset ≤ length c.args.image.now = omega (arith, c.requires, length_is gs) in
    image_whole _ gs c.args.image.now c.write_header.new.image c.write_map.new.image c.write_rules.new.image
    _ _ _ c.args.plan.count_is c.args.plan.classes_are c.symbol_count-symbols.ensures before c.write_header.ensures
    (map_front gs c.write_header.new.image c.write_map.new.image room c.write_map.ensures) c.write_rules.ensures
