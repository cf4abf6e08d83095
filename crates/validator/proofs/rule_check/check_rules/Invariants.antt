-- The invariant of `validator::rule_check::check_rules`.
use Prim.Native.Nat.{◌+◌, ◌*◌}
use Rattle.image.specs.Format
use Rattle.validator.proofs.CheckLoops.{RulesLeft}
use Rattle.validator.proofs.rule_check.check_rules.Given as goal

abbrev pub invariant-loop-i : goal.invariant-loop-i
invariant-loop-i l = RulesLeft l.image l.s (Format.rules_offset + Format.rule_length * l.i)
