-- The invariants of `builder::build::write_rules`: the next rule is that of the loops' state, class and rule.
use Prim.Native.Nat.{◌+◌, ◌*◌}
use Rattle.builder.proofs.CodeRules.{Next}
use Rattle.builder.proofs.build.write_rules.Given as goal

abbrev pub invariant-loop-state : goal.invariant-loop-state
invariant-loop-state l = Next l.matching l.grammar.bytes.now l.fn.image l.image l.i l.state 0 0

abbrev pub invariant-loop-class : goal.invariant-loop-class
invariant-loop-class l = Next l.matching l.grammar.bytes.now l.fn.image l.image l.i l.state l.class 0

abbrev pub invariant-loop-k : goal.invariant-loop-k
invariant-loop-k l = Next l.matching l.grammar.bytes.now l.fn.image l.image l.i l.state l.class (1 + 2 * l.k)
