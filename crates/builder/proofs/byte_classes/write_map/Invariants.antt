-- The invariant of `builder::byte_classes::write_map`.
use Prim.Native.Nat.{◌-◌}
use Rattle.builder.proofs.CodeWriting.{MapWritten}
use Rattle.builder.proofs.byte_classes.write_map.Given as goal

abbrev pub invariant-loop-v : goal.invariant-loop-v
invariant-loop-v l = MapWritten l.grammar l.initial.image l.image l.class (l.v - 1)
