-- The invariant of `builder::byte_classes::class_count`.
use mathlib.Core.Path.{◌≡◌}
use Prim.Native.Nat.{◌-◌}
use Rattle.builder.specs.Classes.{class_of}
use Rattle.builder.proofs.byte_classes.class_count.Given as goal

abbrev pub invariant-loop-v : goal.invariant-loop-v
invariant-loop-v l = l.class ≡ class_of l.grammar (l.v - 1)
