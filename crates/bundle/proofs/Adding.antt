-- What a line adds to totals leaves room for the next. Assumes nothing.
use Rattle.std.specs.Prelude.{Err, Ok}
use mathlib.Core.Bool.{Bool, true, false, cond}
use Prim.Native.Nat.{ℕ, ◌+◌, ◌≤◌}
use native.Mathlib.Omega.{arith}
use lib.Dec.{eqb}
use Rattle.machine.specs.declared.Verdict.{Verdict}
use Rattle.machine.specs.declared.Verdict.TheVariants.{Accepted, Ended, Stuck, Looping, Halted}
use Rattle.machine.specs.Replies.{verdict_number}
use Rattle.simulator.specs.Answers.{Judged}
use Rattle.bundle.specs.declared.Totals.{Totals}
use Rattle.bundle.specs.Report.{gives, is_refused, line_readings}
use Rattle.bundle.specs.Code.Judging.{max_u32, RoomAfter, with_line}

-- what a line adds is 1 at most, but for its readings, which have 32 bits
gives_most : (v : Verdict) (r : Judged) → gives v r ≤ 1
unfolding gives
gives_most v (Err f) = omega arith
gives_most v (Ok j) = by_test (eqb (verdict_number j.verdict) (verdict_number v))
  where
    by_test : (b : Bool) → cond b 1 0 ≤ 1
    by_test true = omega arith
    by_test false = omega arith

refused_most : (r : Judged) → is_refused r ≤ 1
unfolding is_refused
refused_most (Err f) = omega arith
refused_most (Ok j) = omega arith

pub room_added : {n : ℕ} {t : Totals} (r : Judged) → line_readings r ≤ max_u32 → RoomAfter n t → RoomAfter (n + 1) (with_line t r)
room_added {n} {t} r few room =
    record {
      accepted = let g = gives_most Accepted r in let h = room.accepted in omega (arith, g, h);
      ended = let g = gives_most Ended r in let h = room.ended in omega (arith, g, h);
      stuck = let g = gives_most Stuck r in let h = room.stuck in omega (arith, g, h);
      looping = let g = gives_most Looping r in let h = room.looping in omega (arith, g, h);
      halted = let g = gives_most Halted r in let h = room.halted in omega (arith, g, h);
      refused = let g = refused_most r in let h = room.refused in omega (arith, g, h);
      readings = let h = room.readings in omega (arith, few, h);
    }

pub room_for : {n m : ℕ} {t : Totals} → n ≤ m → RoomAfter n t → RoomAfter m t
room_for le room =
    record {
      accepted = let h = room.accepted in omega (arith, le, h);
      ended = let h = room.ended in omega (arith, le, h);
      stuck = let h = room.stuck in omega (arith, le, h);
      looping = let h = room.looping in omega (arith, le, h);
      halted = let h = room.halted in omega (arith, le, h);
      refused = let h = room.refused in omega (arith, le, h);
      readings = let h = room.readings in omega (arith, le, h);
    }
