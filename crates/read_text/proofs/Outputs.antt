-- What was read is as long as reading says, and what is held at the start of the program's buffer is what is to be written. Assumes nothing.
use mathlib.Core.Path.{◌≡◌, sym, ap, ◌∙◌}
use mathlib.Core.List.{List}
use Prim.Native.Nat.{ℕ, ◌≤◌}
use native.Mathlib.Nat.{le_trans}
use native.Mathlib.Omega.{arith}
use lib.ListN.{length, take}
use lib.Seq.{take_at, length-take-le}
use Rattle.answer_line.specs.Line.{max_line, Lined}
use Rattle.answer_line.proofs.Writing.{written_whole, count_within}
use Rattle.transfer.specs.declared.Stop.{Stop}
use Rattle.transfer.proofs.Outcomes.{stops_within}
use Rattle.read_text.specs.declared.Output.{Output}
use Rattle.read_text.specs.Program.{Holds, Buffer}

-- what was read is as long as reading says
pub read_long : (input : List ℕ) (stop : Stop) → Buffer input stop → length (take stop.count input) ≡ stop.count
read_long input stop b = length-take-le stop.count input (stops_within stop.last stop.count (length input) b.stopped)

-- a buffer with room for every line has the whole line at its start
pub line_held :
    (line buffer : List ℕ) (r : Output) → Lined line buffer r.bytes r.length → max_line ≤ length buffer → length r.bytes ≡ length buffer →
    Holds r line
line_held line buffer r h room same =
    let w = written_whole h.holds (le_trans h.short room) in
    record {
      is = ap (take r.length) w.bytes ∙ take_at line _ r.length (sym w.counted);
      within = omega (arith, count_within h.holds, same);
    }
