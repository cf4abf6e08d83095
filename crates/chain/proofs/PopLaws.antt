-- What a pop asks, as `after_pop` does: of a terminator that returns, of one that stays, and of a configuration that is its own. Assumes nothing.
use mathlib.Core.Path.{◌≡◌}
use mathlib.Core.List.{List}
use Prim.Native.Nat.{ℕ, ◌+◌, ◌*◌}
use lib.ListN.{set}
use Rattle.chain.specs.declared.Environment.{Environment}
use Rattle.chain.specs.declared.Registers.{Registers}
use Rattle.chain.specs.Code.StepParts.{PopReady, Poppable}
use Rattle.chain.proofs.OpenNotes.{noted, note_set}

-- a configuration that pops: its note, which was 0, is set, and the newest open one has another
pub own_pops :
    {E : Environment} {r : Registers} {p row : ℕ} {ns ws : List ℕ} → Poppable E r p ns ws → row ≡ r.at.head * E.sizes.symbols →
    PopReady E r.at r.number row p r.at.head r.depth (set ns r.number (r.number + 2)) ws
own_pops {E} {r} {ns = ns} {ws = ws} y f =
    record {
      terminator = y.own;
      row_is = f;
      state_low = y.state_low;
      head_below = y.own.below.head_below;
      newest = λ some. note_set r.number (r.number + 2) (λ e. noted (y.newest some) (rw e y.unseen)) (y.newest some);
    }
