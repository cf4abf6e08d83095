-- What the code's steps need: the head after a pop, and when a run that is over accepts. Assumes nothing.
use mathlib.Core.Path.{◌≡◌, refl}
use mathlib.Core.Bool.{Bool, true, false}
use mathlib.Core.List.{List}
use Prim.Native.Nat.{ℕ, ◌<◌}
use Rattle.image.specs.declared.Sizes.{Sizes}
use Rattle.image.specs.Format
use Rattle.machine.specs.Terminating.{accepts_by}
use Rattle.machine.specs.Run.{returned}
use Rattle.codec.specs.Numbers.{u32_at}
use Rattle.image.specs.Image.{sizes_of, accepting, machine}

-- the head after a pop is on the tape
pub returned_below : (t : Bool) (i j r k : ℕ) → r ≡ returned t i j → i < k → j < k → r < k
returned_below true i j r k e h g = rw e h
returned_below false i j r k e h g = rw e g

-- the image's finals and the count of places accept as the machine does
pub accepts_as :
    (bs cs : List ℕ) (finals : ℕ) (z : Sizes) → finals ≡ u32_at bs Format.finals_offset → z ≡ sizes_of bs cs →
    accepts_by finals z.places ≡ (machine bs cs).accepting
unfolding machine accepting sizes_of
accepts_as bs cs finals z e f = rw (e, f) refl
