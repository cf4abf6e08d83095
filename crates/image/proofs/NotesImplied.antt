-- One statement a cell implies document 03's three implications. Assumes nothing.
use mathlib.Core.Path.{◌≡◌}
use mathlib.Core.List.{List}
use Prim.Native.Nat.{ℕ, ◌+◌}
use lib.ListN.{get_or}
use Rattle.machine.specs.declared.Config.{Config}
use Rattle.machine.specs.Run.{Machine, ValidConfig, number}
use Rattle.image.specs.Image.{machine}
use Rattle.machine.specs.Verdicts.{Entered, EndsAt, NoEnd, Noted}
use Rattle.machine.specs.Implications.{NotedByImplication}
use Rattle.image.specs.Refusals.{Unrefused}
use Rattle.image.proofs.Inside.{inside}
use Rattle.machine.proofs.RightNotes.{never_only, unended_only, ended_only}
use Rattle.machine.proofs.Reach.{entered_there}

-- OF ANY MACHINE, for its own configurations
module _ (M : Machine) (notes : List ℕ) (noted : Noted M notes) where
  pub noted_never : (c : Config) → (Entered M c → ⊥) → ValidConfig M c → get_or notes (number M c) 0 ≡ 0
  noted_never c out there = never_only (noted c there) out

  pub noted_open_end : (c : Config) → ValidConfig M c → Entered M c → NoEnd M c → get_or notes (number M c) 0 ≡ 1
  noted_open_end c there entered endless = unended_only (noted c there) entered endless

  pub noted_ended :
      (c d : Config) → ValidConfig M c → Entered M c → EndsAt M c d → get_or notes (number M c) 0 ≡ 2 + number M d
  noted_ended c d there entered ends = ended_only (noted c there) entered ends

-- of an image and a capture that are not refused: what is entered is a configuration of theirs
pub noted_implies :
    (bs cs notes : List ℕ) → Unrefused bs cs → Noted (machine bs cs) notes → NotedByImplication (machine bs cs) notes
noted_implies bs cs notes unrefused noted =
    record {
      never = noted_never M notes noted;
      open_end = λ c entered. noted_open_end M notes noted c (there c entered) entered;
      ended = λ c d entered. noted_ended M notes noted c d (there c entered) entered;
    }
  where
    M : Machine
    M = machine bs cs

    there : (c : Config) → Entered M c → ValidConfig M c
    there = entered_there (inside bs cs unrefused)
