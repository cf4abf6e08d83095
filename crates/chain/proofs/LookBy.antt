-- What the code's look comes to, by the note that it finds: the step's definition on lists. The code tests the cell; the definition goes by the note. Assumes nothing.
use mathlib.Core.Path.{◌≡◌, refl, ap}
use mathlib.Core.List.{List}
use Prim.Native.Nat.{ℕ, zero, suc, ◌-◌, ◌<◌, ◌≤◌}
use native.Mathlib.Omega.{arith}
use lib.ListN.{get_or}
use Rattle.machine.specs.declared.Config.{Config}
use Rattle.machine.specs.declared.Action.{Action}
use Rattle.machine.specs.declared.Note.{Note}
use Rattle.machine.specs.declared.Note.TheVariants.{Unseen, Open, Closed}
use Rattle.machine.specs.declared.Verdict.TheVariants.{Looping}
use Rattle.image.specs.Image.{action, machine}
use Rattle.machine.specs.Verdicts.{note_of}
use borrow.Author.Tests.{le-leb, lt-leb}
use Rattle.chain.specs.declared.Mode.TheVariants.{Look, Clear}
use Rattle.chain.specs.declared.Environment.{Environment}
use Rattle.chain.specs.declared.Registers.{Registers}
use Rattle.chain.specs.Cells.{open_bit, cell_note}
use Rattle.chain.specs.Step.{with_cells, number_in, config_in, closed, look, step_by_mode}
use Rattle.chain.specs.Code.StepParts.{registers_with, FirstLooks, StepsBy}

-- the note by the tests of its cell
pub note_unseen : {v : ℕ} → v ≡ 0 → cell_note v ≡ Unseen
unfolding cell_note note_of
note_unseen e = rw e refl

pub note_open : (v : ℕ) → open_bit ≤ v → cell_note v ≡ Open
unfolding cell_note
note_open v h = simp (le-leb open_bit v h)

pub note_closed : (v : ℕ) → (v ≡ 0 → ⊥) → (v ≡ 1 → ⊥) → v < open_bit → cell_note v ≡ Closed (v - 2)
unfolding cell_note note_of
note_closed v a b h = simp (lt-leb open_bit v h) (go v a b)
  where
    go : (v : ℕ) → (v ≡ 0 → ⊥) → (v ≡ 1 → ⊥) → note_of v ≡ Closed (v - 2)
    go zero a b = absurd (a refl)
    go (suc zero) a b = absurd (b refl)
    go (suc (suc k)) a b = let e : k ≡ suc (suc k) - 2 = omega arith in ap Closed e

pub closed_least : (v : ℕ) → (v ≡ 0 → ⊥) → (v ≡ 1 → ⊥) → 2 ≤ v
closed_least v a b = omega arith

module _ {bs cs : List ℕ} {E : Environment} {r x : Registers} {ns ns' ws ws' : List ℕ} (number_is : r.number ≡ number_in E r.at) where
  by_note :
      {v : Note} → cell_note (get_or ns r.number 0) ≡ v → with_cells x ns' ws' ≡ look (machine bs cs) E r r.number v ns ws →
      StepsBy Look bs cs E r x ns ns' ws ws'
  unfolding step_by_mode
  by_note e f = record { is = rw (← number_is, e) f }

  pub look_unseen :
      cell_note (get_or ns r.number 0) ≡ Unseen → {a : Action} → a ≡ action bs cs r.at → FirstLooks E r a x ns ns' ws ws' →
      StepsBy Look bs cs E r x ns ns' ws ws'
  unfolding look machine
  look_unseen e f s = by_note e (rw (← f) s.is)

module _ {bs cs : List ℕ} {E : Environment} {r x : Registers} {ns ws : List ℕ} (number_is : r.number ≡ number_in E r.at) where
  pub look_open :
      cell_note (get_or ns r.number 0) ≡ Open → x ≡ registers_with (Clear Looping) r.at r.number r.pushed r.depth r.readings →
      StepsBy Look bs cs E r x ns ns ws ws
  unfolding look
  look_open e f = by_note number_is e (rw (f, number_is))

  pub look_closed :
      {j : ℕ} → cell_note (get_or ns r.number 0) ≡ Closed j → {d : Config} → d ≡ config_in E j → x ≡ closed E r d ((machine bs cs).action d) ws →
      StepsBy Look bs cs E r x ns ns ws ws
  unfolding look
  look_closed e q f = by_note number_is e (rw (f, q))
