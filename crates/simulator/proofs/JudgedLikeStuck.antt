-- Judging by an image, and by the same one with missing rules for its halting ones: answers and cells differ in the verdict alone, stuck for halted. Assumes nothing.
use Rattle.std.specs.Prelude.{Ok}
use mathlib.Core.Path.{◌≡◌, sym, ap, subst, ◌∙◌}
use mathlib.Core.List.{List}
use Prim.Native.Nat.{ℕ, ◌<◌}
use lib.ListN.{take}
use Rattle.codec.specs.Bytes.{byte}
use Rattle.machine.specs.declared.Config.{Config}
use Rattle.machine.specs.declared.Verdict.{Verdict}
use Rattle.machine.specs.Run.{Machine, how_many}
use Rattle.machine.specs.Verdicts.{Says, Noted, AllEntered}
use Rattle.machine.specs.LikeStuck.{without_halting, stuck_for_halted}
use Rattle.machine.proofs.HaltsLikeStuck.{halts_like_stuck, says_without}
use Rattle.machine.proofs.Listing.{one_count}
use Rattle.machine.proofs.OneVerdict.{one_verdict}
use Rattle.machine.proofs.Reach.{entered_there}
use Rattle.machine.proofs.RightNotes.{one_notes}
use Rattle.image.specs.Image.{machine}
use Rattle.image.specs.WithoutHalting.{MissingForHalting}
use Rattle.image.proofs.HaltingMissing.{machine_missing}
use Rattle.image.proofs.Inside.{inside}
use Rattle.simulator.specs.Calls.{judgement, JudgeSays}
use Rattle.simulator.proofs.Answered.{answered}
use Rattle.simulator.proofs.JudgingRight.{readings_entered, first_notes, work_cleared, verdict_said}

module _
    (bs zs cs a a_now b b_now x x_now y y_now : List ℕ) (v w : Verdict) (n m : ℕ) (d e : Config) (bytes : (i : ℕ) → byte cs i < 256)
    (missing : MissingForHalting bs zs) (says : JudgeSays bs cs (Ok (judgement v n d)) a a_now b b_now)
    (other : JudgeSays zs cs (Ok (judgement w m e)) x x_now y y_now)
  where
    same : without_halting (machine bs cs) ≡ machine zs cs
    same = sym (machine_missing bs zs cs missing bytes)

    as_many : how_many (machine bs cs) ≡ how_many (machine zs cs)
    unfolding without_halting how_many
    as_many = ap how_many same

    verdicts : (stuck_for_halted v ≡ w) × (d ≡ e)
    verdicts =
        one_verdict (machine zs cs) (stuck_for_halted v) w d e
        (subst (λ (M : Machine). Says M (stuck_for_halted v) d) same (says_without (machine bs cs) v d (verdict_said bs cs a a_now b b_now v n d bytes says)))
        (verdict_said zs cs x x_now y y_now w m e bytes other)

    readings : n ≡ m
    readings =
        one_count (machine zs cs) (entered_there (inside zs cs (answered zs cs x x_now y y_now w m e bytes other).unrefused))
        (subst (λ (M : Machine). AllEntered M n) same (((halts_like_stuck (machine bs cs)).readings n).0 (readings_entered bs cs a a_now b b_now v n d bytes says)))
        (readings_entered zs cs x x_now y y_now w m e bytes other)

    notes : take (how_many (machine bs cs)) a_now ≡ take (how_many (machine bs cs)) x_now
    notes =
        let f = (answered bs cs a a_now b b_now v n d bytes says).right in
        let g = (answered zs cs x x_now y y_now w m e bytes other).right in
        let noted : Noted (machine zs cs) f.notes =
        subst (λ (M : Machine). Noted M f.notes) same (((halts_like_stuck (machine bs cs)).notes f.notes).0 f.right.noted) in
        let one : f.notes ≡ g.notes =
        one_notes (machine zs cs) f.notes g.notes noted g.right.noted (f.right.noted_cells ∙ as_many) g.right.noted_cells in
        first_notes bs cs a a_now b b_now v n d bytes says ∙ one
        ∙ sym (rw (sym as_many) at (first_notes zs cs x x_now y y_now w m e bytes other))

    work : take (how_many (machine bs cs)) b_now ≡ take (how_many (machine bs cs)) y_now
    work =
        work_cleared bs cs a a_now b b_now v n d bytes says
        ∙ sym (rw (sym as_many) at (work_cleared zs cs x x_now y y_now w m e bytes other))

    pub judged_like_stuck :
        (w ≡ stuck_for_halted v) × (m ≡ n) × (e ≡ d) × (take (how_many (machine bs cs)) x_now ≡ take (how_many (machine bs cs)) a_now)
        × (take (how_many (machine bs cs)) y_now ≡ take (how_many (machine bs cs)) b_now)
    judged_like_stuck = (sym verdicts.0, sym readings, sym verdicts.1, sym notes, sym work)
