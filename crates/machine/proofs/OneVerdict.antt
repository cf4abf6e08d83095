-- A run has one verdict at most, with one end configuration. Assumes nothing.
use mathlib.Core.Path.{◌≡◌, sym, ap, ◌∙◌}
use Prim.Native.Nat.{◌<◌}
use native.Mathlib.Decide.{dec_lt}
use native.Mathlib.Omega.{arith}
use Rattle.machine.specs.declared.Config.{Config}
use Rattle.machine.specs.declared.Verdict.{Verdict}
use Rattle.machine.specs.declared.Verdict.TheVariants.{Looping}
use Rattle.machine.specs.Terminating.{termination_verdict}
use Rattle.machine.specs.Run.{Machine, start, after, config_of}
use Rattle.machine.specs.Verdicts.{GoesOn, FirstAgain, Says, terminates, loops}
use Rattle.machine.proofs.Runs.{some_same}
use Rattle.machine.proofs.Terminates.{one_termination, no_termination}

-- the first configuration to come again is one
one_first : {M : Machine} {d e : Config} → FirstAgain M d → FirstAgain M e → d ≡ e
one_first {M} {d} {e} v w = go (dec_lt v.at_step w.at_step) (dec_lt w.at_step v.at_step)
  where
    go : Dec (v.at_step < w.at_step) → Dec (w.at_step < v.at_step) → d ≡ e
    go (yes l) b = absurd (w.first v.at_step l v.again)
    go (no a) (yes l) = absurd (v.first w.at_step l w.again)
    go (no a) (no b) =
        let same : v.at_step ≡ w.at_step = omega arith in
        let place = some_same (after w.at_step M start) (rw same at v.again.is) w.again.is in
        sym v.is ∙ ap config_of place ∙ w.is

pub one_verdict : (M : Machine) (v w : Verdict) (d e : Config) → Says M v d → Says M w e → (v ≡ w) × (d ≡ e)
one_verdict M v w d e (terminates h p) (terminates k q) =
    let both = one_termination h k in
    (p ∙ ap termination_verdict both.1 ∙ sym q, both.0)
one_verdict M v w d e (terminates h p) (loops on first q) = absurd (no_termination on h)
one_verdict M v w d e (loops on first p) (terminates k q) = absurd (no_termination on k)
one_verdict M v w d e (loops on first p) (loops also second q) = (p ∙ sym q, one_first first second)

-- a run that goes on has no verdict but looping
pub goes_on_loops : (M : Machine) (v : Verdict) (d : Config) → Says M v d → GoesOn M → v ≡ Looping
goes_on_loops M v d (terminates h p) on = absurd (no_termination on h)
goes_on_loops M v d (loops also first p) on = p
