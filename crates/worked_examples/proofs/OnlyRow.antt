-- Of one source and capture only one row holds: verdict, end, readings and steps are those of one run. Assumes nothing.
use mathlib.Core.Path.{◌≡◌, refl, sym, ap, subst, ◌∙◌}
use mathlib.Core.List.{List}
use mathlib.Core.Option.{Option, none, some}
use Prim.Native.Nat.{ℕ}
use native.Mathlib.Omega.{arith}
use Rattle.machine.specs.declared.Config.{Config}
use Rattle.machine.specs.declared.Verdict.{Verdict}
use Rattle.machine.specs.declared.Termination.{Termination}
use Rattle.machine.specs.Run.{Machine, start}
use Rattle.machine.specs.Verdicts.{Says, TerminatesAt, AllEntered}
use Rattle.machine.proofs.Runs.{terminates_once}
use Rattle.machine.proofs.Terminates.{at_termination, one_termination, no_termination}
use Rattle.machine.proofs.OneVerdict.{one_verdict}
use Rattle.machine.proofs.Reach.{entered_there}
use Rattle.machine.proofs.Listing.{one_count}
use Rattle.image.specs.Image.{machine}
use Rattle.image.proofs.Inside.{inside}
use Rattle.interpreter.specs.declared.Exit.TheVariants.{Terminated}
use Rattle.interpreter.specs.PlainRun.{ExitsAs, last_pop}
use Rattle.worked_examples.specs.Examples.{Source, Row, row, RowHolds, Takes, StepsAre, image_of, row_machine}

-- THE STEPS: a run that takes so many terminates,
unfoldable takes_terminates : {M : Machine} {v : Verdict} {n : ℕ} {d : Config} (t : Takes M v n d) → TerminatesAt M d t.termination
unfolding ExitsAs
takes_terminates t =
    let e = t.true_end in
    record { steps = e.before; place = e.place; reached = e.comes; is = e.is; last = e.exits }

-- once, so that they are as many
takes_once : {M : Machine} {v w : Verdict} {n m : ℕ} {d e : Config} → Takes M v n d → Takes M w m e → n ≡ m
unfolding takes_terminates
takes_once {M} t u =
    let p = takes_terminates t in
    let q = takes_terminates u in
    let same : t.true_end.before ≡ u.true_end.before = (terminates_once M p.steps q.steps start p.reached (at_termination p) q.reached (at_termination q)).0 in
    let last : last_pop (Terminated t.termination) ≡ last_pop (Terminated u.termination) = ap (λ (h : Termination). last_pop (Terminated h)) (one_termination p q).1 in
    omega (arith, t.true_end.counted, u.true_end.counted)

steps_once : (M : Machine) (v w : Verdict) (d e : Config) (a b : Option ℕ) → StepsAre a M v d → StepsAre b M w e → a ≡ b
unfolding StepsAre
steps_once M v w d e none none on also = refl
steps_once M v w d e none (some m) on u = absurd (no_termination on (takes_terminates u))
steps_once M v w d e (some n) none t on = absurd (no_termination on (takes_terminates t))
steps_once M v w d e (some n) (some m) t u = ap some (takes_once t u)

-- THE ROW
pub only_row : (r s : Row) → r.source ≡ s.source → r.capture ≡ s.capture → RowHolds r → RowHolds s → r ≡ s
unfolding row_machine
only_row r s p q h k =
    let same : machine (image_of s.source) s.capture ≡ machine (image_of r.source) r.capture =
    ap (λ (x : Source). machine (image_of x) s.capture) (sym p) ∙ ap (λ (c : List ℕ). machine (image_of r.source) c) (sym q) in
    let (verdict, end) =
    one_verdict _ r.verdict s.verdict r.end s.end h.says (subst (λ (M : Machine). Says M s.verdict s.end) same k.says) in
    let readings =
    one_count (machine (image_of r.source) r.capture) (entered_there (inside _ _ h.unrefused)) h.entered
    (subst (λ (M : Machine). AllEntered M s.readings) same k.entered) in
    let steps = steps_once _ _ _ _ _ r.steps s.steps h.steps_are (subst (λ (M : Machine). StepsAre s.steps M s.verdict s.end) same k.steps_are) in
    let rows : row r.source r.capture r.verdict r.readings r.end r.steps ≡ row s.source s.capture s.verdict s.readings s.end s.steps = cc in
    rows
