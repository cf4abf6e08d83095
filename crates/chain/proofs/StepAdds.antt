-- What one step adds: to the readings as much as to the nonzero notes, one at most, and which note turns. Assumes nothing.
use mathlib.Core.Path.{◌≡◌, refl, sym, ◌∙◌, subst}
use mathlib.Core.Bool.{Bool, true, false, cond}
use mathlib.Core.List.{List, [], ◌∷◌}
use Prim.Native.Nat.{ℕ, zero, suc, ◌+◌, ◌/◌, ◌%◌, ◌<◌, ◌≤◌}
use native.Mathlib.Omega.{arith}
use lib.Dec.{leb, eqb}
use lib.ListN.{length, get_or, set}
use lib.Seq.{get_or-set_same, get_or-set_other}
use Rattle.machine.specs.declared.Config.{Config}
use Rattle.machine.specs.declared.Action.{Action}
use Rattle.machine.specs.declared.Action.TheVariants.{Stop, Change, Push, Pop}
use Rattle.machine.specs.declared.Note.{Note}
use Rattle.machine.specs.declared.Note.TheVariants.{Unseen, Open, Closed}
use Rattle.machine.specs.declared.Verdict.{Verdict}
use Rattle.machine.specs.Run.{Machine, how_many}
use Rattle.image.specs.Image.{machine}
use Rattle.machine.specs.Verdicts.{note_of, nonzero}
use Rattle.machine.proofs.RightNotes.{zero_unseen}
use Rattle.machine.proofs.Nonzero.{nonzero_set_new, nonzero_set_old}
use Rattle.chain.specs.declared.Mode.{Mode}
use Rattle.chain.specs.declared.Mode.TheVariants.{Look, Unwind, Clear, Done}
use Rattle.chain.specs.declared.Environment.{Environment}
use Rattle.chain.specs.declared.Registers.{Registers}
use Rattle.chain.specs.Cells.{open_bit, open_note, cell_note}
use Rattle.chain.specs.Step.{ProgramState, with_cells, registers_of, resumed, closed, with_reading, first_look, look, unwound, unwind, cleared, clear, step_by_mode, judge_step}
use Rattle.chain.specs.Code.Ready.{OpenFor, Ready, StepSays}
use Rattle.chain.specs.Chain.{SameZero, NewlyNoted, none_noted, one_noted}
use Rattle.chain.specs.Code.StepParts.{Lookable, StepsBy, Unwindable, Clearable, Clears}
use Rattle.chain.proofs.OpenNotes.{noted}
use Rattle.chain.proofs.StepSafe.{number_low}

-- a note that says unseen is 0, and an open note is not
pub cell_unseen : {v : ℕ} → cell_note v ≡ Unseen → v ≡ 0
unfolding cell_note
cell_unseen {v} e = go (leb open_bit v) e
  where
    go : (x : Bool) → cond x Open (note_of v) ≡ Unseen → v ≡ 0
    go true h = absurd (let z : ◌≡◌ {A = ℕ} 0 1 = cc in omega arith)
    go false h = zero_unseen h

pub open_seen : {v : ℕ} (c : Config) (b : Bool) → v ≡ open_note c b → v ≡ 0 → ⊥
open_seen c b e z = omega arith

-- the readings of each record that a step makes
resumed_reads :
    (E : Environment) (r : Registers) (d : Config) (a : Action) (i t : ℕ) (ws : List ℕ) → (resumed E r d a i t ws).readings ≡ r.readings
unfolding resumed
resumed_reads E r d (Stop why) i t ws = refl
resumed_reads E r d (Change c) i t ws = refl
resumed_reads E r d (Push c) i t ws = refl
resumed_reads E r d (Pop p b) i t ws = go (eqb t 0) _ _ refl refl
  where
    go : (x : Bool) (a b : Registers) → a.readings ≡ r.readings → b.readings ≡ r.readings → (cond x a b).readings ≡ r.readings
    go true a b e f = e
    go false a b e f = f

pub record Adds (n : ℕ) (r : Registers) (ns : List ℕ) (x : ProgramState Registers) : Type 0 where
  pub adds : x.state.readings + nonzero n ns ≡ r.readings + nonzero n x.notes
  pub one_more : x.state.readings ≤ suc r.readings
  pub newly_noted : NewlyNoted r.readings x.state.readings ns x.notes

same_zero : {a : ℕ} → SameZero a a
same_zero = ((λ z. z), (λ z. z))

-- a note that was not 0 and is not 0 now
stored_zero :
    (ns : List ℕ) (k v j : ℕ) → (get_or ns k 0 ≡ 0 → ⊥) → (v ≡ 0 → ⊥) → SameZero (get_or ns j 0) (get_or (set ns k v) j 0)
stored_zero [] k v j old new = same_zero
stored_zero (n ∷ ns) zero v zero old new = ((λ z. absurd (old z)), (λ z. absurd (new z)))
stored_zero (n ∷ ns) zero v (suc j) old new = same_zero
stored_zero (n ∷ ns) (suc k) v zero old new = same_zero
stored_zero (n ∷ ns) (suc k) v (suc j) old new = stored_zero ns k v j old new

-- nothing read and no note stored
none_read :
    {n : ℕ} {r : Registers} {ns : List ℕ} (x : Registers) (ws : List ℕ) → x.readings ≡ r.readings → Adds n r ns (with_cells x ns ws)
none_read x ws e = record { adds = rw e; one_more = omega arith; newly_noted = none_noted e (λ j. same_zero) }

-- nothing read: a note that was not 0 gets another value that is not
kept_read :
    {n : ℕ} {r : Registers} {ns : List ℕ} (x : Registers) (k v : ℕ) (ws : List ℕ) → x.readings ≡ r.readings →
    (get_or ns k 0 ≡ 0 → ⊥) → (v ≡ 0 → ⊥) → Adds n r ns (with_cells x (set ns k v) ws)
kept_read {n} {r} {ns} x k v ws e old new =
    record {
      adds = rw (e, nonzero_set_old n ns k v old new);
      one_more = omega arith;
      newly_noted = none_noted e (λ j. stored_zero ns k v j old new);
    }

-- a reading: the note that was 0 gets a value that is not
one_read :
    {n : ℕ} {r : Registers} {ns : List ℕ} (x : Registers) (k v : ℕ) (ws : List ℕ) → x.readings ≡ r.readings + 1 → k < n → length ns ≡ n →
    get_or ns k 0 ≡ 0 → (v ≡ 0 → ⊥) → Adds n r ns (with_cells x (set ns k v) ws)
one_read {n} {r} {ns} x k v ws e h l old new =
    let more : nonzero n (set ns k v) ≡ suc (nonzero n ns) = nonzero_set_new n ns k v h (omega arith) old new in
    record {
      adds = omega arith;
      one_more = omega arith;
      newly_noted = one_noted k (omega arith) old (λ z. new (sym (get_or-set_same ns k v 0 (omega arith)) ∙ z))
          (λ j f. rw (get_or-set_other ns k j v 0 f) same_zero);
    }

closed_reads : (E : Environment) (r : Registers) (d : Config) (a : Action) (ws : List ℕ) → (closed E r d a ws).readings ≡ r.readings
unfolding closed
closed_reads E r d a ws = go r.pushed
  where
    go :
        (b : Bool) →
        (cond b (resumed E r d a r.at.head r.depth ws) (registers_of E Unwind d false r.depth r.readings)).readings
        ≡ r.readings
    go true = resumed_reads E r d a _ _ ws
    go false = refl

-- a first look reads: a zero note turns nonzero
first_adds :
    (n : ℕ) (E : Environment) (r : Registers) (k : ℕ) (a : Action) (ns ws : List ℕ) → k < n → length ns ≡ n → get_or ns k 0 ≡ 0 →
    Adds n r ns (first_look E r k a ns ws)
unfolding first_look
first_adds n E r k (Stop why) ns ws h l e = one_read _ k _ _ refl h l e (open_seen r.at r.pushed refl)
first_adds n E r k (Change c) ns ws h l e = one_read _ k _ _ refl h l e (open_seen r.at r.pushed refl)
first_adds n E r k (Push c) ns ws h l e = one_read _ k _ _ refl h l e (open_seen r.at r.pushed refl)
first_adds n E r k (Pop p b) ns ws h l e =
    one_read _ k (k + 2) _ (closed_reads E (with_reading E r) r.at (Pop p b) ws) h l e (λ z. omega arith)

look_adds :
    (M : Machine) (n : ℕ) (E : Environment) (r : Registers) (k : ℕ) (v : Note) (ns ws : List ℕ) → k < n → length ns ≡ n →
    cell_note (get_or ns k 0) ≡ v → Adds n r ns (look M E r k v ns ws)
unfolding look
look_adds M n E r k Unseen ns ws h l e = first_adds n E r k (M.action r.at) ns ws h l (cell_unseen e)
look_adds M n E r k Open ns ws h l e = none_read _ _ refl
look_adds M n E r k (Closed j) ns ws h l e = none_read _ _ (closed_reads E r _ _ ws)

unwound_reads :
    (M : Machine) (E : Environment) (r : Registers) (k v t : ℕ) (ws : List ℕ) → (unwound M E r k v t ws).readings ≡ r.readings
unfolding unwound
unwound_reads M E r k v t ws = go (eqb (v % 2) 0)
  where
    go :
        (x : Bool) →
        (cond x (registers_of E Unwind r.at false t r.readings)
        (resumed E r r.at (M.action r.at) (k / E.sizes.symbols % E.sizes.places) t ws)
        ).readings
        ≡ r.readings
    go true = refl
    go false = resumed_reads E r _ _ _ _ ws

cleared_reads : (E : Environment) (r : Registers) (v : Verdict) (t : ℕ) → (cleared E r v t).readings ≡ r.readings
unfolding cleared
cleared_reads E r v t = go (eqb t 0)
  where
    go :
        (x : Bool) →
        (cond x (registers_of E (Done v) r.at false 0 r.readings) (registers_of E (Clear v) r.at false t r.readings)).readings
        ≡ r.readings
    go true = refl
    go false = refl

-- each mode
pub step_adds :
    {bs cs : List ℕ} {E : Environment} {r : Registers} {ns ws : List ℕ} → Ready bs cs E r ns ws → (m : Mode) → OpenFor m r.depth ns →
    Adds (how_many (machine bs cs)) r ns (step_by_mode m (machine bs cs) E r ns ws)
unfolding step_by_mode unwind clear
step_adds {bs} {cs} {E} {r} {ns} {ws} y Look o =
    look_adds (machine bs cs) _ E r _ _ ns ws
    (number_low y.unrefused y.environment_is y.there) y.notes_long refl
step_adds {bs} {cs} {E} {r} {ns} y Unwind o =
    kept_read _ _ _ _ (unwound_reads _ E r _ _ _ _) (noted (y.newest o)) (λ z. omega arith)
step_adds {E = E} {r = r} y (Clear v) o = kept_read _ _ _ _ (cleared_reads E r v _) (noted (y.newest o)) (λ z. omega arith)
step_adds y (Done v) o = none_read _ _ refl

-- a step that is its mode's
pub says_by :
    {bs cs : List ℕ} {E : Environment} {r x : Registers} {ns ns' ws ws' : List ℕ} → Ready bs cs E r ns ws → {m : Mode} → r.mode ≡ m →
    StepsBy m bs cs E r x ns ns' ws ws' → StepSays bs cs E r x ns ns' ws ws'
unfolding judge_step
says_by {bs} {cs} {E} {r} {x} {ns} {ns'} {ws} {ws'} y {m} e f =
    let a : Adds (how_many (machine bs cs)) r ns (with_cells x ns' ws') =
    rw f.is (step_adds y m (subst (λ (k : Mode). OpenFor k r.depth ns) e y.open_one))
    in
    record { is = f.is ∙ rw e; adds = a.adds; one_more = a.one_more; newly_noted = a.newly_noted }

-- what a mode's function asks, and a step that clears or does nothing
module _ {bs cs : List ℕ} {E : Environment} {r : Registers} {ns ws : List ℕ} (y : Ready bs cs E r ns ws) where
  open_now : {m : Mode} → r.mode ≡ m → OpenFor m r.depth ns
  open_now e = subst (λ (k : Mode). OpenFor k r.depth ns) e y.open_one

  pub look_ready : r.mode ≡ Look → Lookable bs cs E r ns ws
  look_ready e = record { ready = y; told = open_now e }

  pub unwind_ready : r.mode ≡ Unwind → Unwindable bs cs E r ns ws
  unwind_ready e = record { ready = y; one_open = open_now e }

  pub clear_ready : {v : Verdict} → r.mode ≡ Clear v → Clearable r ns ws
  clear_ready e =
      let n = y.newest (open_now e) in
      record { one_open = open_now e; work_there = n.work_there; note_there = n.note_there }

  pub clear_says :
      {v : Verdict} → r.mode ≡ Clear v → {x : Registers} {ns' ws' : List ℕ} →
      Clears r x v ns ns' ws ws' → StepSays bs cs E r x ns ns' ws ws'
  unfolding step_by_mode
  clear_says e f = says_by y e (record { is = f.is E y.number_is })

  pub done_says : {v : Verdict} → r.mode ≡ Done v → StepSays bs cs E r r ns ns ws ws
  unfolding step_by_mode
  done_says e = says_by y e (record { is = refl })
