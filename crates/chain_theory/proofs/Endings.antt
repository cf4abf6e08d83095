-- How a run ends that follows a path of open configurations: over, stuck or never. In each case every configuration entered has P, and the open ones have no end. Assumes nothing.
use mathlib.Core.Path.{◌≡◌, sym, subst, ◌∙◌, ap}
use mathlib.Core.Bool.{Bool}
use mathlib.Core.List.{List, [], ◌∷◌}
use mathlib.Core.Option.{some}
use Prim.Native.Nat.{ℕ, suc, ◌-◌, ◌<◌, ◌≤◌}
use native.Mathlib.Omega.{arith}
use native.Mathlib.Decide.{dec_lt, dec_le, ℕ_discrete}
use Rattle.machine.specs.declared.Config.{Config}
use Rattle.machine.specs.declared.Reason.{Reason}
use Rattle.machine.specs.declared.Termination.TheVariants.{Over, Stopped}
use Rattle.machine.specs.declared.Action.TheVariants.{Stop, Pop}
use Rattle.machine.specs.Run.{Machine, Entry, Outcome, stopped, over, step, after, start, returned, config, config_of}
use Rattle.machine.specs.Verdicts.{over_base, Entered, NoEnd, TerminatesAt, GoesOn}
use Rattle.machine.proofs.Terminates.{termination_stopped, termination_over}
use Rattle.machine.proofs.Runs.{some_same, not_none, config_over, step_stop, step_pop_last, terminated_stopped, terminated_over, terminates_once, terminated_no_more}
use Rattle.machine.proofs.Ends.{Ends, count, ends_reach, ends_inside}
use Rattle.chain_theory.proofs.Travel.{Visit, Arrival, Travels, travels_none, visit_later, forever}
use Rattle.chain_theory.proofs.Path.{Open, open_as, Among, here, later, Path, path_steps, path_travels, path_along, Along}

module _ {M : Machine} {P : Config → Type 0} where
  -- a visit at the step at which a configuration is entered
  visited : {c : Config} {base : List Entry} (e : Entered M c) → Visit M P e.steps start base → P c
  visited e v =
      let same : v.place ≡ e.place = some_same (after e.steps M start) v.reached e.reached in
      subst P (ap config_of same ∙ e.is) v.holds

  pub path_entered : {os : List Open} {c : Config} {f : Bool} (p : Path M P os c f) → ((d : Config) → Among d os → P d) → Entered M c
  unfolding start
  path_entered {c = c} p h =
      let to = path_travels p h 0 [] in
      record { steps = path_steps p; place = over_base c to.pointer to.ground; reached = to.reached; is = config_over c to.pointer to.ground }

  -- OVER: the start's entry is removed from d
  pub over_at : {d : Config} {p : ℕ} {r : Bool} → Ends M P (config 0 0 0) d → M.action d ≡ Pop p r → (t : Bool) → M.accepting p (returned r 0 d.head) ≡ t →
      TerminatesAt M d (Over t)
  unfolding start
  over_at {d} x a t e =
      record { steps = count x; place = over_base d 0 []; reached = ends_reach x 0 []; is = config_over d 0 []; last = termination_over M (over_base d 0 []) (step_pop_last M d 0 a) e }

  pub over_complete : {c d : Config} {p : ℕ} {r : Bool} → Ends M P (config 0 0 0) d → M.action d ≡ Pop p r → Entered M c → P c
  unfolding start
  over_complete {c} {d} x a e = go (dec_le e.steps (count x))
    where
      go : Dec (e.steps ≤ count x) → P c
      go (yes l) =
          let (y, at_y, holds, high, rest) = ends_inside x 0 [] e.steps l in
          visited {base = []} e (record { place = y; reached = at_y; holds = holds; above = high })
      go (no l) =
          let terminates = terminated_over M (over_base d 0 []) (step_pop_last M d 0 a) in
          absurd (not_none (after e.steps M start) e.reached (terminated_no_more M (count x) e.steps start (ends_reach x 0 []) terminates (omega arith)))

  -- STUCK
  pub stuck_at :
      {os : List Open} {c : Config} {f : Bool} {r : Reason} (p : Path M P os c f) → ((d : Config) → Among d os → P d) → M.action c ≡ Stop r → TerminatesAt M c (Stopped r)
  unfolding start
  stuck_at {c = c} p h a =
      let to = path_travels p h 0 [] in
      record {
        steps = path_steps p;
        place = over_base c to.pointer to.ground;
        reached = to.reached;
        is = config_over c to.pointer to.ground;
        last = termination_stopped M (over_base c to.pointer to.ground) (step_stop M c to.pointer to.ground a);
      }

  pub stuck_complete :
      {os : List Open} {c d : Config} {f : Bool} {r : Reason} (p : Path M P os c f) → ((d : Config) → Among d os → P d) → P c →
      M.action c ≡ Stop r → Entered M d → P d
  unfolding start
  stuck_complete {c = c} {d = d} p h holds a e = go (dec_lt e.steps (path_steps p)) (ℕ_discrete e.steps (path_steps p))
    where
      to : Arrival M P (path_steps p) (over_base (config 0 0 0) 0 []) [] c
      to = path_travels p h 0 []

      go : Dec (e.steps < path_steps p) → Dec (e.steps ≡ path_steps p) → P d
      go (yes l) q = visited e (to.visits e.steps l)
      go (no l) (yes q) =
          let same : over_base c to.pointer to.ground ≡ e.place =
          some_same (after (path_steps p) M start) to.reached (subst (λ (n : ℕ). after n M start ≡ some e.place) q e.reached) in
          subst P (sym (config_over c to.pointer to.ground) ∙ ap config_of same ∙ e.is) holds
      go (no l) (no q) =
          let terminates = terminated_stopped M (over_base c to.pointer to.ground) (step_stop M c to.pointer to.ground a) in
          absurd (not_none (after e.steps M start) e.reached (terminated_no_more M (path_steps p) e.steps start to.reached terminates (omega arith)))

  stuck_from : {c e : Config} {r : Reason} (n : ℕ) → Travels M P n c e → M.action e ≡ Stop r → NoEnd M c
  stuck_from {c} {e} {r} n t a d x =
      let to = t 0 [] in
      let stops = step_stop M e to.pointer to.ground a in
      let (p, i, ends) = x.gone in
      let (same_steps, same) =
      terminates_once M n x.steps (over_base c 0 []) to.reached (terminated_stopped M (over_base e to.pointer to.ground) stops) x.reached (terminated_over M x.place ends) in
      let clash : ◌≡◌ {A = Outcome} (stopped r) (over p i) = sym stops ∙ ap (step M) same ∙ ends in
      let z : ◌≡◌ {A = ℕ} 0 1 = cc in
      omega arith

  pub stuck_no_end :
      {os : List Open} {c d : Config} {f : Bool} {r : Reason} (p : Path M P os c f) → ((d : Config) → Among d os → P d) →
      M.action c ≡ Stop r → Among d (open_as c f ∷ os) →
      NoEnd M d
  stuck_no_end p h a here = stuck_from 0 travels_none a
  stuck_no_end p h a (later i) = let way = path_along p h i in stuck_from way.more way.from a

  -- LOOPING: the configuration looked at is open
  loop_visit :
      {os : List Open} {c : Config} {f : Bool} (p : Path M P os c f) → ((d : Config) → Among d os → P d) → Among c os → (k : ℕ) → Visit M P k start []
  unfolding start
  loop_visit {c = c} p h a k = go (dec_lt k way.before)
    where
      way : Along M P c c (path_steps p)
      way = path_along p h a

      to : Arrival M P way.before (over_base (config 0 0 0) 0 []) [] c
      to = way.to 0 []

      go : Dec (k < way.before) → Visit M P k (over_base (config 0 0 0) 0 []) []
      go (yes l) = to.visits k l
      go (no l) =
          let bk : way.before ≤ k = omega arith in
          visit_later (over_base (config 0 0 0) 0 []) [] to.ground way.before k to.reached to.higher bk
          (forever way.forward way.from (k - way.before) to.pointer to.ground)

  pub loop_goes_on : {os : List Open} {c : Config} {f : Bool} (p : Path M P os c f) → ((d : Config) → Among d os → P d) → Among c os → GoesOn M
  loop_goes_on p h a n = let v = loop_visit p h a n in (v.place, v.reached)

  pub loop_complete :
      {os : List Open} {c d : Config} {f : Bool} (p : Path M P os c f) → ((d : Config) → Among d os → P d) → Among c os → Entered M d → P d
  loop_complete p h a e = visited e (loop_visit p h a e.steps)

  pub loop_no_end :
      {os : List Open} {c d : Config} {f : Bool} (p : Path M P os c f) → ((d : Config) → Among d os → P d) → Among c os → Among d os → NoEnd M d
  loop_no_end {c = c} {d = d} p h a b g x = clash (visit (suc x.steps))
    where
      way : Along M P d c (path_steps p)
      way = path_along p h b

      round : Along M P c c (path_steps p)
      round = path_along p h a

      to : Arrival M P way.more (over_base d 0 []) [] c
      to = way.from 0 []

      visit : (k : ℕ) → Visit M P k (over_base d 0 []) []
      visit k = go (dec_lt k way.more)
        where
          go : Dec (k < way.more) → Visit M P k (over_base d 0 []) []
          go (yes l) = to.visits k l
          go (no l) =
              let bk : way.more ≤ k = omega arith in
              visit_later (over_base d 0 []) [] to.ground way.more k to.reached to.higher bk
              (forever round.forward round.from (k - way.more) to.pointer to.ground)

      clash : Visit M P (suc x.steps) (over_base d 0 []) [] → ⊥
      clash v =
          let (p, i, ends) = x.gone in
          not_none (after (suc x.steps) M (over_base d 0 [])) v.reached
          (terminated_no_more M x.steps (suc x.steps) (over_base d 0 []) x.reached (terminated_over M x.place ends) (omega arith))
