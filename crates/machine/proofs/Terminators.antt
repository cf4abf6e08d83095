-- A configuration has one terminator, whatever its entry's pointer is and whatever lies below it. Assumes nothing.
use mathlib.Core.Path.{◌≡◌, refl, sym, ap, ◌∙◌, subst}
use mathlib.Core.Bool.{Bool}
use mathlib.Core.List.{List, [], ◌∷◌}
use mathlib.Core.Option.{some}
use mathlib.Core.Logic.{inl, inr}
use Prim.Native.Nat.{ℕ, suc, ◌+◌, ◌-◌, ◌<◌, ◌≤◌}
use native.Mathlib.Decide.{dec_lt}
use native.Mathlib.Omega.{arith}
use lib.ListN.{length}
use Rattle.machine.specs.declared.Config.{Config}
use Rattle.machine.specs.declared.Action.{Action}
use Rattle.machine.specs.declared.Action.TheVariants.{Stop, Change, Push, Pop}
use Rattle.machine.specs.Run.{Machine, Entry, Description, description, over, next, returned, step_by, step_on, step, start, after, top, config, config_of}
use Rattle.machine.specs.Verdicts.{over_base, EndsWith, EndsAt}
use Rattle.machine.specs.Removal.{Removed}
use Rattle.machine.proofs.Runs.{after_then, after_last, after_before, after_rest, config_over, step_pop, step_pop_last, terminated_over, terminates_once, some_same}
use Rattle.machine.proofs.Ends.{Ends, count, ends_reach, ends_pops, ends_inside, ends_at}
use Rattle.machine.proofs.Kept.{Any, Within, ends_or_kept}

-- THE LAST STEP: a pop of the only entry, to state p
pub record PoppedLast (M : Machine) (x : Description) (p : ℕ) : Type 0 where
  pub returns : Bool
  pub action_is : M.action (config_of x) ≡ Pop p returns
  pub one_left : length x.stack ≡ 1

over_state : {p i q j : ℕ} → over p i ≡ over q j → p ≡ q
over_state e = cc

over_by :
    (M : Machine) (p i : ℕ) (a : Action) (e : Entry) (es : List Entry) {q j : ℕ} → M.action (config p i e.symbol) ≡ a →
    step_by a i e es ≡ over q j → PoppedLast M (description p i (e ∷ es)) q
unfolding step_by config_of top
over_by M p i (Stop r) e es h k = let z : ◌≡◌ {A = ℕ} 0 1 = cc in absurd (omega arith)
over_by M p i (Change c) e es h k = let z : ◌≡◌ {A = ℕ} 0 1 = cc in absurd (omega arith)
over_by M p i (Push c) e es h k = let z : ◌≡◌ {A = ℕ} 0 1 = cc in absurd (omega arith)
over_by M p i (Pop s r) e [] h k = record { returns = r; action_is = h ∙ ap (λ (t : ℕ). Pop t r) (over_state k); one_left = refl }
over_by M p i (Pop s r) e (f ∷ es) h k = let z : ◌≡◌ {A = ℕ} 0 1 = cc in absurd (omega arith)

over_on : (M : Machine) (p i : ℕ) (es : List Entry) {q j : ℕ} → step_on M p i es ≡ over q j → PoppedLast M (description p i es) q
unfolding step_on
over_on M p i [] h = let z : ◌≡◌ {A = ℕ} 0 1 = cc in absurd (omega arith)
over_on M p i (e ∷ es) h = over_by M p i (M.action (config p i e.symbol)) e es refl h

pub over_from : (M : Machine) (x : Description) {q j : ℕ} → step M x ≡ over q j → PoppedLast M x q
unfolding step
over_from M x h = over_on M x.state x.head x.stack h

-- ONE END: with one pointer
same_end : (M : Machine) (c d e : Config) (i : ℕ) → EndsWith M c i d → EndsWith M c i e → d ≡ e
same_end M c d e i v w =
    let (p, k, v_over) = v.gone in
    let (q, l, w_over) = w.gone in
    let v_terminated = terminated_over M v.place v_over in
    let w_terminated = terminated_over M w.place w_over in
    let once = terminates_once M v.steps w.steps (over_base c i []) v.reached v_terminated w.reached w_terminated in
    sym v.is ∙ ap config_of once.1 ∙ w.is

pub big_step : (M : Machine) (c d : Config) (i : ℕ) → EndsWith M c i d → Ends M Any c d
big_step M c d i w = go (ends_or_kept M w.steps c)
  where
    go : Within M w.steps c → Ends M Any c d
    go (inl v) = subst (Ends M Any c) (same_end M c v.last d i (ends_at v.way i) w) v.way
    go (inr kept) =
        let (p, k, gone) = w.gone in
        let popped = over_from M w.place gone in
        let on = kept.keeps i [] w.steps w.place (omega arith) w.reached in
        let l : 1 < length w.place.stack = on.stays p popped.returns popped.action_is in
        absurd (omega arith)

pub one_end :
    (M : Machine) (c d e : Config) (i j : ℕ) → EndsWith M c i d → EndsWith M c j d × (EndsWith M c j e → d ≡ e)
one_end M c d e i j v =
    let x = big_step M c d i v in
    (ends_at x j, λ w. same_end M c d e j (ends_at x j) w)

-- IN THE RUN ITSELF, on any base. A pop leaves no more than the base
pop_lowers :
    (M : Machine) (g : Config) (i : ℕ) (base : List Entry) {p : ℕ} {r : Bool} {z : Description} → M.action g ≡ Pop p r →
    step M (over_base g i base) ≡ next z → length z.stack ≡ length base
pop_lowers M g i [] {z = z} h e = let gone = step_pop_last M g i h in let k : ◌≡◌ {A = ℕ} 0 1 = cc in absurd (omega arith)
pop_lowers M g i (f ∷ es) {p} {r} {z} h e =
    let on = step_pop M g i f es h in
    let same : z ≡ description p (returned r i g.head) (f ∷ es) = cc in
    ap (λ (u : Description). length u.stack) same

-- a run whose stack stays above base is not past the pop that the big-step relation ends with
no_later :
    {M : Machine} {c d : Config} (x : Ends M Any c d) (i w : ℕ) (base : List Entry) {y : Description} →
    after w M (over_base c i base) ≡ some y →
    ((k : ℕ) (u : Description) → k ≤ w → after k M (over_base c i base) ≡ some u → length base < length u.stack) → w ≤ count x
no_later {M} {c} {d} x i w base reached high = go (dec_lt (count x) w)
  where
    past : count x < w → ⊥
    past l =
        let (z, now) = after_before M (suc (count x)) w (over_base c i base) l reached in
        let (u, before, on) = after_last M (count x) (over_base c i base) now in
        let same : u ≡ over_base d i base = some_same (after (count x) M (over_base c i base)) before (ends_reach x i base) in
        let (p, r, pop) = ends_pops x in
        let low : length z.stack ≡ length base = pop_lowers M d i base pop (rw same at on) in
        let high_then : length base < length z.stack = high (suc (count x)) z l now in
        omega arith

    go : Dec (count x < w) → w ≤ count x
    go (no l) = omega arith
    go (yes l) = absurd (past l)

-- over_base is one-to-one
over_same : (c d : Config) (i : ℕ) (base : List Entry) → over_base c i base ≡ over_base d i base → c ≡ d
over_same c d i base e = sym (config_over c i base) ∙ ap config_of e ∙ config_over d i base

module _ (M : Machine) (n i : ℕ) (c d : Config) (base : List Entry) (entered : after n M start ≡ some (over_base c i base)) where
  ends_removed : Ends M Any c d → Removed M n i base d
  ends_removed x = record {
    wait = count x;
    reached = after_then M n (count x) start entered ∙ ends_reach x i base;
    pops = ends_pops x;
    never_lower = high;
  }
    where
      high : (m : ℕ) (y : Description) → n ≤ m → m ≤ n + count x → after m M start ≡ some y → suc (length base) ≤ length y.stack
      high m y l b f =
          let (z, reached, any, above, later) = ends_inside x i base (m - n) (omega arith) in
          let same : z ≡ y = some_same (after (m - n) M (over_base c i base)) reached (after_rest M n m start l entered f) in
          subst (λ (u : Description). suc (length base) ≤ length u.stack) same above

  removed_ends : Removed M n i base d → Ends M Any c d
  removed_ends v = go (ends_or_kept M v.wait c)
    where
      there : after v.wait M (over_base c i base) ≡ some (over_base d i base)
      there = sym (after_then M n v.wait start entered) ∙ v.reached

      high : (k : ℕ) (u : Description) → k ≤ v.wait → after k M (over_base c i base) ≡ some u → length base < length u.stack
      high k u l f = v.never_lower (n + k) u (omega arith) (omega arith) (after_then M n k start entered ∙ f)

      go : Within M v.wait c → Ends M Any c d
      go (inl w) =
          let x : Ends M Any c w.last = w.way in
          let soon : count x ≤ v.wait = w.soon in
          let late : v.wait ≤ count x = no_later x i v.wait base there high in
          let same : count x ≡ v.wait = omega arith in
          let met = some_same (after v.wait M (over_base c i base)) (rw same at (ends_reach x i base)) there in
          subst (Ends M Any c) (over_same w.last d i base met) x
      go (inr kept) =
          let (p, r, pop) = v.pops in
          let stays = (kept.keeps i base v.wait (over_base d i base) (omega arith) there).stays p r in
          let l : suc (length base) < suc (length base) = stays (ap M.action (config_over d i base) ∙ pop) in
          absurd (omega arith)

pub terminators_of_run :
    (M : Machine) (n i : ℕ) (c d : Config) (base : List Entry) → after n M start ≡ some (over_base c i base) →
    (EndsAt M c d → Removed M n i base d) × (Removed M n i base d → EndsAt M c d)
terminators_of_run M n i c d base e =
    (λ w. ends_removed M n i c d base e (big_step M c d 0 w), λ v. ends_at (removed_ends M n i c d base e v) 0)
