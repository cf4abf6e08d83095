-- The plain run's answer is true of the run itself. Assumes nothing.
use mathlib.Core.Path.{◌≡◌, refl, sym}
use mathlib.Core.Bool.{Bool, true, false, cond}
use mathlib.Core.Option.{some}
use Prim.Native.Nat.{ℕ, zero, suc, ◌+◌, ◌≤◌, ◌<◌}
use native.Mathlib.Decide.{dec_le}
use native.Mathlib.Nat.{le_refl}
use native.Mathlib.Omega.{arith}
use lib.Dec.{ltb}
use lib.ListN.{length}
use borrow.Author.Tests.{ltb-true, ltb-false}
use Rattle.machine.specs.declared.Reason.{Reason}
use Rattle.machine.specs.declared.Termination.TheVariants.{Stopped}
use Rattle.machine.specs.Run.{Machine, Description, Outcome, stopped, over, next, step, start, after, config_of}
use Rattle.interpreter.specs.declared.Exit.{Exit}
use Rattle.interpreter.specs.declared.Exit.TheVariants.{Terminated, Spent, Deep}
use Rattle.interpreter.specs.declared.RunEnd.{RunEnd}
use Rattle.interpreter.specs.PlainRun.{run_end, spent_or, run_step, run_on, ExitsAs, last_pop, TrueEnd}
use Rattle.machine.proofs.Runs.{after_next, some_same}
use Rattle.machine.proofs.Terminates.{termination_stopped, termination_over}
use Rattle.interpreter.proofs.Heights.{pushes}

-- the run is at x after n steps, and so far it has had no more entries than cells
record Comes (M : Machine) (b k n : ℕ) (x : Description) : Type 0 where
  comes : after n M start ≡ some x
  fits : (m : ℕ) (y : Description) → m ≤ n → after m M start ≡ some y → length y.stack ≤ k
  within : n ≤ b

low : {M : Machine} {b k n : ℕ} {x : Description} → Comes M b k n x → length x.stack ≤ k
low {n = n} {x} h = h.fits n x (le_refl n) h.comes

-- one step more
comes_on :
    {M : Machine} {b k n : ℕ} {x y : Description} → Comes M b k n x → n < b → step M x ≡ next y → length y.stack ≤ k → Comes M b k (suc n) y
comes_on {M} {b} {k} {n} {x} {y} h l f few = record { comes = there; fits = fits_on; within = omega arith }
  where
    there : after (suc n) M start ≡ some y
    there = after_next M n start h.comes f

    fits_on : (m : ℕ) (z : Description) → m ≤ suc n → after m M start ≡ some z → length z.stack ≤ k
    fits_on m z most e = go (dec_le m n)
      where
        go : Dec (m ≤ n) → length z.stack ≤ k
        go (yes before) = h.fits m z before e
        go (no past) =
            let last : m ≡ suc n = omega arith in
            let same : z ≡ y = some_same (after (suc n) M start) (rw last at e) there in
            rw same few

over_not_stopped : (o : Outcome) (p i : ℕ) → o ≡ over p i → (r : Reason) → o ≡ stopped r → ⊥
over_not_stopped o p i e r f = let z : ◌≡◌ {A = ℕ} 0 1 = cc in omega arith

next_not_stopped : (o : Outcome) (y : Description) → o ≡ next y → (r : Reason) → o ≡ stopped r → ⊥
next_not_stopped o y e r f = let z : ◌≡◌ {A = ℕ} 0 1 = cc in omega arith

module _ (M : Machine) (b k : ℕ) where
  -- where the run is, and how it is left there without a step more
  left : (n : ℕ) (x : Description) (e : Exit) → Comes M b k n x → last_pop e ≡ 0 → ExitsAs e M b k n x → TrueEnd M b k (run_end e n (config_of x))
  left n x e h None-more exits =
      record {
        before = n;
        place = x;
        within = h.within;
        counted = omega (arith, None-more);
        comes = h.comes;
        is = refl;
        fits = h.fits;
        exits = exits;
      }

  -- the budget is spent
  spent : (n : ℕ) (x : Description) → Comes M b k n x → n ≡ b → (o : Outcome) → step M x ≡ o → TrueEnd M b k (run_end (spent_or o) n (config_of x))
  unfolding spent_or ExitsAs last_pop
  spent n x h e (stopped r) f = left n x (Terminated (Stopped r)) h refl (termination_stopped M x f)
  spent n x h e (over p i) f = left n x Spent h refl (e, over_not_stopped _ p i f)
  spent n x h e (next y) f = left n x Spent h refl (e, next_not_stopped _ y f)

  -- a step to y, if the cells hold its stack
  goes :
      (n : ℕ) (x y : Description) (rest : RunEnd) → Comes M b k n x → n < b → step M x ≡ next y →
      (Comes M b k (suc n) y → TrueEnd M b k rest) → (t : Bool) → ltb k (length y.stack) ≡ t →
      TrueEnd M b k (cond t (run_end Deep n (config_of x)) rest)
  unfolding ExitsAs last_pop
  goes n x y rest h l f go true g =
      let m : k < length y.stack = ltb-true _ _ g in
      let w = pushes M x y k f (low h) m in
      left n x Deep h refl (l, w.full, w.pushed, w.by)
  goes n x y rest h l f go false g = go (comes_on h l f (ltb-false _ _ g))

  stepped :
      (n : ℕ) (x : Description) (go : Description → RunEnd) → Comes M b k n x → n < b →
      ((y : Description) → Comes M b k (suc n) y → TrueEnd M b k (go y)) → (o : Outcome) → step M x ≡ o →
      TrueEnd M b k (run_step o go M n k x)
  unfolding run_step ExitsAs last_pop
  stepped n x go h l more (stopped r) f = left n x (Terminated (Stopped r)) h refl (termination_stopped M x f)
  stepped n x go h l more (over p i) f =
      record {
        before = n;
        place = x;
        within = omega arith;
        counted = omega arith;
        comes = h.comes;
        is = refl;
        fits = h.fits;
        exits = termination_over M x f refl;
      }
  stepped n x go h l more (next y) f = goes n x y (go y) h l f (more y) (ltb k (length y.stack)) refl

  run_true : (f n : ℕ) (x : Description) → Comes M b k n x → n + f ≡ b → TrueEnd M b k (run_on f M n k x)
  unfolding run_on
  run_true zero n x h e = spent n x h (omega arith) (step M x) refl
  run_true (suc f) n x h e =
      stepped n x (λ y. run_on f M (suc n) k y) h (omega arith) (λ y g. run_true f (suc n) y g (omega arith)) (step M x) refl

-- the start has one entry
starts : (M : Machine) (b k : ℕ) → 0 < k → Comes M b k 0 start
unfolding after start
starts M b k h = record { comes = refl; fits = only; within = omega arith }
  where
    only : (m : ℕ) (y : Description) → m ≤ 0 → after m M start ≡ some y → length y.stack ≤ k
    only m y most e =
        let none_yet : m ≡ 0 = omega arith in
        let same : start ≡ y = some_same (after 0 M start) refl (rw none_yet at e) in
        rw (sym same) (omega arith)

pub plain_run_true : (M : Machine) (budget cells : ℕ) → 0 < cells → TrueEnd M budget cells (run_on budget M 0 cells start)
plain_run_true M b k h = run_true M b k b 0 start (starts M b k h) (omega arith)
