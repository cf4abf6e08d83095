-- A sequence of states that starts empty and goes on by the judge's step: what holds at each of them, and that it comes to a verdict within the bound. Assumes nothing.
use mathlib.Core.Path.{◌≡◌, refl, sym, subst, ◌∙◌}
use mathlib.Core.Bool.{true}
use mathlib.Core.List.{List, []}
use mathlib.Core.Option.{Option, none, some}
use mathlib.Core.Logic.{◌⊎◌, inl, inr}
use Prim.Native.Nat.{ℕ, zero, suc, ◌+◌, ◌*◌, ◌<◌, ◌≤◌}
use native.Mathlib.Omega.{arith}
use native.Mathlib.Decide.{dec_lt}
use lib.ListN.{length, get_or, replicate, length-replicate}
use lib.Seq.{ext_get_or}
use Rattle.machine.specs.declared.Verdict.{Verdict}
use Rattle.machine.specs.Run.{Machine, ValidConfig, config, number, how_many}
use Rattle.machine.specs.Verdicts.{note_of, NoteRight, Noted}
use Rattle.machine.proofs.Reach.{Inside}
use Rattle.machine.proofs.Nonzero.{nonzero_zeros, nonzero_most}
use Rattle.chain.specs.declared.Mode.{Mode}
use Rattle.chain.specs.declared.Mode.TheVariants.{Look}
use Rattle.chain.specs.declared.Environment.{Environment}
use Rattle.chain.specs.declared.Registers.{Registers}
use Rattle.chain.specs.Cells.{open_bit, cell_note}
use Rattle.chain.specs.Step.{ProgramState, with_cells, judge_step, step_by_mode}
use Rattle.chain.specs.Chain.{verdict_of}
use Rattle.chain_theory.proofs.Path.{Open, Among, Path, begin}
use Rattle.chain_theory.proofs.Again.{none_open as none_distinct}
use Rattle.chain_theory.proofs.Cells.{low_told, Seen, nothing_open, unseen, Running}
use Rattle.chain_theory.proofs.Invariant.{Fitted, Shared, pushes, Settled, Phase, looking, unwinding, clearing, done, ChainInvariant}
use Rattle.chain_theory.proofs.Resumes.{not_among_none}
use Rattle.chain_theory.proofs.LookKeeps.{look_keeps}
use Rattle.chain_theory.proofs.UnwindKeeps.{unwind_keeps, clear_keeps}

-- THE START
abbrev pub Empty : Machine → Registers → ProgramState Registers
Empty M r = with_cells r (replicate (how_many M) 0) (replicate (how_many M) 0)

pub record Starts (r : Registers) : Type 0 where
  pub looks : r.mode ≡ Look
  pub at_start : r.at ≡ config 0 0 0
  pub is_pushed : r.pushed ≡ true
  pub none_open : r.depth ≡ 0
  pub none_read : r.readings ≡ 0

pub zeros : (n i : ℕ) → ◌≡◌ {A = ℕ} (get_or (replicate n 0) i 0) 0
zeros zero i = refl
zeros (suc n) zero = refl
zeros (suc n) (suc i) = zeros n i

running_none : (M : Machine) → Running M [] (replicate (how_many M) 0)
unfolding cell_note note_of
running_none M =
    record {
      cells = λ c t. rw (zeros (how_many M) (number M c)) (unseen (λ a. not_among_none a));
      entered = λ c t seen. absurd (seen (zeros (how_many M) (number M c)));
    }

pub begin_holds : {M : Machine} {r : Registers} → Inside M → Starts r → ChainInvariant M 0 (Empty M r)
unfolding pushes
begin_holds {M} {r} inside s =
    record {
      opens = [];
      shared =
          record {
            at_there = subst (ValidConfig M) (sym s.at_start) inside.starts;
            notes_long = length-replicate (how_many M) 0;
            work_long = length-replicate (how_many M) 0;
            depth_is = s.none_open;
            stacked = nothing_open;
            zero_above = λ i l. zeros (how_many M) i;
            distinct = none_distinct;
            counted = s.none_read ∙ sym (nonzero_zeros (how_many M) (how_many M));
            depth_low = omega arith;
          };
      phase = subst (Phase M 0 (Empty M r) []) (sym s.looks) (looking (running_none M) path (rw s.is_pushed (omega arith)));
    }
  where
    path : Path M (Seen M (replicate (how_many M) 0)) [] r.at r.pushed
    path = rw (s.at_start, s.is_pushed) begin

-- ONE STEP MORE
keeps_by :
    {M : Machine} {E : Environment} → Fitted M E → Inside M → (n : ℕ) (x : ProgramState Registers) {os : List Open} (m : Mode) →
    Shared M os x → Phase M n x os m → verdict_of m ≡ none → ChainInvariant M (suc n) (step_by_mode m M E x.state x.notes x.work)
unfolding verdict_of
keeps_by fitted inside n x m s (looking running path few) e = look_keeps fitted inside n x s running path few
keeps_by fitted inside n x m s (unwinding running path ends few) e = unwind_keeps fitted inside n x s running path ends few
keeps_by fitted inside n x m s (clearing settled few) e = clear_keeps _ n x s settled few
keeps_by fitted inside n x m s (done settled few) e = let z : ◌≡◌ {A = ℕ} 0 1 = cc in absurd (omega arith)

pub keeps :
    {M : Machine} {E : Environment} → Fitted M E → Inside M → (n : ℕ) (x : ProgramState Registers) → ChainInvariant M n x →
    verdict_of x.state.mode ≡ none → ChainInvariant M (suc n) (judge_step M E x)
unfolding judge_step
keeps fitted inside n x h e = keeps_by fitted inside n x x.state.mode h.shared h.phase e

-- THE BOUND, in every phase
few_by : {M : Machine} {n : ℕ} {x : ProgramState Registers} {os : List Open} {m : Mode} → Phase M n x os m → n ≤ 4 * x.state.readings + 1
few_by (looking running path few) = omega arith
few_by (unwinding running path ends few) = omega arith
few_by (clearing settled few) = omega arith
few_by (done settled few) = few

pub few_steps : {M : Machine} {n : ℕ} {x : ProgramState Registers} → ChainInvariant M n x → n ≤ 4 * x.state.readings + 1
few_steps h = few_by h.phase

pub readings_most : {M : Machine} {n : ℕ} {x : ProgramState Registers} → ChainInvariant M n x → x.state.readings ≤ how_many M
readings_most {M} {x = x} h = let e = h.shared.counted in let l = nonzero_most (how_many M) x.notes in omega arith

-- THE END
settled_by :
    {M : Machine} {n : ℕ} {x : ProgramState Registers} {os : List Open} {m : Mode} → Phase M n x os m → {v : Verdict} → verdict_of m ≡ some v →
    Settled M [] v x
unfolding verdict_of
settled_by (looking running path few) e = let z : ◌≡◌ {A = ℕ} 0 1 = cc in absurd (omega arith)
settled_by (unwinding running path ends few) e = let z : ◌≡◌ {A = ℕ} 0 1 = cc in absurd (omega arith)
settled_by (clearing settled few) e = let z : ◌≡◌ {A = ℕ} 0 1 = cc in absurd (omega arith)
settled_by {M} {x = x} (done {v = w} settled few) {v} e = let same : w ≡ v = cc in subst (λ (u : Verdict). Settled M [] u x) same settled

pub settled_at : {M : Machine} {n : ℕ} {x : ProgramState Registers} {v : Verdict} → ChainInvariant M n x → verdict_of x.state.mode ≡ some v → Settled M [] v x
settled_at h e = settled_by h.phase e

-- no note has the open bit by then, so each says what it says when the verdict stands
pub noted_at : {M : Machine} {x : ProgramState Registers} {v : Verdict} → Settled M [] v x → Noted M x.notes
noted_at {M} {x} s c t = go (s.low_else c t)
  where
    go : Among c [] ⊎ (get_or x.notes (number M c) 0 < open_bit) → NoteRight M c (note_of (get_or x.notes (number M c) 0))
    go (inl a) = absurd (not_among_none a)
    go (inr l) = subst (NoteRight M c) (low_told l) (s.told c t)

nothing_left : {M : Machine} {n : ℕ} {x : ProgramState Registers} {os : List Open} {m : Mode} → Phase M n x os m → {v : Verdict} → verdict_of m ≡ some v → length os ≡ 0
unfolding verdict_of
nothing_left (looking running path few) e = let z : ◌≡◌ {A = ℕ} 0 1 = cc in absurd (omega arith)
nothing_left (unwinding running path ends few) e = let z : ◌≡◌ {A = ℕ} 0 1 = cc in absurd (omega arith)
nothing_left (clearing settled few) e = let z : ◌≡◌ {A = ℕ} 0 1 = cc in absurd (omega arith)
nothing_left (done settled few) e = refl

pub work_zero :
    {M : Machine} {n : ℕ} {x : ProgramState Registers} {v : Verdict} → ChainInvariant M n x → verdict_of x.state.mode ≡ some v →
    x.work ≡ replicate (how_many M) 0
work_zero {M} {x = x} h e =
    ext_get_or 0 x.work (replicate (how_many M) 0) (h.shared.work_long ∙ sym (length-replicate (how_many M) 0))
    (λ k l. h.shared.zero_above k (omega (arith, nothing_left h.phase e)) ∙ sym (zeros (how_many M) k))

-- A SEQUENCE OF STEPS
pub record Finished (M : Machine) (at : ℕ → ProgramState Registers) : Type 0 where
  pub steps : ℕ
  pub verdict : Verdict
  pub answers : verdict_of (at steps).state.mode ≡ some verdict
  pub not_before : (n : ℕ) → n < steps → verdict_of (at n).state.mode ≡ none
  pub holds : (n : ℕ) → n ≤ steps → ChainInvariant M n (at n)

module _ {M : Machine} {E : Environment} (fitted : Fitted M E) (inside : Inside M) (at : ℕ → ProgramState Registers)
    (goes : (n : ℕ) → at (suc n) ≡ judge_step M E (at n)) (begins : ChainInvariant M 0 (at 0)) where
  holds_until : (n : ℕ) → ((k : ℕ) → k < n → verdict_of (at k).state.mode ≡ none) → ChainInvariant M n (at n)
  holds_until zero e = begins
  holds_until (suc n) e =
      subst (ChainInvariant M (suc n)) (sym (goes n)) (keeps fitted inside n (at n) (holds_until n (λ k l. e k (omega arith))) (e n (omega arith)))

  finish_by :
      (left n : ℕ) → left + n ≡ 4 * how_many M + 2 → ((k : ℕ) → k < n → verdict_of (at k).state.mode ≡ none) → Finished M at
  finish_by zero n e none_yet =
      let h = holds_until n none_yet in
      absurd (omega (arith, few_steps h, readings_most h))
  finish_by (suc left) n e none_yet = go (verdict_of (at n).state.mode) refl (finish_by left (suc n) (omega arith))
    where
      before : verdict_of (at n).state.mode ≡ none → (k : ℕ) → k < suc n → Dec (k < n) → verdict_of (at k).state.mode ≡ none
      before f k l (yes a) = none_yet k a
      before f k l (no a) = let same : n ≡ k = omega arith in subst (λ (j : ℕ). verdict_of (at j).state.mode ≡ none) same f

      go :
          (o : Option Verdict) → verdict_of (at n).state.mode ≡ o →
          (((k : ℕ) → k < suc n → verdict_of (at k).state.mode ≡ none) → Finished M at) → Finished M at
      go none f more = more (λ k l. before f k l (dec_lt k n))
      go (some v) f more =
          record {
            steps = n;
            verdict = v;
            answers = f;
            not_before = none_yet;
            holds = λ k l. holds_until k (λ j m. none_yet j (omega arith));
          }

  pub finish : Finished M at
  finish = finish_by (4 * how_many M + 2) 0 (omega arith) (λ k l. absurd (omega arith))
