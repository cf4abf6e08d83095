-- What every phase needs, kept by each kind of step: registers moved on over the same cells, a configuration opened, the newest open one taken off. Assumes nothing.
use mathlib.Core.Path.{◌≡◌, refl, sym, subst, ◌∙◌, ap}
use mathlib.Core.Bool.{Bool}
use mathlib.Core.List.{List, ◌∷◌}
use Prim.Native.Nat.{ℕ, suc, ◌+◌, ◌<◌, ◌≤◌}
use native.Mathlib.Numerals.{add-one}
use native.Mathlib.Omega.{arith}
use native.Mathlib.Decide.{ℕ_discrete}
use lib.ListN.{length, get_or, set, length-set}
use lib.Seq.{get_or-set_same, get_or-set_other}
use Rattle.machine.specs.declared.Config.{Config}
use Rattle.machine.specs.Run.{Machine, ValidConfig, number_by, number, how_many}
use Rattle.machine.specs.Verdicts.{nonzero}
use Rattle.machine.proofs.Numbers.{number_below, number_injective}
use Rattle.machine.proofs.Nonzero.{nonzero_set_new, nonzero_most}
use Rattle.chain.specs.declared.Mode.{Mode}
use Rattle.chain.specs.declared.Environment.{Environment}
use Rattle.chain.specs.declared.Registers.{Registers}
use Rattle.chain.specs.Cells.{open_note}
use Rattle.chain.specs.Step.{ProgramState, with_cells, registers_of, number_in}
use Rattle.chain.proofs.StepAdds.{open_seen}
use Rattle.chain_theory.proofs.Path.{Open, open_as, Among}
use Rattle.chain_theory.proofs.Again.{DistinctOpen, one_more}
use Rattle.chain_theory.proofs.Cells.{Stacked, one_open, stacked_work, stacked_note, among_there}
use Rattle.chain_theory.proofs.Invariant.{Fitted, Shared}

-- the number that the environment's counts give
pub number_agrees : {M : Machine} {E : Environment} (c : Config) → Fitted M E → number_in E c ≡ number M c
unfolding number_by number
number_agrees {M} {E} c f = rw (f.places_are, f.symbols_are)

-- where the stack's top is set to 0, all from there on is
zero_from : (ws : List ℕ) (t : ℕ) → t < length ws → ((i : ℕ) → suc t ≤ i → get_or ws i 0 ≡ 0) → (i : ℕ) → t ≤ i → get_or (set ws t 0) i 0 ≡ 0
zero_from ws t wide zero i l = go (ℕ_discrete i t)
  where
    go : Dec (i ≡ t) → get_or (set ws t 0) i 0 ≡ 0
    go (yes q) = subst (λ (j : ℕ). get_or (set ws t 0) j 0 ≡ 0) (sym q) (get_or-set_same ws t 0 0 wide)
    go (no q) = get_or-set_other ws t i 0 0 q ∙ zero i (omega arith)

module _ {M : Machine} (E : Environment) {os : List Open} {x : ProgramState Registers} (s : Shared M os x) where
  pub moved_shared :
      (m : Mode) (c : Config) (b : Bool) → ValidConfig M c →
      Shared M os (with_cells (registers_of E m c b x.state.depth x.state.readings) x.notes x.work)
  moved_shared m c b there =
      record {
        at_there = there;
        notes_long = s.notes_long;
        work_long = s.work_long;
        depth_is = s.depth_is;
        stacked = s.stacked;
        zero_above = s.zero_above;
        distinct = s.distinct;
        counted = s.counted;
        depth_low = s.depth_low;
      }

  -- the configuration looked at is open now
  pub opened_shared :
      (Among x.state.at os → ⊥) → get_or x.notes (number M x.state.at) 0 ≡ 0 → (m : Mode) (c : Config) (b : Bool) → ValidConfig M c →
      Shared M (open_as x.state.at x.state.pushed ∷ os)
      (with_cells (registers_of E m c b (x.state.depth + 1) (x.state.readings + 1))
      (set x.notes (number M x.state.at) (open_note x.state.at x.state.pushed))
      (set x.work x.state.depth (number M x.state.at)))
  opened_shared fresh unseen m c b there =
      subst
      (λ (t : ℕ). Shared M (open_as x.state.at x.state.pushed ∷ os) (with_cells (registers_of E m c b (x.state.depth + 1) (x.state.readings + 1)) (set x.notes k v) (set x.work t k)))
      (sym s.depth_is)
      (record {
        at_there = there;
        notes_long = length-set x.notes k v ∙ s.notes_long;
        work_long = length-set x.work (length os) k ∙ s.work_long;
        depth_is = omega (arith, s.depth_is);
        stacked =
            one_open s.at_there (get_or-set_same x.work (length os) k 0 wide) (get_or-set_same x.notes k v 0 long)
            (stacked_work (length os) k (omega arith) (stacked_note k v other s.stacked));
        zero_above = λ i l. get_or-set_other x.work (length os) i k 0 (λ z. omega arith) ∙ s.zero_above i (omega arith);
        distinct = one_more fresh s.distinct;
        counted = add-one x.state.readings ∙ ap suc s.counted ∙ sym turned;
        depth_low = omega (arith, s.depth_low);
      })
    where
      k : ℕ
      k = number M x.state.at

      v : ℕ
      v = open_note x.state.at x.state.pushed

      long : k < length x.notes
      long = omega (arith, number_below s.at_there, s.notes_long)

      turned : nonzero (how_many M) (set x.notes k v) ≡ suc (nonzero (how_many M) x.notes)
      turned =
          nonzero_set_new (how_many M) x.notes k v (number_below s.at_there) long unseen (open_seen x.state.at x.state.pushed refl)

      -- the note that turns was not counted, so there is room on the stack
      wide : length os < length x.work
      wide = omega (arith, turned, nonzero_most (how_many M) (set x.notes k v), s.counted, s.depth_low, s.work_long)

      other : (d : Config) → Among d os → number M d ≡ k → ⊥
      other d a q = fresh (subst (λ (e : Config). Among e os) (number_injective (among_there s.stacked a) s.at_there q) a)

module _ {M : Machine} {o : Open} {os : List Open} {x : ProgramState Registers} (s : Shared M (o ∷ os) x) where
  pub newest_fresh : Among o.config os → ⊥
  newest_fresh a = go s.distinct a
    where
      go : DistinctOpen (o ∷ os) → Among o.config os → ⊥
      go (one_more fresh ds) i = fresh i

  -- the newest open configuration gets another note and is taken off
  pub taken_shared :
      (E : Environment) (v : ℕ) → x.state.readings ≡ nonzero (how_many M) (set x.notes (number M o.config) v) → (m : Mode) (c : Config) (b : Bool) →
      ValidConfig M c →
      Shared M os
      (with_cells (registers_of E m c b (length os) x.state.readings) (set x.notes (number M o.config) v) (set x.work (length os) 0))
  taken_shared E v counted m c b there =
      record {
        at_there = there;
        notes_long = length-set x.notes (number M o.config) v ∙ s.notes_long;
        work_long = length-set x.work (length os) 0 ∙ s.work_long;
        depth_is = refl;
        stacked = stacked s.stacked;
        zero_above = zero_from x.work (length os) wide s.zero_above;
        distinct = rest s.distinct;
        counted = counted;
        depth_low = omega (arith, s.depth_low);
      }
    where
      wide : length os < length x.work
      wide = omega (arith, s.depth_low, s.counted, nonzero_most (how_many M) x.notes, s.work_long)

      stacked : Stacked M x.notes x.work (o ∷ os) → Stacked M (set x.notes (number M o.config) v) (set x.work (length os) 0) os
      stacked (one_open t w e l) =
          stacked_work (length os) 0 (omega arith)
          (stacked_note (number M o.config) v
          (λ d a q. newest_fresh (subst (λ (e : Config). Among e os) (number_injective (among_there l a) t q) a))
          l)

      rest : DistinctOpen (o ∷ os) → DistinctOpen os
      rest (one_more fresh ds) = ds
