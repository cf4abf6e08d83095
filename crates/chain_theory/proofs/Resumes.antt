-- A terminator is known for an entry that was pushed: its pusher resumes, or the run is over. Assumes nothing.
use mathlib.Core.Path.{◌≡◌, refl, sym, subst}
use mathlib.Core.Bool.{Bool, true, false}
use mathlib.Core.List.{List, [], ◌∷◌}
use Prim.Native.Nat.{ℕ, suc, ◌+◌, ◌*◌, ◌-◌, ◌%◌, ◌<◌, ◌≤◌}
use native.Mathlib.Omega.{arith}
use lib.ListN.{length}
use borrow.Author.Tests.{ne_eqb}
use Rattle.machine.specs.declared.Config.{Config}
use Rattle.machine.specs.declared.Action.TheVariants.{Push, Pop}
use Rattle.machine.specs.declared.Termination.TheVariants.{Over}
use Rattle.machine.specs.Terminating.{termination_verdict}
use Rattle.machine.specs.Run.{Machine, ValidConfig, config, returned, number_by, number}
use Rattle.machine.specs.Verdicts.{Says, terminates}
use Rattle.machine.proofs.Reach.{Inside}
use Rattle.machine.proofs.Digits.{low_digit}
use Rattle.machine.proofs.Ends.{Ends, resume}
use Rattle.chain.specs.declared.Mode.{Mode}
use Rattle.chain.specs.declared.Mode.TheVariants.{Look, Done}
use Rattle.chain.specs.declared.Environment.{Environment}
use Rattle.chain.specs.declared.Registers.{Registers}
use Rattle.chain.specs.Step.{with_cells, registers_of, resumed}
use Rattle.chain_theory.proofs.Path.{Open, open_as, Among, here, later, by_push, by_return, Path, begin, on}
use Rattle.chain_theory.proofs.Endings.{over_at, over_complete}
use Rattle.chain_theory.proofs.Cells.{Seen, Stacked, one_open, Running, settle, low_else}
use Rattle.chain_theory.proofs.Invariant.{Fitted, Shared, bit, pushes, looking, done, ChainInvariant}

-- the symbol of a configuration from its number
symbol_kept : {M : Machine} {E : Environment} (c : Config) → Fitted M E → ValidConfig M c → number M c % E.sizes.symbols ≡ c.symbol
unfolding number_by number
symbol_kept {M} {E} c f t = rw f.symbols_are (low_digit c.state c.head M.places t.symbol_below)

returned_below : {n : ℕ} (r : Bool) (i j : ℕ) → i < n → j < n → returned r i j < n
returned_below true i j a b = a
returned_below false i j a b = b

-- cells whose open configurations are os, whatever the registers say otherwise
abbrev pub SharedAs : Machine → Environment → List Open → (readings : ℕ) → (ns ws : List ℕ) → Type 0
SharedAs M E os reads ns ws =
    (m : Mode) (c : Config) (b : Bool) → ValidConfig M c → Shared M os (with_cells (registers_of E m c b (length os) reads) ns ws)

over_says :
    {M : Machine} {P : Config → Type 0} {d : Config} {p : ℕ} {b : Bool} → Ends M P (config 0 0 0) d → M.action d ≡ Pop p b → (t : Bool) →
    M.accepting p (returned b 0 d.head) ≡ t → Says M (termination_verdict (Over t)) d
over_says x a t e = terminates (over_at x a t e) refl

pub not_among_none : {c : Config} → Among c [] → ⊥
not_among_none a = go a refl
  where
    go : {c : Config} {os : List Open} → Among c os → os ≡ [] → ⊥
    go here e = let z : ◌≡◌ {A = ℕ} 0 1 = cc in omega arith
    go (later a) e = let z : ◌≡◌ {A = ℕ} 0 1 = cc in omega arith

module _ {M : Machine} {E : Environment} (r : Registers) {ns ws : List ℕ} (n : ℕ) (fitted : Fitted M E) where
  over_holds :
      {d : Config} {p : ℕ} {b : Bool} → SharedAs M E [] r.readings ns ws → Running M [] ns → Ends M (Seen M ns) (config 0 0 0) d → ValidConfig M d → M.action d ≡ Pop p b →
      suc n ≤ 4 * r.readings + 1 → (t : Bool) → M.accepting p (returned b 0 d.head) ≡ t →
      ChainInvariant M (suc n) (with_cells (registers_of E (Done (termination_verdict (Over t))) d false 0 r.readings) ns ws)
  over_holds {d} {p} {b} shared running x there a few t e =
      record {
        opens = [];
        shared = shared (Done (termination_verdict (Over t))) d false there;
        phase =
            done
            (record {
              says = over_says x a t e;
              told = settle running (λ c i. over_complete x a i) (λ c i. absurd (not_among_none i));
              low_else = low_else running;
            })
            few;
      }

  returns_holds :
      {os : List Open} {c e d : Config} {f : Bool} {p : ℕ} {b : Bool} → Inside M → SharedAs M E (open_as c f ∷ os) r.readings ns ws →
      Running M (open_as c f ∷ os) ns → Path M (Seen M ns) os c f → M.action c ≡ Push e → Ends M (Seen M ns) e d → ValidConfig M c → ValidConfig M e →
      ValidConfig M d → M.action d ≡ Pop p b → suc n + suc (length os) + (bit f + pushes os) ≤ 4 * r.readings + 1 → {k : ℕ} → k ≡ c.symbol →
      ChainInvariant M (suc n)
      (with_cells (registers_of E Look (config p (returned b e.head d.head) k) false (suc (length os)) r.readings) ns ws)
  unfolding pushes
  returns_holds {os} {c} {e} {d} {f} {p} {b} inside shared running path pushing x there_c there_e there_d a few same =
      subst
      (λ (k : ℕ). ChainInvariant M (suc n) (with_cells (registers_of E Look (config p (returned b e.head d.head) k) false (suc (length os)) r.readings) ns ws))
      (sym same)
      (record {
        opens = open_as c f ∷ os;
        shared = shared Look (resume c e d p b) false there;
        phase = looking running (on path (by_return pushing x a)) (omega arith);
      })
    where
      there : ValidConfig M (resume c e d p b)
      there =
          record {
            state_below = inside.pops d p b there_d a;
            head_below = returned_below b e.head d.head there_e.head_below there_d.head_below;
            symbol_below = there_c.symbol_below;
          }

  -- the entry that c was pushed with is removed from d
  pub resumed_holds :
      {os : List Open} {c d : Config} {p : ℕ} {b : Bool} → Inside M → SharedAs M E os r.readings ns ws → Stacked M ns ws os → Running M os ns →
      Path M (Seen M ns) os c true → Ends M (Seen M ns) c d → ValidConfig M c → ValidConfig M d → M.action d ≡ Pop p b →
      suc n + length os + pushes os ≤ 4 * r.readings + 1 →
      ChainInvariant M (suc n) (with_cells (resumed E r d (Pop p b) c.head (length os) ws) ns ws)
  unfolding resumed pushes
  resumed_holds {d = d} {p = p} {b = b} inside shared stacked running begin x there_c there_d a few =
      subst (λ (t : Bool). ChainInvariant M (suc n) (with_cells (registers_of E (Done (termination_verdict (Over t))) d false 0 r.readings) ns ws))
      (sym (fitted.accepts_as p (returned b 0 d.head)))
      (over_holds shared running x there_d a (omega arith) (M.accepting p (returned b 0 d.head)) refl)
  resumed_holds {d = d} {p = p} {b = b} inside shared (one_open there w v stacked) running (on {os = os} {c = e} path (by_push pushing)) x there_c there_d a few =
      let below : suc (length os) - 1 ≡ length os = omega arith in
      rw (ne_eqb (suc (length os)) 0 (λ z. omega arith))
      (returns_holds inside shared running path pushing x there there_c there_d a (omega arith) (rw (below, w) (symbol_kept e fitted there)))
