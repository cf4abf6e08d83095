-- What holds of the chain makes its next step safe. Assumes nothing.
use mathlib.Core.Path.{◌≡◌, refl, sym, subst, ◌∙◌, ap}
use mathlib.Core.Bool.{Bool}
use mathlib.Core.List.{List, ◌∷◌}
use Prim.Native.Nat.{ℕ, ◌-◌, ◌<◌, ◌≤◌}
use native.Mathlib.Omega.{arith}
use native.Mathlib.Decide.{dec_lt, ℕ_discrete}
use lib.ListN.{length, get_or, get_or-eq_default}
use Rattle.machine.specs.declared.Config.{Config}
use Rattle.machine.specs.declared.Note.{Note}
use Rattle.machine.specs.declared.Note.TheVariants.{Unseen, Open as NotedOpen, Closed}
use Rattle.machine.specs.Run.{Machine, ValidConfig, number, how_many}
use Rattle.image.specs.Image.{machine}
use Rattle.image.specs.Refusals.{Unrefused}
use Rattle.machine.specs.Verdicts.{note_of, NoteRight, never, unended, ended}
use Rattle.machine.proofs.Numbers.{number_below, number_injective, config_at, config_at_there, number_config_at}
use Rattle.machine.proofs.Nonzero.{nonzero_most}
use Rattle.chain.specs.declared.Mode.{Mode}
use Rattle.chain.specs.declared.Environment.{Environment}
use Rattle.chain.specs.declared.Registers.{Registers}
use Rattle.chain.specs.Cells.{open_note, cell_note}
use Rattle.chain.specs.Step.{ProgramState}
use Rattle.chain.specs.Chain.{environment_of}
use Rattle.chain.specs.Code.Ready.{OpenAt, OpenFor, Ready}
use Rattle.chain_theory.proofs.Path.{Open, Among, here, later}
use Rattle.chain_theory.proofs.Again.{DistinctOpen, one_more}
use Rattle.chain_theory.proofs.Cells.{Seen, Stacked, one_open, Cell, unseen, still_open, closed, nothing_open}
use Rattle.chain_theory.proofs.Invariant.{Fitted, Shared, Phase, looking, unwinding, clearing, done, ChainInvariant}
use Rattle.chain_theory.proofs.Shares.{number_agrees}
use Rattle.chain_theory.proofs.StepNumber.{NumberBeside}

-- THE STACK: below the depth each work cell names an open configuration
record Named (M : Machine) (os : List Open) (ns ws : List ℕ) (j : ℕ) : Type 0 where
  config : Config
  pushed : Bool
  among : Among config os
  there : ValidConfig M config
  number_is : get_or ws j 0 ≡ number M config
  note_is : get_or ns (number M config) 0 ≡ open_note config pushed

named_at : {M : Machine} {ns ws : List ℕ} {os : List Open} → Stacked M ns ws os → (j : ℕ) → j < length os → Named M os ns ws j
named_at {M = M} {ns = ns} {ws = ws} nothing_open j h = elim h [ ]
named_at {M} {ns = ns} {ws = ws} (one_open {o} {os} t w v l) j h = go (ℕ_discrete j (length os)) (λ i. named_at l j i)
  where
    go : Dec (j ≡ length os) → (j < length os → Named M os ns ws j) → Named M (o ∷ os) ns ws j
    go (yes q) older = record { config = o.config; pushed = o.pushed; among = here; there = t; number_is = ap (λ (i : ℕ). get_or ws i 0) q ∙ w; note_is = v }
    go (no q) older =
        let n = older (omega arith) in
        record { config = n.config; pushed = n.pushed; among = later n.among; there = n.there; number_is = n.number_is; note_is = n.note_is }

-- no two cells name the same one
named_once :
    {M : Machine} {ns ws : List ℕ} {os : List Open} → Stacked M ns ws os → DistinctOpen os → (i j : ℕ) → i < j → j < length os →
    get_or ws i 0 ≡ get_or ws j 0 → ⊥
named_once {M = M} {ns = ns} {ws = ws} nothing_open _ i j less h e = elim h [ ]
named_once {M} {ns = ns} {ws = ws} (one_open {o} {os} t w v l) (one_more fresh ds) i j less h e = go (ℕ_discrete j (length os)) (λ b. named_once l ds i j less b e)
  where
    go : Dec (j ≡ length os) → (j < length os → ⊥) → ⊥
    go (yes q) older =
        let n = named_at l i (omega arith) in
        let same : number M n.config ≡ number M o.config = sym n.number_is ∙ e ∙ ap (λ (k : ℕ). get_or ws k 0) q ∙ w in
        fresh (subst (λ (c : Config). Among c os) (number_injective n.there t same) n.among)
    go (no q) older = older (omega arith)

among_open : {M : Machine} {ns ws : List ℕ} {os : List Open} {c : Config} → Stacked M ns ws os → Among c os → (b : Bool) × (get_or ns (number M c) 0 ≡ open_note c b)
among_open {M = M} {ns = ns} {ws = ws} {c = c} nothing_open x3 = elim x3 [ ]
among_open (one_open {o} t w v l) here = (o.pushed, v)
among_open (one_open t w v l) (later a) = among_open l a

module _ {M : Machine} {E : Environment} (fitted : Fitted M E) {os : List Open} {x : ProgramState Registers} (s : Shared M os x) where
  -- there is a work cell for each
  room : length os ≤ length x.work
  room = omega (arith, s.depth_low, s.counted, nonzero_most (how_many M) x.notes, s.work_long)

  open_at : (j : ℕ) → j < x.state.depth → OpenAt E x.notes x.work j
  open_at j h =
      let n = named_at s.stacked j (omega (arith, s.depth_is)) in
      record {
        config = n.config;
        pushed = n.pushed;
        head_below = omega (arith, fitted.places_are, n.there.head_below);
        symbol_below = omega (arith, fitted.symbols_are, n.there.symbol_below);
        number_is = n.number_is ∙ sym (number_agrees n.config fitted);
        note_is = rw n.number_is n.note_is;
        work_there = omega (arith, s.depth_is, room);
        note_there = omega (arith, n.number_is, number_below n.there, s.notes_long);
        number_fits = omega (arith, n.number_is, number_below n.there, fitted.few_cells);
      }

-- NOTES: what holds of each configuration's note, and of 0, holds of all
each_note :
    {M : Machine} (ns : List ℕ) (P : ℕ → Type 0) → length ns ≡ how_many M → P 0 → ((c : Config) → ValidConfig M c → P (get_or ns (number M c) 0)) →
    (k : ℕ) → P (get_or ns k 0)
each_note {M} ns P long none_there own k = go (dec_lt k (how_many M))
  where
    go : Dec (k < how_many M) → P (get_or ns k 0)
    go (yes l) = subst (λ (j : ℕ). P (get_or ns j 0)) (number_config_at M k) (own (config_at M k) (config_at_there M k l))
    go (no l) = subst P (sym (get_or-eq_default ns 0 (omega arith))) none_there

-- a closed note leads to a number below N
abbrev ClosedLow : Machine → ℕ → Type 0
ClosedLow M v = (j : ℕ) → cell_note v ≡ Closed j → j < how_many M

cell_low : {M : Machine} {P : Config → Type 0} {os : List Open} {c : Config} {v : Note} → Cell M P os c v → (j : ℕ) → v ≡ Closed j → j < how_many M
cell_low (unseen n) j e = absurd (let z : ◌≡◌ {A = ℕ} 0 1 = cc in omega arith)
cell_low (still_open a) j e = absurd (let z : ◌≡◌ {A = ℕ} 0 1 = cc in omega arith)
cell_low {M} (closed {d} n t x) j e = let same : number M d ≡ j = cc in omega (arith, number_below t)

right_low : {M : Machine} {c : Config} {v : Note} → NoteRight M c v → (j : ℕ) → v ≡ Closed j → j < how_many M
right_low (never n) j e = absurd (let z : ◌≡◌ {A = ℕ} 0 1 = cc in omega arith)
right_low (unended i n) j e = absurd (let z : ◌≡◌ {A = ℕ} 0 1 = cc in omega arith)
right_low {M} (ended {d} i t x) j e = let same : number M d ≡ j = cc in omega (arith, number_below t)

there_low :
    {M : Machine} {n : ℕ} {x : ProgramState Registers} {os : List Open} {m : Mode} → Phase M n x os m → (c : Config) → ValidConfig M c →
    ClosedLow M (get_or x.notes (number M c) 0)
there_low (looking running path few) c t = cell_low (running.cells c t)
there_low (unwinding running path ends few) c t = cell_low (running.cells c t)
there_low (clearing settled few) c t = right_low (settled.told c t)
there_low (done settled few) c t = right_low (settled.told c t)

zero_low : (M : Machine) → ClosedLow M 0
unfolding cell_note note_of
zero_low M j e = absurd (let z : ◌≡◌ {A = ℕ} 0 1 = cc in omega arith)

notes_low : {M : Machine} {n : ℕ} {x : ProgramState Registers} → ChainInvariant M n x → (k : ℕ) → ClosedLow M (get_or x.notes k 0)
notes_low {M} {x = x} h k = each_note x.notes (ClosedLow M) h.shared.notes_long (zero_low M) (there_low h.phase) k

-- while the judge looks no note is 1: an open one says more
never_one :
    {M : Machine} {os : List Open} {ns ws : List ℕ} {c : Config} → Stacked M ns ws os → (v : Note) → Cell M (Seen M ns) os c v →
    cell_note (get_or ns (number M c) 0) ≡ v → get_or ns (number M c) 0 ≡ 1 → ⊥
unfolding cell_note note_of
never_one {M} {ns = ns} {c = c} stacked v (unseen n) e z =
    let f : Unseen ≡ NotedOpen = sym e ∙ ap cell_note z in
    let w : ◌≡◌ {A = ℕ} 0 1 = cc in
    omega arith
never_one stacked v (still_open a) e z = let (b, o) = among_open stacked a in omega arith
never_one {M} stacked v (closed {d} n t x) e z =
    let f : Closed (number M d) ≡ NotedOpen = sym e ∙ ap cell_note z in
    let w : ◌≡◌ {A = ℕ} 0 1 = cc in
    omega arith

open_for : {M : Machine} {n : ℕ} {x : ProgramState Registers} {os : List Open} {m : Mode} → Shared M os x → Phase M n x os m → OpenFor m x.state.depth x.notes
open_for {M} {x = x} s (looking running path few) =
    λ k. each_note x.notes (λ (v : ℕ). v ≡ 1 → ⊥) s.notes_long (λ z. omega arith) (λ c t. never_one s.stacked _ (running.cells c t) refl) k
open_for s (unwinding running path ends few) = omega (arith, s.depth_is)
open_for s (clearing settled few) = omega (arith, s.depth_is)
open_for s (done settled few) = tt

pub holds_ready :
    (bs cs : List ℕ) → Unrefused bs cs → {E : Environment} → Fitted (machine bs cs) E → E ≡ environment_of bs cs → {n : ℕ} {x : ProgramState Registers} →
    ChainInvariant (machine bs cs) n x → NumberBeside E x.state → Ready bs cs E x.state x.notes x.work
holds_ready bs cs u {E} fitted e {n} {x} h numbered =
    let s = h.shared in
    record {
      unrefused = u;
      environment_is = e;
      there = s.at_there;
      number_is = numbered.number_is;
      notes_long = s.notes_long;
      work_long = s.work_long;
      depth_low = omega (arith, s.depth_is, s.depth_low);
      counted = s.counted;
      notes_low = notes_low h;
      newest = λ o. open_at fitted s (x.state.depth - 1) (omega arith);
      next = λ o. open_at fitted s (x.state.depth - 1 - 1) (omega arith);
      two = λ o. named_once s.stacked s.distinct (x.state.depth - 1 - 1) (x.state.depth - 1) (omega arith) (omega (arith, s.depth_is));
      open_one = open_for s h.phase;
    }
