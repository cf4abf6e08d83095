-- What notes and work cells say while the judge looks and unwinds: each configuration is unseen, open, or closed with its terminator, and the work cells are the stack of the open ones. Assumes nothing.
use mathlib.Core.Path.{◌≡◌, refl, sym, subst, ◌∙◌, ap}
use mathlib.Core.Bool.{Bool, true, false, cond}
use mathlib.Core.List.{List, [], ◌∷◌}
use mathlib.Core.Logic.{◌⊎◌, inl, inr}
use Prim.Native.Nat.{ℕ, ◌+◌, ◌<◌, ◌≤◌}
use native.Mathlib.Omega.{arith}
use native.Mathlib.Decide.{ℕ_discrete}
use lib.Dec.{leb}
use lib.ListN.{length, get_or, set}
use lib.Seq.{get_or-set_same, get_or-set_other}
use borrow.Author.Tests.{leb-false, lt-leb}
use Rattle.machine.specs.declared.Config.{Config}
use Rattle.machine.specs.declared.Note.{Note}
use Rattle.machine.specs.declared.Note.TheVariants.{Unseen, Open as NotedOpen, Closed}
use Rattle.machine.specs.Run.{Machine, ValidConfig, number}
use Rattle.machine.specs.Verdicts.{Entered, NoEnd, note_of, NoteRight, never, unended, ended}
use Rattle.machine.proofs.RightNotes.{closed_cell}
use Rattle.machine.proofs.Numbers.{number_injective}
use Rattle.machine.proofs.Ends.{Ends, ends_map, ends_at}
use Rattle.chain.specs.Cells.{open_bit, open_note, cell_note}
use Rattle.chain.proofs.LookBy.{note_open}
use Rattle.chain.proofs.StepAdds.{cell_unseen, open_seen}
use Rattle.chain_theory.proofs.Path.{Open, open_as, Among, here, later}

-- WHAT A CELL SAYS: one below the open bit what it says when the verdict stands, one with it that it is open
pub low_told : {v : ℕ} → v < open_bit → cell_note v ≡ note_of v
unfolding cell_note
low_told {v} l = rw (lt-leb open_bit v l)

pub open_told : {v : ℕ} (c : Config) (b : Bool) → v ≡ open_note c b → cell_note v ≡ NotedOpen
open_told {v} c b e = note_open v (omega arith)

closed_told : (k : ℕ) → k + 2 < open_bit → cell_note (k + 2) ≡ Closed k
closed_told k l = low_told l ∙ closed_cell k

pub closed_low : {v j : ℕ} → cell_note v ≡ Closed j → v < open_bit
unfolding cell_note
closed_low {v} {j} e = go (leb open_bit v) refl e
  where
    go : (x : Bool) → leb open_bit v ≡ x → cond x NotedOpen (note_of v) ≡ Closed j → v < open_bit
    go true q h = absurd (let z : ◌≡◌ {A = ℕ} 0 1 = cc in omega arith)
    go false q h = leb-false open_bit v q

-- a note that is not 0
abbrev pub Seen : Machine → List ℕ → Config → Type 0
Seen M ns c = get_or ns (number M c) 0 ≡ 0 → ⊥

pub seen_set :
    (M : Machine) (ns : List ℕ) (k v : ℕ) → k < length ns → (v ≡ 0 → ⊥) → (c : Config) → Seen M ns c → Seen M (set ns k v) c
seen_set M ns k v long filled c seen zeroed = go (ℕ_discrete (number M c) k)
  where
    go : Dec (number M c ≡ k) → ⊥
    go (yes e) =
        filled (sym (get_or-set_same ns k v 0 long) ∙ subst (λ (j : ℕ). get_or (set ns k v) j 0 ≡ 0) e zeroed)
    go (no e) = seen (sym (get_or-set_other ns k (number M c) v 0 e) ∙ zeroed)

-- THE STACK: the work cells hold the numbers of the open configurations, the newest last, and the note of each says how it was entered
pub data Stacked (M : Machine) (ns ws : List ℕ) : List Open → Type 0 where
  nothing_open : Stacked M ns ws []
  one_open :
      {o : Open} {os : List Open} → ValidConfig M o.config → get_or ws (length os) 0 ≡ number M o.config →
      get_or ns (number M o.config) 0 ≡ open_note o.config o.pushed → Stacked M ns ws os → Stacked M ns ws (o ∷ os)

pub among_there : {M : Machine} {ns ws : List ℕ} {os : List Open} {c : Config} → Stacked M ns ws os → Among c os → ValidConfig M c
among_there {M = M} {ns = ns} {ws = ws} {c = c} nothing_open x3 = elim x3 [ ]
among_there (one_open t w v l) here = t
among_there (one_open t w v l) (later a) = among_there l a

pub among_seen : {M : Machine} {ns ws : List ℕ} {os : List Open} → Stacked M ns ws os → (c : Config) → Among c os → Seen M ns c
among_seen {M = M} {ns = ns} {ws = ws} nothing_open c x3 = elim x3 [ ]
among_seen (one_open {o} t w v l) c here = open_seen o.config o.pushed v
among_seen (one_open t w v l) c (later a) = among_seen l c a

-- a work cell above the stack is set
pub stacked_work :
    {M : Machine} {ns ws : List ℕ} {os : List Open} (k v : ℕ) → length os ≤ k → Stacked M ns ws os → Stacked M ns (set ws k v) os
stacked_work k v above nothing_open = nothing_open
stacked_work {ws = ws} k v above (one_open {os = os} t w n l) =
    one_open t (get_or-set_other ws k (length os) v 0 (λ z. omega arith) ∙ w) n (stacked_work k v (omega arith) l)

-- the note of a configuration that is not open is set
pub stacked_note :
    {M : Machine} {ns ws : List ℕ} {os : List Open} (k v : ℕ) → ((c : Config) → Among c os → number M c ≡ k → ⊥) → Stacked M ns ws os →
    Stacked M (set ns k v) ws os
stacked_note k v other nothing_open = nothing_open
stacked_note {M} {ns} k v other (one_open {o} t w n l) =
    one_open t w (get_or-set_other ns k (number M o.config) v 0 (other o.config here) ∙ n) (stacked_note k v (λ c a. other c (later a)) l)

-- WHAT A NOTE SAYS of its configuration
pub data Cell (M : Machine) (P : Config → Type 0) (os : List Open) (c : Config) : Note → Type 0 where
  unseen : (Among c os → ⊥) → Cell M P os c Unseen
  still_open : Among c os → Cell M P os c NotedOpen
  closed : {d : Config} → (Among c os → ⊥) → ValidConfig M d → Ends M P c d → Cell M P os c (Closed (number M d))

cell_map :
    {M : Machine} {P Q : Config → Type 0} {os ps : List Open} {c : Config} {v : Note} → ((d : Config) → P d → Q d) → (Among c os → Among c ps) →
    (Among c ps → Among c os) → Cell M P os c v → Cell M Q ps c v
cell_map f g h (unseen n) = unseen (λ a. n (h a))
cell_map f g h (still_open a) = still_open (g a)
cell_map f g h (closed n t x) = closed (λ a. n (h a)) t (ends_map f x)

-- all notes, and every one that is not 0 is of a configuration that the run enters
pub record Running (M : Machine) (os : List Open) (ns : List ℕ) : Type 0 where
  pub cells : (c : Config) → ValidConfig M c → Cell M (Seen M ns) os c (cell_note (get_or ns (number M c) 0))
  pub entered : (c : Config) → ValidConfig M c → Seen M ns c → Entered M c

-- every note is right, as it is read while the judge goes on
abbrev pub ToldRight : Machine → (notes : List ℕ) → Type 0
ToldRight M ns = (c : Config) → ValidConfig M c → NoteRight M c (cell_note (get_or ns (number M c) 0))

module _ {M : Machine} {os : List Open} {ns : List ℕ} (running : Running M os ns) where
  -- where every configuration entered is seen and the open ones have no end, the notes are right
  told_by :
      ((c : Config) → Entered M c → Seen M ns c) → ((c : Config) → Among c os → NoEnd M c) → (c : Config) → ValidConfig M c → (v : Note) →
      Cell M (Seen M ns) os c v → cell_note (get_or ns (number M c) 0) ≡ v → NoteRight M c v
  unfolding cell_note note_of
  told_by complete no_end c t v (unseen n) e = never (λ i. complete c i (cell_unseen e))
  told_by complete no_end c t v (still_open a) e =
      unended (running.entered c t (λ z. let f : cell_note (get_or ns (number M c) 0) ≡ Unseen = rw z refl in clash (sym f ∙ e))) (no_end c a)
    where
      clash : Unseen ≡ NotedOpen → ⊥
      clash q = let z : ◌≡◌ {A = ℕ} 0 1 = cc in omega arith
  told_by complete no_end c t v (closed {d} n there x) e =
      ended (running.entered c t (λ z. let f : cell_note (get_or ns (number M c) 0) ≡ Unseen = rw z refl in clash (sym f ∙ e))) there (ends_at x 0)
    where
      clash : Unseen ≡ Closed (number M d) → ⊥
      clash q = let z : ◌≡◌ {A = ℕ} 0 1 = cc in omega arith

  pub settle : ((c : Config) → Entered M c → Seen M ns c) → ((c : Config) → Among c os → NoEnd M c) → ToldRight M ns
  settle complete no_end c t = told_by complete no_end c t _ (running.cells c t) refl

  low_by : {c : Config} (v : Note) → Cell M (Seen M ns) os c v → {n : ℕ} → cell_note n ≡ v → Among c os ⊎ (n < open_bit)
  low_by v (unseen n) e = let z = cell_unseen e in inr (omega arith)
  low_by v (still_open a) e = inl a
  low_by v (closed n t x) e = inr (closed_low e)

  pub low_else : (c : Config) → ValidConfig M c → Among c os ⊎ (get_or ns (number M c) 0 < open_bit)
  low_else c t = low_by _ (running.cells c t) refl

-- one note is set, at e's number: what holds of e, and of every other configuration, holds of all
cells_set :
    {M : Machine} {P : Config → Type 0} {os : List Open} (ns : List ℕ) (e : Config) (v : ℕ) → ValidConfig M e → number M e < length ns →
    Cell M P os e (cell_note v) →
    ((c : Config) → ValidConfig M c → (c ≡ e → ⊥) → Cell M P os c (cell_note (get_or ns (number M c) 0))) →
    (c : Config) → ValidConfig M c → Cell M P os c (cell_note (get_or (set ns (number M e) v) (number M c) 0))
cells_set {M} {P} {os} ns e v there long own others c t = go (ℕ_discrete (number M c) (number M e))
  where
    go : Dec (number M c ≡ number M e) → Cell M P os c (cell_note (get_or (set ns (number M e) v) (number M c) 0))
    go (yes q) =
        let note_is = get_or-set_same ns (number M e) v 0 long in
        subst (λ (d : Config). Cell M P os d (cell_note (get_or (set ns (number M e) v) (number M d) 0)))
        (sym (number_injective t there q))
        (subst (λ (a : ℕ). Cell M P os e (cell_note a)) (sym note_is) own)
    go (no q) =
        let note_is = get_or-set_other ns (number M e) (number M c) v 0 q in
        subst (λ (a : ℕ). Cell M P os c (cell_note a)) (sym note_is) (others c t (λ same. q (ap (number M) same)))

pub among_other : {c e : Config} {b : Bool} {os : List Open} → (c ≡ e → ⊥) → Among c (open_as e b ∷ os) → Among c os
among_other {c} {e} {b} {os} other a = go a refl
  where
    go : {ps : List Open} → Among c ps → ps ≡ open_as e b ∷ os → Among c os
    go here q = absurd (other (same q))
      where
        same : {f : Bool} {qs : List Open} → open_as c f ∷ qs ≡ open_as e b ∷ os → c ≡ e
        same {f} r = let heads : open_as c f ≡ open_as e b = cc in ap (λ (o : Open). o.config) heads
    go (later i) q = subst (Among c) (rest q) i
      where
        rest : {o : Open} {qs : List Open} → o ∷ qs ≡ open_as e b ∷ os → qs ≡ os
        rest r = cc

-- OPENED: a configuration that was unseen
pub running_open :
    {M : Machine} {os : List Open} {ns : List ℕ} (e : Config) (b : Bool) → ValidConfig M e → number M e < length ns → (Among e os → ⊥) →
    Entered M e → Running M os ns → Running M (open_as e b ∷ os) (set ns (number M e) (open_note e b))
running_open {M} {os} {ns} e b there long fresh enters running =
    record {
      cells =
          cells_set ns e v there long (subst (Cell M Q (open_as e b ∷ os) e) (sym (open_told e b refl)) (still_open here))
          (λ c t other. cell_map (seen_set M ns (number M e) v long (open_seen e b refl)) later (among_other other) (running.cells c t));
      entered = λ c t seen. go c t seen (ℕ_discrete (number M c) (number M e));
    }
  where
    v : ℕ
    v = open_note e b

    Q : Config → Type 0
    Q = Seen M (set ns (number M e) v)

    go : (c : Config) → ValidConfig M c → Q c → Dec (number M c ≡ number M e) → Entered M c
    go c t seen (yes q) = subst (Entered M) (sym (number_injective t there q)) enters
    go c t seen (no q) = running.entered c t (λ z. seen (get_or-set_other ns (number M e) (number M c) v 0 q ∙ z))

-- CLOSED: the newest open configuration gets its terminator
pub running_close :
    {M : Machine} {os : List Open} {ns : List ℕ} (e d : Config) (b : Bool) → ValidConfig M e → ValidConfig M d → number M e < length ns →
    number M d + 2 < open_bit → (Among e os → ⊥) → Seen M ns e → Ends M (Seen M ns) e d → Running M (open_as e b ∷ os) ns →
    Running M os (set ns (number M e) (number M d + 2))
running_close {M} {os} {ns} e d b there there_d long few fresh was_seen ends running =
    record {
      cells =
          cells_set ns e (number M d + 2) there long
          (subst (λ (v : Note). Cell M Q os e v) (sym (closed_told (number M d) few)) (closed fresh there_d (ends_map mono ends)))
          (λ c t other. cell_map mono (among_other other) later (running.cells c t));
      entered = λ c t seen. go c t seen (ℕ_discrete (number M c) (number M e));
    }
  where
    Q : Config → Type 0
    Q = Seen M (set ns (number M e) (number M d + 2))

    mono : (c : Config) → Seen M ns c → Q c
    mono = seen_set M ns (number M e) (number M d + 2) long (λ z. omega arith)

    go : (c : Config) → ValidConfig M c → Q c → Dec (number M c ≡ number M e) → Entered M c
    go c t seen (yes q) = running.entered c t (λ z. was_seen (subst (λ (j : ℕ). get_or ns j 0 ≡ 0) q z))
    go c t seen (no q) = running.entered c t (λ z. seen (get_or-set_other ns (number M e) (number M c) (number M d + 2) 0 q ∙ z))
