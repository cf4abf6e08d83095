-- The big-step relation: from a configuration with its entry on top to the configuration whose step removes that entry.
-- Every configuration on the way has a property P. Assumes nothing.
use mathlib.Core.Path.{◌≡◌, ◌∙◌}
use mathlib.Core.Bool.{Bool}
use mathlib.Core.List.{List, [], ◌∷◌}
use mathlib.Core.Option.{some}
use Prim.Native.Nat.{ℕ, zero, suc, ◌+◌, ◌-◌, ◌<◌, ◌≤◌}
use native.Mathlib.Nat.{le_refl}
use native.Mathlib.Decide.{dec_le}
use native.Mathlib.Omega.{arith}
use lib.ListN.{length}
use Rattle.machine.specs.declared.Config.{Config}
use Rattle.machine.specs.declared.Action.TheVariants.{Change, Push, Pop}
use Rattle.machine.specs.Run.{top, Machine, Entry, entry, Description, returned, config, step, next, after, config_of}
use Rattle.machine.specs.Verdicts.{over_base, EndsWith}
use Rattle.machine.proofs.Runs.{after_zero, after_then, after_front, after_next, config_over, step_change, step_push, step_pop, step_pop_last}

-- where the run goes on with c's own entry: c pushed e, and g popped the entry pushed, to state p
abbrev pub resume : (c e g : Config) → (p : ℕ) → (r : Bool) → Config
resume c e g p r = config p (returned r e.head g.head) c.symbol

pub data Ends (M : Machine) (P : Config → Type 0) : (c d : Config) → Type 0 where
  pops : {c : Config} {p : ℕ} {r : Bool} → P c → M.action c ≡ Pop p r → Ends M P c c
  changes : {c e d : Config} → P c → M.action c ≡ Change e → Ends M P e d → Ends M P c d
  pushes :
      {c e g d : Config} {p : ℕ} {r : Bool} → P c → M.action c ≡ Push e → Ends M P e g → M.action g ≡ Pop p r →
      Ends M P (resume c e g p r) d → Ends M P c d

-- how many steps come before the one that removes the entry
unfoldable pub count : {M : Machine} {P : Config → Type 0} {c d : Config} → Ends M P c d → ℕ
count (pops h e) = 0
count (changes h e x) = suc (count x)
count (pushes h e x f y) = suc (count x + suc (count y))

-- c pushes e, the entry pushed is removed from g after n more steps, and the run goes on with c's own entry
pub after_push :
    (M : Machine) (n : ℕ) {c e g : Config} {p : ℕ} {r : Bool} (i : ℕ) (base : List Entry) → M.action c ≡ Push e →
    after n M (over_base e e.head (entry c.symbol i ∷ base)) ≡ some (over_base g e.head (entry c.symbol i ∷ base)) →
    M.action g ≡ Pop p r → after (suc (suc n)) M (over_base c i base) ≡ some (over_base (resume c e g p r) i base)
after_push M n {c} {e} {g} i base h reached k =
    let pushed : Description = over_base e e.head (entry c.symbol i ∷ base) in
    after_front M (suc n) (over_base c i base) (step_push M c i base h)
    ∙ after_next M n pushed reached (step_pop M g e.head (entry c.symbol i) base k)

pub ends_reach :
    {M : Machine} {P : Config → Type 0} {c d : Config} (x : Ends M P c d) (i : ℕ) (base : List Entry) →
    after (count x) M (over_base c i base) ≡ some (over_base d i base)
unfolding count
ends_reach {M} (pops {c} h e) i base = after_zero M (over_base c i base)
ends_reach {M} (changes {c} h f x) i base =
    after_front M (count x) (over_base c i base) (step_change M c i base f) ∙ ends_reach x i base
ends_reach {M} (pushes {c} {e} h f x k y) i base =
    let inner = after_push M (count x) i base f (ends_reach x e.head (entry c.symbol i ∷ base)) k in
    let whole : suc (count x + suc (count y)) ≡ suc (suc (count x)) + count y = omega arith in
    rw whole (after_then M (suc (suc (count x))) (count y) (over_base c i base) inner ∙ ends_reach y i base)

pub ends_pops : {M : Machine} {P : Config → Type 0} {c d : Config} → Ends M P c d → (p : ℕ) × (r : Bool) × (M.action d ≡ Pop p r)
ends_pops (pops {c} {p} {r} h e) = (p, r, e)
ends_pops (changes h e x) = ends_pops x
ends_pops (pushes h e x f y) = ends_pops y

pub ends_map :
    {M : Machine} {P Q : Config → Type 0} {c d : Config} → ((c : Config) → P c → Q c) → Ends M P c d → Ends M Q c d
ends_map t (pops {c} h e) = pops (t c h) e
ends_map t (changes {c} h e x) = changes (t c h) e (ends_map t x)
ends_map t (pushes {c} h e x f y) = pushes (t c h) e (ends_map t x) f (ends_map t y)

pub ends_at : {M : Machine} {P : Config → Type 0} {c d : Config} → Ends M P c d → (i : ℕ) → EndsWith M c i d
ends_at {M} {c} {d} x i =
    let (p, r, e) = ends_pops x in
    record {
      steps = count x;
      place = over_base d i [];
      reached = ends_reach x i [];
      is = config_over d i [];
      gone = (p, returned r i d.head, step_pop_last M d i e);
    }

pub ends_here : {M : Machine} {P : Config → Type 0} {c d : Config} → Ends M P c d → P c
ends_here (pops h e) = h
ends_here (changes h e x) = h
ends_here (pushes h e x f y) = h

-- a place on the way, in which the entry still lies on base
abbrev pub OnTheWay : (M : Machine) → (Config → Type 0) → Description → (k : ℕ) → List Entry → Type 0
OnTheWay M P x k base =
    (y : Description) × (after k M x ≡ some y) × P (config_of y) × (length base < length y.stack) ×
    ((g : Config) × Ends M P (config_of y) g)

at_first :
    {M : Machine} {P : Config → Type 0} {c d : Config} → Ends M P c d → (i : ℕ) (base : List Entry) →
    OnTheWay M P (over_base c i base) 0 base
unfolding config_of top
at_first {M} {c} {d} x i base =
    (over_base c i base, after_zero M (over_base c i base), ends_here x, le_refl (suc (length base)), (d, x))

way_later :
    (M : Machine) (P : Config → Type 0) (m k : ℕ) (x : Description) (base : List Entry) {z : Description} → after m M x ≡ some z →
    OnTheWay M P z k base → OnTheWay M P x (m + k) base
way_later M P m k x base e (y, reached, holds, above, later) = (y, after_then M m k x e ∙ reached, holds, above, later)

way_front :
    (M : Machine) (P : Config → Type 0) (k : ℕ) (x : Description) (base : List Entry) {z : Description} → step M x ≡ next z →
    OnTheWay M P z k base → OnTheWay M P x (suc k) base
way_front M P k x base e (y, reached, holds, above, later) = (y, after_front M k x e ∙ reached, holds, above, later)

way_lower :
    (M : Machine) (P : Config → Type 0) (k : ℕ) (x : Description) (f : Entry) (base : List Entry) →
    OnTheWay M P x k (f ∷ base) → OnTheWay M P x k base
way_lower M P k x f base (y, reached, holds, above, later) = (y, reached, holds, omega arith, later)

-- the part of the way that a push leads to: until the entry pushed is removed, then from there
way_push :
    (M : Machine) (P : Config → Type 0) (m n : ℕ) (c e g : Config) {p : ℕ} {r : Bool} (i : ℕ) (base : List Entry) →
    M.action c ≡ Push e →
    after m M (over_base e e.head (entry c.symbol i ∷ base)) ≡ some (over_base g e.head (entry c.symbol i ∷ base)) →
    M.action g ≡ Pop p r →
    ((k : ℕ) → k ≤ m → OnTheWay M P (over_base e e.head (entry c.symbol i ∷ base)) k (entry c.symbol i ∷ base)) →
    ((k : ℕ) → k ≤ n → OnTheWay M P (over_base (resume c e g p r) i base) k base) → (k : ℕ) → k ≤ m + suc n →
    OnTheWay M P (over_base c i base) (suc k) base
way_push M P m n c e g {p} {r} i base f reached t inner outer k l = go (dec_le k m)
  where
    go : Dec (k ≤ m) → OnTheWay M P (over_base c i base) (suc k) base
    go (yes a) =
        way_lower M P (suc k) (over_base c i base) (entry c.symbol i) base
        (way_front M P k (over_base c i base) (entry c.symbol i ∷ base) (step_push M c i base f) (inner k a))
    go (no a) =
        let rest : suc k ≡ suc (suc m) + (k - suc m) = omega arith in
        rw rest (way_later M P (suc (suc m)) (k - suc m) (over_base c i base) base (after_push M m i base f reached t)
        (outer (k - suc m) (omega arith)))

pub ends_inside :
    {M : Machine} {P : Config → Type 0} {c d : Config} (x : Ends M P c d) (i : ℕ) (base : List Entry) (k : ℕ) → k ≤ count x →
    OnTheWay M P (over_base c i base) k base
unfolding count
ends_inside (pops h e) i base zero l = at_first (pops h e) i base
ends_inside (pops h e) i base (suc k) l = absurd (omega arith)
ends_inside (changes h f x) i base zero l = at_first (changes h f x) i base
ends_inside {M} {P} (changes {c} h f x) i base (suc k) l =
    way_front M P k (over_base c i base) base (step_change M c i base f) (ends_inside x i base k (omega arith))
ends_inside (pushes h f x t y) i base zero l = at_first (pushes h f x t y) i base
ends_inside {M} {P} (pushes {c} {e} {g} h f x t y) i base (suc k) l =
    let below : List Entry = entry c.symbol i ∷ base in
    way_push M P (count x) (count y) c e g i base f (ends_reach x e.head below) t
    (λ n b. ends_inside x e.head below n b) (λ n b. ends_inside y i base n b) k (omega arith)
