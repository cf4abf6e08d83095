-- The open configurations as a path from the start to the configuration looked at: each leads to the next by a change, by a push, or by a push whose entry is gone again.
-- From it: where the run is, and how it goes on from each open configuration. Assumes nothing.
use mathlib.Core.Path.{◌≡◌, refl, subst, ◌∙◌}
use mathlib.Core.Bool.{Bool, true, false}
use mathlib.Core.List.{List, [], ◌∷◌}
use mathlib.Core.Option.{some}
use Prim.Native.Nat.{ℕ, zero, suc, ◌+◌, ◌<◌}
use native.Mathlib.Omega.{arith}
use Rattle.machine.specs.declared.Config.{Config}
use Rattle.machine.specs.declared.Action.TheVariants.{Change, Push, Pop}
use Rattle.machine.specs.Run.{Machine, Entry, entry, Description, after, config, config_of, top}
use Rattle.machine.specs.Verdicts.{over_base}
use Rattle.machine.proofs.Runs.{after_zero, after_front, some_same, step_change, step_push}
use Rattle.machine.proofs.Ends.{Ends, changes, pushes, count, resume, after_push, ends_inside, ends_reach, ends_map}
use Rattle.chain_theory.proofs.Travel.{Visit, Travels, travels_none, travels_then}

-- an open configuration, and whether a push entered it
pub record Open : Type 0 where
  pub config : Config
  pub pushed : Bool

abbrev pub open_as : Config → Bool → Open
open_as c b = record { config = c; pushed = b }

pub data Among (c : Config) : List Open → Type 0 where
  here : {b : Bool} {os : List Open} → Among c (open_as c b ∷ os)
  later : {o : Open} {os : List Open} → Among c os → Among c (o ∷ os)

pub data Leads (M : Machine) (P : Config → Type 0) : (c : Config) → (pushed : Bool) → (e : Config) → Type 0 where
  by_change : {c e : Config} → M.action c ≡ Change e → Leads M P c false e
  by_push : {c e : Config} → M.action c ≡ Push e → Leads M P c true e
  by_return :
      {c e g : Config} {p : ℕ} {r : Bool} → M.action c ≡ Push e → Ends M P e g → M.action g ≡ Pop p r →
      Leads M P c false (resume c e g p r)

-- newest first, up to the configuration looked at
pub data Path (M : Machine) (P : Config → Type 0) : List Open → Config → Bool → Type 0 where
  begin : Path M P [] (config 0 0 0) true
  on :
      {os : List Open} {c e : Config} {b f : Bool} → Path M P os c b → Leads M P c f e → Path M P (open_as c b ∷ os) e f

unfoldable pub lead_steps : {M : Machine} {P : Config → Type 0} {c e : Config} {f : Bool} → Leads M P c f e → ℕ
lead_steps (by_change a) = 1
lead_steps (by_push a) = 1
lead_steps (by_return a x b) = suc (suc (count x))

unfoldable pub path_steps : {M : Machine} {P : Config → Type 0} {os : List Open} {e : Config} {f : Bool} → Path M P os e f → ℕ
path_steps begin = 0
path_steps (on p l) = path_steps p + lead_steps l

pub leads_map :
    {M : Machine} {P Q : Config → Type 0} {c e : Config} {f : Bool} → ((d : Config) → P d → Q d) → Leads M P c f e → Leads M Q c f e
leads_map t (by_change a) = by_change a
leads_map t (by_push a) = by_push a
leads_map t (by_return a x b) = by_return a (ends_map t x) b

pub path_map :
    {M : Machine} {P Q : Config → Type 0} {os : List Open} {e : Config} {f : Bool} → ((d : Config) → P d → Q d) → Path M P os e f → Path M Q os e f
path_map t begin = begin
path_map t (on p l) = on (path_map t p) (leads_map t l)

-- what the next one at the same height ends with, this one ends with
pub leads_ends : {M : Machine} {P : Config → Type 0} {c e d : Config} → P c → Leads M P c false e → Ends M P e d → Ends M P c d
leads_ends h (by_change a) y = changes h a y
leads_ends h (by_return a x b) y = pushes h a x b y

-- the way to e, and on from c to e
pub record Along (M : Machine) (P : Config → Type 0) (c e : Config) (total : ℕ) : Type 0 where
  pub before : ℕ
  pub more : ℕ
  pub forward : 0 < more
  pub adds : before + more ≡ total
  pub to : Travels M P before (config 0 0 0) c
  pub from : Travels M P more c e

module _ {M : Machine} {P : Config → Type 0} where
  visit_first : {c : Config} → P c → (i : ℕ) (base : List Entry) → Visit M P 0 (over_base c i base) base
  unfolding config_of top
  visit_first {c} h i base =
      record { place = over_base c i base; reached = after_zero M (over_base c i base); holds = h; above = omega arith }

  visit_only : {c : Config} → P c → (i : ℕ) (base : List Entry) (k : ℕ) → k < 1 → Visit M P k (over_base c i base) base
  visit_only h i base zero l = visit_first h i base
  visit_only h i base (suc k) l = absurd (omega arith)

  visit_return :
      {c e g : Config} → P c → M.action c ≡ Push e → (x : Ends M P e g) → (i : ℕ) (base : List Entry) (k : ℕ) → k < suc (suc (count x)) →
      Visit M P k (over_base c i base) base
  visit_return h a x i base zero l = visit_first h i base
  visit_return {c} {e} h a x i base (suc k) l =
      let (y, reached, holds, above, rest) = ends_inside x e.head (entry c.symbol i ∷ base) k (omega arith) in
      record {
        place = y;
        reached = after_front M k (over_base c i base) (step_push M c i base a) ∙ reached;
        holds = holds;
        above = omega (arith, above);
      }

  pub lead_travels : {c e : Config} {f : Bool} → P c → (l : Leads M P c f e) → Travels M P (lead_steps l) c e
  unfolding lead_steps
  lead_travels {c} {e} h (by_change a) i base =
      record {
        pointer = i;
        ground = base;
        reached = after_front M 0 (over_base c i base) (step_change M c i base a) ∙ after_zero M (over_base e i base);
        higher = omega arith;
        visits = visit_only h i base;
      }
  lead_travels {c} {e} h (by_push a) i base =
      record {
        pointer = e.head;
        ground = entry c.symbol i ∷ base;
        reached = after_front M 0 (over_base c i base) (step_push M c i base a) ∙ after_zero M (over_base e e.head (entry c.symbol i ∷ base));
        higher = omega arith;
        visits = visit_only h i base;
      }
  lead_travels {c} h (by_return {e = e} {g = g} a x b) i base =
      record {
        pointer = i;
        ground = base;
        reached = after_push M (count x) i base a (ends_reach x e.head (entry c.symbol i ∷ base)) b;
        higher = omega arith;
        visits = visit_return h a x i base;
      }

  -- between an open configuration and the next, every one has an end
  pub lead_inner :
      {c e : Config} {f : Bool} (l : Leads M P c f e) (i : ℕ) (base : List Entry) (k : ℕ) → 0 < k → k < lead_steps l → (y : Description) →
      after k M (over_base c i base) ≡ some y → (g : Config) × Ends M P (config_of y) g
  unfolding lead_steps
  lead_inner (by_change a) i base k lo hi y at_y = absurd (omega arith)
  lead_inner (by_push a) i base k lo hi y at_y = absurd (omega arith)
  lead_inner (by_return a x b) i base zero lo hi y at_y = absurd (omega arith)
  lead_inner {c} (by_return {e = e} a x b) i base (suc k) lo hi y at_y =
      let (z, reached, holds, above, rest) = ends_inside x e.head (entry c.symbol i ∷ base) k (omega arith) in
      let same : z ≡ y = some_same (after (suc k) M (over_base c i base)) (after_front M k (over_base c i base) (step_push M c i base a) ∙ reached) at_y in
      subst (λ (w : Description). (g : Config) × Ends M P (config_of w) g) same rest

  pub lead_forward : {c e : Config} {f : Bool} (l : Leads M P c f e) → 0 < lead_steps l
  unfolding lead_steps
  lead_forward (by_change a) = omega arith
  lead_forward (by_push a) = omega arith
  lead_forward (by_return a x b) = omega arith

  pub path_travels :
      {os : List Open} {e : Config} {f : Bool} (p : Path M P os e f) → ((c : Config) → Among c os → P c) →
      Travels M P (path_steps p) (config 0 0 0) e
  unfolding path_steps
  path_travels begin h = travels_none
  path_travels (on {c = c} p l) h =
      travels_then (path_steps p) (lead_steps l) (path_travels p (λ d a. h d (later a))) (lead_travels (h c here) l)

  pub path_along :
      {os : List Open} {e c : Config} {f : Bool} (p : Path M P os e f) → ((c : Config) → Among c os → P c) → Among c os →
      Along M P c e (path_steps p)
  unfolding path_steps
  path_along {c = c} begin h x8 = elim x8 [ ]
  path_along (on {c = d} p l) h here =
      record {
        before = path_steps p;
        more = lead_steps l;
        forward = lead_forward l;
        adds = refl;
        to = path_travels p (λ d a. h d (later a));
        from = lead_travels (h d here) l;
      }
  path_along (on {c = d} p l) h (later a) =
      let first = path_along p (λ d a. h d (later a)) a in
      record {
        before = first.before;
        more = first.more + lead_steps l;
        forward = omega (arith, first.forward);
        adds = omega (arith, first.adds);
        to = first.to;
        from = travels_then first.more (lead_steps l) first.from (lead_travels (h d here) l);
      }
