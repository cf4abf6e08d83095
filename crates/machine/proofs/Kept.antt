-- From so many steps to the big-step relation: within n steps the entry's terminator is met, or the entry stays. Assumes nothing.
use mathlib.Core.Path.{◌≡◌, refl, sym, ◌∙◌, subst}
use mathlib.Core.Bool.{Bool}
use mathlib.Core.List.{List, ◌∷◌}
use mathlib.Core.Option.{none, some}
use mathlib.Core.Logic.{◌⊎◌, inl, inr}
use Prim.Native.Nat.{ℕ, zero, suc, ◌+◌, ◌-◌, ◌<◌, ◌≤◌, suc-le-suc}
use native.Mathlib.Nat.{le_refl}
use native.Mathlib.Decide.{dec_lt, dec_le}
use native.Mathlib.Omega.{arith}
use lib.ListN.{length}
use Rattle.machine.specs.declared.Config.{Config}
use Rattle.machine.specs.declared.Action.{Action}
use Rattle.machine.specs.declared.Reason.{Reason}
use Rattle.machine.specs.declared.Action.TheVariants.{Stop, Change, Push, Pop}
use Rattle.machine.specs.Run.{Machine, Entry, entry, Description, after, top, config_of}
use Rattle.machine.specs.Verdicts.{over_base}
use Rattle.machine.proofs.Runs.{after_zero, after_rest, after_front, step_stop, step_change, step_push, terminated_stopped, terminated_no_more, not_none, some_same}
use Rattle.machine.proofs.Ends.{resume, Ends, pops, changes, pushes, count, after_push, ends_reach, ends_pops, ends_inside}

abbrev pub Any : Config → Type 0
Any c = Unit {0}

-- an entry lies on base, and the next step does not remove it
pub record Above (M : Machine) (base : List Entry) (y : Description) : Type 0 where
  pub higher : length base < length y.stack
  pub stays : (p : ℕ) (r : Bool) → M.action (config_of y) ≡ Pop p r → suc (length base) < length y.stack

pub record Kept (M : Machine) (n : ℕ) (c : Config) : Type 0 where
  pub keeps :
      (i : ℕ) (base : List Entry) (k : ℕ) (y : Description) → k ≤ n → after k M (over_base c i base) ≡ some y → Above M base y

pub record EndedWithin (M : Machine) (n : ℕ) (c : Config) : Type 0 where
  pub last : Config
  pub way : Ends M Any c last
  pub soon : count way ≤ n

abbrev pub Within : Machine → ℕ → Config → Type 0
Within M n c = EndedWithin M n c ⊎ Kept M n c

-- a higher entry stands between
above_higher : (M : Machine) (base : List Entry) (y : Description) → suc (length base) < length y.stack → Above M base y
above_higher M base y l = record { higher = omega arith; stays = λ p r e. l }

-- the action is no pop
abbrev PopsNot : Machine → Config → Type 0
PopsNot M c = (p : ℕ) (r : Bool) → M.action c ≡ Pop p r → ⊥

stop_pops_not : (M : Machine) (c : Config) {r : Reason} → M.action c ≡ Stop r → PopsNot M c
stop_pops_not M c h p r e = let z : ◌≡◌ {A = ℕ} 0 1 = cc in omega arith

change_pops_not : (M : Machine) (c : Config) {e : Config} → M.action c ≡ Change e → PopsNot M c
change_pops_not M c h p r e = let z : ◌≡◌ {A = ℕ} 0 1 = cc in omega arith

push_pops_not : (M : Machine) (c : Config) {e : Config} → M.action c ≡ Push e → PopsNot M c
push_pops_not M c h p r e = let z : ◌≡◌ {A = ℕ} 0 1 = cc in omega arith

above_first : (M : Machine) (c : Config) (i : ℕ) (base : List Entry) → PopsNot M c → Above M base (over_base c i base)
unfolding config_of top
above_first M c i base h = record { higher = le_refl (suc (length base)); stays = λ p r e. absurd (h p r e) }

-- what a configuration that does not pop keeps: itself, and what it keeps from the next step on
kept_from :
    (M : Machine) (n : ℕ) (c : Config) → PopsNot M c →
    ((i : ℕ) (base : List Entry) (k : ℕ) (y : Description) → k < n → after (suc k) M (over_base c i base) ≡ some y → Above M base y) →
    Kept M n c
kept_from M n c h later = record { keeps = go }
  where
    go : (i : ℕ) (base : List Entry) (k : ℕ) (y : Description) → k ≤ n → after k M (over_base c i base) ≡ some y → Above M base y
    go i base zero y l e =
        let same = some_same (after 0 M (over_base c i base)) (after_zero M (over_base c i base)) e in
        subst (Above M base) same (above_first M c i base h)
    go i base (suc k) y l e = later i base k y l e

kept_zero : (M : Machine) (c : Config) → PopsNot M c → Kept M 0 c
kept_zero M c h = kept_from M 0 c h (λ i base k y l f. absurd (omega arith))

stop_kept : (M : Machine) (n : ℕ) (c : Config) {r : Reason} → M.action c ≡ Stop r → Kept M n c
stop_kept M n c h =
    kept_from M n c (stop_pops_not M c h)
    (λ i base k y l e. absurd (not_none (after (suc k) M (over_base c i base)) e (none_then i base k)))
  where
    none_then : (i : ℕ) (base : List Entry) (k : ℕ) → after (suc k) M (over_base c i base) ≡ none
    none_then i base k =
        let terminated = terminated_stopped M (over_base c i base) (step_stop M c i base h) in
        terminated_no_more M 0 (suc k) (over_base c i base) (after_zero M (over_base c i base)) terminated (omega arith)

-- from the step after a change, or after a push
changed :
    (M : Machine) (c : Config) {e : Config} → M.action c ≡ Change e → (i : ℕ) (base : List Entry) (k : ℕ) →
    after k M (over_base e i base) ≡ after (suc k) M (over_base c i base)
changed M c h i base k = sym (after_front M k (over_base c i base) (step_change M c i base h))

pushed :
    (M : Machine) (c : Config) {e : Config} → M.action c ≡ Push e → (i : ℕ) (base : List Entry) (k : ℕ) →
    after k M (over_base e e.head (entry c.symbol i ∷ base)) ≡ after (suc k) M (over_base c i base)
pushed M c h i base k = sym (after_front M k (over_base c i base) (step_push M c i base h))

change_kept : (M : Machine) (n : ℕ) (c : Config) {e : Config} → M.action c ≡ Change e → Kept M n e → Kept M (suc n) c
change_kept M n c h kept =
    kept_from M (suc n) c (change_pops_not M c h)
    (λ i base k y l f. kept.keeps i base k y (omega arith) (changed M c h i base k ∙ f))

push_kept : (M : Machine) (n : ℕ) (c : Config) {e : Config} → M.action c ≡ Push e → Kept M n e → Kept M (suc n) c
push_kept M n c {e} h kept = kept_from M (suc n) c (push_pops_not M c h) go
  where
    go : (i : ℕ) (base : List Entry) (k : ℕ) (y : Description) → k < suc n → after (suc k) M (over_base c i base) ≡ some y → Above M base y
    go i base k y l f =
        let on = kept.keeps e.head (entry c.symbol i ∷ base) k y (omega arith) (pushed M c h i base k ∙ f) in
        above_higher M base y on.higher

-- while the entry pushed lies on c's
inner_above :
    (M : Machine) (c : Config) {e g : Config} → M.action c ≡ Push e → (x : Ends M Any e g) →
    (i : ℕ) (base : List Entry) (k : ℕ) (y : Description) → k ≤ count x → after (suc k) M (over_base c i base) ≡ some y → Above M base y
inner_above M c {e} h x i base k y l f =
    let below : List Entry = entry c.symbol i ∷ base in
    let (z, reached, any, above, later) = ends_inside x e.head below k l in
    let same : z ≡ y = some_same (after k M (over_base e e.head below)) reached (pushed M c h i base k ∙ f) in
    above_higher M base y (subst (λ (u : Description). suc (length base) < length u.stack) same above)

inner_kept :
    (M : Machine) (n : ℕ) (c : Config) {e g : Config} → M.action c ≡ Push e → (x : Ends M Any e g) → n ≤ suc (count x) → Kept M n c
inner_kept M n c h x l =
    kept_from M n c (push_pops_not M c h) (λ i base k y b f. inner_above M c h x i base k y (omega arith) f)

resume_kept :
    (M : Machine) (n : ℕ) (c : Config) {e g : Config} {p : ℕ} {r : Bool} → M.action c ≡ Push e → (x : Ends M Any e g) →
    M.action g ≡ Pop p r → Kept M n (resume c e g p r) → Kept M (suc (suc (count x)) + n) c
resume_kept M n c {e} {g} {p} {r} h x t kept =
    kept_from M (suc (suc (count x)) + n) c (push_pops_not M c h) (λ i base k y b f. go i base k y b f (dec_le k (count x)))
  where
    go :
        (i : ℕ) (base : List Entry) (k : ℕ) (y : Description) → k < suc (suc (count x)) + n →
        after (suc k) M (over_base c i base) ≡ some y → Dec (k ≤ count x) → Above M base y
    go i base k y b f (yes l) = inner_above M c h x i base k y l f
    go i base k y b f (no l) =
        let resumed = after_push M (count x) i base h (ends_reach x e.head (entry c.symbol i ∷ base)) t in
        let onward = after_rest M (suc (suc (count x))) (suc k) (over_base c i base) (omega arith) resumed f in
        kept.keeps i base (suc k - suc (suc (count x))) y (omega arith) onward

-- ONE ROUND of the induction on n: by the action of c, with the answers for fewer steps
abbrev Fewer : Machine → ℕ → Type 0
Fewer M n = (m : ℕ) → m < n → (e : Config) → Within M m e

when_change : (M : Machine) (n : ℕ) (c : Config) {e : Config} → M.action c ≡ Change e → Within M n e → Within M (suc n) c
unfolding count
when_change M n c h (inl w) = inl (record { last = w.last; way = changes tt h w.way; soon = suc-le-suc w.soon })
when_change M n c h (inr kept) = inr (change_kept M n c h kept)

when_resumed :
    (M : Machine) (n : ℕ) (c : Config) {e g : Config} {p : ℕ} {r : Bool} → M.action c ≡ Push e → (x : Ends M Any e g) →
    M.action g ≡ Pop p r → Within M n (resume c e g p r) → Within M (suc (suc (count x)) + n) c
unfolding count
when_resumed M n c h x t (inl w) =
    let soon : count w.way ≤ n = w.soon in
    inl (record { last = w.last; way = pushes tt h x t w.way; soon = omega arith })
when_resumed M n c h x t (inr kept) = inr (resume_kept M n c h x t kept)

when_push : (M : Machine) (n : ℕ) (c : Config) {e : Config} → M.action c ≡ Push e → Fewer M n → Within M n e → Within M (suc n) c
when_push M n c h fewer (inr kept) = inr (push_kept M n c h kept)
when_push M n c {e} h fewer (inl w) = go (ends_pops w.way) (dec_lt (count w.way) n)
  where
    go : (p : ℕ) × (r : Bool) × (M.action w.last ≡ Pop p r) → Dec (count w.way < n) → Within M (suc n) c
    go t (no l) = inr (inner_kept M (suc n) c h w.way (omega arith))
    go (p, r, t) (yes l) =
        let m : ℕ = n - suc (count w.way) in
        let all : suc (suc (count w.way)) + m ≡ suc n = omega arith in
        rw all at (when_resumed M m c h w.way t (fewer m (omega arith) (resume c e w.last p r)))

when_pop : (M : Machine) (n : ℕ) (c : Config) {p : ℕ} {r : Bool} → M.action c ≡ Pop p r → Within M n c
unfolding count
when_pop M n c h = inl (record { last = c; way = pops tt h; soon = omega arith })

round : (M : Machine) (c : Config) (a : Action) → M.action c ≡ a → (n : ℕ) → Fewer M n → Within M n c
round M c (Stop r) h n fewer = inr (stop_kept M n c h)
round M c (Pop p r) h n fewer = when_pop M n c h
round M c (Change e) h zero fewer = inr (kept_zero M c (change_pops_not M c h))
round M c (Change e) h (suc n) fewer = when_change M n c h (fewer n (le_refl (suc n)) e)
round M c (Push e) h zero fewer = inr (kept_zero M c (push_pops_not M c h))
round M c (Push e) h (suc n) fewer =
    when_push M n c h (λ m l f. fewer m (omega arith) f) (fewer n (le_refl (suc n)) e)

rounds : (M : Machine) (bound n : ℕ) → n < bound → (c : Config) → Within M n c
rounds M zero n l c = absurd (omega arith)
rounds M (suc bound) n l c = round M c (M.action c) refl n (λ m b e. rounds M bound m (omega arith) e)

pub ends_or_kept : (M : Machine) (n : ℕ) (c : Config) → Within M n c
ends_or_kept M n c = rounds M (suc n) n (le_refl (suc n)) c
