-- So many steps and then more, one step of each kind of action, and that a run terminates at one step only. Assumes nothing.
use mathlib.Core.Path.{◌≡◌, refl, sym, ap, ◌∙◌, subst}
use mathlib.Core.Bool.{Bool}
use mathlib.Core.List.{List, [], ◌∷◌}
use mathlib.Core.Option.{Option, none, some}
use Prim.Native.Nat.{ℕ, zero, suc, ◌+◌, ◌-◌, ◌<◌, ◌≤◌}
use native.Mathlib.Nat.{add-zero, add-suc}
use native.Mathlib.Decide.{dec_lt}
use native.Mathlib.Omega.{arith}
use Rattle.machine.specs.declared.Config.{Config}
use Rattle.machine.specs.declared.Reason.{Reason}
use Rattle.machine.specs.declared.Action.{Action}
use Rattle.machine.specs.declared.Action.TheVariants.{Stop, Change, Push, Pop}
use Rattle.machine.specs.Run.{Machine, Entry, entry, Description, description, Outcome, stopped, over, next, returned, step_by, step_on, step, start, only_next, further, after, top, config_of}
use Rattle.machine.specs.Verdicts.{over_base}

-- SO MANY STEPS
pub after_zero : (M : Machine) (x : Description) → after 0 M x ≡ some x
unfolding after
after_zero M x = refl

pub after_suc : (M : Machine) (n : ℕ) (x : Description) → after (suc n) M x ≡ further M (after n M x)
unfolding after
after_suc M n x = refl

pub further_next : (M : Machine) (x y : Description) → step M x ≡ next y → further M (some x) ≡ some y
unfolding further only_next
further_next M x y e = ap only_next e

pub further_from :
    (M : Machine) (o : Option Description) (z : Description) → further M o ≡ some z → (y : Description) × (o ≡ some y) × (step M y ≡ next z)
unfolding further only_next
further_from M none z e = let k : ◌≡◌ {A = ℕ} 0 1 = cc in absurd (omega arith)
further_from M (some y) z e = (y, refl, go (step M y) e)
  where
    go : (o : Outcome) → only_next o ≡ some z → o ≡ next z
    go (stopped r) f = cc
    go (over p i) f = cc
    go (next u) f = cc

pub after_then : (M : Machine) (m n : ℕ) (x : Description) {y : Description} → after m M x ≡ some y → after (m + n) M x ≡ after n M y
after_then M m zero x {y} e = rw add-zero (e ∙ sym (after_zero M y))
after_then M m (suc n) x {y} e =
    rw add-suc (after_suc M (m + n) x ∙ ap (further M) (after_then M m n x e) ∙ sym (after_suc M n y))

-- the step after so many
pub after_next :
    (M : Machine) (n : ℕ) (x : Description) {y z : Description} → after n M x ≡ some y → step M y ≡ next z → after (suc n) M x ≡ some z
after_next M n x {y} {z} e f = after_suc M n x ∙ ap (further M) e ∙ further_next M y z f

pub after_last :
    (M : Machine) (n : ℕ) (x : Description) {z : Description} → after (suc n) M x ≡ some z →
    (y : Description) × (after n M x ≡ some y) × (step M y ≡ next z)
after_last M n x {z} e = further_from M (after n M x) z (sym (after_suc M n x) ∙ e)

pub after_split :
    (M : Machine) (m n : ℕ) (x : Description) {z : Description} → after (m + n) M x ≡ some z →
    (y : Description) × (after m M x ≡ some y) × (after n M y ≡ some z)
after_split M m zero x {z} e = (z, (rw add-zero at e), after_zero M z)
after_split M m (suc n) x {z} e =
    let (y, f, g) = after_last M (m + n) x (rw add-suc at e) in
    let (u, p, q) = after_split M m n x f in
    (u, p, after_next M n u q g)

-- a run that is on after n steps was on after fewer
pub after_before :
    (M : Machine) (k n : ℕ) (x : Description) {z : Description} → k ≤ n → after n M x ≡ some z → (y : Description) × (after k M x ≡ some y)
after_before M k n x l e =
    let rest : n ≡ k + (n - k) = omega arith in
    let (y, f, g) = after_split M k (n - k) x (rw rest at e) in
    (y, f)

-- and counts its steps from there
pub after_rest :
    (M : Machine) (k n : ℕ) (x : Description) {y z : Description} → k ≤ n → after k M x ≡ some y → after n M x ≡ some z →
    after (n - k) M y ≡ some z
after_rest M k n x l e f =
    let rest : n ≡ k + (n - k) = omega arith in
    sym (after_then M k (n - k) x e) ∙ (rw rest at f)

-- the first of so many
pub after_front : (M : Machine) (n : ℕ) (x : Description) {y : Description} → step M x ≡ next y → after (suc n) M x ≡ after n M y
after_front M n x {y} e =
    let one : after 1 M x ≡ some y = after_next M 0 x (after_zero M x) e in
    let k : suc n ≡ 1 + n = omega arith in
    rw k (after_then M 1 n x one)

pub config_over : (c : Config) (i : ℕ) (base : List Entry) → config_of (over_base c i base) ≡ c
unfolding config_of top
config_over c i base = refl

-- ONE STEP, by the action of the configuration
pub step_stop :
    (M : Machine) (c : Config) (i : ℕ) (base : List Entry) {r : Reason} → M.action c ≡ Stop r → step M (over_base c i base) ≡ stopped r
unfolding step step_on step_by
step_stop M c i base e = ap (λ (a : Action). step_by a c.head (entry c.symbol i) base) e

pub step_change :
    (M : Machine) (c : Config) (i : ℕ) (base : List Entry) {e : Config} → M.action c ≡ Change e →
    step M (over_base c i base) ≡ next (over_base e i base)
unfolding step step_on step_by
step_change M c i base h = ap (λ (a : Action). step_by a c.head (entry c.symbol i) base) h

pub step_push :
    (M : Machine) (c : Config) (i : ℕ) (base : List Entry) {e : Config} → M.action c ≡ Push e →
    step M (over_base c i base) ≡ next (over_base e e.head (entry c.symbol i ∷ base))
unfolding step step_on step_by
step_push M c i base h = ap (λ (a : Action). step_by a c.head (entry c.symbol i) base) h

pub step_pop :
    (M : Machine) (c : Config) (i : ℕ) (f : Entry) (es : List Entry) {p : ℕ} {r : Bool} → M.action c ≡ Pop p r →
    step M (over_base c i (f ∷ es)) ≡ next (description p (returned r i c.head) (f ∷ es))
unfolding step step_on step_by
step_pop M c i f es h = ap (λ (a : Action). step_by a c.head (entry c.symbol i) (f ∷ es)) h

pub step_pop_last :
    (M : Machine) (c : Config) (i : ℕ) {p : ℕ} {r : Bool} → M.action c ≡ Pop p r →
    step M (over_base c i []) ≡ over p (returned r i c.head)
unfolding step step_on step_by
step_pop_last M c i h = ap (λ (a : Action). step_by a c.head (entry c.symbol i) []) h

-- TERMINATED: there is no next step
abbrev pub Terminated : Machine → Description → Type 0
Terminated M x = only_next (step M x) ≡ none

pub terminated_stopped : (M : Machine) (x : Description) {r : Reason} → step M x ≡ stopped r → Terminated M x
unfolding only_next
terminated_stopped M x e = ap only_next e

pub terminated_over : (M : Machine) (x : Description) {p i : ℕ} → step M x ≡ over p i → Terminated M x
unfolding only_next
terminated_over M x e = ap only_next e

further_none : (M : Machine) (o : Option Description) → o ≡ none → further M o ≡ none
unfolding further
further_none M o e = ap (further M) e

further_terminated : (M : Machine) (x : Description) → Terminated M x → further M (some x) ≡ none
unfolding further
further_terminated M x h = h

-- once a run is not on, it is not on later
pub after_none : (M : Machine) (m n : ℕ) (x : Description) → after m M x ≡ none → after (m + n) M x ≡ none
after_none M m zero x e = rw add-zero e
after_none M m (suc n) x e =
    rw add-suc (after_suc M (m + n) x ∙ further_none M (after (m + n) M x) (after_none M m n x e))

pub terminated_no_more :
    (M : Machine) (m n : ℕ) (x : Description) {y : Description} → after m M x ≡ some y → Terminated M y → m < n → after n M x ≡ none
terminated_no_more M m n x {y} e h l =
    let now : after (suc m) M x ≡ none = after_suc M m x ∙ ap (further M) e ∙ further_terminated M y h in
    let k : n ≡ suc m + (n - suc m) = omega arith in
    rw k (after_none M (suc m) (n - suc m) x now)

pub not_none : {A : Type 0} (o : Option A) {x : A} → o ≡ some x → o ≡ none → ⊥
not_none o e f = let z : ◌≡◌ {A = ℕ} 0 1 = cc in omega arith

pub some_same : {A : Type 0} (o : Option A) {x y : A} → o ≡ some x → o ≡ some y → x ≡ y
some_same o e f = cc

-- a run terminates at one step only, and in one place
pub terminates_once :
    (M : Machine) (m n : ℕ) (x : Description) {y z : Description} → after m M x ≡ some y → Terminated M y → after n M x ≡ some z →
    Terminated M z → (m ≡ n) × (y ≡ z)
terminates_once M m n x {y} {z} e h f k = go (dec_lt m n) (dec_lt n m)
  where
    go : Dec (m < n) → Dec (n < m) → (m ≡ n) × (y ≡ z)
    go (yes l) d = absurd (not_none (after n M x) f (terminated_no_more M m n x e h l))
    go (no a) (yes l) = absurd (not_none (after m M x) e (terminated_no_more M n m x f k l))
    go (no a) (no b) =
        let same : m ≡ n = omega arith in
        (same, some_same (after n M x) (rw same at e) f)

-- while a run goes on its stack has an entry
pub record Topped (x : Description) : Type 0 where
  pub pointer : ℕ
  pub base : List Entry
  pub is : x ≡ over_base (config_of x) pointer base

pub instant_topped : (p i : ℕ) (e : Entry) (es : List Entry) → Topped (description p i (e ∷ es))
unfolding config_of top
instant_topped p i e es = record { pointer = e.pointer; base = es; is = refl }

next_same : {x y : Description} → next x ≡ next y → x ≡ y
next_same e = cc

next_topped : (a : Action) (i : ℕ) (e : Entry) (es : List Entry) {z : Description} → step_by a i e es ≡ next z → Topped z
unfolding step_by
next_topped (Stop r) i e es h = let k : ◌≡◌ {A = ℕ} 0 1 = cc in absurd (omega arith)
next_topped (Change c) i e es h =
    subst Topped (next_same h) (instant_topped c.state c.head (entry c.symbol e.pointer) es)
next_topped (Push c) i e es h =
    subst Topped (next_same h) (instant_topped c.state c.head (entry c.symbol c.head) (e ∷ es))
next_topped (Pop p r) i e [] h = let k : ◌≡◌ {A = ℕ} 0 1 = cc in absurd (omega arith)
next_topped (Pop p r) i e (f ∷ es) h = subst Topped (next_same h) (instant_topped p (returned r e.pointer i) f es)

step_on_topped : (M : Machine) (p i : ℕ) (es : List Entry) {z : Description} → step_on M p i es ≡ next z → Topped z
unfolding step_on
step_on_topped M p i [] h = let k : ◌≡◌ {A = ℕ} 0 1 = cc in absurd (omega arith)
step_on_topped M p i (e ∷ es) h = next_topped (M.action (record { state = p; head = i; symbol = e.symbol })) i e es h

pub step_topped : (M : Machine) (x : Description) {z : Description} → step M x ≡ next z → Topped z
unfolding step
step_topped M x h = step_on_topped M x.state x.head x.stack h

pub after_topped : (M : Machine) (n : ℕ) (x : Description) {y : Description} → Topped x → after n M x ≡ some y → Topped y
after_topped M zero x t e = subst Topped (some_same (after 0 M x) (after_zero M x) e) t
after_topped M (suc n) x t e = let (y, f, g) = after_last M n x e in step_topped M y g

start_topped : Topped start
unfolding start
start_topped = instant_topped 0 0 (entry 0 0) []

pub entered_topped : (M : Machine) (n : ℕ) {x : Description} → after n M start ≡ some x → Topped x
entered_topped M n e = after_topped M n start start_topped e
