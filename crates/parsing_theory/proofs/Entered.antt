-- The configurations that a grammar's machine enters: the start, those of the box, and those at the bottom of the stack: by a whole match one at most, by a leading one at most one a head. Assumes nothing.
use mathlib.Core.Path.{◌≡◌, refl, sym, ap, subst, ◌∙◌}
use mathlib.Core.Bool.{Bool, true, false}
use mathlib.Core.List.{List, [], ◌∷◌}
use mathlib.Core.Option.{some}
use Prim.Native.Nat.{ℕ, zero, suc, ◌*◌, ◌-◌, ◌<◌, ◌≤◌}
use native.Mathlib.Decide.{dec_lt, ℕ_discrete}
use native.Mathlib.Omega.{arith}
use lib.ListN.{length}
use Rattle.machine.specs.declared.Config.{Config}
use Rattle.machine.specs.declared.Action.{Action}
use Rattle.machine.specs.declared.Action.TheVariants.{Stop, Change, Push, Pop}
use Rattle.machine.specs.Run.{Machine, Entry, entry, Description, description, next, returned, step, step_on, step_by, start, only_next, after, config, config_of, top}
use Rattle.machine.specs.Verdicts.{Entered, over_base}
use Rattle.machine.proofs.Runs.{after_zero, after_last, after_rest, after_front, config_over, not_none, some_same, step_push, Terminated, terminated_no_more, terminates_once}
use Rattle.grammar.specs.Parsing.{Rules}
use Rattle.builder.specs.declared.Matching.{Matching}
use Rattle.builder.specs.Table.{state_start, state_work, state_ok, state_fail}
use Rattle.parsing_theory.proofs.Table.{Table, ChoiceRow}
use Rattle.parsing_theory.proofs.Leads.{InBox, AtBottom, Leads, box_leads, AtLast, terminates, passes_byte, bottom_goes}

-- the pointers and the symbols below the top: the bottom entry, and rules' symbols above it
data Entries (m n : ℕ) : List Entry → Type 0 where
  bottom : {j : ℕ} → Entries m n (entry 0 j ∷ [])
  above :
      {a j : ℕ} {es : List Entry} → 0 < a → a ≤ 2 * m → 0 < j → j ≤ suc n → Entries m n es → Entries m n (entry a j ∷ es)

-- where a run can be
data Running (m n : ℕ) : Description → Type 0 where
  starting : Running m n start
  boxed : {c : Config} {j : ℕ} {es : List Entry} → InBox m n c → 0 < j → j ≤ suc n → Entries m n es → Running m n (over_base c j es)
  on_bottom : {c : Config} {j : ℕ} → AtBottom n c → Running m n (over_base c j [])

returned_least : (r : Bool) (i j : ℕ) → 0 < i → 0 < j → 0 < returned r i j
returned_least true i j a b = a
returned_least false i j a b = b

returned_most : {n : ℕ} (r : Bool) (i j : ℕ) → i ≤ n → j ≤ n → returned r i j ≤ n
returned_most true i j a b = a
returned_most false i j a b = b

next_same : {x y : Description} → next x ≡ next y → x ≡ y
next_same e = cc

-- a pop in the box leads to the entry below
popped_to :
    {m n : ℕ} (p i : ℕ) {es : List Entry} → state_ok ≤ p → p ≤ state_fail → 0 < i → i ≤ suc n → Entries m n es → Running m n (description p i es)
popped_to p i least most head_least head_most bottom =
    on_bottom (record { state_least = least; state_most = most; head_least = head_least; head_most = head_most; symbol_is = refl })
popped_to p i least most head_least head_most (above {a = a} a_least a_most j_least j_most rest) =
    let b : InBox _ _ (config p i a) =
    record {
      state_least = omega arith;
      state_most = most;
      head_least = head_least;
      head_most = head_most;
      symbol_least = a_least;
      symbol_most = a_most;
    } in
    boxed b j_least j_most rest

boxed_next :
    {m n : ℕ} (c : Config) → InBox m n c → (a : Action) → Leads m n a → (j : ℕ) → 0 < j → j ≤ suc n → (es : List Entry) →
    Entries m n es → (y : Description) → step_by a c.head (entry c.symbol j) es ≡ next y → Running m n y
unfolding step_by Leads
boxed_next c b (Stop r) leads j least most es w y e = let z : ◌≡◌ {A = ℕ} 0 1 = cc in absurd (omega arith)
boxed_next {m} {n} c b (Change d) leads j least most es w y e = subst (Running m n) (next_same e) (boxed leads least most w)
boxed_next {m} {n} c b (Push d) leads j least most es w y e =
    subst (Running m n) (next_same e)
    (boxed leads leads.head_least leads.head_most (above b.symbol_least b.symbol_most least most w))
boxed_next c b (Pop p r) leads j least most [] w y e = let z : ◌≡◌ {A = ℕ} 0 1 = cc in absurd (omega arith)
boxed_next {m} {n} c b (Pop p r) leads j least most (f ∷ es) w y e =
    subst (Running m n) (next_same e)
    (popped_to p (returned r j c.head) leads.0 leads.1 (returned_least r j c.head least b.head_least)
    (returned_most r j c.head most b.head_most) w)

-- a byte further the bottom entry alone is left still
one_further : {n i : ℕ} → i ≤ n → AtBottom n (config state_ok (suc i) 0)
one_further most = record { state_least = omega arith; state_most = omega arith; head_least = omega arith; head_most = omega arith; symbol_is = refl }

terminated_no_next : (M : Machine) (x y : Description) → Terminated M x → step M x ≡ next y → ⊥
unfolding only_next
terminated_no_next M x y h e =
    let goes : only_next (step M x) ≡ some y = ap only_next e in
    let z : ◌≡◌ {A = ℕ} 0 1 = cc in omega arith

module _ {how : Matching} {M : Machine} {E : Rules} {m : ℕ} {cs : List ℕ} (table : Table M E m cs) (choice : ChoiceRow how M cs) where
  start_next : (y : Description) → step M start ≡ next y → Running m (length cs) y
  unfolding start
  start_next y e =
      let goes : step M start ≡ next (over_base (config state_work 1 1) 1 (entry 0 0 ∷ [])) = step_push M (config state_start 0 0) 0 [] table.starts in
      let least = table.some_rule in
      let b : InBox m (length cs) (config state_work 1 1) = omega arith in
      subst (Running m (length cs)) (next_same (sym goes ∙ e)) (boxed b (omega arith) (omega arith) bottom)

  step_running : {x : Description} → Running m (length cs) x → (y : Description) → step M x ≡ next y → Running m (length cs) y
  unfolding step step_on
  step_running starting y e = start_next y e
  step_running (boxed {c = c} {j = j} {es = es} b least most w) y e =
      boxed_next c b (M.action c) (box_leads table c b) j least most es w y e
  step_running (on_bottom {c = c} {j = j} b) y e = go (bottom_goes table choice c b j)
    where
      go : AtLast how M (length cs) c j → Running m (length cs) y
      go (terminates h) = absurd (terminated_no_next M (over_base c j []) y h e)
      go (passes_byte leading ok most goes) =
          subst (Running m (length cs)) (next_same (sym goes ∙ e)) (on_bottom (one_further most))

  after_running : (n : ℕ) (x : Description) → after n M start ≡ some x → Running m (length cs) x
  after_running zero x e = subst (Running m (length cs)) (some_same (after 0 M start) (after_zero M start) e) starting
  after_running (suc n) x e =
      let (y, at_y, goes) = after_last M n start e in
      step_running (after_running n y at_y) x goes

pub config_same : (c d : Config) → c.state ≡ d.state → c.head ≡ d.head → c.symbol ≡ d.symbol → c ≡ d
config_same c d p q r = λ i. record { state = p i; head = q i; symbol = r i }

-- THE SHAPE of a configuration entered
pub data Shape (M : Machine) (m n : ℕ) (c : Config) : Type 0 where
  the_start : c ≡ config state_start 0 0 → Shape M m n c
  in_box : InBox m n c → Shape M m n c
  at_bottom : AtBottom n c → (steps j : ℕ) → after steps M start ≡ some (over_base c j []) → Shape M m n c

shape_of : {M : Machine} {m n : ℕ} (steps : ℕ) (x : Description) → after steps M start ≡ some x → Running m n x → Shape M m n (config_of x)
unfolding config_of top start
shape_of steps x e starting = the_start refl
shape_of steps x e (boxed b least most w) = in_box b
shape_of steps x e (on_bottom {c = c} {j = j} b) = at_bottom b steps j e

pub entered_shape :
    {how : Matching} {M : Machine} {E : Rules} {m : ℕ} {cs : List ℕ} → Table M E m cs → ChoiceRow how M cs → (c : Config) → Entered M c →
    Shape M m (length cs) c
entered_shape {M = M} {m = m} {cs = cs} table choice c entered =
    subst (Shape M m (length cs)) entered.is
    (shape_of entered.steps entered.place entered.reached (after_running table choice entered.steps entered.place entered.reached))

-- TWO AT THE BOTTOM: where the run terminates in both they are one;
over_same : {c d : Config} {i j : ℕ} → over_base c i [] ≡ over_base d j [] → c ≡ d
over_same {c} {d} {i} {j} e = sym (config_over c i []) ∙ ap config_of e ∙ config_over d j []

pub last_same :
    (M : Machine) {c d : Config} (k l : ℕ) {i j : ℕ} → after k M start ≡ some (over_base c i []) → Terminated M (over_base c i []) →
    after l M start ≡ some (over_base d j []) → Terminated M (over_base d j []) → c ≡ d
last_same M k l e h f g = over_same (terminates_once M k l start e h f g).1

-- from ok the run stays in ok, so that fail does not follow it, and nothing follows fail
module _ {how : Matching} {M : Machine} {E : Rules} {m : ℕ} {cs : List ℕ} (table : Table M E m cs) (choice : ChoiceRow how M cs) where
  ok_stays :
      (n j : ℕ) (c : Config) {y : Description} → AtBottom (length cs) c → c.state ≡ state_ok → after n M (over_base c j []) ≡ some y → y.state ≡ state_ok
  ok_stays zero j c b is e = ap (λ (x : Description). x.state) (some_same (after 0 M (over_base c j [])) e (after_zero M (over_base c j []))) ∙ is
  ok_stays (suc n) j c {y} b is e = go (bottom_goes table choice c b j) (λ d. ok_stays n j (config state_ok (suc c.head) 0) d refl)
    where
      go :
          AtLast how M (length cs) c j →
          (AtBottom (length cs) (config state_ok (suc c.head) 0) → after n M (over_base (config state_ok (suc c.head) 0) j []) ≡ some y →
          y.state ≡ state_ok) →
          y.state ≡ state_ok
      go (terminates h) later =
          absurd (not_none (after (suc n) M (over_base c j [])) e
          (terminated_no_more M 0 (suc n) (over_base c j []) (after_zero M (over_base c j [])) h (omega arith)))
      go (passes_byte leading ok most goes) later = later (one_further most) (sym (after_front M n (over_base c j []) goes) ∙ e)

  not_both :
      {c d : Config} (k l : ℕ) {i j : ℕ} → AtBottom (length cs) c → c.state ≡ state_ok → after k M start ≡ some (over_base c i []) →
      AtBottom (length cs) d → d.state ≡ state_fail → after l M start ≡ some (over_base d j []) → ⊥
  not_both {c} {d} k l {i} {j} b ok e bd fails f = go (bottom_goes table choice d bd j) (dec_lt l k)
    where
      go : AtLast how M (length cs) d j → Dec (l < k) → ⊥
      go (passes_byte leading other most goes) later = omega arith
      go (terminates h) (yes later) = not_none (after k M start) e (terminated_no_more M l k start f h later)
      go (terminates h) (no earlier) =
          let still : d.state ≡ state_ok = ok_stays (l - k) i c b ok (after_rest M k l start (omega arith) e f) in
          omega arith

  -- so with one head they are one
  pub bottoms_same :
      {c d : Config} (k l : ℕ) {i j : ℕ} → AtBottom (length cs) c → after k M start ≡ some (over_base c i []) →
      AtBottom (length cs) d → after l M start ≡ some (over_base d j []) → c.head ≡ d.head → c ≡ d
  bottoms_same {c} {d} k l b e bd f heads = go (ℕ_discrete c.state state_ok) (ℕ_discrete d.state state_ok)
    where
      same : c.state ≡ d.state → c ≡ d
      same p = config_same c d p heads (b.symbol_is ∙ sym bd.symbol_is)

      go : Dec (c.state ≡ state_ok) → Dec (d.state ≡ state_ok) → c ≡ d
      go (yes p) (yes q) = same (p ∙ sym q)
      go (yes p) (no q) = absurd (not_both k l b p e bd (omega (arith, bd.state_least, bd.state_most)) f)
      go (no p) (yes q) = absurd (not_both l k bd q f b (omega (arith, b.state_least, b.state_most)) e)
      go (no p) (no q) = same (omega (arith, b.state_least, b.state_most, bd.state_least, bd.state_most))
