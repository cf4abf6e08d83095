-- A configuration that is looked at while it is open is the first one in the run to come again with the stack never below: the run goes on for ever. Assumes nothing.
use mathlib.Core.Path.{◌≡◌, sym, subst, ◌∙◌, ap}
use mathlib.Core.Bool.{Bool}
use mathlib.Core.List.{List, [], ◌∷◌}
use mathlib.Core.Option.{some}
use Prim.Native.Nat.{ℕ, suc, ◌+◌, ◌-◌, ◌<◌, ◌≤◌}
use native.Mathlib.Omega.{arith}
use native.Mathlib.Decide.{dec_lt, ℕ_discrete}
use lib.ListN.{length}
use Rattle.machine.specs.declared.Config.{Config}
use Rattle.machine.specs.declared.Action.TheVariants.{Pop}
use Rattle.machine.specs.Run.{Machine, Entry, Description, description, next, step, returned, after, start, config, config_of}
use Rattle.machine.specs.Verdicts.{over_base, Again, FirstAgain}
use Rattle.machine.proofs.Runs.{after_then, after_split, after_last, some_same, config_over, step_pop, step_pop_last, entered_topped}
use Rattle.machine.proofs.Ends.{Ends, count, ends_inside, ends_reach, ends_pops}
use Rattle.chain_theory.proofs.Travel.{Arrival}
use Rattle.chain_theory.proofs.Path.{Open, open_as, Among, here, later, lead_inner, Path, begin, on, path_steps, path_travels, path_along, Along}

-- no configuration is open twice
pub data DistinctOpen : List Open → Type 0 where
  none_open : DistinctOpen []
  one_more : {c : Config} {b : Bool} {os : List Open} → (Among c os → ⊥) → DistinctOpen os → DistinctOpen (open_as c b ∷ os)

-- once a configuration's entry is removed, the stack is no higher than what lay below it
popped_height :
    (M : Machine) (d : Config) (i : ℕ) (base : List Entry) {p : ℕ} {r : Bool} → M.action d ≡ Pop p r → (y : Description) →
    step M (over_base d i base) ≡ next y → length y.stack ≤ length base
popped_height M d i [] a y e =
    let ended = step_pop_last M d i a in
    let z : ◌≡◌ {A = ℕ} 0 1 = cc in
    absurd (omega arith)
popped_height M d i (f ∷ es) {p} {r} a y e =
    let same : description p (returned r i d.head) (f ∷ es) ≡ y = next_same (sym (step_pop M d i f es a) ∙ e) in
    subst (λ (w : Description). length w.stack ≤ length (f ∷ es)) same (omega arith)
  where
    next_same : {x z : Description} → next x ≡ next z → x ≡ z
    next_same h = cc

pub ends_leaves :
    {M : Machine} {P : Config → Type 0} {c d : Config} (x : Ends M P c d) (i : ℕ) (base : List Entry) (y : Description) →
    after (suc (count x)) M (over_base c i base) ≡ some y → length y.stack ≤ length base
ends_leaves {M} {c = c} {d = d} x i base y at_y =
    let (z, at_z, goes) = after_last M (count x) (over_base c i base) at_y in
    let same : z ≡ over_base d i base = some_same (after (count x) M (over_base c i base)) at_z (ends_reach x i base) in
    let (p, r, a) = ends_pops x in
    popped_height M d i base a y (subst (λ (w : Description). step M w ≡ next y) same goes)

-- after t steps from a description that m steps lead to
pub since :
    (M : Machine) (x : Description) {y : Description} (m t : ℕ) (z : Description) → after m M x ≡ some y → m ≤ t → after t M x ≡ some z →
    after (t - m) M y ≡ some z
since M x {y} m t z at_y mt at_z =
    let whole : t ≡ m + (t - m) = omega arith in
    sym (after_then M m (t - m) x at_y) ∙ subst (λ (k : ℕ). after k M x ≡ some z) whole at_z

-- what is known of a configuration on the way: it has an end, or is open
pub data Known (M : Machine) (P : Config → Type 0) (os : List Open) (c : Config) : Type 0 where
  has_end : {g : Config} → Ends M P c g → Known M P os c
  is_open : Among c os → Known M P os c

module _ {M : Machine} {P : Config → Type 0} where
  known_later : {os : List Open} {c : Config} (o : Open) → Known M P os c → Known M P (o ∷ os) c
  known_later o (has_end a) = has_end a
  known_later o (is_open a) = is_open (later a)

  known_here : {os : List Open} (c d : Config) (b : Bool) → d ≡ c → Known M P (open_as c b ∷ os) d
  known_here {os} c d b e = is_open (subst (λ (d : Config). Among d (open_as c b ∷ os)) (sym e) here)

  -- the run from the start, at each time before the path's end: at an open configuration, or at one that has an end
  pub path_times :
      {os : List Open} {e : Config} {f : Bool} (p : Path M P os e f) → ((c : Config) → Among c os → P c) → (t : ℕ) → t < path_steps p → (x : Description) →
      after t M start ≡ some x → Known M P os (config_of x)
  unfolding path_steps start
  path_times begin h t lt x at_x = absurd (omega arith)
  path_times (on {os} {c} {b = b} p l) h t lt x at_x =
      go (dec_lt t (path_steps p)) (ℕ_discrete t (path_steps p)) (λ a. path_times p (λ d i. h d (later i)) t a x at_x)
    where
      to : Arrival M P (path_steps p) (over_base (config 0 0 0) 0 []) [] c
      to = path_travels p (λ d a. h d (later a)) 0 []

      go : Dec (t < path_steps p) → Dec (t ≡ path_steps p) → (t < path_steps p → Known M P os (config_of x)) → Known M P (open_as c b ∷ os) (config_of x)
      go (yes a) d before = known_later (open_as c b) (before a)
      go (no a) (yes q) before =
          let same : over_base c to.pointer to.ground ≡ x =
          some_same (after t M start) (subst (λ (k : ℕ). after k M start ≡ some (over_base c to.pointer to.ground)) (sym q) to.reached) at_x in
          known_here c (config_of x) b (ap config_of (sym same) ∙ config_over c to.pointer to.ground)
      go (no a) (no q) before =
          let mt : path_steps p ≤ t = omega arith in
          let at = since M (over_base (config 0 0 0) 0 []) (path_steps p) t x to.reached mt at_x in
          has_end (lead_inner l to.pointer to.ground (t - path_steps p) (omega arith) (omega arith) x at).1

  -- a configuration that comes again with the stack never below has no end
  no_end_between :
      (c : Config) (i j : ℕ) (base ground : List Entry) (t u : ℕ) → t < u → after t M start ≡ some (over_base c i base) →
      after u M start ≡ some (over_base c j ground) →
      ((m : ℕ) (x : Description) → t ≤ m → m ≤ u → after m M start ≡ some x → suc (length base) ≤ length x.stack) →
      {g : Config} → Ends M P c g → ⊥
  no_end_between c i j base ground t u tu at_t at_u above x = go (dec_lt u (t + suc (count x)))
    where
      gone : (y : Description) → after (t + suc (count x)) M start ≡ some y → length y.stack ≤ length base
      gone y at_y =
          let whole : (t + suc (count x)) - t ≡ suc (count x) = omega arith in
          ends_leaves x i base y
          (subst (λ (k : ℕ). after k M (over_base c i base) ≡ some y) whole (since M start t (t + suc (count x)) y at_t (omega arith) at_y))

      go : Dec (u < t + suc (count x)) → ⊥
      go (yes a) =
          let k : ℕ = (t + suc (count x)) - u in
          let whole : u + ((t + suc (count x)) - u) ≡ t + suc (count x) = omega arith in
          let (y, at_y, holds, high, rest) = ends_inside x j ground ((t + suc (count x)) - u) (omega arith) in
          let low = gone y (subst (λ (n : ℕ). after n M start ≡ some y) whole (after_then M u ((t + suc (count x)) - u) start at_u ∙ at_y)) in
          let same = above u (over_base c j ground) (omega arith) (omega arith) at_u in
          omega arith
      go (no a) =
          let whole : u ≡ (t + suc (count x)) + (u - (t + suc (count x))) = omega arith in
          let (y, at_y, rest) =
          after_split M (t + suc (count x)) (u - (t + suc (count x))) start (subst (λ (n : ℕ). after n M start ≡ some (over_base c j ground)) whole at_u) in
          let low = gone y at_y in
          let high = above (t + suc (count x)) y (omega arith) (omega arith) at_y in
          omega arith

  again_no_end : (k : ℕ) (a : Again M k) {g : Config} → Ends M P (config_of a.now_at) g → ⊥
  again_no_end k a x =
      let was = entered_topped M a.earlier a.was in
      let is = entered_topped M k a.is in
      no_end_between
      (config_of a.now_at)
      was.pointer
      is.pointer
      was.base
      is.base
      a.earlier
      k
      a.before
      (a.was ∙ ap some (was.is ∙ ap (λ (c : Config). over_base c was.pointer was.base) a.same))
      (a.is ∙ ap some is.is)
      (λ m y lo hi at_y. subst (λ (w : Description). length w.stack ≤ length y.stack) was.is (a.above m y lo hi at_y))
      x

  -- before the path's end no configuration without an end is entered twice
  unrepeated :
      {os : List Open} {e : Config} {f : Bool} (p : Path M P os e f) → ((c : Config) → Among c os → P c) → DistinctOpen os → (t u : ℕ) → t < u →
      u < path_steps p → (x y : Description) → after t M start ≡ some x → after u M start ≡ some y → config_of x ≡ config_of y →
      ((g : Config) → Ends M P (config_of y) g → ⊥) → ⊥
  unfolding path_steps start
  unrepeated begin h ds t u tu us x y at_x at_y same no_ends = omega arith
  unrepeated (on {os} {c} {b = b} p l) h (one_more new ds) t u tu us x y at_x at_y same no_ends =
      go (dec_lt u (path_steps p)) (ℕ_discrete u (path_steps p)) (λ a. unrepeated p (λ d i. h d (later i)) ds t u tu a x y at_x at_y same no_ends)
    where
      to : Arrival M P (path_steps p) (over_base (config 0 0 0) 0 []) [] c
      to = path_travels p (λ d a. h d (later a)) 0 []

      clash : config_of y ≡ c → Known M P os (config_of x) → ⊥
      clash e (has_end {g} z) = no_ends g (subst (λ (d : Config). Ends M P d g) same z)
      clash e (is_open a) = new (subst (λ (d : Config). Among d os) (same ∙ e) a)

      go : Dec (u < path_steps p) → Dec (u ≡ path_steps p) → (u < path_steps p → ⊥) → ⊥
      go (yes a) d before = before a
      go (no a) (yes q) before =
          let at_c : over_base c to.pointer to.ground ≡ y =
          some_same (after u M start) (subst (λ (k : ℕ). after k M start ≡ some (over_base c to.pointer to.ground)) (sym q) to.reached) at_y in
          clash (ap config_of (sym at_c) ∙ config_over c to.pointer to.ground) (path_times p (λ d i. h d (later i)) t (omega arith) x at_x)
      go (no a) (no q) before =
          let mu : path_steps p ≤ u = omega arith in
          let at = since M (over_base (config 0 0 0) 0 []) (path_steps p) u y to.reached mu at_y in
          let (g, z) = lead_inner l to.pointer to.ground (u - path_steps p) (omega arith) (omega arith) y at in
          no_ends g z

  again_at :
      {os : List Open} {c : Config} {f : Bool} (p : Path M P os c f) → ((d : Config) → Among d os → P d) → (a : Among c os) →
      (k : Again M (path_steps p)) × (config_of k.now_at ≡ c)
  unfolding start
  again_at {os} {c} p h a = (again, config_over c back.pointer back.ground)
    where
      way : Along M P c c (path_steps p)
      way = path_along p h a

      to : Arrival M P way.before (over_base (config 0 0 0) 0 []) [] c
      to = way.to 0 []

      back : Arrival M P way.more (over_base c to.pointer to.ground) to.ground c
      back = way.from to.pointer to.ground

      to_reached : after way.before M start ≡ some (over_base c to.pointer to.ground)
      to_reached = to.reached

      at_end : after (path_steps p) M start ≡ some (over_base c back.pointer back.ground)
      at_end =
          subst (λ (n : ℕ). after n M start ≡ some (over_base c back.pointer back.ground)) way.adds
          (after_then M way.before way.more start to_reached ∙ back.reached)

      high :
          (m : ℕ) (x : Description) → way.before ≤ m → m ≤ path_steps p → after m M start ≡ some x → Dec (m - way.before < way.more) →
          suc (length to.ground) ≤ length x.stack
      high m x lo hi at_x (yes q) =
          let v = back.visits (m - way.before) q in
          let same : v.place ≡ x = some_same (after (m - way.before) M (over_base c to.pointer to.ground)) v.reached (since M start way.before m x to_reached lo at_x) in
          subst (λ (w : Description). suc (length to.ground) ≤ length w.stack) same v.above
      high m x lo hi at_x (no q) =
          let last : m ≡ path_steps p = omega (arith, way.adds) in
          let same : over_base c back.pointer back.ground ≡ x = some_same (after (path_steps p) M start) at_end (subst (λ (n : ℕ). after n M start ≡ some x) last at_x) in
          subst (λ (w : Description). suc (length to.ground) ≤ length w.stack) same (omega (arith, back.higher))

      again : Again M (path_steps p)
      again =
          record {
            earlier = way.before;
            before = omega (arith, way.adds, way.forward);
            then_at = over_base c to.pointer to.ground;
            now_at = over_base c back.pointer back.ground;
            was = to_reached;
            is = at_end;
            same = config_over c to.pointer to.ground ∙ sym (config_over c back.pointer back.ground);
            above = λ m x lo hi at_x. high m x lo hi at_x (dec_lt (m - way.before) way.more);
          }

  pub first_again :
      {os : List Open} {c : Config} {f : Bool} (p : Path M P os c f) → ((d : Config) → Among d os → P d) → DistinctOpen os → Among c os →
      FirstAgain M c
  first_again p h ds a =
      let (again, is) = again_at p h a in
      record {
        at_step = path_steps p;
        again = again;
        first =
            λ j l k. unrepeated p h ds k.earlier j k.before l k.then_at k.now_at k.was k.is k.same (λ g z. again_no_end j k z);
        is = is;
      }
