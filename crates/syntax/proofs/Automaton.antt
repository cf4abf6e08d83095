-- The check of a text as an automaton on tokens, with any limit on open brackets: its moves, its runs, and that the computed check makes the moves of the limit 16. Assumes nothing.
use mathlib.Core.Path.{◌≡◌, refl}
use mathlib.Core.Bool.{Bool, true, false, cond}
use mathlib.Core.List.{List, [], ◌∷◌, ◌++◌}
use Prim.Native.Nat.{ℕ, zero, suc, ◌<◌, ◌≤◌, ◌-◌}
use native.Mathlib.Omega.{arith}
use lib.Dec.{ltb}
use borrow.Author.Tests.{ltb-true, ltb-false, lt-ltb, ne_eqb}
use Rattle.syntax.specs.declared.Leaf.{Leaf}
use Rattle.syntax.specs.declared.Prefix.{Prefix}
use Rattle.syntax.specs.declared.Suffix.{Suffix}
use Rattle.syntax.specs.declared.Sign.{Sign}
use Rattle.syntax.specs.declared.Sign.TheVariants.{Operand, Before, After, Slash, Opening, Closing, Equals, Semicolon}
use Rattle.syntax.specs.Tokens.{Token, name, sign, range, unknown}
use Rattle.syntax.specs.Trees.{max_depth}
use Rattle.syntax.specs.Faults.{Spot, at_line, at_equals, inside, Next, to, wrong, to_if, by_sign, is_equals, not_in, next, defined_after}

-- A MOVE by a token, with the names defined so far and at most L brackets open
pub data Moves (L : ℕ) (ns : List (List ℕ)) : Spot → Token → Spot → Type 0 where
  begins : {n : List ℕ} → not_in n ns ≡ true → Moves L ns at_line (name n) at_equals
  equals : Moves L ns at_equals (sign Equals) (inside false 0)
  by_name : {c : Bool} {k : ℕ} {n : List ℕ} → Moves L ns (inside c k) (name n) (inside true k)
  by_leaf : {c : Bool} {k : ℕ} {a : Leaf} → Moves L ns (inside c k) (sign (Operand a)) (inside true k)
  by_range : {c : Bool} {k l h : ℕ} → Moves L ns (inside c k) (range l h) (inside true k)
  by_prefix : {c : Bool} {k : ℕ} {p : Prefix} → Moves L ns (inside c k) (sign (Before p)) (inside false k)
  by_suffix : {k : ℕ} {x : Suffix} → Moves L ns (inside true k) (sign (After x)) (inside true k)
  by_slash : {k : ℕ} → Moves L ns (inside true k) (sign Slash) (inside false k)
  opens : {c : Bool} {k : ℕ} → k < L → Moves L ns (inside c k) (sign Opening) (inside false (suc k))
  closes : {k : ℕ} → Moves L ns (inside true (suc k)) (sign Closing) (inside true k)
  ends : Moves L ns (inside true 0) (sign Semicolon) at_line

-- A RUN over tokens, from names and a spot to names and a spot
pub data Run (L : ℕ) : (ns : List (List ℕ)) → Spot → List Token → (ms : List (List ℕ)) → Spot → Type 0 where
  stay : {ns : List (List ℕ)} {s : Spot} → Run L ns s [] ns s
  move :
      {ns ms : List (List ℕ)} {r s u : Spot} {t : Token} {ts : List Token} → Moves L ns r t s →
      Run L (defined_after ns r t) s ts ms u → Run L ns r (t ∷ ts) ms u

-- a token leads to one spot, whatever the limits
pub one_spot : {K L : ℕ} {ns : List (List ℕ)} {r s u : Spot} {t : Token} → Moves K ns r t s → Moves L ns r t u → s ≡ u
one_spot (begins e) (begins f) = refl
one_spot equals equals = refl
one_spot by_name by_name = refl
one_spot by_leaf by_leaf = refl
one_spot by_range by_range = refl
one_spot by_prefix by_prefix = refl
one_spot by_suffix by_suffix = refl
one_spot by_slash by_slash = refl
one_spot (opens h) (opens l) = refl
one_spot closes closes = refl
one_spot ends ends = refl

-- a higher limit allows as much
pub moves_higher : {K L : ℕ} {ns : List (List ℕ)} {r s : Spot} {t : Token} → K ≤ L → Moves K ns r t s → Moves L ns r t s
moves_higher h (begins e) = begins e
moves_higher h equals = equals
moves_higher h by_name = by_name
moves_higher h by_leaf = by_leaf
moves_higher h by_range = by_range
moves_higher h by_prefix = by_prefix
moves_higher h by_suffix = by_suffix
moves_higher h by_slash = by_slash
moves_higher h (opens {k = k} l) = opens {k = k} (omega arith)
moves_higher h closes = closes
moves_higher h ends = ends

pub run_higher : {K L : ℕ} {ns ms : List (List ℕ)} {r s : Spot} {ts : List Token} → K ≤ L → Run K ns r ts ms s → Run L ns r ts ms s
run_higher h stay = stay
run_higher h (move m x) = move (moves_higher h m) (run_higher h x)

pub run_append :
    {L : ℕ} {ns ms os : List (List ℕ)} {r s u : Spot} {ts us : List Token} → Run L ns r ts ms s → Run L ms s us os u →
    Run L ns r (ts ++ us) os u
run_append stay y = y
run_append (move m x) y = move m (run_append x y)

-- what a run over one list followed by another has passed between them
pub record Parted (L : ℕ) (ns : List (List ℕ)) (r : Spot) (ts us : List Token) (os : List (List ℕ)) (u : Spot) : Type 0 where
  pub names : List (List ℕ)
  pub spot : Spot
  pub before : Run L ns r ts names spot
  pub later : Run L names spot us os u

pub parted : {L : ℕ} {ns os : List (List ℕ)} {r u : Spot} (ts us : List Token) → Run L ns r (ts ++ us) os u → Parted L ns r ts us os u
parted [] us x = record { names = _; spot = _; before = stay; later = x }
parted {ns = ns} {r = r} (t ∷ ts) us (move m x) =
    let rest = parted {ns = defined_after ns r t} ts us x in
    record { names = rest.names; spot = rest.spot; before = move m rest.before; later = rest.later }

-- a list of tokens leads to one place, whatever the limits
pub record SamePlace (ms os : List (List ℕ)) (s u : Spot) : Type 0 where
  pub names : ms ≡ os
  pub spot : s ≡ u

pub one_place :
    {K L : ℕ} {ns ms os : List (List ℕ)} {r s u : Spot} {ts : List Token} → Run K ns r ts ms s → Run L ns r ts os u → SamePlace ms os s u
one_place stay stay = record { names = refl; spot = refl }
one_place (move m x) (move n y) = one_place x (rw (one_spot n m) at y)

-- WHAT THE COMPUTED CHECK TELLS OF A TOKEN: a move; no move, whatever the limit; or a move with a higher limit only
pub data Outcome (ns : List (List ℕ)) (s : Spot) (t : Token) : Next → Type 0 where
  goes_on : {u : Spot} → Moves max_depth ns s t u → Outcome ns s t (to u)
  never : ((d : ℕ) (u : Spot) → Moves d ns s t u → ⊥) → Outcome ns s t (wrong 15)
  deeper : {u : Spot} (d : ℕ) → max_depth ≤ d → Moves d ns s t u → ((v : Spot) → Moves max_depth ns s t v → ⊥) → Outcome ns s t (wrong 17)

outcome_line : (ns : List (List ℕ)) (n : List ℕ) (b : Bool) → not_in n ns ≡ b → Outcome ns at_line (name n) (to_if b at_equals)
unfolding to_if
outcome_line ns n true e = goes_on (begins e)
outcome_line ns n false e = never no_move
  where
    no_move : (d : ℕ) (u : Spot) → Moves d ns at_line (name n) u → ⊥
    no_move d u (begins f) = let z : ◌≡◌ {A = ℕ} 0 1 = cc in omega arith

outcome_equals : (ns : List (List ℕ)) (s : Sign) → Outcome ns at_equals (sign s) (to_if (is_equals s) (inside false 0))
unfolding to_if is_equals
outcome_equals ns (Operand a) = never (λ d u m. elim m [ ])
outcome_equals ns (Before p) = never (λ d u m. elim m [ ])
outcome_equals ns (After x) = never (λ d u m. elim m [ ])
outcome_equals ns Slash = never (λ d u m. elim m [ ])
outcome_equals ns Opening = never (λ d u m. elim m [ ])
outcome_equals ns Closing = never (λ d u m. elim m [ ])
outcome_equals ns Equals = goes_on equals
outcome_equals ns Semicolon = never (λ d u m. elim m [ ])

outcome_opens :
    (ns : List (List ℕ)) (c : Bool) (k : ℕ) (b : Bool) → ltb k max_depth ≡ b →
    Outcome ns (inside c k) (sign Opening) (cond b (to (inside false (suc k))) (wrong 17))
outcome_opens ns c k true e = goes_on (opens (ltb-true k max_depth e))
outcome_opens ns c k false e =
    let h : max_depth ≤ k = ltb-false k max_depth e in
    deeper (suc k) (omega arith) (opens {k = k} (omega arith)) (no_move c k h)
  where
    no_move : (c : Bool) (k : ℕ) → max_depth ≤ k → (v : Spot) → Moves max_depth ns (inside c k) (sign Opening) v → ⊥
    no_move c k h v (opens l) = omega arith

outcome_sign : (ns : List (List ℕ)) (s : Sign) (c : Bool) (k : ℕ) → Outcome ns (inside c k) (sign s) (by_sign s c k)
unfolding by_sign to_if
outcome_sign ns (Operand a) c k = goes_on by_leaf
outcome_sign ns (Before p) c k = goes_on by_prefix
outcome_sign ns (After x) true k = goes_on by_suffix
outcome_sign ns (After x) false k = never (λ d u m. elim m [ ])
outcome_sign ns Slash true k = goes_on by_slash
outcome_sign ns Slash false k = never (λ d u m. elim m [ ])
outcome_sign ns Opening c k = outcome_opens ns c k (ltb k max_depth) refl
outcome_sign ns Closing true zero = never (λ d u m. elim m [ ])
outcome_sign ns Closing true (suc k) =
    let one_less : suc k - 1 ≡ k = omega arith in
    rw (lt-ltb 0 (suc k) (omega arith), one_less) (goes_on closes)
outcome_sign ns Closing false zero = never (λ d u m. elim m [ ])
outcome_sign ns Closing false (suc k) = never (λ d u m. elim m [ ])
outcome_sign ns Equals true zero = never (λ d u m. elim m [ ])
outcome_sign ns Equals true (suc k) = never (λ d u m. elim m [ ])
outcome_sign ns Equals false zero = never (λ d u m. elim m [ ])
outcome_sign ns Equals false (suc k) = never (λ d u m. elim m [ ])
outcome_sign ns Semicolon true zero = goes_on ends
outcome_sign ns Semicolon true (suc k) = rw (ne_eqb (suc k) 0 (λ e. omega arith)) (never (λ d u m. elim m [ ]))
outcome_sign ns Semicolon false zero = never (λ d u m. elim m [ ])
outcome_sign ns Semicolon false (suc k) = never (λ d u m. elim m [ ])

pub outcome : (ns : List (List ℕ)) (s : Spot) (t : Token) → Outcome ns s t (next ns s t)
unfolding next
outcome ns at_line (name n) = outcome_line ns n (not_in n ns) refl
outcome ns at_line (sign s) = never (λ d u m. elim m [ ])
outcome ns at_line (range l h) = never (λ d u m. elim m [ ])
outcome ns at_line unknown = never (λ d u m. elim m [ ])
outcome ns at_equals (name n) = never (λ d u m. elim m [ ])
outcome ns at_equals (sign s) = outcome_equals ns s
outcome ns at_equals (range l h) = never (λ d u m. elim m [ ])
outcome ns at_equals unknown = never (λ d u m. elim m [ ])
outcome ns (inside c k) (name n) = goes_on by_name
outcome ns (inside c k) (sign s) = outcome_sign ns s c k
outcome ns (inside c k) (range l h) = goes_on by_range
outcome ns (inside true zero) unknown = never (λ d u m. elim m [ ])
outcome ns (inside true (suc k)) unknown = never (λ d u m. elim m [ ])
outcome ns (inside false zero) unknown = never (λ d u m. elim m [ ])
outcome ns (inside false (suc k)) unknown = never (λ d u m. elim m [ ])
