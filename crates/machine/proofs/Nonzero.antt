-- How many of the first so many notes are not 0: what one store changes, and the count's bounds. Assumes nothing.
use mathlib.Core.Path.{◌≡◌, refl}
use mathlib.Core.Bool.{Bool, true, false, cond}
use mathlib.Core.List.{List, [], ◌∷◌, ◌++◌}
use Prim.Native.Nat.{ℕ, zero, suc, ◌<◌, ◌≤◌}
use native.Mathlib.Omega.{arith}
use lib.Dec.{eqb}
use lib.ListN.{length, get_or, set, replicate}
use borrow.Author.Tests.{eq-eqb, ne_eqb}
use Rattle.machine.specs.Verdicts.{nonzero}

-- a note that was 0 and is not 0 now
pub nonzero_set_new :
    (count : ℕ) (ns : List ℕ) (k v : ℕ) → k < count → k < length ns → get_or ns k 0 ≡ 0 → (v ≡ 0 → ⊥) →
    nonzero count (set ns k v) ≡ suc (nonzero count ns)
unfolding nonzero
nonzero_set_new zero ns k v below inside old new = absurd (omega arith)
nonzero_set_new (suc m) [] k v below inside old new = absurd (omega arith)
nonzero_set_new (suc m) (n ∷ ns) zero v below inside old new = simp (ne_eqb v 0 new, eq-eqb n 0 old) (omega arith)
nonzero_set_new (suc m) (n ∷ ns) (suc k) v below inside old new =
    rw (nonzero_set_new m ns k v (omega arith) (omega arith) old new) (omega arith)

-- a note that was not 0 and is not 0 now
pub nonzero_set_old :
    (count : ℕ) (ns : List ℕ) (k v : ℕ) → (get_or ns k 0 ≡ 0 → ⊥) → (v ≡ 0 → ⊥) → nonzero count (set ns k v) ≡ nonzero count ns
unfolding nonzero
nonzero_set_old zero ns k v old new = refl
nonzero_set_old (suc m) [] k v old new = refl
nonzero_set_old (suc m) (n ∷ ns) zero v old new = simp (ne_eqb v 0 new, ne_eqb n 0 old)
nonzero_set_old (suc m) (n ∷ ns) (suc k) v old new = rw (nonzero_set_old m ns k v old new)

pub nonzero_zeros : (count n : ℕ) → nonzero count (replicate n 0) ≡ 0
unfolding nonzero
nonzero_zeros zero n = refl
nonzero_zeros (suc m) zero = refl
nonzero_zeros (suc m) (suc n) = rw (nonzero_zeros m n)

one_at_most : (b : Bool) → cond b 0 1 ≤ 1
one_at_most true = omega arith
one_at_most false = omega arith

pub nonzero_most : (count : ℕ) (ns : List ℕ) → nonzero count ns ≤ count
unfolding nonzero
nonzero_most zero ns = omega arith
nonzero_most (suc m) [] = omega arith
nonzero_most (suc m) (n ∷ ns) = omega (arith, one_at_most (eqb n 0), nonzero_most m ns)

-- the count looks at so many notes and at none after them
pub nonzero_front : (ns rest : List ℕ) → nonzero (length ns) (ns ++ rest) ≡ nonzero (length ns) ns
unfolding nonzero
nonzero_front [] rest = refl
nonzero_front (n ∷ ns) rest = rw (nonzero_front ns rest)
