-- A closed list of small numbers is bytes: their sum is below 256. Assumes nothing.
use mathlib.Core.List.{List, [], ◌∷◌}
use Prim.Native.Nat.{ℕ, zero, suc, ◌+◌, ◌<◌, ◌≤◌}
use native.Mathlib.Omega.{arith}
use Rattle.codec.specs.Bytes.{byte, Bytes}

unfoldable pub total : List ℕ → ℕ
total [] = 0
total (b ∷ bs) = b + total bs

at_most : (bs : List ℕ) (i : ℕ) → byte bs i ≤ total bs
unfolding total
at_most [] i = omega arith
at_most (b ∷ bs) zero = omega arith
at_most (b ∷ bs) (suc i) = omega (arith, at_most bs i)

pub small_bytes : (bs : List ℕ) → total bs < 256 → Bytes bs
small_bytes bs h i = omega (arith, at_most bs i)
