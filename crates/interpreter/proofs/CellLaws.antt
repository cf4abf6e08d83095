-- How the stack that the cells hold changes with them. Assumes nothing.
use mathlib.Core.Path.{◌≡◌, refl, ap}
use mathlib.Core.List.{List, ◌∷◌}
use Prim.Native.Nat.{ℕ, zero, suc, ◌+◌, ◌-◌, ◌/◌, ◌%◌, ◌≤◌, ◌<◌}
use native.Mathlib.Omega.{arith}
use native.Mathlib.Numerals.{add-one}
use lib.Arith.{digits_div, digits_mod}
use lib.ListN.{length, get_or, set}
use lib.Seq.{get_or-set_same, get_or-set_other}
use Rattle.machine.specs.Run.{entry}
use Rattle.interpreter.specs.Code.Stepping.{cell_symbols, cell_of, stack_of}

-- an entry comes back from its cell
pub cell_symbol : (a i : ℕ) → a < cell_symbols → cell_of a i % cell_symbols ≡ a
unfolding cell_of
cell_symbol a i h = digits_mod i h

pub cell_pointer : (a i : ℕ) → a < cell_symbols → cell_of a i / cell_symbols ≡ i
unfolding cell_of
cell_pointer a i h = digits_div i h

-- as many entries as cells
pub stack_length : (n : ℕ) (ks : List ℕ) → length (stack_of n ks) ≡ n
unfolding stack_of
stack_length zero ks = refl
stack_length (suc n) ks = ap suc (stack_length n ks)

-- a cell from n on does not matter to the first n
pub stack_set : (n j v : ℕ) (ks : List ℕ) → n ≤ j → stack_of n (set ks j v) ≡ stack_of n ks
unfolding stack_of
stack_set zero j v ks h = refl
stack_set (suc n) j v ks h =
    let ne : n ≡ j → ⊥ = λ e. omega arith in
    rw (get_or-set_other ks j n v 0 ne, stack_set n j v ks (omega arith)) refl

-- a push writes the entry that was on top
pub stack_push : (n a i : ℕ) (ks : List ℕ) → a < cell_symbols → n < length ks → stack_of (n + 1) (set ks n (cell_of a i)) ≡ entry a i ∷ stack_of n ks
unfolding stack_of
stack_push n a i ks h l =
    rw (add-one n, get_or-set_same ks n (cell_of a i) 0 l, cell_symbol a i h, cell_pointer a i h, stack_set n n (cell_of a i) ks (omega arith)) refl

-- a pop reads the last one
pub stack_pop :
    (n : ℕ) (ks : List ℕ) → 0 < n →
    stack_of n ks ≡ entry (get_or ks (n - 1) 0 % cell_symbols) (get_or ks (n - 1) 0 / cell_symbols) ∷ stack_of (n - 1) ks
unfolding stack_of
stack_pop zero ks h = absurd (omega arith)
stack_pop (suc n) ks h = let e : suc n - 1 ≡ n = omega arith in rw e refl
