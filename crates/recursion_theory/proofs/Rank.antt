-- A rank for rules that do not lead back to themselves: how many rules a rule leads on to. What a rule leads to has a lower rank. Assumes nothing.
use mathlib.Core.Path.{◌≡◌}
use mathlib.Core.Bool.{Bool, true}
use mathlib.Core.Logic.{◌↔◌}
use Prim.Native.Nat.{ℕ, ◌<◌}
use Rattle.grammar.specs.Parsing.{Rules}
use Rattle.recursion.specs.LeftRecursion.{Leads, LeadsOn, last, more}
use Rattle.recursion.proofs.Counting.{how_many_in, inside_fewer, not_true_false}

-- THE RANK of rule k of m, by the rules that it leads on to
abbrev pub rank : (R : ℕ → ℕ → Bool) → (m k : ℕ) → ℕ
rank R m k = how_many_in (R k) m

module _ (E : Rules) (m : ℕ) (R : ℕ → ℕ → Bool)
    (exact : (k l : ℕ) → k < m → l < m → (R k l ≡ true) ↔ LeadsOn E k l)
    (none_back : (k : ℕ) → k < m → LeadsOn E k k → ⊥)
  where
    pub rank_falls : (k l : ℕ) → k < m → l < m → Leads E k l → rank R m l < rank R m k
    rank_falls k l h g x =
        inside_fewer (R l) (R k) m l (λ j b e. (exact k j h b).1 (more x ((exact l j g b).0 e))) g
        (not_true_false (R l l) (λ e. none_back l g ((exact l l g g).0 e))) ((exact k l h g).1 (last x))
