-- A property of each of the six rules of a grammar rule holds of the one that is selected. Assumes nothing.
use mathlib.Core.Bool.{Bool, true, false, cond}
use Prim.Native.Nat.{ℕ}
use lib.Dec.{eqb}
use Rattle.image.specs.Image.{Rule}
use Rattle.builder.specs.Table.{state_work, state_ok, state_fail, no_rule, Row, Rows, six, by_state, select}

-- A PROPERTY OF EACH of the six rules holds of the one that is selected
pub record EachOf (P : Rule → Type 0) (r : Row) : Type 0 where
  pub work : P r.work
  pub ok : P r.ok
  pub fail : P r.fail

pub record Each (P : Rule → Type 0) (r : Rows) : Type 0 where
  pub first : EachOf P r.first
  pub second : EachOf P r.second

pub each : {P : Rule → Type 0} {a b c x y z : Rule} → P a → P b → P c → P x → P y → P z → Each P (six a b c x y z)
each a b c x y z = record { first = record { work = a; ok = b; fail = c }; second = record { work = x; ok = y; fail = z } }

pub each_state : (P : Rule → Type 0) → P no_rule → (r : Row) → EachOf P r → (p : ℕ) → P (by_state p r)
unfolding by_state
each_state P n r e p = go (eqb p state_work) (eqb p state_ok) (eqb p state_fail)
  where
    go : (a b c : Bool) → P (cond a r.work (cond b r.ok (cond c r.fail no_rule)))
    go true b c = e.work
    go false true c = e.ok
    go false false true = e.fail
    go false false false = n

pub each_select : (P : Rule → Type 0) → P no_rule → (r : Rows) → Each P r → (s : Bool) (p : ℕ) → P (select r s p)
unfolding select
each_select P n r e false p = each_state P n r.first e.first p
each_select P n r e true p = each_state P n r.second e.second p
