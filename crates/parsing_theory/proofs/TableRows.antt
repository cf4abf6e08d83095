-- What a table's machine does for each kind of rule: a row an equation. Assumes only the table.
use mathlib.Core.Path.{◌≡◌, ap, ◌∙◌}
use mathlib.Core.Bool.{Bool, true, false, ◌&&◌, cond}
use mathlib.Core.List.{List}
use Prim.Native.Nat.{ℕ, suc, ◌<◌, ◌≤◌}
use native.Mathlib.Numerals.{add-one}
use native.Mathlib.Omega.{arith}
use lib.Dec.{ltb}
use lib.ListN.{length}
use Rattle.machine.specs.declared.Action.TheVariants.{Change, Push, Pop}
use Rattle.machine.specs.Run.{Machine, config}
use Rattle.codec.specs.Bytes.{byte}
use Rattle.image.specs.Image.{moved, action_by}
use Rattle.grammar.specs.declared.Expression.{Expression}
use Rattle.grammar.specs.declared.Expression.TheVariants.{Sequence, Choice, Not, Empty, Range}
use Rattle.grammar.specs.Parsing.{Rules, in_range}
use Rattle.grammar.specs.Grammar.{range_of, PartsBelow}
use Rattle.builder.specs.Table.{state_work, state_ok, state_fail, state_count, first, second, symbol, pass_byte, pop_fail, rows, by_state, select}
use Rattle.parsing_theory.proofs.Table.{Table}
use Rattle.grammar.proofs.Matches.{matches}

-- a range's rule where it matches: on to the next place
range_right : (k i : ℕ) → action_by (pass_byte k) (suc i) ≡ Change (config state_ok (suc (suc i)) (first k))
unfolding action_by moved
range_right k i = ap (λ (h : ℕ). Change (config state_ok h (first k))) (add-one (suc i))

module _ {M : Machine} {E : Rules} {m : ℕ} {cs : List ℕ} (t : Table M E m cs) {k : ℕ} (below : k < m) where
  -- the rules that a rule names are there
  pub sequence_parts : {b c : ℕ} → E k ≡ Sequence b c → (b < m) × (c < m)
  unfolding PartsBelow
  sequence_parts e = rw e at (t.parts k below)

  pub choice_parts : {b c : ℕ} → E k ≡ Choice b c → (b < m) × (c < m)
  unfolding PartsBelow
  choice_parts e = rw e at (t.parts k below)

  pub not_part : {b : ℕ} → E k ≡ Not b → b < m
  unfolding PartsBelow
  not_part e = rw e at (t.parts k below)

module _ {M : Machine} {E : Rules} {m : ℕ} {cs : List ℕ} (t : Table M E m cs) {k i : ℕ} (below : k < m) (here : i ≤ length cs) where
  -- the rule that a symbol and a state select, with what rule k is put in
  row :
      (s : Bool) (p : ℕ) → p < state_count → {x : Expression} → E k ≡ x →
      M.action (config p (suc i) (symbol s k))
      ≡ action_by (select (rows x k (ltb i (length cs) && matches (range_of x) (byte cs i))) s p) (suc i)
  row s p l e = rw (← e) (t.selects s p k i l below here)

  -- SEQUENCE
  pub sequence_work : {b c : ℕ} → E k ≡ Sequence b c → M.action (config state_work (suc i) (first k)) ≡ Push (config state_work (suc i) (first b))
  unfolding rows select by_state action_by moved
  sequence_work e = row false state_work (omega arith) e

  pub sequence_ok : {b c : ℕ} → E k ≡ Sequence b c → M.action (config state_ok (suc i) (first k)) ≡ Change (config state_work (suc i) (second k))
  unfolding rows select by_state action_by moved
  sequence_ok e = row false state_ok (omega arith) e

  pub sequence_fail : {b c : ℕ} → E k ≡ Sequence b c → M.action (config state_fail (suc i) (first k)) ≡ Pop state_fail true
  unfolding rows select by_state action_by
  sequence_fail e = row false state_fail (omega arith) e

  pub sequence_work_second :
      {b c : ℕ} → E k ≡ Sequence b c → M.action (config state_work (suc i) (second k)) ≡ Push (config state_work (suc i) (first c))
  unfolding rows select by_state action_by moved
  sequence_work_second e = row true state_work (omega arith) e

  pub sequence_ok_second : {b c : ℕ} → E k ≡ Sequence b c → M.action (config state_ok (suc i) (second k)) ≡ Pop state_ok false
  unfolding rows select by_state action_by
  sequence_ok_second e = row true state_ok (omega arith) e

  pub sequence_fail_second : {b c : ℕ} → E k ≡ Sequence b c → M.action (config state_fail (suc i) (second k)) ≡ Pop state_fail true
  unfolding rows select by_state action_by
  sequence_fail_second e = row true state_fail (omega arith) e

  -- CHOICE
  pub choice_work : {b c : ℕ} → E k ≡ Choice b c → M.action (config state_work (suc i) (first k)) ≡ Push (config state_work (suc i) (first b))
  unfolding rows select by_state action_by moved
  choice_work e = row false state_work (omega arith) e

  pub choice_ok : {b c : ℕ} → E k ≡ Choice b c → M.action (config state_ok (suc i) (first k)) ≡ Pop state_ok false
  unfolding rows select by_state action_by
  choice_ok e = row false state_ok (omega arith) e

  pub choice_fail : {b c : ℕ} → E k ≡ Choice b c → M.action (config state_fail (suc i) (first k)) ≡ Change (config state_work (suc i) (second k))
  unfolding rows select by_state action_by moved
  choice_fail e = row false state_fail (omega arith) e

  pub choice_work_second :
      {b c : ℕ} → E k ≡ Choice b c → M.action (config state_work (suc i) (second k)) ≡ Push (config state_work (suc i) (first c))
  unfolding rows select by_state action_by moved
  choice_work_second e = row true state_work (omega arith) e

  pub choice_ok_second : {b c : ℕ} → E k ≡ Choice b c → M.action (config state_ok (suc i) (second k)) ≡ Pop state_ok false
  unfolding rows select by_state action_by
  choice_ok_second e = row true state_ok (omega arith) e

  pub choice_fail_second : {b c : ℕ} → E k ≡ Choice b c → M.action (config state_fail (suc i) (second k)) ≡ Pop state_fail false
  unfolding rows select by_state action_by
  choice_fail_second e = row true state_fail (omega arith) e

  -- NOT
  pub not_work : {b : ℕ} → E k ≡ Not b → M.action (config state_work (suc i) (first k)) ≡ Push (config state_work (suc i) (first b))
  unfolding rows select by_state action_by moved
  not_work e = row false state_work (omega arith) e

  pub not_ok : {b : ℕ} → E k ≡ Not b → M.action (config state_ok (suc i) (first k)) ≡ Pop state_fail true
  unfolding rows select by_state action_by
  not_ok e = row false state_ok (omega arith) e

  pub not_fail : {b : ℕ} → E k ≡ Not b → M.action (config state_fail (suc i) (first k)) ≡ Pop state_ok true
  unfolding rows select by_state action_by
  not_fail e = row false state_fail (omega arith) e

  -- EMPTY and RANGE
  pub empty_work : E k ≡ Empty → M.action (config state_work (suc i) (first k)) ≡ Pop state_ok false
  unfolding rows select by_state action_by
  empty_work e = row false state_work (omega arith) e

  pub range_work :
      {b c : ℕ} → E k ≡ Range b c → (ltb i (length cs) && in_range b c (byte cs i)) ≡ true →
      M.action (config state_work (suc i) (first k)) ≡ Change (config state_ok (suc (suc i)) (first k))
  unfolding rows select by_state range_of matches
  range_work e h =
      row false state_work (omega arith) e ∙ ap (λ (s : Bool). action_by (cond s (pass_byte k) pop_fail) (suc i)) h ∙ range_right k i

  pub range_work_fails :
      {b c : ℕ} → E k ≡ Range b c → (ltb i (length cs) && in_range b c (byte cs i)) ≡ false →
      M.action (config state_work (suc i) (first k)) ≡ Pop state_fail false
  unfolding rows select by_state range_of matches action_by
  range_work_fails e h = row false state_work (omega arith) e ∙ ap (λ (s : Bool). action_by (cond s (pass_byte k) pop_fail) (suc i)) h

  pub range_ok : {b c : ℕ} → E k ≡ Range b c → M.action (config state_ok (suc i) (first k)) ≡ Pop state_ok false
  unfolding rows select by_state action_by
  range_ok e = row false state_ok (omega arith) e
