-- Where the rules of a grammar's machine lead: from a rule's symbol in states work, ok and fail to such a configuration again, or to a pop; and where the bottom entry alone is left the run terminates, or by a leading match passes a byte. Assumes nothing.
use mathlib.Core.Path.{◌≡◌, refl}
use mathlib.Core.Bool.{Bool, true, false, ◌&&◌}
use mathlib.Core.List.{List, []}
use Prim.Native.Nat.{ℕ, zero, suc, ◌*◌, ◌-◌, ◌/◌, ◌<◌, ◌≤◌}
use native.Mathlib.Decide.{ℕ_discrete}
use native.Mathlib.Omega.{arith}
use lib.Dec.{ltb}
use lib.ListN.{length}
use borrow.Author.Tests.{ltb-true}
use Rattle.machine.specs.declared.Config.{Config}
use Rattle.machine.specs.declared.Action.{Action}
use Rattle.machine.specs.declared.Action.TheVariants.{Stop, Change, Push, Pop}
use Rattle.machine.specs.Run.{Machine, next, step, config}
use Rattle.codec.specs.Bytes.{byte}
use Rattle.image.specs.Image.{action_by, moved, Rule}
use Rattle.machine.specs.Verdicts.{over_base}
use Rattle.machine.proofs.Runs.{step_stop, step_change, step_pop_last, Terminated, terminated_stopped, terminated_over}
use Rattle.grammar.specs.declared.Expression.{Expression}
use Rattle.grammar.specs.declared.Expression.TheVariants.{Sequence, Choice, Not, Empty, Range}
use Rattle.grammar.specs.Grammar.{range_of, PartsBelow}
use Rattle.grammar.specs.Parsing.{Rules}
use Rattle.builder.specs.declared.Matching.{Matching}
use Rattle.builder.specs.declared.Matching.TheVariants.{Whole, Leading}
use Rattle.builder.specs.Table.{state_work, state_ok, state_fail, state_done, first, symbol, no_rule, rows}
use Rattle.parsing_theory.proofs.Table.{Table, ChoiceRow}
use Rattle.grammar.proofs.Matches.{matches, passes}
use Rattle.builder.proofs.EachRow.{Each, each, each_select}

-- THE BOX: a rule's symbol in state work, ok or fail, with the head off the left marker; n is the capture's length
pub record InBox (m n : ℕ) (c : Config) : Type 0 where
  pub state_least : state_work ≤ c.state
  pub state_most : c.state ≤ state_fail
  pub head_least : 0 < c.head
  pub head_most : c.head ≤ suc n
  pub symbol_least : 0 < c.symbol
  pub symbol_most : c.symbol ≤ 2 * m

-- symbol 0 in state ok or fail: the bottom entry alone is left
pub record AtBottom (n : ℕ) (c : Config) : Type 0 where
  pub state_least : state_ok ≤ c.state
  pub state_most : c.state ≤ state_fail
  pub head_least : 0 < c.head
  pub head_most : c.head ≤ suc n
  pub symbol_is : c.symbol ≡ 0

-- WHERE A RULE LEADS from a configuration of the box
unfoldable pub Leads : (m n : ℕ) → Action → Type 0
Leads m n (Stop r) = Unit {0}
Leads m n (Change c) = InBox m n c
Leads m n (Push c) = InBox m n c
Leads m n (Pop p r) = (state_ok ≤ p) × (p ≤ state_fail)

-- each of a rule's six leads there; a byte is passed before the capture's end
rows_lead :
    {m n k i : ℕ} → k < m → i ≤ n → (e : Expression) (t : Bool) → PartsBelow m e → (t ≡ true → i < n) →
    Each (λ (r : Rule). Leads m n (action_by r (suc i))) (rows e k t)
unfolding Leads rows action_by moved PartsBelow
rows_lead h o (Sequence b c) t l q = each (omega arith) (omega arith) (omega arith) (omega arith) (omega arith) (omega arith)
rows_lead h o (Choice b c) t l q = each (omega arith) (omega arith) (omega arith) (omega arith) (omega arith) (omega arith)
rows_lead h o (Not b) t l q = each (omega arith) (omega arith) (omega arith) tt tt tt
rows_lead h o Empty t l q = each (omega arith) tt tt tt tt tt
rows_lead h o (Range b c) true l q = each (omega (arith, q refl)) (omega arith) tt tt tt tt
rows_lead h o (Range b c) false l q = each (omega arith) (omega arith) tt tt tt tt

stops_lead : (m n i : ℕ) → Leads m n (action_by no_rule i)
unfolding Leads action_by
stops_lead m n i = tt

-- a rule's symbol is its first or its second
data RuleSymbol (m a : ℕ) : Type 0 where
  of_rule : (s : Bool) (k : ℕ) → k < m → a ≡ symbol s k → RuleSymbol m a

rule_symbol : (m a : ℕ) → 0 < a → a ≤ 2 * m → RuleSymbol m a
rule_symbol m a least most = go (ℕ_discrete a (first ((a - 1) / 2)))
  where
    go : Dec (a ≡ first ((a - 1) / 2)) → RuleSymbol m a
    go (yes e) = of_rule false ((a - 1) / 2) (omega arith) e
    go (no f) = of_rule true ((a - 1) / 2) (omega arith) (omega arith)

and_true : (a b : Bool) → (a && b) ≡ true → a ≡ true
and_true true b e = refl
and_true false b e = e

module _ {M : Machine} {E : Rules} {m : ℕ} {cs : List ℕ} (table : Table M E m cs) where
  symbol_leads :
      (s : Bool) (p i k : ℕ) → p ≤ state_fail → i ≤ length cs → k < m → Leads m (length cs) (M.action (config p (suc i) (symbol s k)))
  symbol_leads s p i k most on_tape in_grammar =
      let t : Bool = passes E cs k i in
      let inside : t ≡ true → i < length cs =
      λ e. ltb-true i (length cs) (and_true (ltb i (length cs)) (matches (range_of (E k)) (byte cs i)) e)
      in
      rw (table.selects s p k i (omega arith) in_grammar on_tape)
      (each_select (λ (r : Rule). Leads m (length cs) (action_by r (suc i))) (stops_lead m (length cs) (suc i)) (rows (E k) k t)
      (rows_lead in_grammar on_tape (E k) t (table.parts k in_grammar) inside)
      s
      p)

  box_leads_by :
      (p i a : ℕ) → InBox m (length cs) (config p i a) → RuleSymbol m a → Leads m (length cs) (M.action (config p i a))
  box_leads_by p zero a b s = absurd (omega (arith, b.head_least))
  box_leads_by p (suc i) a b (of_rule s k below e) =
      rw e (symbol_leads s p i k b.state_most (omega (arith, b.head_most)) below)

  pub box_leads : (c : Config) → InBox m (length cs) c → Leads m (length cs) (M.action c)
  box_leads c b = box_leads_by c.state c.head c.symbol b (rule_symbol m c.symbol b.symbol_least b.symbol_most)

-- WHERE THE BOTTOM ENTRY ALONE IS LEFT: the run terminates, or by a leading match passes a byte
pub data AtLast (how : Matching) (M : Machine) (n : ℕ) (c : Config) (j : ℕ) : Type 0 where
  terminates : Terminated M (over_base c j []) → AtLast how M n c j
  passes_byte :
      how ≡ Leading → c.state ≡ state_ok → c.head ≤ n →
      step M (over_base c j []) ≡ next (over_base (config state_ok (suc c.head) 0) j []) → AtLast how M n c j

module _ {M : Machine} {E : Rules} {m : ℕ} {cs : List ℕ} (table : Table M E m cs) where
  byte_goes : (how : Matching) → ChoiceRow how M cs → (i j : ℕ) → i < length cs → AtLast how M (length cs) (config state_ok (suc i) 0) j
  byte_goes Whole choice i j h = terminates (terminated_stopped M _ (step_stop M (config state_ok (suc i) 0) j [] (choice.on_bytes i h)))
  byte_goes Leading choice i j h = passes_byte refl refl (omega arith) (step_change M (config state_ok (suc i) 0) j [] (choice.on_bytes i h))

  bottom_goes_by : {how : Matching} → ChoiceRow how M cs → (p i j : ℕ) → AtBottom (length cs) (config p i 0) → AtLast how M (length cs) (config p i 0) j
  bottom_goes_by choice p zero j b = absurd (omega (arith, b.head_least))
  bottom_goes_by choice zero (suc i) j b = absurd (omega (arith, b.state_least))
  bottom_goes_by choice (suc zero) (suc i) j b = absurd (omega (arith, b.state_least))
  bottom_goes_by {how} choice (suc (suc zero)) (suc i) j b = go (ℕ_discrete i (length cs))
    where
      go : Dec (i ≡ length cs) → AtLast how M (length cs) (config state_ok (suc i) 0) j
      go (yes e) =
          let pops : M.action (config state_ok (suc i) 0) ≡ Pop state_done false = rw e table.ends in
          terminates (terminated_over M _ (step_pop_last M (config state_ok (suc i) 0) j pops))
      go (no f) = byte_goes how choice i j (omega (arith, b.head_most))
  bottom_goes_by choice (suc (suc (suc zero))) (suc i) j b =
      terminates (terminated_stopped M _ (step_stop M (config state_fail (suc i) 0) j [] (table.fail_stops i (omega (arith, b.head_most)))))
  bottom_goes_by choice (suc (suc (suc (suc p)))) (suc i) j b = absurd (omega (arith, b.state_most))

  pub bottom_goes : {how : Matching} → ChoiceRow how M cs → (c : Config) → AtBottom (length cs) c → (j : ℕ) → AtLast how M (length cs) c j
  bottom_goes {how} choice c b j = go c.symbol b.symbol_is b
    where
      go : (a : ℕ) → a ≡ 0 → AtBottom (length cs) (config c.state c.head a) → AtLast how M (length cs) (config c.state c.head a) j
      go zero e d = bottom_goes_by choice c.state c.head j d
      go (suc a) e d = absurd (omega arith)
