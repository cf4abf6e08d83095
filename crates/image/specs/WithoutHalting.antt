-- Images without a halting rule: when a rule was bad, and what it did, before there was kind 4, and what it is for such an image to be refused and run as then; and an image with missing rules for the halting ones of another. Assumes nothing: these are definitions.
use Rattle.std.specs.Prelude.{◌≡◌, Bool, true, ◌&&◌, ◌||◌, not, cond, List, ℕ, zero, suc, ◌+◌, ◌*◌, ◌<◌, ltb, leb, eqb, length}
use Rattle.codec.specs.Bytes.{byte}
use Rattle.refusal.specs.declared.Refusal.{Refusal}
use Rattle.refusal.specs.First.{refusal, no_refusal, or_else}
use Rattle.machine.specs.declared.Config.{Config}
use Rattle.machine.specs.declared.Action.{Action}
use Rattle.machine.specs.declared.Action.TheVariants.{Stop, Change, Push, Pop}
use Rattle.machine.specs.declared.Reason.TheVariants.{Missing}
use Rattle.machine.specs.declared.Verdict.TheVariants.{Halted}
use Rattle.machine.specs.Run.{ValidConfig}
use Rattle.machine.specs.Verdicts.{Says}
use Rattle.image.specs.Format
use Rattle.image.specs.Image.{states, classes, symbols, Rule, rule_from, rule_at, led_to, rule_of, machine}
use Rattle.image.specs.Refusals.{directory, counts, map_from, move_off, index_class, rule_count, image_refusal, Unrefused}

-- none of the image's rules, by state, class and symbol, has kind 4
abbrev pub NoHaltingRule : List ℕ → Type 0
NoHaltingRule bs =
    (p k a : ℕ) → p < states bs → k < classes bs + 2 → a < symbols bs → (rule_at bs p k a).kind ≡ Format.kind_halt → ⊥

-- BEFORE: a rule was bad above kind 3, and nothing but kind 0 stood without other bytes
unfoldable pub rule_bad_before : List ℕ → (class : ℕ) → Rule → Bool
rule_bad_before bs k r =
    cond (ltb Format.kind_pop r.kind) true
    (cond (eqb r.kind Format.kind_none) (not (eqb r.state 0 && (eqb r.symbol 0 && eqb r.direction 0)))
    (cond (leb (states bs) r.state) true
    (cond (eqb r.kind Format.kind_pop) (not (eqb r.symbol 0) || ltb Format.pop_return r.direction)
    (leb (symbols bs) r.symbol || (ltb Format.direction_left r.direction || move_off bs k r.direction)))))

unfoldable pub rules_refusal_before : (left i : ℕ) → List ℕ → Refusal
rules_refusal_before zero i bs = no_refusal
rules_refusal_before (suc n) i bs =
    let o = Format.rules_offset + Format.rule_length * i in
    cond (rule_bad_before bs (index_class bs i) (rule_from bs o)) (refusal 6 o) (rules_refusal_before n (suc i) bs)

unfoldable pub image_refusal_before : List ℕ → Refusal
image_refusal_before bs =
    cond (ltb (length bs) Format.map_offset) (refusal 1 (length bs))
    (or_else (directory bs)
    (or_else (counts bs)
    (cond (eqb (length bs) (Format.rules_offset + Format.rule_length * rule_count bs))
    (or_else (map_from Format.map_length Format.map_offset bs) (rules_refusal_before (rule_count bs) 0 bs)) (refusal 4 Format.rules_size))))

-- and a rule that was no change, push or pop was missing
unfoldable pub action_before : Rule → (head : ℕ) → Action
action_before r i =
    cond (eqb r.kind Format.kind_change) (Change (led_to r i))
    (cond (eqb r.kind Format.kind_push) (Push (led_to r i))
    (cond (eqb r.kind Format.kind_pop) (Pop r.state (eqb r.direction Format.pop_return)) (Stop Missing)))

-- AS BEFORE: refused by the same number at the same place or not at all, every configuration's rule does the same, and no run halts
pub record AsBefore (bs : List ℕ) : Type 0 where
  pub refused : image_refusal bs ≡ image_refusal_before bs
  pub acts :
      (cs : List ℕ) (c : Config) → Unrefused bs cs → ValidConfig (machine bs cs) c →
      (machine bs cs).action c ≡ action_before (rule_of bs cs c) c.head
  pub never_halted : (cs : List ℕ) (d : Config) → Unrefused bs cs → Says (machine bs cs) Halted d → ⊥

-- MISSING FOR HALTING: the same bytes up to the rules, and the same rules, but for each that has kind 4 a missing one
unfoldable pub missing_rule : Rule → Rule
missing_rule r = cond (eqb r.kind Format.kind_halt) (record { kind = Format.kind_none; state = 0; symbol = 0; direction = 0 }) r

pub record MissingForHalting (bs zs : List ℕ) : Type 0 where
  pub header : (i : ℕ) → i < Format.rules_offset → byte zs i ≡ byte bs i
  pub rules :
      (i : ℕ) →
      rule_from zs (Format.rules_offset + Format.rule_length * i) ≡ missing_rule (rule_from bs (Format.rules_offset + Format.rule_length * i))
