-- What an image says: counts, finals, byte classes and rules; and the machine that it makes of a capture. Assumes nothing: these are definitions.
use Rattle.std.specs.Prelude.{Bool, cond, List, ℕ, zero, suc, ◌+◌, ◌*◌, ◌-◌, ltb, eqb, length}
use Rattle.codec.specs.Bytes.{byte}
use Rattle.codec.specs.Numbers.{u32_at}
use Rattle.machine.specs.declared.Config.{Config}
use Rattle.image.specs.declared.Sizes.{Sizes}
use Rattle.machine.specs.declared.Action.{Action}
use Rattle.machine.specs.declared.Reason.{Reason}
use Rattle.machine.specs.declared.Reason.TheVariants.{Missing, Halting}
use Rattle.machine.specs.declared.Action.TheVariants.{Stop, Change, Push, Pop}
use Rattle.machine.specs.Terminating.{accepts_by}
use Rattle.image.specs.Format
use Rattle.machine.specs.Run.{Machine, config}

-- Q, K and G
unfoldable pub states : List ℕ → ℕ
states bs = byte bs Format.states_offset

unfoldable pub classes : List ℕ → ℕ
classes bs = byte bs Format.classes_offset

unfoldable pub symbols : List ℕ → ℕ
symbols bs = byte bs Format.symbols_offset

-- the counts that a lookup keeps
unfoldable pub sizes_of : (image capture : List ℕ) → Sizes
sizes_of bs cs = record { classes = classes bs; symbols = symbols bs; places = length cs + 2; rules = (classes bs + 2) * symbols bs }

-- A RULE: kind, state, symbol, move
pub record Rule : Type 0 where
  pub kind : ℕ
  pub state : ℕ
  pub symbol : ℕ
  pub direction : ℕ

unfoldable pub rule_offset : List ℕ → (p class a : ℕ) → ℕ
rule_offset bs p k a = Format.rules_offset + Format.rule_length * ((p * (classes bs + 2) + k) * symbols bs + a)

unfoldable pub rule_from : List ℕ → (offset : ℕ) → Rule
rule_from bs o = record { kind = byte bs o; state = byte bs (o + 1); symbol = byte bs (o + 2); direction = byte bs (o + 3) }

unfoldable pub rule_at : List ℕ → (p class a : ℕ) → Rule
rule_at bs p k a = rule_from bs (rule_offset bs p k a)

-- the byte class under the head: the left marker is K, the right one K + 1
unfoldable pub class_under : (image capture : List ℕ) → (head : ℕ) → ℕ
class_under bs cs zero = classes bs
class_under bs cs (suc i) = cond (ltb i (length cs)) (byte bs (Format.map_offset + byte cs i)) (classes bs + 1)

-- a move: right, left, else stay
unfoldable pub moved : (direction head : ℕ) → ℕ
moved m i = cond (eqb m Format.direction_right) (i + 1) (cond (eqb m Format.direction_left) (i - 1) i)

-- the configuration that a change or a push leads to, with the head at i
abbrev pub led_to : Rule → (head : ℕ) → Config
led_to r i = config r.state (moved r.direction i) r.symbol

-- why a rule that is no change, push or pop stops a run, by its kind: it halts, or it is missing
abbrev pub stop_reason : (kind : ℕ) → Reason
stop_reason k = cond (eqb k Format.kind_halt) Halting Missing

-- what a rule does with the head at i
unfoldable pub action_by : Rule → (head : ℕ) → Action
action_by r i =
    cond (eqb r.kind Format.kind_change) (Change (led_to r i))
    (cond (eqb r.kind Format.kind_push) (Push (led_to r i))
    (cond (eqb r.kind Format.kind_pop) (Pop r.state (eqb r.direction Format.pop_return)) (Stop (stop_reason r.kind))))

-- the rule that a configuration selects: by its state, the class under its head and its symbol
abbrev pub rule_of : (image capture : List ℕ) → Config → Rule
rule_of bs cs c = rule_at bs c.state (class_under bs cs c.head) c.symbol

unfoldable pub action : (image capture : List ℕ) → Config → Action
action bs cs c = action_by (rule_of bs cs c) c.head

-- accepting: by the image's finals, and the capture's places with the two markers
unfoldable pub accepting : (image capture : List ℕ) → (state head : ℕ) → Bool
accepting bs cs = accepts_by (u32_at bs Format.finals_offset) (length cs + 2)

unfoldable pub machine : (image capture : List ℕ) → Machine
machine bs cs =
    record { states = states bs; places = length cs + 2; symbols = symbols bs; action = action bs cs; accepting = accepting bs cs }
