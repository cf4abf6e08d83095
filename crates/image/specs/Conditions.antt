-- When an image is right, condition by condition as the paper's prose has them, whatever the order in which a check tests them; and the rows that the paper's table of refusals has for an image and a capture. Assumes nothing: these are definitions.
use Rattle.std.specs.Prelude.{◌≡◌, List, ℕ, ◌+◌, ◌*◌, ◌-◌, ◌/◌, ◌%◌, ◌^◌, ◌<◌, ◌≤◌, length}
use Rattle.image.specs.Format
use Rattle.codec.specs.Bytes.{byte}
use Rattle.codec.specs.Numbers.{u32_at, pair_at}
use Rattle.image.specs.Image.{states, classes, symbols, Rule, rule_offset, rule_at}

-- THE DIRECTORY: the pair of 32-bit numbers at a place
pub record PairRight (bs : List ℕ) (at offset long : ℕ) : Type 0 where
  pub offset_is : (pair_at bs at).offset ≡ offset
  pub length_is : (pair_at bs at).long ≡ long

abbrev pub CountsPairRight : List ℕ → Type 0
CountsPairRight bs = PairRight bs Format.counts_pair Format.counts_offset Format.counts_length

abbrev pub MapPairRight : List ℕ → Type 0
MapPairRight bs = PairRight bs Format.map_pair Format.map_offset Format.map_length

-- the third length is what the image has from the rules' offset on; of a shorter image the third pair is always wrong
pub record RulesPairRight (bs : List ℕ) : Type 0 where
  pub long_enough : Format.rules_offset ≤ length bs
  pub pair : PairRight bs Format.rules_pair Format.rules_offset (length bs - Format.rules_offset)

pub record DirectoryRight (bs : List ℕ) : Type 0 where
  pub counts_pair : CountsPairRight bs
  pub map_pair : MapPairRight bs
  pub rules_pair : RulesPairRight bs

-- COUNTS AND FINALS: each count is at least 1 and at most its limit
pub record CountRight (count limit : ℕ) : Type 0 where
  pub least : 1 ≤ count
  pub most : count ≤ limit

abbrev pub StatesRight : List ℕ → Type 0
StatesRight bs = CountRight (states bs) Format.max_states

abbrev pub ClassesRight : List ℕ → Type 0
ClassesRight bs = CountRight (classes bs) Format.max_classes

abbrev pub SymbolsRight : List ℕ → Type 0
SymbolsRight bs = CountRight (symbols bs) Format.max_symbols

-- bit s is for state s; bits from Q up are zero
abbrev pub FinalsRight : List ℕ → Type 0
FinalsRight bs = (s : ℕ) → states bs ≤ s → u32_at bs Format.finals_offset / 2 ^ s % 2 ≡ 0

pub record CountsRight (bs : List ℕ) : Type 0 where
  pub states_right : StatesRight bs
  pub classes_right : ClassesRight bs
  pub symbols_right : SymbolsRight bs
  pub zero_right : byte bs Format.zero_offset ≡ 0
  pub finals_right : FinalsRight bs

-- THE LENGTH: Q (K + 2) G rules of four bytes, from the rules' offset on
abbrev pub LengthRight : List ℕ → Type 0
LengthRight bs = length bs ≡ Format.rules_offset + Format.rule_length * states bs * (classes bs + 2) * symbols bs

-- THE CLASS MAP: the class of each byte value is below K
abbrev pub MapRight : List ℕ → Type 0
MapRight bs = (v : ℕ) → v < Format.map_length → byte bs (Format.map_offset + v) < classes bs

-- A RULE for a class, where K is the left marker and K + 1 the right one. Of a change or a push: state and symbol are in range, the move is known (stay, right, left), and it is not left on the left marker nor right on the right one
pub record TargetRight (bs : List ℕ) (class : ℕ) (r : Rule) : Type 0 where
  pub state_below : r.state < states bs
  pub symbol_below : r.symbol < symbols bs
  pub direction_known : r.direction ≤ Format.direction_left
  pub not_off_left : class ≡ classes bs → r.direction ≡ Format.direction_left → ⊥
  pub not_off_right : class ≡ classes bs + 1 → r.direction ≡ Format.direction_right → ⊥

-- by its kind: none or halt, with no other byte set; change; push; pop, whose symbol byte is 0 and whose direction is stay or return. No other kind is right
pub data RuleRight (bs : List ℕ) (class : ℕ) (r : Rule) : Type 0 where
  none_right : r.kind ≡ Format.kind_none → r.state ≡ 0 → r.symbol ≡ 0 → r.direction ≡ 0 → RuleRight bs class r
  change_right : r.kind ≡ Format.kind_change → TargetRight bs class r → RuleRight bs class r
  push_right : r.kind ≡ Format.kind_push → TargetRight bs class r → RuleRight bs class r
  pop_right : r.kind ≡ Format.kind_pop → r.state < states bs → r.symbol ≡ 0 → r.direction ≤ Format.pop_return → RuleRight bs class r
  halt_right : r.kind ≡ Format.kind_halt → r.state ≡ 0 → r.symbol ≡ 0 → r.direction ≡ 0 → RuleRight bs class r

-- THE RULES: the one of each state, class and symbol; the two markers are classes too
abbrev pub RulesRight : List ℕ → Type 0
RulesRight bs =
    (p k a : ℕ) → p < states bs → k < classes bs + 2 → a < symbols bs → RuleRight bs k (rule_at bs p k a)

-- THE IMAGE
pub record ImageRight (bs : List ℕ) : Type 0 where
  pub header : Format.map_offset ≤ length bs
  pub directory : DirectoryRight bs
  pub counts : CountsRight bs
  pub long : LengthRight bs
  pub map : MapRight bs
  pub rules : RulesRight bs

-- THE FIRST THAT IS WRONG, by its place: a pair of the directory,
pub data FirstWrongPair (bs : List ℕ) : (place : ℕ) → Type 0 where
  counts_pair_wrong : (CountsPairRight bs → ⊥) → FirstWrongPair bs Format.counts_pair
  map_pair_wrong : CountsPairRight bs → (MapPairRight bs → ⊥) → FirstWrongPair bs Format.map_pair
  rules_pair_wrong : CountsPairRight bs → MapPairRight bs → (RulesPairRight bs → ⊥) → FirstWrongPair bs Format.rules_pair

-- a count, the byte after the counts or the finals,
pub data FirstWrongCount (bs : List ℕ) : (place : ℕ) → Type 0 where
  states_wrong : (StatesRight bs → ⊥) → FirstWrongCount bs Format.states_offset
  classes_wrong : StatesRight bs → (ClassesRight bs → ⊥) → FirstWrongCount bs Format.classes_offset
  symbols_wrong : StatesRight bs → ClassesRight bs → (SymbolsRight bs → ⊥) → FirstWrongCount bs Format.symbols_offset
  zero_wrong : StatesRight bs → ClassesRight bs → SymbolsRight bs → (byte bs Format.zero_offset ≡ 0 → ⊥) → FirstWrongCount bs Format.zero_offset
  finals_wrong :
      StatesRight bs → ClassesRight bs → SymbolsRight bs → byte bs Format.zero_offset ≡ 0 → (FinalsRight bs → ⊥) → FirstWrongCount bs Format.finals_offset

-- a byte of the class map,
pub record FirstWrongClass (bs : List ℕ) (place : ℕ) : Type 0 where
  pub value : ℕ
  pub value_below : value < Format.map_length
  pub place_is : place ≡ Format.map_offset + value
  pub wrong : classes bs ≤ byte bs place
  pub before : (v : ℕ) → v < value → byte bs (Format.map_offset + v) < classes bs

-- a rule: it is not right, and every rule with a lesser offset is
pub record FirstBadRule (bs : List ℕ) (place : ℕ) : Type 0 where
  pub state : ℕ
  pub class : ℕ
  pub symbol : ℕ
  pub state_below : state < states bs
  pub class_below : class < classes bs + 2
  pub symbol_below : symbol < symbols bs
  pub place_is : place ≡ rule_offset bs state class symbol
  pub bad : RuleRight bs class (rule_at bs state class symbol) → ⊥
  pub before :
      (p k a : ℕ) → p < states bs → k < classes bs + 2 → a < symbols bs → rule_offset bs p k a < place →
      RuleRight bs k (rule_at bs p k a)

-- THE TABLE'S ROWS, a constructor each, by number and place; number 0 at place 0 is no refusal. The lowest number decides: a row says that its own condition fails and that those of the lower numbers hold
pub data ImageRow (bs : List ℕ) : (number place : ℕ) → Type 0 where
  unrefused : ImageRight bs → ImageRow bs 0 0
  short_image : length bs < Format.map_offset → ImageRow bs 1 (length bs)
  wrong_pair : {place : ℕ} → Format.map_offset ≤ length bs → FirstWrongPair bs place → ImageRow bs 2 place
  wrong_count : {place : ℕ} → DirectoryRight bs → FirstWrongCount bs place → ImageRow bs 3 place
  wrong_length : DirectoryRight bs → CountsRight bs → (LengthRight bs → ⊥) → ImageRow bs 4 Format.rules_size
  wrong_class :
      {place : ℕ} → DirectoryRight bs → CountsRight bs → LengthRight bs → FirstWrongClass bs place → ImageRow bs 5 place
  bad_rule :
      {place : ℕ} → DirectoryRight bs → CountsRight bs → LengthRight bs → MapRight bs → FirstBadRule bs place →
      ImageRow bs 6 place

-- A CAPTURE of n bytes with its image, and their rows 1 to 7: the image's come first
pub record CaptureRight (bs : List ℕ) (n : ℕ) : Type 0 where
  pub image : ImageRight bs
  pub short : n ≤ Format.max_capture

pub data CaptureRow (bs : List ℕ) (n : ℕ) : (number place : ℕ) → Type 0 where
  unrefused_capture : CaptureRight bs n → CaptureRow bs n 0 0
  refused_image : {number place : ℕ} → ImageRow bs number place → (number ≡ 0 → ⊥) → CaptureRow bs n number place
  long_capture : ImageRight bs → Format.max_capture < n → CaptureRow bs n 7 n
