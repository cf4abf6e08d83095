-- Offsets and limits of the image, by name: the one place that says them. Assumes nothing: these are definitions.
use Rattle.std.specs.Prelude.{ℕ}

-- the directory: where the pair of each section stands, and the place of the third pair's length
abbrev pub counts_pair : ℕ
counts_pair = 0

abbrev pub map_pair : ℕ
map_pair = 8

abbrev pub rules_pair : ℕ
rules_pair = 16

abbrev pub rules_size : ℕ
rules_size = 20

-- sections: the counts and finals, the class map, the rules
abbrev pub counts_offset : ℕ
counts_offset = 24

abbrev pub counts_length : ℕ
counts_length = 8

abbrev pub states_offset : ℕ
states_offset = 24

abbrev pub classes_offset : ℕ
classes_offset = 25

abbrev pub symbols_offset : ℕ
symbols_offset = 26

abbrev pub zero_offset : ℕ
zero_offset = 27

abbrev pub finals_offset : ℕ
finals_offset = 28

-- the finals, a bit for each state
abbrev pub finals_length : ℕ
finals_length = 4

abbrev pub map_offset : ℕ
map_offset = 32

abbrev pub map_length : ℕ
map_length = 256

abbrev pub rules_offset : ℕ
rules_offset = 288

-- a rule's bytes: kind, state, symbol, direction
abbrev pub rule_length : ℕ
rule_length = 4

-- its kinds
abbrev pub kind_none : ℕ
kind_none = 0

abbrev pub kind_change : ℕ
kind_change = 1

abbrev pub kind_push : ℕ
kind_push = 2

abbrev pub kind_pop : ℕ
kind_pop = 3

abbrev pub kind_halt : ℕ
kind_halt = 4

-- the directions of a change or a push; document 01 says moves
abbrev pub direction_stay : ℕ
direction_stay = 0

abbrev pub direction_right : ℕ
direction_right = 1

abbrev pub direction_left : ℕ
direction_left = 2

-- the directions of a pop: the head stays, or returns to the entry's pointer
abbrev pub pop_stay : ℕ
pop_stay = 0

abbrev pub pop_return : ℕ
pop_return = 1

-- limits
abbrev pub max_states : ℕ
max_states = 32

abbrev pub max_classes : ℕ
max_classes = 64

abbrev pub max_symbols : ℕ
max_symbols = 128

-- the longest capture, in bytes
abbrev pub max_capture : ℕ
max_capture = 65535

-- the most tape places: the longest capture's and the two markers
abbrev pub max_places : ℕ
max_places = 65537
