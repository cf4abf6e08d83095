-- Byte classes of a grammar: bytes that no range tells apart. A class begins at each cut, the first byte of a range or the one after its last; a range that matches nothing has none. Assumes nothing: these are definitions.
use Rattle.std.specs.Prelude.{Bool, false, ◌&&◌, ◌||◌, cond, List, ℕ, zero, suc, ◌+◌, leb, eqb, Option, Some, None}
use Rattle.grammar.specs.declared.ByteRange.{ByteRange}
use Rattle.grammar.specs.Grammar.{rules, expression, range_of}

-- whether a range cuts at v: at one of its two ends, if its first byte is not above its last
unfoldable pub cuts_at : Option ByteRange → (v : ℕ) → Bool
cuts_at None v = false
cuts_at (Some r) v = (eqb r.low v || eqb (r.high + 1) v) && leb r.low r.high

-- whether a rule from k on cuts at v
unfoldable pub cut_from : (left k : ℕ) → List ℕ → (v : ℕ) → Bool
cut_from zero k gs v = false
cut_from (suc n) k gs v = cuts_at (range_of (expression gs k)) v || cut_from n (suc k) gs v

unfoldable pub cut : List ℕ → (v : ℕ) → Bool
cut gs v = cut_from (rules gs) 0 gs v

-- a byte's class: how many different values v in 1..byte are cuts
unfoldable pub class_of : List ℕ → (value : ℕ) → ℕ
class_of gs zero = 0
class_of gs (suc v) = class_of gs v + cond (cut gs (suc v)) 1 0

-- K
unfoldable pub class_count : List ℕ → ℕ
class_count gs = class_of gs 255 + 1

-- a class whose bytes are in a range; one with its first byte above its last has none, though its two ends may be of one class
unfoldable pub class_in : List ℕ → (low high class : ℕ) → Bool
class_in gs b c k = leb b c && (leb (class_of gs b) k && leb k (class_of gs c))
