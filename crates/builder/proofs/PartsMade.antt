-- The class map and the rules that a grammar's image is made of: how many they are, and the one at an index. Assumes nothing.
use mathlib.Core.Path.{◌≡◌, refl, ap}
use mathlib.Core.List.{List}
use Prim.Native.Nat.{ℕ, zero, suc, ◌+◌, ◌/◌, ◌%◌, ◌<◌}
use native.Mathlib.Omega.{arith}
use lib.ListN.{length}
use Rattle.codec.specs.Bytes.{byte}
use Rattle.image.specs.Image.{Rule}
use Rattle.image.specs.Encoding.{rule_in}
use Rattle.builder.specs.Classes.{class_of, class_count}
use Rattle.builder.specs.Image.{RuleTable, map_made, rules_made, symbols_of}

-- THE CLASS MAP
pub map_length : (n v : ℕ) (gs : List ℕ) → length (map_made n v gs) ≡ n
unfolding map_made
map_length zero v gs = refl
map_length (suc n) v gs = ap suc (map_length n (suc v) gs)

pub map_reads : (n v i w : ℕ) (gs : List ℕ) → v + i ≡ w → i < n → byte (map_made n v gs) i ≡ class_of gs w
unfolding map_made
map_reads zero v i w gs e h = absurd (omega arith)
map_reads (suc n) v zero w gs e h = ap (class_of gs) (omega arith)
map_reads (suc n) v (suc i) w gs e h = map_reads n (suc v) i w gs (omega arith) (omega arith)

-- THE RULES of a table: the one with index i
abbrev pub made_at : RuleTable → List ℕ → (i : ℕ) → Rule
made_at t gs i = t (i / symbols_of gs / (class_count gs + 2)) (i / symbols_of gs % (class_count gs + 2)) (i % symbols_of gs)

pub rules_length : (t : RuleTable) (n i : ℕ) (gs : List ℕ) → length (rules_made t n i gs) ≡ n
unfolding rules_made
rules_length t zero i gs = refl
rules_length t (suc n) i gs = ap suc (rules_length t n (suc i) gs)

pub rules_read : (t : RuleTable) (n i j m : ℕ) (gs : List ℕ) → i + j ≡ m → j < n → rule_in (rules_made t n i gs) j ≡ made_at t gs m
unfolding rules_made rule_in
rules_read t zero i j m gs e h = absurd (omega arith)
rules_read t (suc n) i zero m gs e h = ap (made_at t gs) (omega arith)
rules_read t (suc n) i (suc j) m gs e h = rules_read t n (suc i) j m gs (omega arith) (omega arith)
