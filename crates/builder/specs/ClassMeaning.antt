-- Byte classes in the paper's words: how many different cuts there are up to a byte, and a class that some byte of a range has. Assumes nothing: these are definitions.
use Rattle.std.specs.Prelude.{◌≡◌, ◌⊎◌, ℕ, ◌+◌, ◌<◌, ◌≤◌, length}
use mathlib.Core.List.{List, Memᴰ}
use Rattle.machine.specs.Verdicts.{Distinct}
use Rattle.grammar.specs.declared.Expression.TheVariants.{Range}
use Rattle.grammar.specs.Grammar.{rules, expression}
use Rattle.builder.specs.Classes.{class_of}

-- u is among the b and c + 1 of the ranges that match some byte
pub record RangeCut (gs : List ℕ) (u : ℕ) : Type 0 where
  pub rule : ℕ
  pub low : ℕ
  pub high : ℕ
  pub there : rule < rules gs
  pub is : expression gs rule ≡ Range low high
  pub in_order : low ≤ high
  pub at_end : (u ≡ low) ⊎ (u ≡ high + 1)

-- A CLASS COUNTS: there is a list without repeats of exactly the cuts in 1..v, as long as v's class is high
pub record ClassCounts (gs : List ℕ) (v : ℕ) : Type 0 where
  pub cuts : List ℕ
  pub distinct : Distinct cuts
  pub only : (u : ℕ) → Memᴰ u cuts → (1 ≤ u) × (u ≤ v) × RangeCut gs u
  pub all : (u : ℕ) → 1 ≤ u → u ≤ v → RangeCut gs u → Memᴰ u cuts
  pub counted : length cuts ≡ class_of gs v

-- some byte of low..high has the class
pub record ByteOfClass (gs : List ℕ) (low high class : ℕ) : Type 0 where
  pub value : ℕ
  pub from_low : low ≤ value
  pub to_high : value ≤ high
  pub class_is : class_of gs value ≡ class
