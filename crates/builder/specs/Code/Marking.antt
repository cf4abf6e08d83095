-- Marks, one for each byte value: 1 where a class begins, else 0. What marking one range and all of a grammar's leaves. Assumes nothing: these are definitions.
use Rattle.std.specs.Prelude.{◌≡◌, cond, List, ℕ, ◌<◌, Option}
use Rattle.image.specs.Format
use Rattle.codec.specs.Bytes.{byte}
use Rattle.grammar.specs.declared.ByteRange.{ByteRange}
use Rattle.builder.specs.Classes.{cuts_at, cut}

-- the cuts of one range are marked, and the other marks stay
pub record MarksRange (r : Option ByteRange) (marks marks_now : List ℕ) : Type 0 where
  pub mark : (v : ℕ) → v < Format.map_length → byte marks_now v ≡ cond (cuts_at r v) 1 (byte marks v)

-- the marks are those of all cuts of a grammar
pub record MarksCuts (gs marks : List ℕ) : Type 0 where
  pub mark : (v : ℕ) → v < Format.map_length → byte marks v ≡ cond (cut gs v) 1 0
