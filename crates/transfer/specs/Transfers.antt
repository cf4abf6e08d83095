-- What a call that moves bytes came to, where reading and writing stop, and what counts as an input. Assumes nothing: these are definitions.
use Rattle.std.specs.Prelude.{◌≡◌, List, [], ◌∷◌, ◌++◌, length, take, ℕ, zero, suc, ◌+◌, ◌≤◌, ◌<◌, Bool, true, false, cond, None, Some, Ok, Err}
use Rattle.std.specs.declared.option.Option.{Option}
use Rattle.std.specs.declared.result.Result.{Result}
use Rattle.std.specs.Io.KnownBytes.{Appends}
use Rattle.std.specs.declared.io.Error.{Error}
use Rattle.transfer.specs.declared.Input.{Input}

-- what the last call answered, and None where no call was made
abbrev pub Outcome : Type 0
Outcome = Option (Result ℕ Error)

-- a failure, or an interruption that is not made good
abbrev pub has_failed : Outcome → Bool
has_failed None = false
has_failed (Some (Ok n)) = false
has_failed (Some (Err e)) = true

-- the last call moved bytes where all are moved, its own among them, and none where some are left
abbrev pub Stopped : Outcome → (count long : ℕ) → Type 0
Stopped None count long = count ≡ long
Stopped (Some (Ok zero)) count long = count < long
Stopped (Some (Ok (suc k))) count long = (suc k ≤ count) × (count ≡ long)
Stopped (Some (Err e)) count long = count < long

-- so many bytes are moved in all where so many were moved before and this is what a call answered
abbrev pub with_moved : ℕ → Result ℕ Error → ℕ
with_moved count (Ok n) = count + n
with_moved count (Err e) = count

-- what was read is an input where reading came to the end of it or filled the buffer; where a read failed, nothing is
abbrev pub whole_of : Outcome → (count : ℕ) → ℕ
whole_of last count = cond (has_failed last) 0 count

-- WHAT READING AN INPUT ANSWERS: the bytes that count as one, by how reading stopped, and within the buffer
pub record WholeInput (r : Input) (long : ℕ) : Type 0 where
  pub stopped : Stopped r.stop.last r.stop.count long
  pub whole : r.count ≡ whole_of r.stop.last r.stop.count
  pub within : r.count ≤ long

-- the first so many of these bytes were written; all of them where that is the answer
pub record WritesFront (bytes : List ℕ) (all : Bool) (before after : Option (List ℕ)) : Type 0 where
  pub count : ℕ
  pub within : count ≤ length bytes
  pub written : Appends before after (take count bytes)
  pub whole : all ≡ true → count ≡ length bytes

-- A COMPLAINT'S LINE: what failed, a colon and a space, why, and a line feed
abbrev pub complaint_line : (what why : List ℕ) → List ℕ
complaint_line what why = what ++ (58 ∷ 32 ∷ (why ++ (10 ∷ [])))

pub record Complains (what : List ℕ) (all : Bool) (before after : Option (List ℕ)) : Type 0 where
  pub why : List ℕ
  pub line : WritesFront (complaint_line what why) all before after
