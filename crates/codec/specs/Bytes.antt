-- Bytes of a list, a section of one, and a part written into one. Assumes nothing: these are definitions.
use Rattle.std.specs.Prelude.{List, ◌++◌, ℕ, ◌+◌, ◌<◌, length, get_or, take, drop}

abbrev pub byte : List ℕ → (i : ℕ) → ℕ
byte bs i = get_or bs i 0

-- all of them bytes: a byte slice has this by its type, a list of numbers does not
abbrev pub Bytes : List ℕ → Type 0
Bytes bs = (i : ℕ) → byte bs i < 256

-- so many bytes from an offset on
abbrev pub section : List ℕ → (offset long : ℕ) → List ℕ
section bs o l = take l (drop o bs)

-- a buffer with a part written at a place: what stands before and after stays
unfoldable pub written : List ℕ → (at : ℕ) → (part : List ℕ) → List ℕ
written bs i part = take i bs ++ part ++ drop (i + length part) bs
