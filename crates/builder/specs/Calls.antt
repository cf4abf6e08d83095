-- What building answers and leaves in the lent buffer, by the choice of a match. Assumes nothing: these are definitions.
use Rattle.std.specs.Prelude.{◌≡◌, List, ◌++◌, ℕ, zero, suc, ltb, length, drop, Err, Ok}
use Rattle.refusal.specs.declared.Refusal.{Refusal}
use Rattle.refusal.specs.First.{refusal, or_else, refuse_if}
use Rattle.builder.specs.declared.Matching.{Matching}
use Rattle.builder.specs.Answers.{Built}
use Rattle.grammar.specs.Grammar.{grammar_refusal}
use Rattle.builder.specs.Image.{built, built_length}

-- 13: a buffer of so many bytes, for an image that is so long
abbrev pub room_refusal : (long room : ℕ) → Refusal
room_refusal l n = refuse_if (ltb n l) (refusal 13 l)

-- building refuses by 11, 12 and 13, the lowest first, whatever the choice
unfoldable pub build_refusal : (grammar : List ℕ) → (room : ℕ) → Refusal
build_refusal gs n = or_else (grammar_refusal gs) (room_refusal (built_length gs) n)

-- the image, then the later bytes as they were; a refusal changes no byte
unfoldable pub BuildAs : (number : ℕ) → Refusal → Matching → (grammar : List ℕ) → Built → (a a_now : List ℕ) → Type 0
BuildAs zero f how gs r a b = (r ≡ Ok (built_length gs)) × (b ≡ built how gs ++ drop (built_length gs) a)
BuildAs (suc n) f how gs r a b = (r ≡ Err f) × (b ≡ a)

unfoldable pub BuildSays : Matching → (grammar : List ℕ) → Built → (a a_now : List ℕ) → Type 0
BuildSays how gs r a b = BuildAs (build_refusal gs (length a)).number (build_refusal gs (length a)) how gs r a b
