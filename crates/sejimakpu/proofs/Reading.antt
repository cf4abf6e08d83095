-- What is left in the buffer for a grammar that was read. Assumes nothing.
use mathlib.Core.Path.{◌≡◌}
use mathlib.Core.List.{List}
use Prim.Native.Nat.{ℕ}
use Rattle.std.specs.Prelude.{Result, Ok, Err}
use Rattle.refusal.specs.declared.Refusal.{Refusal}
use Rattle.reader.specs.declared.GrammarBytes.{GrammarBytes}
use Rattle.typed.specs.Replies.{of_read, grammar_left}

-- a refused text changes no byte of the buffer: a grammar that was read is told with number 0
pub nothing_left :
    (r : Result GrammarBytes Refusal) (grammar now : List ℕ) {n : ℕ} → now ≡ grammar_left r grammar → n ≡ (of_read r).refusal →
    (n ≡ 0 → ⊥) → now ≡ grammar
unfolding of_read
nothing_left (Ok g) grammar now left told some = absurd (some told)
nothing_left (Err f) grammar now left told some = left
