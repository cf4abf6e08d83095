-- What a call of the library returns and writes to the six cells of its answer, by the numbers of its reply. Assumes nothing: these are definitions.
use Rattle.std.specs.Prelude.{◌≡◌, List, [], ◌∷◌, ℕ}
use Rattle.machine.specs.declared.Reply.{Reply}

-- the answer's six cells, whatever stood there before; the refusal's number, or 0, is what the call returns
unfoldable pub cells : Reply → List ℕ
cells p = p.place ∷ p.verdict ∷ p.count ∷ p.end.state ∷ p.end.head ∷ p.end.symbol ∷ []

pub record ReplyWritten (p : Reply) (returned : ℕ) (answer : List ℕ) : Type 0 where
  pub number : returned ≡ p.refusal
  pub written : answer ≡ cells p
