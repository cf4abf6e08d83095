-- THE SAME ONCE MORE, capture by capture: each line as that capture judged alone, on the cells as they were lent; and the cells as a fold over what each capture writes. Assumes nothing: these are definitions.
use Rattle.std.specs.Prelude.{◌≡◌, List, [], ◌∷◌, ◌++◌, ℕ, suc, length, drop, Err, Ok}
use Rattle.machine.specs.Run.{how_many}
use Rattle.image.specs.Image.{machine}
use Rattle.refusal.specs.declared.Refusal.{Refusal}
use Rattle.simulator.specs.Answers.{Judged}
use Rattle.simulator.specs.declared.Judgement.{Judgement}
use Rattle.simulator.specs.Calls.{JudgeSays}
use Rattle.bundle.specs.Format.{count, capture}

-- from capture i on: the lines, and what each capture writes to the notes, nothing if it is refused, else its N notes
pub data Alone (image bundle a b : List ℕ) : (i : ℕ) → (lines : List Judged) → (written : List (List ℕ)) → Type 0 where
  done : Alone image bundle a b (count bundle) [] []
  refused :
      {i : ℕ} {f : Refusal} {rs : List Judged} {ws : List (List ℕ)} → JudgeSays image (capture bundle i) (Err f) a a b b →
      Alone image bundle a b (suc i) rs ws → Alone image bundle a b i (Err f ∷ rs) ([] ∷ ws)
  answered :
      {i : ℕ} {j : Judgement} {ns : List ℕ} {rs : List Judged} {ws : List (List ℕ)} (b_now : List ℕ) →
      length ns ≡ how_many (machine image (capture bundle i)) →
      JudgeSays image (capture bundle i) (Ok j) a (ns ++ drop (length ns) a) b b_now → Alone image bundle a b (suc i) rs ws →
      Alone image bundle a b i (Ok j ∷ rs) (ns ∷ ws)

-- CELLS AFTER WRITING IN ORDER, each over its own first ones only
unfoldable pub written_over : (written : List (List ℕ)) → (cells : List ℕ) → List ℕ
written_over [] a = a
written_over (ns ∷ ws) a = written_over ws (ns ++ drop (length ns) a)
