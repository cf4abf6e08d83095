-- What the call `plain_run` answers and leaves in the lent cells. Assumes nothing: these are definitions.
use Rattle.std.specs.Prelude.{◌≡◌, List, ℕ, zero, suc, eqb, length, replicate, Ok, Err}
use Rattle.refusal.specs.declared.Refusal.{Refusal}
use Rattle.machine.specs.Run.{start}
use Rattle.image.specs.Image.{machine}
use Rattle.refusal.specs.First.{refusal, or_else, refuse_if}
use Rattle.image.specs.Refusals.{capture_refusal}
use Rattle.interpreter.specs.Answers.{Ran}
use Rattle.interpreter.specs.declared.RunEnd.{RunEnd}
use Rattle.interpreter.specs.PlainRun.{run_on}

-- the plain run refuses by 1 to 7 and 10, the lowest first
unfoldable pub run_refusal : (image capture : List ℕ) → (cells : ℕ) → Refusal
run_refusal bs cs k = or_else (capture_refusal bs (length cs)) (refuse_if (eqb k 0) (refusal 10 0))

abbrev pub answer : RunEnd → Ran
answer e = Ok e

-- a refusal changes no cell; after an answer all cells are 0
unfoldable pub RunAs : (number : ℕ) → Refusal → RunEnd → Ran → (cells cells_now : List ℕ) → Type 0
RunAs zero f e r a b = (r ≡ answer e) × (b ≡ replicate (length a) 0)
RunAs (suc n) f e r a b = (r ≡ Err f) × (b ≡ a)

unfoldable pub RunSays : (image capture : List ℕ) → (budget : ℕ) → Ran → (cells cells_now : List ℕ) → Type 0
RunSays bs cs n r a b =
    RunAs (run_refusal bs cs (length a)).number (run_refusal bs cs (length a))
    (run_on n (machine bs cs) 0 (length a) start) r a b
