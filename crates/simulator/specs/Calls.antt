-- What the calls `cells` and `judge` answer, and what judging leaves in the lent cells. Assumes nothing: these are definitions.
use Rattle.std.specs.Prelude.{◌≡◌, List, ◌++◌, cond, ℕ, zero, suc, ◌+◌, ◌*◌, ◌<◌, ◌≤◌, ltb, eqb, length, drop, replicate, Err, Ok}
use Rattle.std.proofs.Math.Option.{none, some}
use Rattle.machine.specs.declared.Config.{Config}
use Rattle.refusal.specs.declared.Refusal.{Refusal}
use Rattle.machine.specs.declared.Verdict.{Verdict}
use Rattle.machine.specs.Run.{how_many}
use Rattle.image.specs.Image.{machine, states, symbols}
use Rattle.machine.specs.Verdicts.{Says, Noted, nonzero}
use Rattle.refusal.specs.First.{refusal, or_else, refuse_if}
use Rattle.image.specs.Refusals.{capture_refusal}
use Rattle.simulator.specs.Answers.{Needs}
use Rattle.simulator.specs.declared.Judgement.{Judgement}
use Rattle.simulator.specs.Answers.{Judged}
use Rattle.chain.specs.Chain.{reached, chain}

-- N, for an image and a capture of n bytes
unfoldable pub cells_needed : (image : List ℕ) → (n : ℕ) → ℕ
cells_needed bs n = states bs * (n + 2) * symbols bs

-- THE CALL `cells`
unfoldable pub needs : Refusal → (cells : ℕ) → Needs
needs f n = cond (eqb f.number 0) (Ok n) (Err f)

-- 8 and 9: where so many cells are needed, fewer notes or fewer work cells
unfoldable pub short_refusal : (needed notes work : ℕ) → Refusal
short_refusal n a b = or_else (refuse_if (ltb a n) (refusal 8 n)) (refuse_if (ltb b n) (refusal 9 n))

-- judging refuses by 1 to 7, 8 and 9, the lowest first
unfoldable pub judge_refusal : (image capture : List ℕ) → (notes work : ℕ) → Refusal
judge_refusal bs cs a b =
    or_else (capture_refusal bs (length cs))
    (or_else (refuse_if (ltb a (how_many (machine bs cs))) (refusal 8 (how_many (machine bs cs))))
    (refuse_if (ltb b (how_many (machine bs cs))) (refusal 9 (how_many (machine bs cs)))))

-- the chain comes to this answer and these notes, within 4 r + 1 steps, and to no verdict before
pub record ChainEnds (bs cs : List ℕ) (v : Verdict) (readings : ℕ) (end : Config) (notes : List ℕ) : Type 0 where
  pub steps : ℕ
  pub verdict_is : chain.verdict (reached chain bs cs steps).state ≡ some v
  pub readings_are : chain.readings (reached chain bs cs steps).state ≡ readings
  pub end_is : chain.end (reached chain bs cs steps).state ≡ end
  pub notes_are : (reached chain bs cs steps).notes ≡ notes
  pub few : steps ≤ 4 * readings + 1
  pub not_before : (n : ℕ) → n < steps → chain.verdict (reached chain bs cs n).state ≡ none

abbrev pub judgement : Verdict → (readings : ℕ) → (end : Config) → Judgement
judgement v n d = record { verdict = v; readings = n; end = d }

-- a judgement: the run's verdict and end, with its N notes and their count, all as the chain ends, and the work cells 0
pub record JudgementRight (bs cs : List ℕ) (j : Judgement) (notes work : List ℕ) : Type 0 where
  pub says : Says (machine bs cs) j.verdict j.end
  pub noted : Noted (machine bs cs) notes
  pub counted : j.readings ≡ nonzero (how_many (machine bs cs)) notes
  pub noted_cells : length notes ≡ how_many (machine bs cs)
  pub work_zero : work ≡ replicate (how_many (machine bs cs)) 0
  pub by_chain : ChainEnds bs cs j.verdict j.readings j.end notes

-- an answer: a right judgement in the first N cells; later cells as they were
pub record JudgedRight (bs cs : List ℕ) (r : Judged) (a a_now b b_now : List ℕ) : Type 0 where
  pub judgement : Judgement
  pub notes : List ℕ
  pub work : List ℕ
  pub answers : r ≡ Ok judgement
  pub right : JudgementRight bs cs judgement notes work
  pub notes_now : a_now ≡ notes ++ drop (how_many (machine bs cs)) a
  pub work_now : b_now ≡ work ++ drop (how_many (machine bs cs)) b

-- a refusal changes no cell
unfoldable pub JudgeAs : (number : ℕ) → Refusal → (bs cs : List ℕ) → Judged → (a a_now b b_now : List ℕ) → Type 0
JudgeAs zero f bs cs r a x b y = JudgedRight bs cs r a x b y
JudgeAs (suc n) f bs cs r a x b y = (r ≡ Err f) × (x ≡ a) × (y ≡ b)

unfoldable pub JudgeSays : (image capture : List ℕ) → Judged → (a a_now b b_now : List ℕ) → Type 0
JudgeSays bs cs r a x b y =
    JudgeAs (judge_refusal bs cs (length a) (length b)).number (judge_refusal bs cs (length a) (length b)) bs cs r a x b y
