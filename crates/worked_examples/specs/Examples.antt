-- The ten worked examples C1 to C10: each with its verdict, readings, end configuration and steps; and what it is for such a row to be true. Assumes nothing: these are definitions.
use Rattle.std.specs.Prelude.{◌≡◌, true, List, [], ◌∷◌, ◌++◌, ℕ, replicate}
use Rattle.std.proofs.Math.Option.{Option, none, some}
use Rattle.machine.specs.declared.Config.{Config}
use Rattle.machine.specs.declared.Verdict.{Verdict}
use Rattle.machine.specs.declared.Verdict.TheVariants.{Accepted, Ended, Stuck, Looping}
use Rattle.machine.specs.declared.Termination.{Termination}
use Rattle.machine.specs.declared.Termination.TheVariants.{Over}
use Rattle.image.specs.Format
use Rattle.machine.specs.Terminating.{termination_verdict}
use Rattle.machine.specs.Run.{Machine, config, start}
use Rattle.image.specs.Image.{Rule, machine}
use Rattle.image.specs.Encoding.{Parts, encode}
use Rattle.image.specs.Refusals.{Unrefused}
use Rattle.machine.specs.Verdicts.{Says, GoesOn, AllEntered}
use Rattle.interpreter.specs.declared.Exit.TheVariants.{Terminated, Spent, Deep}
use Rattle.interpreter.specs.declared.RunEnd.{RunEnd}
use Rattle.interpreter.specs.PlainRun.{run_end, run_on, TrueEnd}
use Rattle.grammar.specs.Grammar.{grammar_refusal}
use Rattle.builder.specs.declared.Matching.{Matching}
use Rattle.builder.specs.declared.Matching.TheVariants.{Whole, Leading}
use Rattle.builder.specs.Table.{rule, no_rule}
use Rattle.builder.specs.Image.{built}

-- where a row's image is from: built of a grammar, by a choice of a match, or given
pub data Source : Type 0 where
  from_grammar : Matching → (grammar : List ℕ) → Source
  from_image : (image : List ℕ) → Source

unfoldable pub image_of : Source → List ℕ
image_of (from_grammar how gs) = built how gs
image_of (from_image bs) = bs

-- the number of a grammar's refusal; a given image has none here, Unrefused speaks of it
unfoldable pub source_refusal : Source → ℕ
source_refusal (from_grammar how gs) = (grammar_refusal gs).number
source_refusal (from_image bs) = 0

-- A ROW: the steps are none if the run has no end
pub record Row : Type 0 where
  pub source : Source
  pub capture : List ℕ
  pub verdict : Verdict
  pub readings : ℕ
  pub end : Config
  pub steps : Option ℕ

abbrev pub row : Source → (capture : List ℕ) → Verdict → (readings : ℕ) → (end : Config) → (steps : Option ℕ) → Row
row s cs v r d n = record { source = s; capture = cs; verdict = v; readings = r; end = d; steps = n }

unfoldable pub row_machine : Row → Machine
row_machine r = machine (image_of r.source) r.capture

-- an image with Q, K and G 1 and no final state, in which the left marker alone has a rule: the three are those of the one byte class, of the left marker and of the right one
unfoldable pub marker_parts : Rule → Parts
marker_parts r =
    record {
      states = 1;
      classes = 1;
      symbols = 1;
      finals = 0;
      class_map = replicate Format.map_length 0;
      rules = no_rule ∷ r ∷ no_rule ∷ [];
    }

unfoldable pub marker_image : Rule → List ℕ
marker_image r = encode (marker_parts r)

-- C10's: it pops and stays
abbrev pub popping_image : List ℕ
popping_image = marker_image (rule Format.kind_pop 0 0 Format.pop_stay)

-- the grammars, in hex; 97 and 98 are the bytes 61 and 62
-- 04000000
abbrev pub empty_grammar : List ℕ
empty_grammar = 4 ∷ 0 ∷ 0 ∷ 0 ∷ []

-- 05616100
abbrev pub byte_grammar : List ℕ
byte_grammar = 5 ∷ 97 ∷ 97 ∷ 0 ∷ []

-- 01000000
abbrev pub endless_grammar : List ℕ
endless_grammar = 1 ∷ 0 ∷ 0 ∷ 0 ∷ []

-- 01010100 01020200 04000000
abbrev pub sequence_grammar : List ℕ
sequence_grammar = 1 ∷ 1 ∷ 1 ∷ 0 ∷ 1 ∷ 2 ∷ 2 ∷ 0 ∷ 4 ∷ 0 ∷ 0 ∷ 0 ∷ []

-- 03010000 05616100
abbrev pub not_grammar : List ℕ
not_grammar = 3 ∷ 1 ∷ 0 ∷ 0 ∷ 5 ∷ 97 ∷ 97 ∷ 0 ∷ []

-- 02010200 05616100 04000000
abbrev pub choice_grammar : List ℕ
choice_grammar = 2 ∷ 1 ∷ 2 ∷ 0 ∷ 5 ∷ 97 ∷ 97 ∷ 0 ∷ 4 ∷ 0 ∷ 0 ∷ 0 ∷ []

-- C2 has a byte left over, which a leading match passes
unfoldable pub second_row : Matching → Row
second_row Whole = row (from_grammar Whole empty_grammar) (97 ∷ []) Stuck 3 (config 2 1 0) (some 2)
second_row Leading = row (from_grammar Leading empty_grammar) (97 ∷ []) Accepted 4 (config 2 2 0) (some 4)

-- C1 to C9 in their order, by the choice of a match: the others' answers are the same by either
unfoldable pub grammar_rows : Matching → List Row
grammar_rows how =
    row (from_grammar how empty_grammar) [] Accepted 3 (config 2 1 0) (some 3)
    ∷ second_row how
    ∷ row (from_grammar how byte_grammar) (97 ∷ []) Accepted 4 (config 2 2 0) (some 4)
    ∷ row (from_grammar how byte_grammar) (98 ∷ []) Stuck 3 (config 3 1 0) (some 2)
    ∷ row (from_grammar how endless_grammar) [] Looping 2 (config 1 1 1) none
    ∷ row (from_grammar how sequence_grammar) [] Accepted 11 (config 2 1 0) (some 18)
    ∷ row (from_grammar how not_grammar) [] Accepted 5 (config 2 1 0) (some 5)
    ∷ row (from_grammar how not_grammar) (97 ∷ []) Stuck 6 (config 3 1 0) (some 5)
    ∷ row (from_grammar how choice_grammar) [] Accepted 8 (config 2 1 0) (some 8)
    ∷ []

-- THE TABLE, C1 to C10 in their order; C1 to C9 match whole
unfoldable pub table : List Row
table = grammar_rows Whole ++ (row (from_image popping_image) [] Ended 1 (config 0 0 0) (some 1) ∷ [])

-- THE STEPS OF A RUN that ends: with some budget and cells the plain run takes so many, and they are the step-by-step run's own, a last pop among them
pub record Takes (M : Machine) (v : Verdict) (steps : ℕ) (end : Config) : Type 0 where
  pub budget : ℕ
  pub cells : ℕ
  pub termination : Termination
  pub verdict_is : v ≡ termination_verdict termination
  pub ran : run_on budget M 0 cells start ≡ run_end (Terminated termination) steps end
  pub true_end : TrueEnd M budget cells (run_end (Terminated termination) steps end)

unfoldable pub StepsAre : Option ℕ → Machine → Verdict → (end : Config) → Type 0
StepsAre none M v d = GoesOn M
StepsAre (some n) M v d = Takes M v n d

-- A ROW IS TRUE: nothing is refused; verdict and end are the run's, the readings count the different configurations that it enters, and the steps are its own
pub record RowHolds (r : Row) : Type 0 where
  pub good : source_refusal r.source ≡ 0
  pub unrefused : Unrefused (image_of r.source) r.capture
  pub says : Says (row_machine r) r.verdict r.end
  pub entered : AllEntered (row_machine r) r.readings
  pub steps_are : StepsAre r.steps (row_machine r) r.verdict r.end

-- each element of a list
pub data Each {A : Type 0} (P : A → Type 0) : List A → Type 0 where
  nil : Each P []
  cons : {a : A} {rest : List A} → P a → Each P rest → Each P (a ∷ rest)

-- PLAIN RUNS of C1, by budget and cells
pub record PlainRow : Type 0 where
  pub budget : ℕ
  pub cells : ℕ
  pub answers : RunEnd

abbrev pub plain_row : (budget cells : ℕ) → RunEnd → PlainRow
plain_row b k e = record { budget = b; cells = k; answers = e }

-- accepted with budget 3 and two cells; budget 2 is spent; with one cell the first push is too deep
unfoldable pub plain_table : List PlainRow
plain_table =
    plain_row 3 2 (run_end (Terminated (Over true)) 3 (config 2 1 0))
    ∷ plain_row 2 2 (run_end Spent 2 (config 2 1 0))
    ∷ plain_row 3 1 (run_end Deep 0 (config 0 0 0))
    ∷ []

abbrev pub PlainHolds : PlainRow → Type 0
PlainHolds r = run_on r.budget (machine (built Whole empty_grammar) []) 0 r.cells start ≡ r.answers
