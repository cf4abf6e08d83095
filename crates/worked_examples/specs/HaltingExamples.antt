-- Halting rules: runs that come to one, beside one that comes to a missing rule on the same path, plain runs, and which such rules are refused, as tables: what the definitions compute is promised of them. Assumes nothing: these are definitions.
use Rattle.std.specs.Prelude.{◌≡◌, List, [], ◌∷◌, ◌++◌, ℕ, suc, replicate}
use Rattle.std.proofs.Math.Option.{some}
use Rattle.refusal.specs.declared.Refusal.{Refusal}
use Rattle.refusal.specs.First.{refusal, no_refusal}
use Rattle.machine.specs.declared.Reason.TheVariants.{Halting}
use Rattle.machine.specs.declared.Termination.TheVariants.{Stopped}
use Rattle.machine.specs.declared.Verdict.{Verdict}
use Rattle.machine.specs.declared.Verdict.TheVariants.{Stuck}
use Rattle.machine.specs.Run.{config, start}
use Rattle.image.specs.Format
use Rattle.image.specs.Image.{Rule, machine}
use Rattle.image.specs.Encoding.{encode}
use Rattle.image.specs.Refusals.{image_refusal}
use Rattle.interpreter.specs.declared.Exit.TheVariants.{Terminated}
use Rattle.interpreter.specs.PlainRun.{run_end, run_on}
use Rattle.builder.specs.Table.{rule, no_rule}
use Rattle.worked_examples.specs.Examples.{Row, row, from_image, marker_image}

-- it halts on its left marker
abbrev pub halting_image : List ℕ
halting_image = marker_image (rule 4 0 0 0)

-- one state and one symbol: the left marker leads to the first byte, where a byte 61 halts the run and any other has no rule
unfoldable pub telling_image : List ℕ
telling_image =
    encode
    (record {
      states = 1;
      classes = 2;
      symbols = 1;
      finals = 0;
      class_map = replicate 97 0 ++ (1 ∷ []) ++ replicate 158 0;
      rules = no_rule ∷ rule 4 0 0 0 ∷ rule Format.kind_change 0 0 Format.direction_right ∷ no_rule ∷ [];
    })

-- by the verdict at a rule of kind 4, with readings, end configuration and steps: the two stops on one path differ in the verdict alone
unfoldable pub halting_table : Verdict → List Row
halting_table v =
    row (from_image halting_image) [] v 1 (config 0 0 0) (some 0)
    ∷ row (from_image telling_image) (97 ∷ []) v 2 (config 0 1 0) (some 1)
    ∷ row (from_image telling_image) (98 ∷ []) Stuck 2 (config 0 1 0) (some 1)
    ∷ []

-- THE PLAIN RUN with a budget is halted on the left marker, after so many steps
unfoldable pub HaltsAfter : (steps budget : ℕ) → Type 0
HaltsAfter n b = run_on b (machine halting_image []) 0 1 start ≡ run_end (Terminated (Stopped Halting)) n (config 0 0 0)

unfoldable pub halting_budgets : List ℕ
halting_budgets = 0 ∷ 9 ∷ []

-- A RULE ON THE LEFT MARKER, and how its image is refused: the rule's offset is 292
pub record RuleExample : Type 0 where
  pub on_marker : Rule
  pub refused : Refusal

abbrev example : Rule → Refusal → RuleExample
example r f = record { on_marker = r; refused = f }

unfoldable pub RuleRefusedSo : RuleExample → Type 0
RuleRefusedSo e = image_refusal (marker_image e.on_marker) ≡ e.refused

-- this kind with no other byte is good; with any other byte it is not, and neither are the next kind and 255
unfoldable pub halting_rules : (kind : ℕ) → List RuleExample
halting_rules k =
    example (rule k 0 0 0) no_refusal
    ∷ example (rule k 1 0 0) (refusal 6 292)
    ∷ example (rule k 0 1 0) (refusal 6 292)
    ∷ example (rule k 0 0 1) (refusal 6 292)
    ∷ example (rule (suc k) 0 0 0) (refusal 6 292)
    ∷ example (rule 255 0 0 0) (refusal 6 292)
    ∷ []
