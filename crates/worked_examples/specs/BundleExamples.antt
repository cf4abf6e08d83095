-- Bundles with their refusals, as a table, and five lines of a report: what the definitions compute is promised of them. Assumes nothing: these are definitions.
use Rattle.std.specs.Prelude.{◌≡◌, List, [], ◌∷◌, ◌++◌, ℕ, take, Err, Ok}
use Rattle.codec.specs.Numbers.{little_endian, pair, pair_bytes}
use Rattle.refusal.specs.declared.Refusal.{Refusal}
use Rattle.refusal.specs.First.{refusal, no_refusal}
use Rattle.machine.specs.declared.Verdict.TheVariants.{Accepted, Stuck, Halted}
use Rattle.machine.specs.Run.{config}
use Rattle.simulator.specs.Answers.{Judged}
use Rattle.simulator.specs.Calls.{judgement}
use Rattle.bundle.specs.Format.{bundle_refusal}

-- a bundle of two pairs, with the three bytes a b c behind them, at 20 to 22
unfoldable pub two_in_abc : (first_offset first_long second_offset second_long : ℕ) → List ℕ
two_in_abc o l p k = little_endian 4 2 ++ pair_bytes (pair o l) ++ pair_bytes (pair p k) ++ (97 ∷ 98 ∷ 99 ∷ [])

abbrev pub good_bundle : List ℕ
good_bundle = two_in_abc 20 1 21 2

-- A ROW: a bundle and its refusal
pub record BundleExample : Type 0 where
  pub bundle : List ℕ
  pub refused : Refusal

abbrev pub example : (bundle : List ℕ) → Refusal → BundleExample
example xs f = record { bundle = xs; refused = f }

unfoldable pub RefusedSo : BundleExample → Type 0
RefusedSo e = bundle_refusal e.bundle ≡ e.refused

-- good: one after another, with a gap and a rest, both empty at the end. Wrong: no capture; too short for its pairs; the first inside the pairs; the second inside the first; past the end, by one and by more than 32 bits hold
unfoldable pub bundle_table : List BundleExample
bundle_table =
    example good_bundle no_refusal
    ∷ example (two_in_abc 20 1 22 0) no_refusal
    ∷ example (two_in_abc 23 0 23 0) no_refusal
    ∷ example (0 ∷ 0 ∷ 0 ∷ 0 ∷ []) (refusal 18 0)
    ∷ example (take 19 good_bundle) (refusal 18 0)
    ∷ example (two_in_abc 19 1 21 2) (refusal 18 4)
    ∷ example (two_in_abc 20 2 21 2) (refusal 18 12)
    ∷ example (two_in_abc 20 1 21 3) (refusal 18 12)
    ∷ example (two_in_abc 20 1 21 4294967295) (refusal 18 12)
    ∷ []

-- two accepted, one stuck, one halted, one refused; two of them have as many readings as 32 bits hold
unfoldable pub five_lines : List Judged
five_lines =
    Ok (judgement Accepted 3 (config 2 1 0)) ∷ Ok (judgement Stuck 4294967295 (config 3 1 0)) ∷ Err (refusal 8 30)
    ∷ Ok (judgement Accepted 4294967295 (config 2 2 0))
    ∷ Ok (judgement Halted 2 (config 0 1 0))
    ∷ []
