-- The image that halts at once: its row, that it holds, and judging it; and beside it the same image with a missing rule for the halting one. Assumes nothing.
use mathlib.Core.Path.{◌≡◌, refl, sym, ap, ◌∙◌}
use mathlib.Core.List.{List, [], ◌∷◌, ◌++◌}
use mathlib.Core.Option.{some}
use Prim.Native.Nat.{ℕ, zero, suc, ◌+◌, ◌*◌, ◌<◌, ◌≤◌}
use native.Mathlib.Omega.{arith}
use lib.ListN.{length, replicate, get_or-append, get_or-eq_default}
use lib.Seq.{get_or-append-add}
use Rattle.codec.specs.Bytes.{byte}
use Rattle.codec.specs.Numbers.{little_endian, pair_bytes}
use Rattle.machine.specs.declared.Verdict.TheVariants.{Halted}
use Rattle.machine.specs.Run.{config}
use Rattle.image.specs.Format
use Rattle.image.specs.Image.{rule_from}
use Rattle.image.specs.Encoding.{header, rule_bytes, rules_bytes, encode}
use Rattle.image.specs.WithoutHalting.{missing_rule, MissingForHalting}
use Rattle.builder.specs.Table.{no_rule}
use Rattle.worked_examples.specs.Examples.{Row, row, from_image, RowHolds, marker_parts, marker_image}
use Rattle.worked_examples.specs.HaltingExamples.{halting_image, halting_table}
use Rattle.promises.proofs.Proved.{promises}
use Rattle.refuted.proofs.Witnesses.{RowJudged, row_judged_zeros, zeros}
use Rattle.refuted.proofs.Rows.{first}
use Rattle.refuted.proofs.MadeRows.{empty_image}

-- halted at once
abbrev pub h1 : Row
h1 = row (from_image halting_image) [] Halted 1 (config 0 0 0) (some 0)

pub h1_holds : RowHolds h1
unfolding halting_table
h1_holds = first promises.halting_rows

pub h1_judged : RowJudged h1 (zeros h1) (zeros h1)
h1_judged = row_judged_zeros h1 h1_holds

-- MISSING FOR HALTING: the two images differ in one rule. What stands before the rules, and the bytes of the three
unfoldable front : List ℕ
front = header 1 1 1 0 3 ++ replicate Format.map_length 0

abbrev three : (kind : ℕ) → List ℕ
three k = 0 ∷ 0 ∷ 0 ∷ 0 ∷ k ∷ 0 ∷ 0 ∷ 0 ∷ 0 ∷ 0 ∷ 0 ∷ 0 ∷ []

front_long : length front ≡ 288
unfolding front header pair_bytes little_endian
front_long = refl

halting_split : halting_image ≡ front ++ three 4
unfolding front marker_image marker_parts encode header pair_bytes little_endian rules_bytes rule_bytes
halting_split = refl

empty_split : empty_image ≡ front ++ three 0
unfolding front marker_image marker_parts encode header pair_bytes little_endian rules_bytes rule_bytes
empty_split = refl

-- a byte of the rules
after_front : (t : List ℕ) (n : ℕ) → byte (front ++ t) (288 + n) ≡ byte t n
after_front t n = rw (ap (λ (k : ℕ). byte (front ++ t) (k + n)) (sym front_long)) (get_or-append-add front t n 0)

rule_behind : (t : List ℕ) (i : ℕ) → rule_from (front ++ t) (288 + i) ≡ rule_from t i
unfolding rule_from
rule_behind t i =
    let one : 288 + i + 1 ≡ 288 + (i + 1) = omega arith in
    let two : 288 + i + 2 ≡ 288 + (i + 2) = omega arith in
    let last : 288 + i + 3 ≡ 288 + (i + 3) = omega arith in
    rw (one, two, last, after_front t i, after_front t (i + 1), after_front t (i + 2), after_front t (i + 3)) refl

-- past them there is nothing
past : (t : List ℕ) (i : ℕ) → length t ≤ i → rule_from t i ≡ no_rule
unfolding rule_from
past t i h =
    rw (
      get_or-eq_default t 0 {n = i} h,
      get_or-eq_default t 0 {n = i + 1} (omega arith),
      get_or-eq_default t 0 {n = i + 2} (omega arith),
      get_or-eq_default t 0 {n = i + 3} (omega arith),
    )
    refl

three_missing : (i : ℕ) → rule_from (three 0) (4 * i) ≡ missing_rule (rule_from (three 4) (4 * i))
unfolding rule_from missing_rule
three_missing zero = refl
three_missing (suc zero) = refl
three_missing (suc (suc zero)) = refl
three_missing (suc (suc (suc i))) =
    let j : ℕ = 4 * suc (suc (suc i)) in
    past (three 0) j (omega arith) ∙ sym (ap missing_rule (past (three 4) j (omega arith)))

pub halting_missing : MissingForHalting halting_image empty_image
halting_missing =
    record {
      header =
          λ i h.
          let inside : i < length front = omega (arith, front_long) in
          rw (halting_split, empty_split) (get_or-append front (three 0) 0 i inside ∙ sym (get_or-append front (three 4) 0 i inside));
      rules =
          λ i.
          rw (halting_split, empty_split) (rule_behind (three 0) (4 * i) ∙ three_missing i ∙ sym (ap missing_rule (rule_behind (three 4) (4 * i))));
    }
