-- A buffer with room for every line has the whole line at its start. Assumes nothing.
use mathlib.Core.Path.{◌≡◌, sym, ap, subst⁻¹, ◌∙◌}
use mathlib.Core.List.{List}
use Prim.Native.Nat.{ℕ}
use native.Mathlib.Nat.{le_of_eq}
use native.Mathlib.Omega.{arith}
use lib.ListN.{length, take}
use lib.Seq.{take_at}
use Rattle.answer_line.specs.Line.{max_line}
use Rattle.grammar_judge.specs.Calls.{Lent}
use Rattle.answer.specs.Calls.{InputSays, AnswerSays}
use Rattle.answer.proofs.LineWhole.{line_whole}
use Rattle.judge.specs.Program.{Prints}

pub prints :
    (xs : List ℕ) (x y : Lent) (out out_now : List ℕ) (count : ℕ) → length out ≡ max_line → length out_now ≡ length out → AnswerSays xs x y out out_now count →
    Prints xs x y out_now count
unfolding AnswerSays
prints xs x y out out_now count room same t =
    let (counted, bytes) = line_whole t.line out out_now count t.lined (le_of_eq (sym room)) in
    let whole : take count out_now ≡ t.line = ap (λ (l : List ℕ). take count l) bytes ∙ take_at t.line _ count (sym counted) in
    record {
      right = subst⁻¹ (λ (l : List ℕ). InputSays xs x y l) whole t.right;
      within = omega (arith, counted, t.lined.short, room, same);
    }
