-- Judging an example on cells of any number and content that suffice, C10 on one cell more than it needs; and that the chain comes to one verdict, at one step. Assumes nothing.
use mathlib.Core.Path.{◌≡◌, refl, sym, ap, ◌∙◌}
use mathlib.Core.List.{List, [], ◌∷◌, ◌++◌}
use Prim.Native.Nat.{ℕ, zero, suc, ◌+◌, ◌<◌}
use native.Mathlib.Decide.{dec_lt}
use native.Mathlib.Nat.{add-zero}
use native.Mathlib.Omega.{arith}
use lib.ListN.{length, get_or, drop, replicate, length-replicate, length-append}
use lib.Seq.{drop_at, get_or-drop}
use Rattle.machine.specs.declared.Config.{Config}
use Rattle.machine.specs.declared.Verdict.{Verdict}
use Rattle.machine.specs.Run.{how_many}
use Rattle.machine.specs.Verdicts.{nonzero}
use Rattle.machine.proofs.Runs.{not_none}
use Rattle.simulator.specs.Calls.{ChainEnds}
use Rattle.simulator.proofs.LengthsKept.{lengths_kept}
use Rattle.worked_examples.specs.Examples.{Row, row_machine}
use Rattle.promises.proofs.Proved.{promises}
use Rattle.refuted.proofs.Witnesses.{RowJudged, row_judged}
use Rattle.refuted.proofs.Rows.{c10, c10_holds}

-- ONE CELL MORE than the N of an example, and that one is 1
unfoldable pub longer : Row → List ℕ
longer r = replicate (how_many (row_machine r)) 0 ++ (1 ∷ [])

longer_length : (r : Row) → length (longer r) ≡ how_many (row_machine r) + 1
unfolding longer
longer_length r = simp (length-append, length-replicate) (omega arith)

longer_drop : (r : Row) → drop (how_many (row_machine r)) (longer r) ≡ 1 ∷ []
unfolding longer
longer_drop r =
    let n = how_many (row_machine r) in
    drop_at (replicate n 0) (1 ∷ []) n (length-replicate {A = ℕ} n 0)

pub c10_longer : RowJudged c10 (longer c10) (longer c10)
c10_longer =
    let long = longer_length c10 in
    row_judged c10 c10_holds (longer c10) (longer c10) (omega (arith, long)) (omega (arith, long))

-- it is there after judging, and still 1: of the notes, and of the work cells
pub record OneMore (ns : List ℕ) : Type 0 where
  pub long : length ns ≡ how_many (row_machine c10) + 1
  pub last : drop (how_many (row_machine c10)) ns ≡ 1 ∷ []

pub c10_one_more : OneMore c10_longer.notes_now × OneMore c10_longer.work_now
unfolding row_machine
c10_one_more =
    let (notes_long, work_long) = lengths_kept _ _ _ _ _ _ _ c10_longer.says in
    let (notes_last, work_last) = promises.judge_later _ _ _ _ _ _ _ c10_longer.says in (
      record { long = notes_long ∙ longer_length c10; last = notes_last ∙ longer_drop c10 },
      record { long = work_long ∙ longer_length c10; last = work_last ∙ longer_drop c10 },
    )

-- notes that are not 0: one more is looked at
one_counts : nonzero 1 (1 ∷ []) ≡ 1
unfolding nonzero
one_counts = refl

nonzero_next : (n : ℕ) (ns : List ℕ) → nonzero (suc n) ns ≡ nonzero n ns + nonzero 1 (drop n ns)
unfolding nonzero
nonzero_next zero ns = omega arith
nonzero_next (suc n) [] = omega arith
nonzero_next (suc n) (a ∷ ns) = omega (arith, nonzero_next n ns)

-- so that one cell counts, and it is 1
module _ {ns : List ℕ} (more : OneMore ns) where
  pub one_nonzero : nonzero (length ns) ns ≡ suc (nonzero (how_many (row_machine c10)) ns)
  one_nonzero =
      let n : ℕ = how_many (row_machine c10) in
      let long : length ns ≡ suc n = omega (arith, more.long) in
      let last : nonzero 1 (drop n ns) ≡ 1 = rw more.last one_counts in
      rw long (omega (arith, nonzero_next n ns, last))

  pub last_cell : get_or ns (how_many (row_machine c10)) 0 ≡ 1
  last_cell =
      let n : ℕ = how_many (row_machine c10) in
      ap (λ (k : ℕ). get_or ns k 0) (sym (add-zero n)) ∙ sym (get_or-drop n ns 0 0) ∙ ap (λ (l : List ℕ). get_or l 0 0) more.last

-- THE CHAIN ENDS at one step
pub one_ending :
    {bs cs xs ys : List ℕ} {v w : Verdict} {n m : ℕ} {d e : Config} (p : ChainEnds bs cs v n d xs) (q : ChainEnds bs cs w m e ys) → p.steps ≡ q.steps
one_ending p q = go (dec_lt p.steps q.steps) (dec_lt q.steps p.steps)
  where
    go : Dec (p.steps < q.steps) → Dec (q.steps < p.steps) → p.steps ≡ q.steps
    go (yes h) k = absurd (not_none _ p.verdict_is (q.not_before p.steps h))
    go (no h) (yes k) = absurd (not_none _ q.verdict_is (p.not_before q.steps k))
    go (no h) (no k) = omega arith
