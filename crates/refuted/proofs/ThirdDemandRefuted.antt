-- The wrong neighbours of ThirdDemand.antt refuted: each by a closed example beside the promise. Assumes nothing.
use mathlib.Core.Path.{◌≡◌, refl, sym, ap, ◌∙◌}
use mathlib.Core.List.Memᴰ
use mathlib.Core.List.{List, [], ◌∷◌, Memᴰ}
use mathlib.Core.Option.{some}
use Prim.Native.Nat.{ℕ, zero, suc, ◌+◌, ◌≤◌}
use native.Mathlib.Omega.{arith}
use lib.ListN.{length, get_or, take}
use lib.Seq.{length-take-le}
use Rattle.machine.specs.declared.Config.{Config}
use Rattle.machine.specs.declared.Note.TheVariants.{Unseen}
use Rattle.machine.specs.Run.{Entry, entry, Description, description, config, start, after, number, how_many}
use Rattle.machine.specs.Verdicts.{over_base, note_of, nonzero}
use Rattle.machine.specs.Removal.{Removed}
use Rattle.machine.proofs.Nonzero.{nonzero_most}
use Rattle.machine.proofs.Runs.{some_same}
use Rattle.image.specs.Image.{machine, sizes_of}
use Rattle.chain.specs.declared.JudgeState.{JudgeState}
use Rattle.chain.specs.Chain.{chain, reached, start_state}
use Rattle.grammar.specs.Grammar.{rules}
use Rattle.builder.specs.declared.Matching.TheVariants.{Whole}
use Rattle.builder.specs.Image.{built}
use Rattle.worked_examples.specs.Examples.{image_of, source_refusal, row_machine}
use Rattle.promises.proofs.Proved.{promises}
use Rattle.refuted.specs.ThirdDemand as Wrong
use Rattle.refuted.proofs.Rows.{c1, c1_holds, c1_judged, c3, c3_holds, c4_holds, c6, c10, c10_holds, c10_judged}
use Rattle.refuted.proofs.MadeRows.{empty_row, empty_holds, empty_judged, edge_holds, edge_judged, pushing_holds, pushing_judged, pushing_late, nested_grammar, nested_holds}
use Rattle.refuted.proofs.MadeRuns.{computed, under_first, under_second}
use Rattle.refuted.proofs.NoteLaws.{zero_cell, one_cell, starts, start_entered, pops_itself, stops_at_once, pops_at_once, seen, tells_seen, closed_tells}
use Rattle.refuted.proofs.Lent.{c10_longer, c10_one_more, one_nonzero, last_cell, one_ending}

-- the symbol below the top of a stack
abbrev second_symbol : List Entry → ℕ
second_symbol es = (get_or es 1 (entry 0 0)).symbol

-- READINGS
pub readings_entered : Wrong.ReadingsEntered → ⊥
unfolding row_machine
readings_entered wrong =
    let four = wrong _ _ _ _ _ _ _ _ _ c1_holds.unrefused.bytes c1_judged.says in
    omega (arith, promises.one_count _ _ _ _ c1_holds.unrefused c1_holds.entered four)

pub one_count : Wrong.OneCount → ⊥
unfolding row_machine
one_count wrong = omega (arith, wrong _ _ _ 4 3 c3_holds.unrefused c4_holds.unrefused c3_holds.entered c4_holds.entered)

pub readings_noted : Wrong.ReadingsNoted → ⊥
unfolding row_machine
readings_noted wrong =
    let bad = wrong _ _ _ _ _ _ _ _ _ c10_holds.unrefused.bytes c10_longer.says in
    let good = promises.readings_noted _ _ _ _ _ _ _ _ _ c10_holds.unrefused.bytes c10_longer.says in
    omega (arith, bad, good, one_nonzero c10_one_more.0)

pub few_readings : Wrong.FewReadings → ⊥
unfolding image_of row_machine source_refusal rules
few_readings wrong =
    let u = nested_holds.unrefused in
    let k = promises.chain_judges _ _ u in
    let few = wrong nested_grammar [] (reached chain (built Whole nested_grammar) [] k.steps).notes nested_holds.good u.bytes k.noted in
    omega (arith, few, promises.one_count _ _ _ _ u k.entered nested_holds.entered, k.counted k.steps (omega arith))

-- NOTES. A cell that is 0 says unseen
unseen_zero : note_of 0 ≡ Unseen
unfolding note_of
unseen_zero = refl

pub entered_numbered : Wrong.EnteredNumbered → ⊥
unfolding row_machine
entered_numbered wrong =
    let (entered, kind) = (promises.stuck_exact _ _ _ _ _ _ _ _ _ edge_holds.unrefused.bytes edge_judged.says (config 0 1 0)).0 (refl, refl) in
    let (valid, below) = wrong _ _ edge_holds.unrefused (config 0 1 0) entered in
    omega (arith, below, computed.edge_number, computed.edge_cells)

pub notes_left : Wrong.NotesLeft → ⊥
unfolding row_machine
notes_left wrong =
    let M = row_machine c10 in
    let ns = c10_judged.notes_now in
    let bad = wrong _ _ _ _ _ _ _ _ _ c10_holds.unrefused.bytes c10_judged.says (config 0 0 0) (start_entered M) in
    let cell : get_or ns (number M (config 0 1 0)) 0 ≡ 0 =
    promises.others_zero _ _ _ _ _ _ _ _ _ c10_holds.unrefused.bytes c10_judged.says (config 0 1 0) computed.c10_valid
    (λ e. omega (arith, ap (λ (c : Config). c.head) (pops_at_once M computed.c10_pops e))) in
    let next : suc (number M (config 0 0 0)) ≡ number M (config 0 1 0) = omega (arith, computed.c10_start, computed.c10_next) in
    seen M bad (start_entered M) (ap (λ (k : ℕ). note_of (get_or ns k 0)) next ∙ ap note_of cell ∙ unseen_zero)

pub others_zero : Wrong.OthersZero → ⊥
unfolding row_machine
others_zero wrong =
    let M = row_machine empty_row in
    let (valid, _) = promises.entered_numbered _ _ empty_holds.unrefused (config 0 0 0) (start_entered M) in
    let cell = wrong _ _ _ _ _ _ _ _ _ empty_holds.unrefused.bytes empty_judged.says (config 0 0 0) valid (stops_at_once M computed.empty_stops) in
    let right = promises.notes_left _ _ _ _ _ _ _ _ _ empty_holds.unrefused.bytes empty_judged.says (config 0 0 0) (start_entered M) in
    seen M right (start_entered M) (ap note_of cell ∙ unseen_zero)

pub notes_tell : Wrong.NotesTell → ⊥
unfolding row_machine
notes_tell wrong =
    let M = row_machine c10 in
    let bad = wrong _ _ _ _ _ _ _ _ _ c10_holds.unrefused.bytes c10_judged.says 0 0 (config 0 0 0) [] (starts M) in
    tells_seen M bad (ap note_of (zero_cell (how_many M) (number M (config 0 0 0))) ∙ unseen_zero)

pub notes_of_run : Wrong.NotesOfRun → ⊥
unfolding row_machine
notes_of_run wrong =
    let M = row_machine c10 in
    let k = promises.chain_judges _ _ c10_holds.unrefused in
    let ns : List ℕ = (reached chain (image_of c10.source) [] k.steps).notes in
    let v : ℕ = get_or ns (number M (config 0 0 0)) 0 in
    let (valid, _) = promises.entered_numbered _ _ c10_holds.unrefused (config 0 0 0) (start_entered M) in
    let ends = pops_itself M (config 0 0 0) computed.c10_pops in
    let told = closed_tells M (starts M) ends (promises.notes_of_run M ns k.noted 0 0 (config 0 0 0) [] valid (starts M)) in
    let bad = closed_tells M (starts M) ends (wrong M ns k.noted 0 0 (config 0 0 0) [] valid (starts M)) in
    omega (arith, one_cell v (suc v) (told ∙ sym bad))

pub notes_imply : Wrong.NotesImply → ⊥
notes_imply wrong =
    let M = machine [] [] in
    let implied = wrong [] [] [] (λ c valid. absurd (omega (arith, valid.state_below, computed.byteless_states))) in
    omega (arith, implied.open_end (config 0 0 0) (start_entered M) (stops_at_once M computed.byteless_stops))

-- TERMINATORS
pub one_end : Wrong.OneEnd → ⊥
one_end wrong =
    let M = row_machine c3 in
    let same = (wrong M 2 1 1 2 (config 2 1 1) (config 2 2 1) (pops_itself M (config 2 1 1) computed.c3_byte)).1 (pops_itself M (config 2 2 1) computed.c3_end) in
    omega (arith, ap (λ (c : Config). c.head) same)

pub terminators_of_run : Wrong.TerminatorsOfRun → ⊥
terminators_of_run wrong =
    let M = row_machine c1 in
    let gone = (promises.terminators_of_run M 0 0 (config 0 0 0) (config 2 1 0) [] (starts M)).0 computed.c1_ends in
    let back = (wrong M 0 0 (config 0 0 0) (config 2 1 0) [] (starts M)).1 gone in
    let same = (promises.one_end M (config 2 1 0) (config 2 1 0) (config 0 0 0) 0 0 computed.c1_ok).1 back in
    omega (arith, ap (λ (c : Config). c.state) same)

-- the second time another entry lies below, and it is on top one step later
on_second : Removed (row_machine c6) 6 1 under_first (config 1 1 5) → ⊥
on_second r = go r.wait r.reached r.never_lower
  where
    go :
        (wait : ℕ) → after (6 + wait) (row_machine c6) start ≡ some (over_base (config 1 1 5) 1 under_first) →
        ((m : ℕ) (x : Description) → 6 ≤ m → m ≤ 6 + wait → after m (row_machine c6) start ≡ some x → 4 ≤ length x.stack) → ⊥
    go zero at_first low =
        let same = some_same (after 6 (row_machine c6) start) computed.c6_second at_first in
        omega (arith, ap (λ (x : Description). second_symbol x.stack) same)
    go (suc n) at_first low =
        let high = low 7 (description 2 1 under_second) (omega arith) (omega arith) computed.c6_popped in
        omega (arith, high)

pub same_each_time : Wrong.SameEachTime → ⊥
same_each_time wrong =
    let M = row_machine c6 in
    let c = config 1 1 5 in
    let gone = (promises.terminators_of_run M 3 1 c c under_first computed.c6_first).0 (pops_itself M c computed.c6_pops) in
    on_second (wrong M 3 6 1 1 c c under_first under_second computed.c6_first computed.c6_second gone)

-- THE JUDGE'S OWN STEPS. With no note to count there is none
none_counted : (n : ℕ) (ns : List ℕ) → n ≡ 0 → nonzero n ns ≡ 0
none_counted n ns e = omega (arith, e, nonzero_most n ns)

-- nothing is in a list without elements
none_in : (l : List Config) {c : Config} → length l ≡ 0 → Memᴰ c l → ⊥
none_in [] e m = Memᴰ.not-nil m
none_in (b ∷ l) e m = omega (arith, e)

pub chain_judges : Wrong.ChainJudges → ⊥
chain_judges wrong =
    let k = wrong [] [] in
    let all = k.entered in
    let none_read = k.counted k.steps (omega arith) ∙ none_counted _ _ computed.byteless_cells in
    none_in all.configs (all.counted ∙ none_read) (all.all (config 0 0 0) (start_entered (machine [] [])))

pub start_made : Wrong.StartMade → ⊥
unfolding start_state sizes_of
start_made wrong = omega (arith, ap (λ (s : JudgeState). s.environment.sizes.places) (wrong [] []))

pub number_along : Wrong.NumberAlong → ⊥
number_along wrong =
    omega (arith, (wrong _ _ 0 c10_holds.unrefused).is, (promises.number_along _ _ 0 c10_holds.unrefused).is)

pub judge_by_chain : Wrong.JudgeByChain → ⊥
unfolding row_machine
judge_by_chain wrong =
    let ns = c10_longer.notes_now in
    let n = how_many (row_machine c10) in
    let bad = wrong _ _ _ _ _ _ _ _ _ c10_holds.unrefused.bytes c10_longer.says in
    let good = promises.judge_by_chain _ _ _ _ _ _ _ _ _ c10_holds.unrefused.bytes c10_longer.says in
    let same : good.steps ≡ bad.steps = one_ending good bad in
    let all : take n ns ≡ ns =
    sym good.notes_are ∙ ap (λ (k : ℕ). (reached chain (image_of c10.source) [] k).notes) same ∙ bad.notes_are in
    let long = c10_one_more.0.long in
    let short : length (take n ns) ≡ n = length-take-le n ns (omega (arith, long)) in
    omega (arith, long, short, ap length all)

pub few_steps : Wrong.FewSteps → ⊥
unfolding image_of
few_steps wrong =
    let (k, few, there, before) = wrong _ _ _ _ _ _ _ _ _ pushing_holds.unrefused.bytes pushing_judged.says in
    pushing_late k _ (omega (arith, few)) there

pub work_cleared : Wrong.WorkCleared → ⊥
unfolding row_machine
work_cleared wrong =
    let n = how_many (row_machine c10) in
    let bad = wrong _ _ _ _ _ _ _ _ _ c10_holds.unrefused.bytes c10_longer.says in
    let zero_there = ap (λ (l : List ℕ). get_or l n 0) bad ∙ zero_cell (length c10_longer.work_now) n in
    omega (arith, zero_there, last_cell c10_one_more.1)
