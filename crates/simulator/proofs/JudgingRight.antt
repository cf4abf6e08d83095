-- What judging promises beyond its contract: every unrefused image and capture has a verdict, reported readings count the configurations entered,
-- and the notes left speak of each of them. Assumes nothing.
use Rattle.std.specs.Prelude.{Ok}
use mathlib.Core.Path.{◌≡◌, sym, ap, subst, ◌∙◌}
use mathlib.Core.List.{List, ◌++◌}
use mathlib.Core.Logic.{◌↔◌}
use mathlib.Core.Option.{some}
use Prim.Native.Nat.{ℕ, ◌<◌}
use native.Mathlib.Omega.{arith}
use lib.ListN.{length, get_or, take, drop, replicate, length-replicate, get_or-append}
use lib.Seq.{take_at}
use Rattle.machine.specs.declared.Config.{Config}
use Rattle.machine.specs.declared.Verdict.{Verdict}
use Rattle.machine.specs.declared.Verdict.TheVariants.{Looping}
use Rattle.machine.specs.Run.{Machine, ValidConfig, Entry, start, after, number, how_many}
use Rattle.codec.specs.Bytes.{byte}
use Rattle.image.specs.Image.{machine}
use Rattle.machine.specs.Verdicts.{Entered, over_base, GoesOn, Says, nonzero, AllEntered, note_of, NoteRight}
use Rattle.machine.specs.Removal.{NoteTells}
use Rattle.image.specs.Refusals.{Unrefused}
use Rattle.machine.proofs.Nonzero.{nonzero_front}
use Rattle.machine.proofs.Numbers.{number_below}
use Rattle.machine.proofs.Runs.{config_over}
use Rattle.image.proofs.Inside.{inside}
use Rattle.machine.proofs.Reach.{entered_there}
use Rattle.machine.proofs.RightNotes.{never_only}
use Rattle.machine.proofs.NotesOfRun.{note_tells}
use Rattle.machine.proofs.Terminates.{says_looping}
use Rattle.machine.proofs.OneVerdict.{one_verdict, goes_on_loops}
use Rattle.machine.proofs.Listing.{all_entered, one_count}
use Rattle.simulator.specs.declared.Judgement.{Judgement}
use Rattle.simulator.specs.Answers.{Judged}
use Rattle.chain.specs.Chain.{chain, reached}
use Rattle.simulator.specs.Calls.{judgement, ChainEnds, JudgedRight, JudgeSays}
use Rattle.simulator.proofs.Answered.{answered}
use Rattle.chain_theory.proofs.ChainJudges.{chain_judges}

pub verdict_there : (bs cs : List ℕ) → Unrefused bs cs → (v : Verdict) × (d : Config) × Says (machine bs cs) v d
verdict_there bs cs u =
    let j = chain_judges bs cs u in
    (j.verdict, chain.end (reached chain bs cs j.steps).state, j.says)

answer_same : {v w : Verdict} {n m : ℕ} {d e : Config} → ◌≡◌ {A = Judged} (Ok (judgement v n d)) (Ok (judgement w m e)) → (v ≡ w) × (n ≡ m) × (d ≡ e)
answer_same {v} {w} {n} {m} {d} {e} q =
    let same : judgement v n d ≡ judgement w m e = cc in (
      ap (λ (j : Judgement). j.verdict) same,
      ap (λ (j : Judgement). j.readings) same,
      ap (λ (j : Judgement). j.end) same,
    )

said_as : (M : Machine) (v w : Verdict) (d e : Config) → v ≡ w → d ≡ e → Says M w e → Says M v d
said_as M v w d e p q s = rw (p, q) s

chain_as :
    (bs cs : List ℕ) (v w : Verdict) (n m : ℕ) (d e : Config) (ns ms : List ℕ) → v ≡ w → n ≡ m → d ≡ e → ns ≡ ms → ChainEnds bs cs w m e ms →
    ChainEnds bs cs v n d ns
chain_as bs cs v w n m d e ns ms p q r s x = rw (p, q, r, s) x

pub readings_entered :
    (bs cs a a_now b b_now : List ℕ) (v : Verdict) (n : ℕ) (d : Config) → ((i : ℕ) → byte cs i < 256) →
    JudgeSays bs cs (Ok (judgement v n d)) a a_now b b_now → AllEntered (machine bs cs) n
readings_entered bs cs a a_now b b_now v n d bytes says =
    let x = answered bs cs a a_now b b_now v n d bytes says in
    let same : n ≡ x.right.judgement.readings = (answer_same x.right.answers).1 in
    subst (AllEntered (machine bs cs)) (sym (same ∙ x.right.right.counted))
    (all_entered (machine bs cs) x.right.notes x.right.right.noted (entered_there (inside bs cs x.unrefused)))

-- whatever an unrefused machine enters is one of its N
pub entered_numbered :
    (bs cs : List ℕ) → Unrefused bs cs → (c : Config) → Entered (machine bs cs) c →
    ValidConfig (machine bs cs) c × (number (machine bs cs) c < how_many (machine bs cs))
entered_numbered bs cs u c e = let t = entered_there (inside bs cs u) c e in (t, number_below t)

-- THE NOTES THAT A CALL LEAVES
module _
    (bs cs a a_now b b_now : List ℕ) (v : Verdict) (n : ℕ) (d : Config) (bytes : (i : ℕ) → byte cs i < 256)
    (says : JudgeSays bs cs (Ok (judgement v n d)) a a_now b b_now)
  where
    cell : (c : Config) → ValidConfig (machine bs cs) c → NoteRight (machine bs cs) c (note_of (get_or a_now (number (machine bs cs) c) 0))
    cell c t =
        let x = answered bs cs a a_now b b_now v n d bytes says in
        let here : number (machine bs cs) c < length x.right.notes = omega (arith, number_below t, x.right.right.noted_cells) in
        let same : get_or a_now (number (machine bs cs) c) 0 ≡ get_or x.right.notes (number (machine bs cs) c) 0 =
        ap (λ (l : List ℕ). get_or l (number (machine bs cs) c) 0) x.right.notes_now
        ∙ get_or-append x.right.notes (drop (how_many (machine bs cs)) a) 0 (number (machine bs cs) c) here
        in
        subst (λ (v : ℕ). NoteRight (machine bs cs) c (note_of v)) (sym same) (x.right.right.noted c t)

    pub notes_left : (c : Config) → Entered (machine bs cs) c → NoteRight (machine bs cs) c (note_of (get_or a_now (number (machine bs cs) c) 0))
    notes_left c e = cell c (entered_numbered bs cs (answered bs cs a a_now b b_now v n d bytes says).unrefused c e).0

    pub unentered_zero :
        (c : Config) → ValidConfig (machine bs cs) c → (Entered (machine bs cs) c → ⊥) → get_or a_now (number (machine bs cs) c) 0 ≡ 0
    unentered_zero c t never = never_only (cell c t) never

    pub notes_tell :
        (m i : ℕ) (c : Config) (base : List Entry) → after m (machine bs cs) start ≡ some (over_base c i base) →
        NoteTells (machine bs cs) m i base (note_of (get_or a_now (number (machine bs cs) c) 0))
    notes_tell m i c base at_m =
        note_tells (machine bs cs) m i c base at_m
        (notes_left c (record { steps = m; place = over_base c i base; reached = at_m; is = config_over c i base }))

    -- of the first N as many are not 0 as there are readings, and they are those that the chain ends with
    pub readings_noted : n ≡ nonzero (how_many (machine bs cs)) a_now
    readings_noted =
        let x = (answered bs cs a a_now b b_now v n d bytes says).right in
        let front : nonzero (how_many (machine bs cs)) (x.notes ++ drop (how_many (machine bs cs)) a) ≡ nonzero (how_many (machine bs cs)) x.notes =
        subst (λ (m : ℕ). nonzero m (x.notes ++ drop (how_many (machine bs cs)) a) ≡ nonzero m x.notes) x.right.noted_cells
        (nonzero_front x.notes (drop (how_many (machine bs cs)) a))
        in
        (answer_same x.answers).1 ∙ x.right.counted ∙ sym front ∙ ap (nonzero (how_many (machine bs cs))) (sym x.notes_now)

    pub first_notes : take (how_many (machine bs cs)) a_now ≡ (answered bs cs a a_now b b_now v n d bytes says).right.notes
    first_notes =
        let x = (answered bs cs a a_now b b_now v n d bytes says).right in
        ap (take (how_many (machine bs cs))) x.notes_now
        ∙ take_at x.notes (drop (how_many (machine bs cs)) a) (how_many (machine bs cs)) x.right.noted_cells

    pub by_the_chain : ChainEnds bs cs v n d (take (how_many (machine bs cs)) a_now)
    by_the_chain =
        let x = (answered bs cs a a_now b b_now v n d bytes says).right in
        let (verdicts, counts, ends) = answer_same x.answers in
        chain_as bs cs v _ n _ d _ _ _ verdicts counts ends first_notes x.right.by_chain

    pub work_cleared : take (how_many (machine bs cs)) b_now ≡ replicate (how_many (machine bs cs)) 0
    work_cleared =
        let x = (answered bs cs a a_now b b_now v n d bytes says).right in
        ap (take (how_many (machine bs cs))) x.work_now
        ∙ take_at x.work (drop (how_many (machine bs cs)) b) (how_many (machine bs cs))
        (ap length x.right.work_zero ∙ length-replicate (how_many (machine bs cs)) 0)
        ∙ x.right.work_zero

    -- the answer is the run's, and no other
    pub verdict_said : Says (machine bs cs) v d
    verdict_said =
        let x = (answered bs cs a a_now b b_now v n d bytes says).right in
        let (verdicts, counts, ends) = answer_same x.answers in said_as (machine bs cs) v x.judgement.verdict d x.judgement.end verdicts ends x.right.says

    pub verdict_exact : (w : Verdict) (e : Config) → Says (machine bs cs) w e ↔ (w ≡ v) × (e ≡ d)
    verdict_exact w e =
        (λ s. one_verdict (machine bs cs) w v e d s verdict_said, λ same. rw (same.0, same.1) verdict_said)

    pub looping_exact : (v ≡ Looping) ↔ GoesOn (machine bs cs)
    looping_exact =
        (λ e. (says_looping (subst (λ (w : Verdict). Says (machine bs cs) w d) e verdict_said)).0, goes_on_loops (machine bs cs) v d verdict_said)

-- what is known of the run is what a right answer says
pub answer_known :
    (bs cs : List ℕ) → Unrefused bs cs → (v : Verdict) (n : ℕ) (d : Config) → Says (machine bs cs) v d → AllEntered (machine bs cs) n →
    (r : Judged) (a a_now b b_now : List ℕ) → JudgedRight bs cs r a a_now b b_now → r ≡ Ok (judgement v n d)
answer_known bs cs u v n d says entered r a a_now b b_now right =
    let M = machine bs cs in
    let there = entered_there (inside bs cs u) in
    let (verdicts, ends) = one_verdict M right.judgement.verdict v right.judgement.end d right.right.says says in
    let counts : right.judgement.readings ≡ n =
    right.right.counted ∙ one_count M there (all_entered M right.notes right.right.noted there) entered
    in
    right.answers ∙ rw (verdicts, counts, ends)
